-- The machine of a history, event by event.
use Rattle.std.proofs.Common.{◌≡◌, ℕ, Bool, true, false, cond, List, [], ◌∷◌, fold, Option, Some, None, Result, Ok, Err, sym, ap, subst, ◌∙◌}
use Rattle.std.specs.Prelude.{codes, not, ◌&&◌, option_map}
use Rattle.std.specs.List.{AllByRecursion}
use Rattle.std.specs.FinMap.{empty, get, get-empty}
use Rattle.mi_text.specs.Maps.{Name, name_cmp}
use Rattle.mi_text.proofs.MapLemmas.{same}
use Rattle.mi_text.specs.declared.answers.Settled.{Settled}
use Rattle.mi_volume.specs.Maps.{Map}
use Rattle.mi_undo.specs.Stands.{stands, settled}
use Rattle.mi_undo.proofs.StandsLemmas.{stands_itself}
use Rattle.mi_base.specs.Machine.{Machine, IsMachine, machine_of, volume_of}
use Rattle.mi_base.specs.Spelling.{record_of}
use Rattle.mi_base.proofs.MachineLemmas.{machine_back, get-volume_of}
use Rattle.mi_base.specs.declared.answers.Cause.{Cause}
use Rattle.mi_base.specs.declared.answers.Cause.TheVariants.{UnknownProduct}
use Rattle.mi_schema.specs.TableRows.{product_code}
use Rattle.mi_base.specs.declared.answers.Fault.{Fault}
use Rattle.mi_base.specs.declared.answers.Kind.{Kind}
use Rattle.mi_base.specs.declared.answers.Kind.TheVariants as kind
use Rattle.mi_source.specs.Paths.{Files}
use Rattle.mi_schema.specs.Checks.{load_fault}
use Rattle.mi_model.specs.World.{Given}
use Rattle.mi_model.specs.Assignments.{Assigned}
use Rattle.mi_model.specs.Settings.{is_recorded}
use Rattle.mi_model.specs.Cost.{need}
use Rattle.mi_model.specs.Walk.{Part, Walked, walk, last_machine}
use Rattle.mi_model.specs.Words.{Command, Package, Selftest, Clients, Products, Recover, command_of}
use Rattle.mi_model.specs.Selftest.{selftest_files}
use Rattle.mi_model.specs.PackageOutcome.{End, Outcome, Done, Refused, only, by_refusal, whole, is_room, full, by_parts, of_walk, of_given, of_loaded, given_of, of_package}
use Rattle.mi_model.specs.Outcome.{ComesTo, of_command, of_machine, of_former, of_words, free_room, outcome}
use Rattle.mi_laws.specs.Histories.{Call, Left, Former, After, Event, Answered, Stopped, Settling, MayLeave, IsMachineOf, Makes, Leaves, IsEvent, GoesBy, over}
use Rattle.mi_laws.specs.Machines.{given_by, walked_over, after_walks, after_call, after_left, after_event, DoneIsAfter}

-- ---- a run that is done makes the machine of its walk

not_refused : {X : Type 0} (e : End) (cause : Cause) (m : Machine) → e ≡ Refused cause → e ≡ Done m → X
not_refused e cause m is done = let both = sym is ∙ done in cc

of_whole : (w : Walked) (r : Option Cause) (m : Machine) → by_refusal w r ≡ Done m → m ≡ last_machine w
of_whole w None m is = cc
of_whole w (Some cause) m is = cc

walked : (free : Option ℕ) (w : Walked) (m : Machine) → (of_walk free w).end ≡ Done m → m ≡ last_machine w
unfolding of_walk
walked free w m is = by w.parts is
  where
    by_room : (free : Option ℕ) (n : ℕ) (first : Part) (b : Bool) → (cond b (whole w) (full free n w first)).end ≡ Done m → m ≡ last_machine w
    by_room free n first true is = of_whole w w.refusal m is
    by_room None n first false is = of_whole w w.refusal m is
    by_room (Some f) n first false is = cc

    by : (parts : List Part) → (by_parts free w parts).end ≡ Done m → m ≡ last_machine w
    by [] is = of_whole w w.refusal m is
    by (first ∷ parts) is = by_room free (need w.world.given.former w.parts) first (is_room free (need w.world.given.former w.parts)) is

given_done : (free : Option ℕ) (recorded : Bool) (g : Given) (m : Machine) → (of_given free recorded g).end ≡ Done m → m ≡ last_machine (walk g)
given_done free recorded g m is = by (recorded && not (is_recorded g.rows g.former)) is
  where
    by : (b : Bool) → (cond b (only (Refused (UnknownProduct (record { number = product_code g.rows })))) (of_walk free (walk g))).end ≡ Done m → m ≡ last_machine (walk g)
    by true is = cc
    by false is = walked free (walk g) m is

package_done : (files : Files) (free : Option ℕ) (now : ℕ) (former : Machine) (recorded : Bool) (folder : Name) (words : Assigned) (m : Machine)
    → (of_package files free now former recorded folder words).end ≡ Done m → m ≡ last_machine (walk (given_of files folder words former now))
package_done files free now former recorded folder words m is = by (load_fault files folder) is
  where
    by : (r : Option Fault) → (of_loaded r (of_given free recorded (given_of files folder words former now))).end ≡ Done m → m ≡ last_machine (walk (given_of files folder words former now))
    by (Some fault) is = cc
    by None is = given_done free recorded (given_of files folder words former now) m is

command_done : (c : Call) (d : Map) (free : Option ℕ) (former : Machine) (found : Settled) (command : Command) (m : Machine) → (of_command (over c d) free former found command).end ≡ Done m → m ≡ after_walks former (given_by c former command)
command_done c d free former found (Package recorded folder words) m is = package_done c.files free c.now former recorded folder words m is
command_done c d free former found (Selftest files words) m is = package_done (selftest_files files) free c.now former false (codes "self") words m is
command_done c d free former found Clients m is = cc
command_done c d free former found Products m is = cc
command_done c d free former found Recover m is = cc

-- over a map that stands for a machine
words_done : (c : Call) (d F : Map) (former : Machine) (r : Result Command ℕ) (m : Machine) → stands d ≡ Ok F → machine_of F ≡ Ok former → (of_words (over c d) r).end ≡ Done m → m ≡ after_walks former (walked_over c former r)
words_done c d F former (Ok command) m stand spell is =
    command_done c d (free_room c.capacity F) former (settled d) command m
    (ap (λ (r : Result Machine Name). (of_machine (over c d) F command r).end) (sym spell) ∙ ap (λ (r : Result Map Name). (of_former (over c d) command r).end) (sym stand) ∙ is)
words_done c d F former (Err place) m stand spell is = cc

-- what is done isn't refused for lack of room
pub is_outcome : (c : Call) (d : Map) (o : Outcome) (m : Machine) → ComesTo (over c d) o → o.end ≡ Done m → (outcome (over c d)).end ≡ Done m
is_outcome c d o m comes done =
    ap (λ (p : Outcome). p.end) (sym (comes.room (λ name without. not_refused o.end _ m (ap (λ (p : Outcome). p.end) (comes.short name without)) done))) ∙ done

pub makes_after : (c : Call) (d F : Map) (former m : Machine) → stands d ≡ Ok F → machine_of F ≡ Ok former → Makes c d m → m ≡ after_call c former
unfolding outcome
makes_after c d F former m stand spell makes = words_done c d F former (command_of c.words) m stand spell (is_outcome c d makes.outcome m makes.comes makes.done)

-- ---- event by event

left_machine : (c : Call) (d d' : Map) (m : Machine) (left : Left) → IsMachineOf m d → Leaves c d left d' → IsMachineOf (after_left c m left) d'
left_machine c d d' m Former is leaves = record { map = is.map; stands = leaves ∙ is.stands; spells = is.spells }
left_machine c d d' m After is leaves = subst (λ (n : Machine). IsMachineOf n d') (makes_after c d is.map m leaves.0 is.stands is.spells leaves.1) leaves.2

pub event_machine : (d d' : Map) (m : Machine) (e : Event) → IsMachineOf m d → IsEvent d e d' → IsMachineOf (after_event m e) d'
event_machine d d' m (Answered c k left) is event = left_machine c d d' m left is event.1
event_machine d d' m (Stopped c left) is event = left_machine c d d' m left is event
event_machine d d' m Settling is event = record { map = is.map; stands = event ∙ is.stands; spells = is.spells }

pub goes_machine : (d d' : Map) (m : Machine) (es : List Event) → IsMachineOf m d → GoesBy d es d' → IsMachineOf (fold after_event m es) d'
goes_machine d d' m [] is goes = subst (IsMachineOf m) (sym goes) is
goes_machine d d' m (e ∷ es) is goes = goes_machine goes.0 d' (after_event m e) es (event_machine d goes.0 m e is goes.1) goes.2

-- ---- the empty volume

no_entry : {X : Type 0} (o : Option X) (x : X) → o ≡ None → o ≡ Some x → ⊥
no_entry o x is some = let both = sym is ∙ some in cc

empty_volume : volume_of empty ≡ empty
empty_volume = same (volume_of empty) empty (λ q. get-volume_of empty q ∙ ap (option_map record_of) (get-empty name_cmp q) ∙ sym (get-empty name_cmp q))

empty_machine : IsMachine empty
empty_machine q e is = absurd (no_entry (get empty q) e (get-empty name_cmp q) is)

pub empty_is : IsMachineOf empty empty
empty_is = record {
  map = empty;
  stands = stands_itself empty (λ q inside. get-empty name_cmp q);
  spells = ap machine_of (sym empty_volume) ∙ machine_back empty empty_machine;
}

-- ---- a run that answered Done has committed

done_by_kind : (c : Call) (left : Left) (k : Kind) → MayLeave k left → DoneIsAfter (Answered c k left)
done_by_kind c left kind.Done may = may
done_by_kind c left kind.Listed may = tt
done_by_kind c left (kind.Recovered s) may = tt
done_by_kind c left (kind.Refused cause) may = tt
done_by_kind c left (kind.Suspended pause) may = tt
done_by_kind c left kind.NoMemory may = tt

done_event : (d d' : Map) (e : Event) → IsEvent d e d' → DoneIsAfter e
done_event d d' (Answered c k left) event = done_by_kind c left k event.0
done_event d d' (Stopped c left) event = tt
done_event d d' Settling event = tt

pub done_in : (d d' : Map) (es : List Event) → GoesBy d es d' → AllByRecursion DoneIsAfter es
done_in d d' [] goes = tt
done_in d d' (e ∷ es) goes = (done_event d goes.0 e goes.1, done_in goes.0 d' es goes.2)
