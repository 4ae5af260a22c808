-- What each walk of a committed run has, and the law of the machine.
use Rattle.std.proofs.Common.{◌≡◌, ℕ, Bool, true, false, cond, List, [], ◌∷◌, ◌++◌, Option, Some, None, Result, Ok, Err, refl, sym, ap, ◌∙◌}
use Rattle.std.specs.Prelude.{◌&&◌, not, codes}
use Rattle.std.specs.List.{AllByRecursion}
use Rattle.std.specs.FinMap.{empty}
use Rattle.mi_text.specs.Maps.{Name}
use Rattle.mi_volume.specs.Maps.{Map}
use Rattle.mi_base.specs.Machine.{Machine, machine_of, IsMachine}
use Rattle.mi_schema.specs.TableRows.{product_code}
use Rattle.mi_model.specs.World.{Given}
use Rattle.mi_model.specs.Walk.{Walked, walk, Part}
use Rattle.mi_text.specs.declared.answers.Settled.{Settled}
use Rattle.mi_undo.specs.Stands.{stands, settled}
use Rattle.mi_base.specs.declared.answers.Cause.{Cause}
use Rattle.mi_base.specs.declared.answers.Cause.TheVariants.{UnknownProduct}
use Rattle.mi_base.specs.declared.answers.Fault.{Fault}
use Rattle.mi_source.specs.Paths.{Files}
use Rattle.mi_schema.specs.Checks.{load_fault}
use Rattle.mi_model.specs.Assignments.{Assigned}
use Rattle.mi_model.specs.Settings.{is_recorded}
use Rattle.mi_model.specs.Cost.{need}
use Rattle.mi_model.specs.Words.{Command, Package, Selftest, Clients, Products, Recover, command_of}
use Rattle.mi_model.specs.Selftest.{selftest_files}
use Rattle.mi_model.specs.PackageOutcome.{Done, Refused, only, by_refusal, whole, is_room, full, by_parts, of_walk, of_given, of_loaded, given_of, of_package}
use Rattle.mi_model.specs.Outcome.{of_command, of_machine, of_former, of_words, free_room, outcome}
use Rattle.mi_laws.specs.Histories.{Call, Left, Former, After, Event, Answered, Stopped, Settling, IsMachineOf, Makes, Leaves, IsEvent, GoesBy, over}
use Rattle.mi_laws.specs.Machines.{given_by, walked_over, walks_of, after_event, MachineIsFold, walks_left, committed, all_committed}
use Rattle.mi_laws.proofs.MachineLemmas.{is_outcome, event_machine, empty_is, goes_machine, done_in}
use Rattle.mi_laws.specs.Walks.{IsCommitted}
use Rattle.mi_base.proofs.MachineLemmas.{machine_is}

whole_unrefused : (w : Walked) (r : Option Cause) (m : Machine) → by_refusal w r ≡ Done m → r ≡ None
whole_unrefused w None m is = refl
whole_unrefused w (Some cause) m is = cc

walk_unrefused : (free : Option ℕ) (w : Walked) (m : Machine) → (of_walk free w).end ≡ Done m → w.refusal ≡ None
unfolding of_walk
walk_unrefused free w m is = by w.parts is
  where
    by_room : (free : Option ℕ) (n : ℕ) (first : Part) (b : Bool) → (cond b (whole w) (full free n w first)).end ≡ Done m → w.refusal ≡ None
    by_room free n first true is = whole_unrefused w w.refusal m is
    by_room None n first false is = whole_unrefused w w.refusal m is
    by_room (Some f) n first false is = cc

    by : (parts : List Part) → (by_parts free w parts).end ≡ Done m → w.refusal ≡ None
    by [] is = whole_unrefused w w.refusal m is
    by (first ∷ parts) is = by_room free (need w.world.given.former w.parts) first (is_room free (need w.world.given.former w.parts)) is

given_unrefused : (free : Option ℕ) (recorded : Bool) (g : Given) (m : Machine) → (of_given free recorded g).end ≡ Done m → (walk g).refusal ≡ None
given_unrefused free recorded g m is = by (recorded && not (is_recorded g.rows g.former)) is
  where
    by : (b : Bool) → (cond b (only (Refused (UnknownProduct (record { number = product_code g.rows })))) (of_walk free (walk g))).end ≡ Done m → (walk g).refusal ≡ None
    by true is = cc
    by false is = walk_unrefused free (walk g) m is

package_committed : (files : Files) (free : Option ℕ) (now : ℕ) (former : Machine) → IsMachine former → (recorded : Bool) (folder : Name) (words : Assigned) (m : Machine)
    → (of_package files free now former recorded folder words).end ≡ Done m → IsCommitted (given_of files folder words former now)
package_committed files free now former machine recorded folder words m is = by (load_fault files folder) refl is
  where
    by : (r : Option Fault) → load_fault files folder ≡ r → (of_loaded r (of_given free recorded (given_of files folder words former now))).end ≡ Done m → IsCommitted (given_of files folder words former now)
    by (Some fault) right is = cc
    by None right is = record {
      former = machine;
      unrefused = given_unrefused free recorded (given_of files folder words former now) m is;
      loaded = record { rows = refl; right = right };
    }

command_committed : (c : Call) (d : Map) (free : Option ℕ) (former : Machine) → IsMachine former → (found : Settled) (command : Command) (m : Machine) → (of_command (over c d) free former found command).end ≡ Done m → AllByRecursion IsCommitted (given_by c former command)
command_committed c d free former machine found (Package recorded folder words) m is = (package_committed c.files free c.now former machine recorded folder words m is, tt)
command_committed c d free former machine found (Selftest files words) m is = (package_committed (selftest_files files) free c.now former machine false (codes "self") words m is, tt)
command_committed c d free former machine found Clients m is = tt
command_committed c d free former machine found Products m is = tt
command_committed c d free former machine found Recover m is = tt

words_committed : (c : Call) (d F : Map) (former : Machine) (r : Result Command ℕ) (m : Machine) → stands d ≡ Ok F → machine_of F ≡ Ok former → (of_words (over c d) r).end ≡ Done m → AllByRecursion IsCommitted (walked_over c former r)
words_committed c d F former (Ok command) m stand spell is =
    command_committed c d (free_room c.capacity F) former (machine_is F former spell) (settled d) command m
    (ap (λ (r : Result Machine Name). (of_machine (over c d) F command r).end) (sym spell) ∙ ap (λ (r : Result Map Name). (of_former (over c d) command r).end) (sym stand) ∙ is)
words_committed c d F former (Err place) m stand spell is = tt

pub made_committed : (c : Call) (d : Map) (former m : Machine) → IsMachineOf former d → Makes c d m → AllByRecursion IsCommitted (walks_of c former)
unfolding outcome
made_committed c d former m is makes = words_committed c d is.map former (command_of c.words) m is.stands is.spells (is_outcome c d makes.outcome m makes.comes makes.done)

-- ---- over histories

left_committed : (c : Call) (d d' : Map) (m : Machine) (left : Left) → IsMachineOf m d → Leaves c d left d' → AllByRecursion IsCommitted (walks_left c m left)
left_committed c d d' m Former is leaves = tt
left_committed c d d' m After is leaves = made_committed c d m leaves.0 is leaves.1

event_committed : (d d' : Map) (m : Machine) (e : Event) → IsMachineOf m d → IsEvent d e d' → AllByRecursion IsCommitted (committed m e)
event_committed d d' m (Answered c k left) is event = left_committed c d d' m left is event.1
event_committed d d' m (Stopped c left) is event = left_committed c d d' m left is event
event_committed d d' m Settling is event = tt

joined : (a b : List Given) → AllByRecursion IsCommitted a → AllByRecursion IsCommitted b → AllByRecursion IsCommitted (a ++ b)
joined [] b first second = second
joined (g ∷ a) b first second = (first.0, joined a b first.1 second)

goes_committed : (d d' : Map) (m : Machine) (es : List Event) → IsMachineOf m d → GoesBy d es d' → AllByRecursion IsCommitted (all_committed m es)
goes_committed d d' m [] is goes = tt
goes_committed d d' m (e ∷ es) is goes =
    joined (committed m e) (all_committed (after_event m e) es) (event_committed d goes.0 m e is goes.1) (goes_committed goes.0 d' (after_event m e) es (event_machine d goes.0 m e is goes.1) goes.2)

pub law_machine : MachineIsFold
law_machine = record {
  machine = λ es d history. goes_machine empty d empty es empty_is history;
  done = λ es d history. done_in empty d es history;
  committed = λ es d history. goes_committed empty d empty es empty_is history;
}
