-- What a command leaves on a settled volume, where no walk is carried out.
use Rattle.std.proofs.Common.{◌≡◌, ◌⊎◌, inl, inr, ℕ, arith, Bool, false, true, List, [], Option, Result, Ok, Err, refl, sym, ap, ◌∙◌}
use Rattle.std.specs.Prelude.{codes, IsOkAnd}
use Rattle.mi_text.specs.declared.answers.Settled.{Settled}
use Rattle.mi_text.specs.Maps.{Name}
use Rattle.mi_volume.specs.Maps.{Map}
use Rattle.mi_volume.specs.State.{State, Passes, Rose}
use Rattle.mi_source.specs.Paths.{Files}
use Rattle.mi_source.specs.Counts as counts
use Rattle.mi_undo.specs.Keeps.{IsFree}
use Rattle.mi_undo.specs.Stands.{settled}
use Rattle.mi_base.specs.Machine.{Machine}
use Rattle.mi_base.specs.declared.answers.Cause.TheVariants.{VolumeFault, SourceFault, BadImage, Table, UnknownProduct}
use Rattle.mi_base.specs.declared.answers.Kind.{Kind}
use Rattle.mi_base.specs.declared.answers.Kind.TheVariants.{Listed, Recovered, NoMemory}
use Rattle.mi_image.specs.Items.{Items, machine_over, ImageOf}
use Rattle.mi_image.specs.declared.fault.ImageError.{ImageError}
use Rattle.mi_image.specs.declared.fault.ImageError.TheVariants as scan
use Rattle.mi_model.specs.Assignments.{Assigned}
use Rattle.mi_model.specs.Causes.{AnswersCommand, Caused}
use Rattle.mi_model.specs.Logs.{IsLog}
use Rattle.mi_model.specs.Outcome.{Handed, free_room, of_command, of_machine}
use Rattle.mi_model.specs.PackageOutcome.{Outcome, only, of_package}
use Rattle.mi_model.specs.Selftest.{selftest_files}
use Rattle.mi_model.specs.PackageOutcome as o
use Rattle.mi_model.specs.Words.{Command, Package, Selftest, Clients, Products, Recover, walks}
use Rattle.mi_commands.specs.declared.stop.Stop.{Stop}
use Rattle.mi_commands.specs.declared.stop.Stop.TheVariants as stop
use Rattle.mi_commands.specs.declared.reply.Reply.{Reply}
use Rattle.mi_commands.specs.Answers.{IsTold, SourceFails, Begins}
use Rattle.mi_commands.specs.Calls.{CausedStop}
use Rattle.mi_commands.specs.Endings.{kind_unscanned, kind_stopped}
use Rattle.mi_commands.specs.Looks.{Looks}
use Rattle.mi_commands.specs.Replies.{log_in, log_of, WantsMemory, Replies, IsHanded, Serves}
use Rattle.mi_commands.proofs.BeforeLemmas.{serves_from, serves_command}
use Rattle.mi_commands.proofs.QuietLemmas.{IsQuiet, answers_memory, memory_begins, memory_log, replied}
use Rattle.mi_commands.proofs.LookLemmas.{looks_none}

-- ---- a machine that isn't read

module _ (volume told : Type 0) (of_told : told → volume) (s t : State) (out : Outcome) (found : Settled) (command : Command) (source_fails : Type 0) where
  -- where the volume tells what it holds, the image of which this is the first bad name is refused
  abbrev IsBad : ImageError → Type 0
  IsBad e = volume → (name : Name) → e ≡ scan.BadImage name → out ≡ only (o.Refused (BadImage name))

  scan_caused : (e : ImageError) → IsBad e → (e ≡ scan.Fault → Rose s t) → Caused s.faults t.faults volume told out (Rose s t) source_fails (kind_unscanned e)
  scan_caused scan.NoMemory bad rose = tt
  scan_caused scan.Fault bad rose = rose refl
  scan_caused (scan.BadImage name) bad rose = λ v. ap (λ (x : Outcome). x.end) (bad v name refl)

  scan_answers : (e : ImageError) (c : Command) → AnswersCommand c (kind_unscanned e)
  scan_answers scan.NoMemory (Package recorded folder words) = tt
  scan_answers scan.NoMemory (Selftest n words) = tt
  scan_answers scan.NoMemory Clients = tt
  scan_answers scan.NoMemory Products = tt
  scan_answers scan.NoMemory Recover = tt
  scan_answers scan.Fault (Package recorded folder words) = tt
  scan_answers scan.Fault (Selftest n words) = tt
  scan_answers scan.Fault Clients = tt
  scan_answers scan.Fault Products = tt
  scan_answers scan.Fault Recover = tt
  scan_answers (scan.BadImage name) (Package recorded folder words) = tt
  scan_answers (scan.BadImage name) (Selftest n words) = tt
  scan_answers (scan.BadImage name) Clients = tt
  scan_answers (scan.BadImage name) Products = tt
  scan_answers (scan.BadImage name) Recover = tt

  scan_begins : (e : ImageError) → IsBad e → told → Begins out 0 (kind_unscanned e)
  scan_begins scan.NoMemory bad t = memory_begins out
  scan_begins scan.Fault bad t = record { own = λ own. absurd own; most = omega arith; begun = inl refl }
  scan_begins (scan.BadImage name) bad t = let none = sym (ap (λ (x : Outcome). x.reached) (bad (of_told t) name refl)) in record { own = λ own. none; most = omega arith; begun = none }

  scan_log : (e : ImageError) → IsLog volume told (λ x. x ≡ found) (walks (Ok command)) out (kind_unscanned e) 0 (log_of (walks (Ok command)) found (kind_unscanned e))
  scan_log scan.NoMemory = record { settled = found; begun = out.begun; tells = refl; begins = λ t. refl; is = refl }
  scan_log scan.Fault = record { settled = found; begun = out.begun; tells = inl refl; begins = λ t. refl; is = refl }
  scan_log (scan.BadImage name) = record { settled = found; begun = out.begun; tells = refl; begins = λ t. refl; is = refl }

  pub unscanned_serves : (e : ImageError) (r : Reply) → (volume → IsFree s) → (volume → Looks s t) → IsBad e → (e ≡ scan.Fault → Rose s t) → Replies (walks (Ok command)) found (kind_unscanned e) r → Serves volume told s t out command (λ x. x ≡ found) source_fails r.kind r.reached (log_in r)
  unscanned_serves e r free looks bad rose is =
      replied volume told s t out command (λ x. x ≡ found) found refl source_fails free looks (kind_unscanned e) (log_of (walks (Ok command)) found (kind_unscanned e)) r (quiet e) (scan_caused e bad rose) (scan_answers e command) (scan_begins e bad) (scan_log e) is.answers is.reached
    where
      quiet : (e : ImageError) → IsQuiet (kind_unscanned e)
      quiet scan.NoMemory = tt
      quiet scan.Fault = tt
      quiet (scan.BadImage name) = tt

-- the outcome over the scanned machine
pub scanned_outcome : (x : Handed) (files : Files) (h h' : Map) (image : Items) (command : Command) (r : Result Machine Name) → h' ≡ h → IsOkAnd r (ImageOf h files image)
    → of_command x (free_room x.capacity h') (machine_over h' files image) (settled x.held) command ≡ of_machine x h command r
scanned_outcome x files h h' image command (Ok m) is of =
    ap (λ (d : Map). of_command x (free_room x.capacity d) (machine_over d files image) (settled x.held) command) is ∙ ap (λ (n : Machine). of_command x (free_room x.capacity h) n (settled x.held) command) of.stands
scanned_outcome x files h h' image command (Err name) is of = absurd of

-- over any source it is the same machine
pub scanned_same : (files files' : Files) (h h' : Map) (image : Items) (r : Result Machine Name) → h' ≡ h → IsOkAnd r (ImageOf h files image) → IsOkAnd r (ImageOf h files' image) → machine_over h' files' image ≡ machine_over h' files image
scanned_same files files' h h' image (Ok m) is of of' =
    ap (λ (d : Map). machine_over d files' image) is ∙ of'.stands ∙ sym of.stands ∙ ap (λ (d : Map). machine_over d files image) (sym is)
scanned_same files files' h h' image (Err name) is of of' = absurd of

-- ---- the commands that write nothing

module _ (volume told : Type 0) (of_told : told → volume) (s : State) (found : Settled) (source_fails : Type 0) (free : volume → IsFree s) where
  looks : volume → Looks s s
  looks v = looks_none s

  pub recover_serves : (was : Settled) (r : Reply) → (volume → was ≡ found) → Replies false found (Recovered found) r → Serves volume told s s (only (o.Recovered was)) Recover (λ x. x ≡ found) source_fails r.kind r.reached (log_in r)
  recover_serves was r same is =
      replied volume told s s (only (o.Recovered was)) Recover (λ x. x ≡ found) found refl source_fails free looks (Recovered found) (log_of false found (Recovered found)) r tt (λ v. ap (λ (x : Settled). o.Recovered x) (same v)) tt (λ t. record { own = λ own. refl; most = refl; begun = refl })
      (record { settled = found; begun = []; tells = refl; begins = λ t. refl; is = refl }) is.answers is.reached

  -- of the machine m, of which the image is where the volume tells what it holds
  pub list_serves : (command : Command) (texts : Machine → List ℕ) (m m' : Machine) (r : Reply) → (volume → m' ≡ m) → AnswersCommand command Listed → ((r.kind ≡ Listed) × (log_in r ≡ texts m')) ⊎ WantsMemory (walks (Ok command)) r → r.reached ≡ 0
      → Serves volume told s s (only (o.Listed (texts m))) command (λ x. x ≡ found) source_fails r.kind r.reached (log_in r)
  list_serves command texts m m' r same answers is none =
      replied volume told s s (only (o.Listed (texts m))) command (λ x. x ≡ found) found refl source_fails free looks Listed (texts m') r tt (λ v. (texts m, refl)) answers (λ t. record { own = λ own. refl; most = refl; begun = refl }) (λ v. ap (λ (n : Machine). o.Listed (texts n)) (sym (same v))) is none

-- ---- a package that isn't walked over

module _ (volume source : Type 0) (recorded : Bool) (folder : Name) (sets : Assigned) (found : Settled) (source_fails : Type 0) (out : Outcome) where
  abbrev install : Command
  install = Package recorded folder sets

  abbrev told_package : Type 0
  told_package = IsTold volume source (Ok install)

  stop_caused : (s t : State) (e : Stop) → CausedStop source (Rose s t) source_fails out e → Caused s.faults t.faults volume told_package out (Rose s t) source_fails (kind_stopped e)
  stop_caused s t stop.NoMemory c = tt
  stop_caused s t (stop.Refuse VolumeFault) c = c
  stop_caused s t (stop.Refuse SourceFault) c = c
  stop_caused s t (stop.Refuse (Table fault)) c = λ is. ap (λ (x : Outcome). x.end) (c (is.1 tt))
  stop_caused s t (stop.Refuse (UnknownProduct code)) c = λ is. ap (λ (x : Outcome). x.end) (c (is.1 tt))
  stop_caused s t (stop.Refuse other) c = absurd c

  stop_answers : (volume_fails : Type 0) (e : Stop) → CausedStop source volume_fails source_fails out e → AnswersCommand install (kind_stopped e)
  stop_answers volume_fails stop.NoMemory c = tt
  stop_answers volume_fails (stop.Refuse VolumeFault) c = tt
  stop_answers volume_fails (stop.Refuse SourceFault) c = tt
  stop_answers volume_fails (stop.Refuse (Table fault)) c = tt
  stop_answers volume_fails (stop.Refuse (UnknownProduct code)) c = tt
  stop_answers volume_fails (stop.Refuse other) c = absurd c

  stop_begins : (volume_fails : Type 0) (e : Stop) → CausedStop source volume_fails source_fails out e → told_package → Begins out 0 (kind_stopped e)
  stop_begins volume_fails stop.NoMemory c t = memory_begins out
  stop_begins volume_fails (stop.Refuse VolumeFault) c t = record { own = λ own. absurd own; most = omega arith; begun = inl refl }
  stop_begins volume_fails (stop.Refuse SourceFault) c t = record { own = λ own. absurd own; most = omega arith; begun = inl refl }
  stop_begins volume_fails (stop.Refuse (Table fault)) c t = let none = sym (ap (λ (x : Outcome). x.reached) (c (t.1 tt))) in record { own = λ own. none; most = omega arith; begun = none }
  stop_begins volume_fails (stop.Refuse (UnknownProduct code)) c t = let none = sym (ap (λ (x : Outcome). x.reached) (c (t.1 tt))) in record { own = λ own. none; most = omega arith; begun = none }
  stop_begins volume_fails (stop.Refuse other) c t = absurd c

  stop_log : (volume_fails : Type 0) (e : Stop) → CausedStop source volume_fails source_fails out e → IsLog volume told_package (λ x. x ≡ found) true out (kind_stopped e) 0 (log_of true found (kind_stopped e))
  stop_log volume_fails stop.NoMemory c = record { settled = found; begun = out.begun; tells = refl; begins = λ t. refl; is = refl }
  stop_log volume_fails (stop.Refuse VolumeFault) c = record { settled = found; begun = out.begun; tells = inl refl; begins = λ t. refl; is = refl }
  stop_log volume_fails (stop.Refuse SourceFault) c = record { settled = found; begun = out.begun; tells = refl; begins = λ t. refl; is = refl }
  stop_log volume_fails (stop.Refuse (Table fault)) c = record { settled = found; begun = out.begun; tells = refl; begins = λ t. refl; is = refl }
  stop_log volume_fails (stop.Refuse (UnknownProduct code)) c = record { settled = found; begun = out.begun; tells = refl; begins = λ t. refl; is = refl }
  stop_log volume_fails (stop.Refuse other) c = absurd c

  pub stopped_serves : (s t : State) (e : Stop) (r : Reply) → (volume → IsFree s) → (volume → Looks s t) → CausedStop source (Rose s t) source_fails out e → Replies true found (kind_stopped e) r
      → Serves volume told_package s t out install (λ x. x ≡ found) source_fails r.kind r.reached (log_in r)
  stopped_serves s t e r free looks c replies =
      replied volume told_package s t out install (λ x. x ≡ found) found refl source_fails free looks (kind_stopped e) (log_of true found (kind_stopped e)) r (quiet e) (stop_caused s t e c) (stop_answers (Rose s t) e c) (stop_begins (Rose s t) e c) (stop_log (Rose s t) e c) replies.answers replies.reached
    where
      quiet : (e : Stop) → IsQuiet (kind_stopped e)
      quiet stop.NoMemory = tt
      quiet (stop.Refuse cause) = tt

-- ---- the package of what is handed in

passes_none : (s : State) → Passes s s
passes_none s = record { later = omega arith; faults = omega arith; capacity = refl }

module _ (volume told : Type 0) (of_told : told → volume) (s u : State) (h : Handed) (files : Files) (now : ℕ) (found : Settled) (m m' : Machine) (free : volume → IsFree s) (pass : Passes s u) (is : IsHanded volume h files s.capacity now found) (same : volume → m' ≡ m) (kind : Kind) (n : ℕ) (bytes : List ℕ) where
  -- the same room, moment and machine
  package_is : (from : Files) (recorded : Bool) (folder : Name) (sets : Assigned) → volume → of_package from (free_room s.capacity s.held) now m' recorded folder sets ≡ of_package from (free_room h.capacity s.held) h.now m recorded folder sets
  package_is from recorded folder sets v =
      ap (λ (c : Option ℕ). of_package from (free_room c s.held) now m' recorded folder sets) (sym is.same_capacity)
      ∙ ap (λ (x : ℕ). of_package from (free_room h.capacity s.held) x m' recorded folder sets) (sym is.same_now)
      ∙ ap (λ (x : Machine). of_package from (free_room h.capacity s.held) h.now x recorded folder sets) (same v)

  pub package_as : (recorded : Bool) (folder : Name) (sets : Assigned) (x x' : Type 0) → (x' → x)
      → Serves volume told s u (of_package files (free_room s.capacity s.held) now m' recorded folder sets) (Package recorded folder sets) (λ y. y ≡ found) x' kind n bytes
      → Serves volume told s u (of_command h (free_room h.capacity s.held) m (settled h.held) (Package recorded folder sets)) (Package recorded folder sets) (λ y. y ≡ found) x kind n bytes
  package_as recorded folder sets x x' source =
      serves_from volume told told (λ t. t) of_told s s u (of_package h.files (free_room h.capacity s.held) h.now m recorded folder sets) (of_package files (free_room s.capacity s.held) now m' recorded folder sets) (Package recorded folder sets) (λ y. y ≡ found) x x' source
      kind n bytes free (λ v. looks_none s) (passes_none s) pass
      (λ v. ap (λ (y : Files). of_package y (free_room s.capacity s.held) now m' recorded folder sets) (sym is.same_files) ∙ package_is h.files recorded folder sets v)

  -- that for tests, from the source that is made for it
  pub test_as : (told' : Type 0) → (told → told') → (made : Files) (files : ℕ) (sets sets' : Assigned) (x x' : Type 0) → (x' → x) → made ≡ selftest_files files → sets' ≡ sets
      → Serves volume told' s u (of_package made (free_room s.capacity s.held) now m' false (codes "self") sets') (Package false (codes "self") sets') (λ y. y ≡ found) x' kind n bytes
      → Serves volume told s u (of_command h (free_room h.capacity s.held) m (settled h.held) (Selftest files sets)) (Selftest files sets) (λ y. y ≡ found) x kind n bytes
  test_as told' less made files sets sets' x x' source of_files of_sets serves =
      serves_from volume told told' less of_told s s u (of_package (selftest_files files) (free_room h.capacity s.held) h.now m false (codes "self") sets) (of_package made (free_room s.capacity s.held) now m' false (codes "self") sets') (Selftest files sets) (λ y. y ≡ found) x x' source
      kind n bytes free (λ v. looks_none s) (passes_none s) pass
      (λ v.
      ap (λ (y : Files). of_package y (free_room s.capacity s.held) now m' false (codes "self") sets') of_files
      ∙ ap (λ (y : Assigned). of_package (selftest_files files) (free_room s.capacity s.held) now m' false (codes "self") y) of_sets
      ∙ package_is (selftest_files files) false (codes "self") sets v)
      (serves_command volume told' s u (of_package made (free_room s.capacity s.held) now m' false (codes "self") sets') (Selftest files sets) (Package false (codes "self") sets') (λ y. y ≡ found) x' kind n bytes (λ answers. answers) refl serves)

-- whatever the handed-in source tells, which isn't looked at
pub test_told : (volume source : Type 0) (s u : State) (files : ℕ) (sets : Assigned) (out : Outcome) (found : Settled) (n : ℕ) (free : volume → IsFree s) → Passes s u → (kind : Kind) (reached : ℕ) (bytes : List ℕ)
    → Serves volume (IsTold volume ⊥ (Ok (Selftest files sets))) s u out (Selftest files sets) (λ y. y ≡ found) (SourceFails (Ok (Selftest files sets)) n n) kind reached bytes
    → Serves volume (IsTold volume source (Ok (Selftest files sets))) s u out (Selftest files sets) (λ y. y ≡ found) (SourceFails (Ok (Selftest files sets)) n n) kind reached bytes
test_told volume source s u files sets out found n free pass kind reached bytes =
    serves_from volume (IsTold volume source (Ok (Selftest files sets))) (IsTold volume ⊥ (Ok (Selftest files sets))) (λ t. (t.0, λ asks. asks)) (λ t. t.0) s s u out out (Selftest files sets) (λ y. y ≡ found) (SourceFails (Ok (Selftest files sets)) n n) (SourceFails (Ok (Selftest files sets)) n n) (λ x. x)
    kind reached bytes free (λ v. looks_none s) (passes_none s) pass (λ v. refl)

-- ---- before the package for tests is made

-- a count that stays at 0 hasn't risen
pub no_rise : counts.Rose 0 0 → ⊥
no_rise rose = let more = rose.rose (omega arith) in omega (arith, more)

-- want of memory before anything is read
pub memory_serves : (volume told : Type 0) (s : State) (out : Outcome) (command : Command) (found : Settled) (source_fails : Type 0) → (volume → IsFree s) → (r : Reply) → WantsMemory (walks (Ok command)) r → r.reached ≡ 0
    → Serves volume told s s out command (λ x. x ≡ found) source_fails r.kind r.reached (log_in r)
memory_serves volume told s out command found source_fails free r wants none =
    replied volume told s s out command (λ x. x ≡ found) found refl source_fails free (λ v. looks_none s) NoMemory (log_of (walks (Ok command)) found NoMemory) r tt tt (answers_memory command) (λ t. memory_begins out) (memory_log volume told (λ x. x ≡ found) (walks (Ok command)) out found refl) (inr wants) none
