-- What a planned walk that was carried out leaves on a settled volume.
use Rattle.std.proofs.Common.{◌≡◌, ◌⊎◌, inl, inr, ⊎_elim, ℕ, ◌≤◌, arith, min, Bool, true, false, List, [], length, map, Option, Some, None, Ok, refl, sym, ap, subst, ◌∙◌}
use Rattle.std.specs.List.{All}
use Rattle.std.proofs.lemmas.List.Elements.{All-map}
use Rattle.mi_script.specs.declared.rec.Rec.{Rec}
use Rattle.mi_plan.specs.declared.segment.Segment.{Segment}
use Rattle.mi_plan.specs.Made.{as_planned}
use Rattle.mi_text.specs.declared.answers.Settled.{Settled}
use Rattle.mi_text.specs.Maps.{Name}
use Rattle.mi_volume.specs.Maps.{Map}
use Rattle.mi_volume.specs.State.{State, Rose, GoesOn}
use Rattle.mi_volume.proofs.Moments.{weaker}
use Rattle.mi_source.specs.Paths.{Files}
use Rattle.mi_source.specs.Counts as counts
use Rattle.mi_undo.specs.Stands.{StandsFor, outside}
use Rattle.mi_undo.specs.Keeps.{Each, IsFree}
use Rattle.mi_undo.specs.Room.{NeverShort}
use Rattle.mi_base.specs.Machine.{Machine, volume_of}
use Rattle.mi_base.specs.declared.answers.Fault.{Fault}
use Rattle.mi_base.specs.declared.answers.Fault.TheVariants.{SizeDiffers}
use Rattle.mi_base.specs.declared.answers.Cause.{Cause}
use Rattle.mi_base.specs.declared.answers.Cause.TheVariants.{BadWords, VolumeFault, BadRollback, RecoveryFull, BadImage, SourceFault, Table, UnknownProduct, Launch, ErrorAction, Full}
use Rattle.mi_base.specs.declared.answers.Pause.{Pause}
use Rattle.mi_base.specs.declared.answers.Place.{Place}
use Rattle.mi_base.specs.declared.answers.Place.TheVariants.{InRollback, InCommit}
use Rattle.mi_base.specs.declared.answers.Kind.{Kind}
use Rattle.mi_base.specs.declared.answers.Kind.TheVariants.{Done, Listed, Recovered, Refused, Suspended, NoMemory}
use Rattle.mi_model.specs.World.{Given}
use Rattle.mi_model.specs.Assignments.{Assigned}
use Rattle.mi_model.specs.Walk.{walk, last_machine}
use Rattle.mi_model.specs.Plans.{Planned}
use Rattle.mi_model.specs.Planning.{IsPlan, kind_by}
use Rattle.mi_model.specs.PackageOutcome.{Outcome, whole, by_refusal}
use Rattle.mi_model.specs.PackageOutcome as o
use Rattle.mi_model.specs.Words.{Package, walks}
use Rattle.mi_model.specs.Causes.{BelowCount, IsDone, IsRefused, CausedRefusal, Met, Caused, AnswersCommand, IsNotWords}
use Rattle.mi_model.specs.Leaves.{StandsAfter, MayStand, AtExit, Cleans}
use Rattle.mi_model.specs.Leaves as model
use Rattle.mi_model.specs.Logs.{IsLog, RefusalTells}
use Rattle.mi_model.specs.Report.{report_of}
use Rattle.mi_model_laws.proofs.WalkLemmas.{walks_over}
use Rattle.mi_model_laws.proofs.PlanningLemmas.{carried_all}
use Rattle.mi_report.specs.WalkLogs as report
use Rattle.mi_carry.specs.Segments.{after_segments}
use Rattle.mi_carry.specs.Ends as carry
use Rattle.mi_carry.specs.Causes as carried
use Rattle.mi_carry.specs.OneMap.{LeavesOne}
use Rattle.mi_carry.specs.Reached.{last_reached, AtOne, AtPause, IsReached}
use Rattle.std.specs.Prelude.{IsSome}
use Rattle.mi_carry.specs.declared.stop.Stop.TheVariants.{Refuse}
use Rattle.mi_carry.proofs.ReachLemmas.{memory_reached}
use Rattle.mi_commands.specs.Begun as told_of
use Rattle.mi_commands.specs.Begun.{IsEnd, IsLastEnd}
use Rattle.mi_commands.proofs.SegmentLemmas.{Good, walk_good, at_one_end, at_last_end, end_most}
use Rattle.mi_commands.specs.Answers.{IsTold, IsOwnCause, Begins}
use Rattle.mi_commands.specs.Looks.{Looks}
use Rattle.mi_commands.specs.Replies.{SettledReads, Serves}
use Rattle.mi_plan.specs.Refusals.{IsWalkCause, IsWalkRefusal}
use Rattle.mi_commands.specs.Walks.{is_sized_fault, is_sized, IsSized, SaysKind, MayClose}
use Rattle.mi_commands.proofs.QuietLemmas.{says_whole, quiet_serves}
use Rattle.mi_commands.proofs.OneLemmas.{one_late}
use Rattle.mi_commands.proofs.RoomLemmas.{IsFull}

-- the map behind the planned segments of a walk
pub walk_makes : (files : Files) (g : Given) (names : List Name) (plans : List Planned) (refusal : Option Cause) (F : Map) → IsPlan files (walk g) names plans refusal → volume_of g.former ≡ F → after_segments files F plans ≡ volume_of (last_machine (walk g))
unfolding last_machine
walk_makes files g names plans refusal F is former =
    carried_all files (walk g).world.given.former (walk g).parts plans F is.ended (sym former ∙ ap (λ (h : Given). volume_of h.former) (sym (walks_over g).given))

-- ---- kinds

is_walk_cause : (refusal : Option Cause) (cause : Cause) → refusal ≡ Some cause → report.IsWalkCause refusal cause
is_walk_cause refusal VolumeFault is = tt
is_walk_cause refusal SourceFault is = tt
is_walk_cause refusal (BadWords place) is = is
is_walk_cause refusal (BadRollback name) is = is
is_walk_cause refusal (RecoveryFull name) is = is
is_walk_cause refusal (BadImage name) is = is
is_walk_cause refusal (Table fault) is = is
is_walk_cause refusal (UnknownProduct code) is = is
is_walk_cause refusal (Launch text) is = is
is_walk_cause refusal (ErrorAction action text) is = is
is_walk_cause refusal (Full need room) is = is

met_fault : (told : List ℕ → ℕ → ℕ → Type 0) (v s : Type 0) (fault : Fault) → carried.IsMet told v s (Table fault) → is_sized_fault fault ≡ true
met_fault told v s (SizeDiffers file stated found) met = refl
met_fault told v s other met = absurd met

met_close : (told : List ℕ → ℕ → ℕ → Type 0) (v s : Type 0) (refusal : Option Cause) (cause : Cause) → carried.IsMet told v s cause → MayClose refusal (Refused cause)
met_close told v s refusal VolumeFault met = inl tt
met_close told v s refusal SourceFault met = inl tt
met_close told v s refusal (Table fault) met = inr (met_fault told v s fault met)
met_close told v s refusal other met = absurd met

-- the line of an answer of the walk may be closed
pub may_close : (told : List ℕ → ℕ → ℕ → Type 0) (room s : Type 0) (refusal : Option Cause) (begun reached n m : ℕ) (kind : Kind) → carried.Caused told room s refusal begun reached n m kind → MayClose refusal kind
may_close told room s refusal begun reached n m Done c = inl tt
may_close told room s refusal begun reached n m Listed c = absurd c
may_close told room s refusal begun reached n m (Recovered settled) c = absurd c
may_close told room s refusal begun reached n m (Refused cause) (inl own) = inl (is_walk_cause refusal cause own.0)
may_close told room s refusal begun reached n m (Refused cause) (inr met) = met_close told (room → BelowCount n m) s refusal cause met
may_close told room s refusal begun reached n m (Suspended pause) c = inl tt
may_close told room s refusal begun reached n m NoMemory c = inl tt

-- a walk that calls nothing isn't suspended
pub never_suspended : (refusal : Option Cause) (pause : Pause) → Suspended pause ≡ kind_by refusal → ⊥
never_suspended None pause is = cc
never_suspended (Some cause) pause is = cc

-- ---- carried out over a settled volume: f and h are the source's counts

module _ (volume source : Type 0) (recorded : Bool) (folder : Name) (sets : Assigned) (found : Settled) (f h : ℕ) (files : Files) (s u : State) (g : Given) (out : Outcome) (names : List Name) (plans : List Planned) (refusal : Option Cause)
    (plan : volume → source → (out ≡ whole (walk g)) × IsPlan files (walk g) names plans refusal) (former : volume → volume_of g.former ≡ s.held) (is_walk : IsWalkRefusal refusal) (differs : List ℕ → ℕ → ℕ → Type 0) (untells : (file : List ℕ) (stated size : ℕ) → differs file stated size → source → ⊥) (room : Type 0) (has : room) (recovers : volume → GoesOn s u (NeverShort s.capacity)) where
  abbrev told : Type 0
  told = IsTold volume source (Ok (Package recorded folder sets))

  abbrev fails : Type 0
  fails = counts.Rose f h

  abbrev A : Map
  A = after_segments files s.held plans

  sources : told → source
  sources t = t.1 tt

  -- ---- the outcome

  out_whole : told → out ≡ whole (walk g)
  out_whole t = (plan t.0 (sources t)).0

  out_end : told → out.end ≡ by_refusal (walk g) refusal
  out_end t = ap (λ (x : Outcome). x.end) (out_whole t) ∙ ap (by_refusal (walk g)) (plan t.0 (sources t)).1.refusal

  out_begun : told → names ≡ out.begun
  out_begun t = sym (ap (λ (x : Outcome). x.begun) (out_whole t) ∙ (plan t.0 (sources t)).1.begun)

  out_reached : told → length names ≡ out.reached
  out_reached t = sym (ap (λ (x : Outcome). x.reached) (out_whole t) ∙ ap (λ (ns : List Name). length ns) (plan t.0 (sources t)).1.begun)

  makes : told → refusal ≡ None → (m : Machine) × (out.end ≡ o.Done m) × (A ≡ volume_of m)
  makes t none = (last_machine (walk g), out_end t ∙ ap (by_refusal (walk g)) none, walk_makes files g names plans refusal s.held (plan t.0 (sources t)).1 (former t.0))

  done : told → refusal ≡ None → IsDone out
  done t none = let made = makes t none in (made.0, made.1)

  refuses : told → (cause : Cause) → refusal ≡ Some cause → IsRefused out cause
  refuses t cause some = out_end t ∙ ap (by_refusal (walk g)) some

  -- ---- images

  stands_after : (d : Map) → carry.StandsAfter source A refusal d → told → StandsAfter out d
  stands_after d after t = let made = makes t after.0 in (made.0, made.1, subst (λ (B : Map). StandsFor B d) made.2 (after.1 (sources t)))

  may_stand : (rose : Type 0) (kind : Kind) (d : Map) → carry.MayStand source s.held A refusal rose kind d → MayStand told s.held out rose kind d
  may_stand rose kind d = ⊎_elim (λ stands. inl stands) (λ may. inr (may.0, stands_after d may.1))

  pause_exit : (place : Place) (d : Map) → carry.AtPause source s.held A refusal place d → model.AtPause told s.held out place d
  pause_exit InRollback d at = at
  pause_exit InCommit d at = ⊎_elim (λ stands. inl stands) (λ after. inr (stands_after d after)) at

  at_exit : (kind : Kind) (d : Map) → carry.AtExit source s.held A refusal kind d → AtExit told s.held out kind d
  at_exit Done d at = stands_after d at
  at_exit Listed d at = at
  at_exit (Recovered settled) d at = at
  at_exit (Refused cause) d at = at
  at_exit (Suspended pause) d at = pause_exit pause.place d at
  at_exit NoMemory d at = at

  module _ (reached : ℕ) where
    abbrev caused_so : Kind → Type 0
    caused_so kind = carried.Caused differs room (BelowCount f h) refusal (length names) reached s.faults u.faults kind

    reads : (kind : Kind) (m : Map) → caused_so kind → carry.Reads source s.held A kind (outside m) → SettledReads told s.held out kind m
    reads Done m c at = λ t. let made = makes t c.0 in (made.0, made.1, at (sources t) ∙ made.2)
    reads Listed m c at = absurd c
    reads (Recovered settled) m c at = absurd c
    reads (Refused cause) m c at = at
    reads (Suspended pause) m c at = tt
    reads NoMemory m c at = tt

    -- ---- causes

    below_rose : s.faults ≤ u.faults → BelowCount s.faults u.faults → Rose s u
    below_rose le below = record { rose = λ under. below (omega (arith, le, under)) }

    source_rose : f ≤ h → BelowCount f h → fails
    source_rose le below = record { rose = λ under. below (omega (arith, le, under)) }

    -- a refusal of the walk's own
    own_refused : (cause : Cause) → IsWalkCause cause → (told → IsRefused out cause) → CausedRefusal volume told out (Rose s u) fails cause
    own_refused (Table fault) is r = r
    own_refused (Launch text) is r = r
    own_refused (ErrorAction action text) is r = r
    own_refused other is r = absurd is

    own_cause : (cause : Cause) → refusal ≡ Some cause → IsWalkCause cause
    own_cause cause some = subst (λ (r : Option Cause). IsWalkRefusal r) some is_walk

    own_met : (fell : Type 0) (cause : Cause) → IsWalkCause cause → (told → IsRefused out cause) → Met told out fell fails cause
    own_met fell (Table fault) is r = r
    own_met fell (Launch text) is r = r
    own_met fell (ErrorAction action text) is r = r
    own_met fell other is r = absurd is

    untold : (v x : Type 0) (fault : Fault) → carried.IsMet differs v x (Table fault) → told → IsRefused out (Table fault)
    untold v x (SizeDiffers file stated size) met t = absurd (untells file stated size met (sources t))
    untold v x other met t = absurd met

    -- one that a device gave, where this says that the volume fell
    device_met : (fell v : Type 0) (cause : Cause) → f ≤ h → (v → fell) → carried.IsMet differs v (BelowCount f h) cause → Met told out fell fails cause
    device_met fell v VolumeFault le falls met = falls met
    device_met fell v SourceFault le falls met = source_rose le met
    device_met fell v (Table fault) le falls met = untold v (BelowCount f h) fault met
    device_met fell v other le falls met = absurd met

    device_refused : s.faults ≤ u.faults → f ≤ h → (cause : Cause) → carried.IsMet differs (room → BelowCount s.faults u.faults) (BelowCount f h) cause → CausedRefusal volume told out (Rose s u) fails cause
    device_refused le less VolumeFault met = below_rose le (met has)
    device_refused le less SourceFault met = source_rose less met
    device_refused le less (Table fault) met = untold (room → BelowCount s.faults u.faults) (BelowCount f h) fault met
    device_refused le less other met = absurd met

    paused_so : (place : Place) (why : Option Cause) (begun again : ℕ) → f ≤ h → caused_so (Suspended (record { place = place; why = why; begun = begun; again = again }))
        → Caused s.faults u.faults volume told out (Rose s u) fails (Suspended (record { place = place; why = why; begun = begun; again = again }))
    paused_so InRollback None begun again less p = absurd p.met
    paused_so InRollback (Some cause) begun again less p = record {
      entry = p.entry;
      between = p.between;
      exit = p.exit;
      rose = p.rose has;
      met = ⊎_elim (λ own. own_met (BelowCount begun again) cause (own_cause cause own.0) (λ t. refuses t cause own.0)) (λ met. device_met (BelowCount begun again) (room → BelowCount begun again) cause less (λ x. x has) met) p.met;
    }
    paused_so InCommit why begun again less p = record { entry = p.entry; between = p.between; exit = p.exit; rose = p.rose; met = (p.met.0, p.met.1, λ t. done t p.met.2) }

    caused : s.faults ≤ u.faults → f ≤ h → (kind : Kind) → caused_so kind → Caused s.faults u.faults volume told out (Rose s u) fails kind
    caused le less Done c = λ t. done t c.0
    caused le less Listed c = absurd c
    caused le less (Recovered settled) c = absurd c
    caused le less (Refused cause) (inl own) = own_refused cause (own_cause cause own.0) (λ t. refuses t cause own.0)
    caused le less (Refused cause) (inr met) = device_refused le less cause met
    caused le less (Suspended pause) c = paused_so pause.place pause.why pause.begun pause.again less c
    caused le less NoMemory c = tt

    -- ---- answers, begun actions and the log

    not_words : (cause : Cause) → carried.MayRefuse differs room (BelowCount f h) refusal (length names) reached (BelowCount s.faults u.faults) cause → IsNotWords cause
    not_words (BadWords place) (inl own) = absurd (own_cause (BadWords place) own.0)
    not_words (BadWords place) (inr met) = absurd met
    not_words other c = tt

    answers : (kind : Kind) → caused_so kind → AnswersCommand (Package recorded folder sets) kind
    answers Done c = tt
    answers Listed c = absurd c
    answers (Recovered settled) c = absurd c
    answers (Refused cause) c = not_words cause c
    answers (Suspended pause) c = tt
    answers NoMemory c = tt

    all_begun : told → reached ≡ length names → min reached (length names) ≡ out.reached
    all_begun t all = omega (arith, all, out_reached t)

    most_begun : told → min reached (length names) ≤ length out.begun
    most_begun t = let same = ap (λ (ns : List Name). length ns) (out_begun t) in omega (arith, same)

    device_own : (v : Type 0) (cause : Cause) → told → carried.IsMet differs v (BelowCount f h) cause → IsOwnCause cause → ⊥
    device_own v VolumeFault t met own = own
    device_own v SourceFault t met own = own
    device_own v (Table (SizeDiffers file stated size)) t met own = untells file stated size met (sources t)
    device_own v (Table other) t met own = met
    device_own v other t met own = met

    -- where the segments of the walk end
    good : told → Good out.begun (walk g).parts
    good t = subst (λ (ns : List Name). Good ns (walk g).parts) (sym (ap (λ (x : Outcome). x.begun) (out_whole t))) (walk_good g)

    one_end : told → AtOne plans reached → IsEnd out.begun (min reached (length names))
    one_end t at =
        let is = at_one_end files out.begun (walk g).world.given.former (walk g).parts plans reached (plan t.0 (sources t)).1.ended (good t) at in
        let le = end_most out.begun reached is in
        let same = ap (λ (ns : List Name). length ns) (out_begun t) in
        let stays : reached ≡ min reached (length names) = omega (arith, le, same) in
        subst (IsEnd out.begun) stays is

    last_end : told → (plans ≡ [] → ⊥) → reached ≡ last_reached (length names) plans → IsLastEnd out.begun (min reached (length names))
    last_end t some at =
        let is = at_last_end files out.begun (length names) (walk g).world.given.former (walk g).parts plans (plan t.0 (sources t)).1.ended (good t) some in
        let le = end_most out.begun (last_reached (length names) plans) is.is in
        let same = ap (λ (ns : List Name). length ns) (out_begun t) in
        let stays : last_reached (length names) plans ≡ min reached (length names) = omega (arith, le, same, at) in
        subst (IsLastEnd out.begun) stays is

    -- the walk's own refusal is no fault of a device
    device_begun : (cause : Cause) → (IsWalkCause cause → ⊥) → ((refusal ≡ Some cause) × (reached ≡ length names)) ⊎ AtOne plans reached → told → IsEnd out.begun (min reached (length names))
    device_begun cause isnt (inl own) t = absurd (isnt (own_cause cause own.0))
    device_begun cause isnt (inr at) t = one_end t at

    own_begun : (v : Type 0) (cause : Cause) → IsOwnCause cause → ((refusal ≡ Some cause) × (reached ≡ length names)) ⊎ carried.IsMet differs v (BelowCount f h) cause → told → min reached (length names) ≡ out.reached
    own_begun v cause is (inl own) t = all_begun t own.1
    own_begun v cause is (inr met) t = absurd (device_own v cause t met is)

    abbrev reached_so : Kind → Type 0
    reached_so kind = IsReached refusal (length names) plans reached kind

    refused_begun : (cause : Cause) → caused_so (Refused cause) → reached_so (Refused cause) → told → told_of.AtRefusal out (min reached (length names)) cause
    refused_begun VolumeFault c r t = inr (device_begun VolumeFault (λ is. is) r t)
    refused_begun SourceFault c r t = inr (device_begun SourceFault (λ is. is) r t)
    refused_begun other c r t = own_begun (room → BelowCount s.faults u.faults) other tt c t

    paused_begun : (place : Place) (why : Option Cause) (fell : Type 0) → carried.MetAt differs room (BelowCount f h) refusal (length names) reached place fell why → AtPause refusal (length names) plans reached place why → (plans ≡ [] → ⊥) → told
        → told_of.AtPause out (min reached (length names)) place why
    paused_begun InRollback None fell met r some t = absurd met
    paused_begun InRollback (Some VolumeFault) fell met r some t = device_begun VolumeFault (λ is. is) r t
    paused_begun InRollback (Some SourceFault) fell met r some t = device_begun SourceFault (λ is. is) r t
    paused_begun InRollback (Some other) fell met r some t = own_begun (room → fell) other tt met t
    paused_begun InCommit why fell met r some t = last_end t some r

    own_of : (r : Option Cause) → IsSome r → (cause : Cause) × (r ≡ Some cause)
    own_of None is = absurd cc
    own_of (Some cause) is = (cause, refl)

    memory_begun : reached_so NoMemory → told → told_of.HasBegun out (min reached (length names)) NoMemory
    memory_begun (inl own) t = let why = own_of refusal own.0 in inr (inr (why.0, refuses t why.0 why.1, all_begun t own.1))
    memory_begun (inr at) t = inr (inl (one_end t at))

    -- there is a segment, if it isn't known whether the commit holds
    abbrev HasSegments : Kind → Type 0
    HasSegments kind = (pause : Pause) → kind ≡ Suspended pause → plans ≡ [] → ⊥

    begins : (kind : Kind) → caused_so kind → reached_so kind → HasSegments kind → told → Begins out (min reached (length names)) kind
    begins Done c r some t = record { own = λ own. all_begun t c.1; most = all_begun t c.1; begun = all_begun t c.1 }
    begins Listed c r some t = absurd c
    begins (Recovered settled) c r some t = absurd c
    begins (Refused cause) c r some t = record { own = λ is. own_begun (room → BelowCount s.faults u.faults) cause is c t; most = most_begun t; begun = refused_begun cause c r t }
    begins (Suspended pause) c r some t = record { own = λ own. absurd own; most = most_begun t; begun = paused_begun pause.place pause.why (BelowCount pause.begun pause.again) c.met r (some pause refl) t }
    begins NoMemory c r some t = record { own = λ own. absurd own; most = most_begun t; begun = memory_begun r t }

    tells_refusal : (cause : Cause) → carried.MayRefuse differs room (BelowCount f h) refusal (length names) reached (BelowCount s.faults u.faults) cause → RefusalTells (λ x. x ≡ found) cause found
    tells_refusal VolumeFault c = inl refl
    tells_refusal (BadWords place) (inl own) = absurd (own_cause (BadWords place) own.0)
    tells_refusal (BadWords place) (inr met) = absurd met
    tells_refusal (BadRollback name) (inl own) = absurd (own_cause (BadRollback name) own.0)
    tells_refusal (BadRollback name) (inr met) = absurd met
    tells_refusal (RecoveryFull name) (inl own) = absurd (own_cause (RecoveryFull name) own.0)
    tells_refusal (RecoveryFull name) (inr met) = absurd met
    tells_refusal other c = refl

    log : (kind : Kind) (n : ℕ) (bytes : List ℕ) → caused_so kind → bytes ≡ report_of kind found true names n → IsLog volume told (λ x. x ≡ found) true out kind n bytes
    log Done n bytes c is = record { settled = found; begun = names; tells = refl; begins = out_begun; is = is }
    log Listed n bytes c is = absurd c
    log (Recovered settled) n bytes c is = absurd c
    log (Refused cause) n bytes c is = record { settled = found; begun = names; tells = tells_refusal cause c; begins = out_begun; is = is }
    log (Suspended pause) n bytes c is = record { settled = found; begun = names; tells = refl; begins = out_begun; is = is }
    log NoMemory n bytes c is = record { settled = found; begun = names; tells = refl; begins = out_begun; is = is }

    -- ---- all of it

    pub walk_serves : s.faults ≤ u.faults → f ≤ h → (kind : Kind) (bytes : List ℕ) → caused_so kind
        → (volume → GoesOn s u (carry.MayStand source s.held A refusal (BelowCount s.faults u.faults) kind)) → (volume → Each u (carry.AtExit source s.held A refusal kind)) → (volume → carry.Reads source s.held A kind (outside u.held)) → (volume → Cleans s u kind) → (volume → (B : Map) × LeavesOne s u s.held B kind) → reached_so kind → HasSegments kind
        → bytes ≡ report_of kind found true names (min reached (length names))
        → Serves volume told s u out (Package recorded folder sets) (λ x. x ≡ found) fails kind (min reached (length names)) bytes
    walk_serves le less kind bytes c stops leaves at cleans one r some is = record {
      stops = λ v. weaker s u (carry.MayStand source s.held A refusal (BelowCount s.faults u.faults) kind) (MayStand told s.held out (BelowCount s.faults u.faults) kind) (may_stand (BelowCount s.faults u.faults) kind) (stops v);
      leaves = λ v d image. at_exit kind d (leaves v d image);
      reads = λ v. reads kind u.held c (at v);
      cleans = cleans;
      recovers = recovers;
      one_map = one;
      caused = caused le less kind c;
      answers = answers kind c;
      begins = begins kind c r some;
      log = says_whole (IsLog volume told (λ x. x ≡ found) true out kind (min reached (length names))) kind bytes bytes refl (log kind (min reached (length names)) bytes c is);
    }

    -- ---- want of memory where the line of a refusal by the length of a file couldn't be made

    late_stand : (rose : Type 0) (cause : Cause) → is_sized cause ≡ true → (d : Map) → carry.MayStand source s.held A refusal rose (Refused cause) d → carry.MayStand source s.held A refusal rose NoMemory d
    late_stand rose (Table fault) is d (inl stands) = inl stands
    late_stand rose (Table fault) is d (inr may) = absurd may.0
    late_stand rose other is d may = absurd cc

    late_serves : s.faults ≤ u.faults → f ≤ h → (kind : Kind) (bytes : List ℕ) → IsSized kind
        → (volume → GoesOn s u (carry.MayStand source s.held A refusal (BelowCount s.faults u.faults) kind)) → (volume → Each u (carry.AtExit source s.held A refusal kind)) → (volume → (B : Map) × LeavesOne s u s.held B kind) → reached_so kind
        → bytes ≡ report_of NoMemory found true names (min reached (length names))
        → Serves volume told s u out (Package recorded folder sets) (λ x. x ≡ found) fails NoMemory (min reached (length names)) bytes
    late_serves le less Done bytes is stops leaves one r log_is = absurd is
    late_serves le less Listed bytes is stops leaves one r log_is = absurd is
    late_serves le less (Recovered settled) bytes is stops leaves one r log_is = absurd is
    late_serves le less (Suspended pause) bytes is stops leaves one r log_is = absurd is
    late_serves le less NoMemory bytes is stops leaves one r log_is = absurd is
    late_serves le less (Refused cause) bytes is stops leaves one r log_is =
        walk_serves le less NoMemory bytes tt
        (λ v. weaker s u (carry.MayStand source s.held A refusal (BelowCount s.faults u.faults) (Refused cause)) (carry.MayStand source s.held A refusal (BelowCount s.faults u.faults) NoMemory) (late_stand (BelowCount s.faults u.faults) cause is) (stops v))
        leaves (λ v. tt) (λ v. tt) (λ v. let map = one v in (map.0, one_late s u s.held map.0 cause is map.1)) (memory_reached refusal (length names) plans reached (Refuse cause) r) (λ pause same none. cc) log_is

    -- the answer as it is said
    pub said_serves : s.faults ≤ u.faults → f ≤ h → (kind said : Kind) (n : ℕ) (bytes : List ℕ) → SaysKind kind said → n ≡ min reached (length names) → caused_so kind
        → (volume → GoesOn s u (carry.MayStand source s.held A refusal (BelowCount s.faults u.faults) kind)) → (volume → Each u (carry.AtExit source s.held A refusal kind)) → (volume → carry.Reads source s.held A kind (outside u.held)) → (volume → Cleans s u kind) → (volume → (B : Map) × LeavesOne s u s.held B kind) → reached_so kind → HasSegments kind
        → bytes ≡ report_of said found true names n
        → Serves volume told s u out (Package recorded folder sets) (λ x. x ≡ found) fails said n bytes
    said_serves le less kind said n bytes says is c stops leaves at cleans one r some log_is =
        subst (λ (k : ℕ). Serves volume told s u out (Package recorded folder sets) (λ x. x ≡ found) fails said k bytes) (sym is) (⊎_elim same late says)
      where
        log_at : (k : Kind) → said ≡ k → bytes ≡ report_of k found true names (min reached (length names))
        log_at k e = log_is ∙ ap (λ (x : Kind). report_of x found true names n) e ∙ ap (report_of k found true names) is

        same : said ≡ kind → Serves volume told s u out (Package recorded folder sets) (λ x. x ≡ found) fails said (min reached (length names)) bytes
        same e = subst (λ (k : Kind). Serves volume told s u out (Package recorded folder sets) (λ x. x ≡ found) fails k (min reached (length names)) bytes) (sym e) (walk_serves le less kind bytes c stops leaves at cleans one r some (log_at kind e))

        late : (said ≡ NoMemory) × IsSized kind → Serves volume told s u out (Package recorded folder sets) (λ x. x ≡ found) fails said (min reached (length names)) bytes
        late e = subst (λ (k : Kind). Serves volume told s u out (Package recorded folder sets) (λ x. x ≡ found) fails k (min reached (length names)) bytes) (sym e.0) (late_serves le less kind bytes e.1 stops leaves one r (log_at NoMemory e.0))

-- ---- planned segments in their written form

pub all_kept : (P : List Rec → Type 0) (segments : List Segment) (kept : List Planned) → kept ≡ map as_planned segments → All (λ (s : Segment). P s.script) segments → All (λ (s : Planned). P s.records) kept
all_kept P segments kept is all = subst (λ (l : List Planned). All (λ (s : Planned). P s.records) l) (sym is) (All-map (λ (s : Planned). P s.records) as_planned segments all)

-- ---- too little room

module _ (volume source : Type 0) (recorded : Bool) (folder : Name) (sets : Assigned) (found : Settled) (fails : Type 0) (s t : State) (out : Outcome) (names : List Name) (lacks free n : ℕ)
    (is_free : volume → IsFree s) (looks : volume → Looks s t) (full : volume → source → IsFull out lacks free names n) (le : n ≤ length names) where
  abbrev full_told : Type 0
  full_told = IsTold volume source (Ok (Package recorded folder sets))

  full_at : full_told → IsFull out lacks free names n
  full_at t = full t.0 (t.1 tt)

  full_most : full_told → n ≤ length out.begun
  full_most t = let same = ap (λ (ns : List Name). length ns) (full_at t).begun in omega (arith, same, le)

  abbrev IsFullLog : Kind → List ℕ → Type 0
  IsFullLog kind = IsLog volume full_told (λ x. x ≡ found) true out kind n

  pub full_serves : (kind : Kind) (bytes : List ℕ) → (kind ≡ Refused (Full lacks free)) ⊎ (kind ≡ NoMemory) → bytes ≡ report_of kind found true names n
      → Serves volume full_told s t out (Package recorded folder sets) (λ x. x ≡ found) fails kind n bytes
  full_serves kind bytes which log_is = ⊎_elim (λ e. at (Refused (Full lacks free)) e (refused (log_at (Refused (Full lacks free)) e))) (λ e. at NoMemory e (wants (log_at NoMemory e))) which
    where
      log_at : (k : Kind) → kind ≡ k → bytes ≡ report_of k found true names n
      log_at k e = log_is ∙ ap (λ (x : Kind). report_of x found true names n) e

      at : (k : Kind) → kind ≡ k → Serves volume full_told s t out (Package recorded folder sets) (λ x. x ≡ found) fails k n bytes → Serves volume full_told s t out (Package recorded folder sets) (λ x. x ≡ found) fails kind n bytes
      at k e serves = subst (λ (x : Kind). Serves volume full_told s t out (Package recorded folder sets) (λ y. y ≡ found) fails x n bytes) (sym e) serves

      refused : bytes ≡ report_of (Refused (Full lacks free)) found true names n → Serves volume full_told s t out (Package recorded folder sets) (λ x. x ≡ found) fails (Refused (Full lacks free)) n bytes
      refused log = quiet_serves volume full_told s t out (Package recorded folder sets) (λ x. x ≡ found) found refl fails is_free looks (Refused (Full lacks free)) n bytes tt (λ t. (full_at t).end) tt
          (λ t. record { own = λ own. sym (full_at t).reached; most = full_most t; begun = sym (full_at t).reached })
          (says_whole (IsFullLog (Refused (Full lacks free))) (Refused (Full lacks free)) bytes bytes refl (record { settled = found; begun = names; tells = refl; begins = λ t. sym (full_at t).begun; is = log }))

      wants : bytes ≡ report_of NoMemory found true names n → Serves volume full_told s t out (Package recorded folder sets) (λ x. x ≡ found) fails NoMemory n bytes
      wants log = quiet_serves volume full_told s t out (Package recorded folder sets) (λ x. x ≡ found) found refl fails is_free looks NoMemory n bytes tt tt tt
          (λ t. record { own = λ own. absurd own; most = full_most t; begun = inr (inr (Full lacks free, (full_at t).end, sym (full_at t).reached)) })
          (says_whole (IsFullLog NoMemory) NoMemory bytes bytes refl (record { settled = found; begun = names; tells = refl; begins = λ t. sym (full_at t).begun; is = log }))

-- ---- the log behind the walk

pub not_sized : (refusal : Option Cause) (cause : Cause) → is_sized cause ≡ false → MayClose refusal (Refused cause) → report.IsWalkKind refusal (Refused cause)
not_sized refusal cause isnt (inl walks) = walks
not_sized refusal cause isnt (inr sized) = let clash : true ≡ false = sym sized ∙ isnt in absurd cc

pub report_as : (found : Settled) (names : List Name) (k said : Kind) (n m : ℕ) (bytes : List ℕ) → said ≡ k → m ≡ n → bytes ≡ report_of k found true names n → bytes ≡ report_of said found true names m
report_as found names k said n m bytes same counts is = is ∙ ap (λ (x : Kind). report_of x found true names n) (sym same) ∙ ap (report_of said found true names) (sym counts)
