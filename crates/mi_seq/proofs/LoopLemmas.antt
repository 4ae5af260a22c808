-- What the engine's loop takes from each answer of a walk, in the words of its invariant `Walking`: where a row is next, the loop stands
-- before it (`before_next` of mi_model_laws) and takes its step; here are its ends.
use Rattle.std.proofs.Common.{◌≡◌, true, false, List, [], ◌∷◌, ◌++◌, Option, Some, None, refl, ap, ◌∙◌}
use Rattle.std.specs.Prelude.{Ok, Err, is_none, ◌&&◌, if◌then◌else◌}
use Rattle.mi_text.specs.Maps.{Name}
use Rattle.mi_source.specs.Paths.{Files}
use Rattle.mi_base.specs.declared.answers.Fault.{Fault}
use Rattle.mi_base.specs.declared.answers.Fault.TheVariants.{NoFinalize}
use Rattle.mi_base.specs.declared.answers.Cause.{Cause}
use Rattle.mi_base.specs.declared.answers.Cause.TheVariants.{Table, ErrorAction}
use Rattle.mi_schema.specs.declared.typed_rows.InstallExecuteSequenceRow.{InstallExecuteSequenceRow}
use Rattle.mi_script.specs.declared.rec.Rec.{Rec}
use Rattle.mi_model.specs.Texts.{Text}
use Rattle.mi_model.specs.World.{Given, World}
use Rattle.mi_model.specs.Asked.{lookups}
use Rattle.mi_model.specs.Sequence.{is_inside, next_row}
use Rattle.mi_model.specs.Steps.{Step, Launch, Fails, step_of}
use Rattle.mi_model.specs.LaunchConditions.{launch_refusal}
use Rattle.mi_model.specs.Walk.{Walked, walk, begin, taken, refused, or_refused, unless_refused}
use Rattle.mi_model.specs.Plans.{Planned}
use Rattle.mi_model.specs.Planning.{Walking, IsPlan}
use Rattle.mi_model_laws.proofs.PlanningLemmas.{before_next, behind_all, refuses, finishes, unfinished}

abbrev NextOf : Type 0
NextOf = Option (InstallExecuteSequenceRow × List InstallExecuteSequenceRow)

module _ (files : Files) (g : Given) (w : World) (names : List Name) (plans : List Planned) (records : List Rec) where
  -- the step of an action is the same in the walk so far
  same_step : (rest : List InstallExecuteSequenceRow) (k : Walking files g rest w names plans records) (action : Name)
      → step_of k.so_far.world.given.rows (lookups k.so_far.world) k.so_far.begun action ≡ step_of g.rows (lookups w) names action
  same_step rest k action =
      ap (λ (h : Given). step_of h.rows (lookups k.so_far.world) k.so_far.begun action) k.given
      ∙ ap (λ (v : World). step_of g.rows (lookups v) k.so_far.begun action) k.world
      ∙ ap (λ ns. step_of g.rows (lookups w) ns action) k.begun

  -- the next row is refused: the walk ends there, and its action is begun
  pub next_refused : (rows : List InstallExecuteSequenceRow) (r : InstallExecuteSequenceRow) (behind : List InstallExecuteSequenceRow) (fault : Fault)
      → Walking files g rows w names plans records → ◌≡◌ {A = NextOf} (next_row (lookups w) rows) (Some (r, behind))
      → step_of g.rows (lookups w) names r.action ≡ Err fault → IsPlan files (walk g) (names ++ r.action ∷ []) plans (Some (Table fault))
  next_refused rows r behind fault walking next step =
      let p = before_next files g rows r behind w names plans records walking next in
      refuses files g r behind w names plans records p.0 p.1 (Table fault)
      (ap (λ x. or_refused x (taken r.action (begin r.action p.0.so_far)) (begin r.action p.0.so_far)) (same_step (r ∷ behind) p.0 r.action ∙ step))

  -- its step refuses the run
  pub next_refuses : (rows : List InstallExecuteSequenceRow) (r : InstallExecuteSequenceRow) (behind : List InstallExecuteSequenceRow) (step : Step) (cause : Cause)
      → Walking files g rows w names plans records → ◌≡◌ {A = NextOf} (next_row (lookups w) rows) (Some (r, behind))
      → step_of g.rows (lookups w) names r.action ≡ Ok step → ((so_far : Walked) → so_far.world ≡ w → taken r.action so_far step ≡ refused cause so_far)
      → IsPlan files (walk g) (names ++ r.action ∷ []) plans (Some cause)
  next_refuses rows r behind step cause walking next steps takes =
      let p = before_next files g rows r behind w names plans records walking next in
      refuses files g r behind w names plans records p.0 p.1 cause
      (ap (λ x. or_refused x (taken r.action (begin r.action p.0.so_far)) (begin r.action p.0.so_far)) (same_step (r ∷ behind) p.0 r.action ∙ steps)
      ∙ takes (begin r.action p.0.so_far) p.0.world)

  -- an action of type 19
  pub next_fails : (rows : List InstallExecuteSequenceRow) (r : InstallExecuteSequenceRow) (behind : List InstallExecuteSequenceRow) (text : Text)
      → Walking files g rows w names plans records → ◌≡◌ {A = NextOf} (next_row (lookups w) rows) (Some (r, behind))
      → step_of g.rows (lookups w) names r.action ≡ Ok (Fails text) → IsPlan files (walk g) (names ++ r.action ∷ []) plans (Some (ErrorAction r.action text))
  next_fails rows r behind text walking next steps = next_refuses rows r behind (Fails text) (ErrorAction r.action text) walking next steps (λ so_far at. refl)

  -- launch conditions of which one doesn't hold
  pub next_launch_refused : (rows : List InstallExecuteSequenceRow) (r : InstallExecuteSequenceRow) (behind : List InstallExecuteSequenceRow) (cause : Cause)
      → Walking files g rows w names plans records → ◌≡◌ {A = NextOf} (next_row (lookups w) rows) (Some (r, behind))
      → step_of g.rows (lookups w) names r.action ≡ Ok Launch → launch_refusal w.given.rows (lookups w) ≡ Some cause
      → IsPlan files (walk g) (names ++ r.action ∷ []) plans (Some cause)
  next_launch_refused rows r behind cause walking next steps false_one = next_refuses rows r behind Launch cause walking next steps (λ so_far at.
      ap (λ o. unless_refused o so_far) (ap (λ (v : World). launch_refusal v.given.rows (lookups v)) at ∙ false_one))

  -- no row is left, and the rows may end here
  pub next_ends : (rows : List InstallExecuteSequenceRow) → Walking files g rows w names plans records → next_row (lookups w) rows ≡ None → is_inside names ≡ false
      → IsPlan files (walk g) names plans None
  next_ends rows walking none outside =
      let k = behind_all files g rows w names plans records walking none in
      finishes files g w names plans records k
      (ap (λ o. if is_none o && is_inside k.so_far.begun then refused (Table NoFinalize) k.so_far else k.so_far) k.unrefused
      ∙ ap (λ b. if b then refused (Table NoFinalize) k.so_far else k.so_far) (ap is_inside k.begun ∙ outside))

  -- no row is left, after InstallInitialize without InstallFinalize
  pub next_unfinished : (rows : List InstallExecuteSequenceRow) → Walking files g rows w names plans records → next_row (lookups w) rows ≡ None → is_inside names ≡ true
      → IsPlan files (walk g) names plans (Some (Table NoFinalize))
  next_unfinished rows walking none inside =
      let k = behind_all files g rows w names plans records walking none in
      unfinished files g w names plans records k (Table NoFinalize)
      (ap (λ o. if is_none o && is_inside k.so_far.begun then refused (Table NoFinalize) k.so_far else k.so_far) k.unrefused
      ∙ ap (λ b. if b then refused (Table NoFinalize) k.so_far else k.so_far) (ap is_inside k.begun ∙ inside))
