-- A row that is next is begun: what each step makes of the walk so far.
use Rattle.std.proofs.Common.{◌≡◌, true, List, [], ◌∷◌, ◌++◌, Some, None, refl, ap, ◌∙◌}
use Rattle.std.specs.Prelude.{length, Result, Ok, Err}
use Rattle.mi_text.specs.Maps.{Name}
use Rattle.mi_base.specs.declared.answers.Fault.{Fault}
use Rattle.mi_base.specs.declared.answers.Cause.{Cause}
use Rattle.mi_base.specs.declared.answers.Cause.TheVariants.{Table, ErrorAction}
use Rattle.mi_source.specs.Paths.{Files}
use Rattle.mi_script.specs.declared.rec.Rec.{Rec}
use Rattle.mi_model.specs.Texts.{Text}
use Rattle.mi_model.specs.World.{Given, World, Effect}
use Rattle.mi_model.specs.Asked.{lookups}
use Rattle.mi_model.specs.Conditions.{holds}
use Rattle.mi_model.specs.Properties.{cost, set_dir, set_property}
use Rattle.mi_model.specs.Steps.{Step, Plain, Launch, Cost, Runs, Ends, SetProperty, SetDirectory, Fails}
use Rattle.mi_model.specs.LaunchConditions.{launch_refusal}
use Rattle.mi_model.specs.PhaseRows.{phase_rows}
use Rattle.mi_model.specs.Walk.{Walked, walk, taken, or_refused, with_world, with_rows}
use Rattle.mi_model.specs.Plans.{Plans, Planned}
use Rattle.mi_model.specs.Planning.{Walking, IsPlan}
use Rattle.mi_model_laws.proofs.PlanningLemmas.{before_next, plain, launches, resets, runs, ends}
use Rattle.mi_model_laws.proofs.WalkLemmas.{cost_keeps, set_dir_keeps, set_property_keeps}
use Rattle.mi_seq.proofs.LoopLemmas.{next_refuses, next_fails, next_launch_refused}
use Rattle.mi_plan.specs.Nexts.{Row, IsNext}

module _ (files : Files) (g : Given) (rows : List Row) (row : Row) (behind : List Row) (w : World) (names : List Name) (plans : List Planned) (records : List Rec) where
  -- the loop stands before the row
  ahead : (step : Step) → IsNext files g rows row behind w names plans records step → Walking files g (row ∷ behind) w names plans records × (holds (lookups w) row.condition ≡ true)
  ahead step n = before_next files g rows row behind w names plans records n.walking n.next

  -- ---- where it goes on

  pub begun_plain : IsNext files g rows row behind w names plans records Plain → Walking files g behind w (names ++ row.action ∷ []) plans records
  begun_plain n = let p = ahead Plain n in plain files g row behind w names plans records p.0 p.1 n.does

  pub begun_launch : IsNext files g rows row behind w names plans records Launch → launch_refusal w.given.rows (lookups w) ≡ None → Walking files g behind w (names ++ row.action ∷ []) plans records
  begun_launch n none = let p = ahead Launch n in launches files g row behind w names plans records p.0 p.1 n.does none

  pub begun_cost : (v : World) → w.given ≡ g → IsNext files g rows row behind w names plans records Cost → cost w ≡ Ok v → Walking files g behind v (names ++ row.action ∷ []) plans records
  begun_cost v same n is =
      let p = ahead Cost n in
      let keeps = cost_keeps w v is in
      resets files g row behind w v names plans records p.0 p.1 cost Cost n.does (λ x. refl) is (keeps.given ∙ same) keeps.machine

  pub begun_property : (name : Name) (text : Text) (v : World) → w.given ≡ g → IsNext files g rows row behind w names plans records (SetProperty name text) → set_property row.action name text w ≡ Ok v
      → Walking files g behind v (names ++ row.action ∷ []) plans records
  begun_property name text v same n is =
      let p = ahead (SetProperty name text) n in
      let keeps = set_property_keeps row.action name text w v is in
      resets files g row behind w v names plans records p.0 p.1 (set_property row.action name text) (SetProperty name text) n.does (λ x. refl) is (keeps.given ∙ same) keeps.machine

  pub begun_directory : (directory : Name) (text : Text) (v : World) → w.given ≡ g → IsNext files g rows row behind w names plans records (SetDirectory directory text) → set_dir directory text w ≡ Ok v
      → Walking files g behind v (names ++ row.action ∷ []) plans records
  begun_directory directory text v same n is =
      let p = ahead (SetDirectory directory text) n in
      let keeps = set_dir_keeps directory text w v is in
      resets files g row behind w v names plans records p.0 p.1 (set_dir directory text) (SetDirectory directory text) n.does (λ x. refl) is (keeps.given ∙ same) keeps.machine

  pub begun_phase : (effect : Effect) (v : World) (has : List Rec) → IsNext files g rows row behind w names plans records (Runs effect) → Plans files effect w v.machine records has → v ≡ record w { machine = v.machine }
      → Walking files g behind v (names ++ row.action ∷ []) plans has
  begun_phase effect v has n made stays = let p = ahead (Runs effect) n in runs files g row behind w v names plans records has p.0 p.1 effect n.does made stays

  pub begun_end : IsNext files g rows row behind w names plans records Ends
      → Walking files g behind w (names ++ row.action ∷ []) (plans ++ record { records = records; reached = length (names ++ row.action ∷ []) } ∷ []) []
  begun_end n = let p = ahead Ends n in ends files g row behind w names plans records p.0 p.1 n.does

  -- ---- where it is refused

  pub refused_launch : (cause : Cause) → IsNext files g rows row behind w names plans records Launch → launch_refusal w.given.rows (lookups w) ≡ Some cause → IsPlan files (walk g) (names ++ row.action ∷ []) plans (Some cause)
  refused_launch cause n is = next_launch_refused files g w names plans records rows row behind cause n.walking n.next n.does is

  pub refused_error : (text : Text) → IsNext files g rows row behind w names plans records (Fails text) → IsPlan files (walk g) (names ++ row.action ∷ []) plans (Some (ErrorAction row.action text))
  refused_error text n = next_fails files g w names plans records rows row behind text n.walking n.next n.does

  -- by what the step makes of a world
  refused_by : (does : World → Result World Fault) (step : Step) (fault : Fault) → IsNext files g rows row behind w names plans records step
      → ((x : Walked) → taken row.action x step ≡ or_refused (does x.world) (with_world x) x) → does w ≡ Err fault → IsPlan files (walk g) (names ++ row.action ∷ []) plans (Some (Table fault))
  refused_by does step fault n takes is = next_refuses files g w names plans records rows row behind step (Table fault) n.walking n.next n.does (λ x at.
      takes x ∙ ap (λ (r : Result World Fault). or_refused r (with_world x) x) (ap does at ∙ is))

  pub refused_cost : (fault : Fault) → IsNext files g rows row behind w names plans records Cost → cost w ≡ Err fault → IsPlan files (walk g) (names ++ row.action ∷ []) plans (Some (Table fault))
  refused_cost fault n is = refused_by cost Cost fault n (λ x. refl) is

  pub refused_property : (name : Name) (text : Text) (fault : Fault) → IsNext files g rows row behind w names plans records (SetProperty name text) → set_property row.action name text w ≡ Err fault
      → IsPlan files (walk g) (names ++ row.action ∷ []) plans (Some (Table fault))
  refused_property name text fault n is = refused_by (set_property row.action name text) (SetProperty name text) fault n (λ x. refl) is

  pub refused_directory : (directory : Name) (text : Text) (fault : Fault) → IsNext files g rows row behind w names plans records (SetDirectory directory text) → set_dir directory text w ≡ Err fault
      → IsPlan files (walk g) (names ++ row.action ∷ []) plans (Some (Table fault))
  refused_directory directory text fault n is = refused_by (set_dir directory text) (SetDirectory directory text) fault n (λ x. refl) is

  pub refused_phase : (effect : Effect) (fault : Fault) → IsNext files g rows row behind w names plans records (Runs effect) → phase_rows effect w ≡ Err fault
      → IsPlan files (walk g) (names ++ row.action ∷ []) plans (Some (Table fault))
  refused_phase effect fault n is = next_refuses files g w names plans records rows row behind (Runs effect) (Table fault) n.walking n.next n.does (λ x at.
      ap (λ r. or_refused r (with_rows x) x) (ap (phase_rows effect) at ∙ is))
