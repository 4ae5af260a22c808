-- What each arm makes of the world is what its step makes of the walk.
use Rattle.std.proofs.Common.{◌≡◌, ℕ, Bool, true, false, cond, List, [], ◌∷◌, ◌++◌, Option, Some, None, refl, sym, ap, ◌∙◌, subst}
use Rattle.std.specs.Prelude.{length, IsSome, IfOk, OnOk, Vec, Result, Ok, Err}
use Rattle.std.specs.declared.alloc.Global.{Global}
use Rattle.std.specs.FinMap.{insert}
use Rattle.mi_text.specs.Maps.{Name, Map}
use Rattle.mi_text.specs.PropertyNames.{is_property_name}
use Rattle.mi_base.specs.declared.answers.Fault.{Fault}
use Rattle.mi_base.specs.declared.answers.Fault.TheVariants.{BadName}
use Rattle.mi_base.specs.declared.answers.Cause.{Cause}
use Rattle.mi_base.specs.declared.answers.Cause.TheVariants.{Table, ErrorAction}
use Rattle.mi_source.specs.Paths.{Files}
use Rattle.mi_script.specs.declared.rec.Rec.{Rec}
use Rattle.mi_schema.specs.RowsOf.{rows_in}
use Rattle.mi_schema.specs.TableRows.{Rows}
use Rattle.mi_image.specs.Items.{machine_over, AreThere}
use Rattle.mi_image.specs.Overlays.{former_items, present_items}
use Rattle.mi_model.specs.Texts.{Text}
use Rattle.mi_model.specs.World as model
use Rattle.mi_model.specs.World.{Given}
use Rattle.mi_model.specs.Asked.{lookups}
use Rattle.mi_model.specs.Properties as props
use Rattle.mi_model.specs.LaunchConditions.{launch_refusal}
use Rattle.mi_model.specs.PhaseRows.{phase_rows}
use Rattle.mi_model.specs.Plans.{Plans, Planned}
use Rattle.mi_model.specs.Planning.{Walking, IsPlan}
use Rattle.mi_model.specs.Walk.{walk}
use Rattle.mi_steps.specs.declared.plan.Plan.{Plan}
use Rattle.mi_steps.specs.Makes.{plan_machine}
use Rattle.mi_seq.specs.declared.phase.Phase.{Phase}
use Rattle.mi_seq.specs.declared.step.Step.{Step}
use Rattle.mi_seq.specs.declared.step.Step.TheVariants as step
use Rattle.mi_seq.specs.Meaning.{effect, meant, action_of}
use Rattle.mi_seq.specs.Stops.{is_end}
use Rattle.mi_model.specs.Steps.{Ends}
use Rattle.mi_world.specs.declared.seen.Seen.{Seen}
use Rattle.mi_world.specs.declared.world.World.{World}
use Rattle.mi_world.specs.Seen.{seen_lookups, world_over, costed_of, IsOf, IsCosted, IsUncosted}
use Rattle.mi_world.proofs.LookLemmas.{looks}
use Rattle.mi_plan.specs.declared.turn.Turn.{Turn}
use Rattle.mi_plan.specs.declared.turn.Turn.TheVariants.{Went, Ended}
use Rattle.mi_plan.specs.declared.work.Work.{Work}
use Rattle.mi_plan.specs.Nexts.{Row, IsNext}
use Rattle.mi_plan.specs.Turns.{IsBegun, IsOver, Begins, Takes, Steps, world_of, planned_of}
use Rattle.mi_plan.specs.Stages.{is_cost, is_phase, writes_script, Leaves, StaysThere, IsDone, IsStepped}
use Rattle.mi_plan.specs.Lengths.{HaveLength, SegmentsHave, HaveLengths}
use Rattle.mi_plan.specs.declared.segment.Segment.{Segment}
use Rattle.mi_runner.specs.Records.{HasLength}
use Rattle.std.proofs.lemmas.List.Elements.{All-nil, All-push}
use Rattle.mi_plan.specs.Refusals.{EndsRight}
use Rattle.mi_props.specs.Props.{Values}
use Rattle.mi_plan.proofs.NextLemmas.{begun_plain, begun_launch, begun_cost, begun_property, begun_directory, begun_phase, begun_end, refused_launch, refused_error, refused_cost, refused_property, refused_directory, refused_phase}

-- the open script is as it was
same_script : (files : Files) (g : Given) (rows : List Row) (w : model.World) (names : List Name) (plans : List Planned) (old new : Plan) → new ≡ old → Walking files g rows w names plans old.script → Walking files g rows w names plans new.script
same_script files g rows w names plans old new same k = subst (λ (rs : List Rec). Walking files g rows w names plans rs) (sym (ap (λ (p : Plan). p.script) same)) k

bad_name : (action name : Name) (text : Text) (w : model.World) → is_property_name name ≡ false → props.set_property action name text w ≡ Err (BadName action)
unfolding props.set_property
bad_name action name text w isnt = ap (λ b. cond {A = Result model.World Fault} b (Ok (record w { props = insert w.props name text })) (Err (BadName action))) isnt

begun_so : (files : Files) (g : Given) (rows : List Row) (w : model.World) (names others : List Name) (plans : List Planned) (records : List Rec) (t : Turn) → others ≡ names
    → IsBegun files g rows w names plans records t → IsBegun files g rows w others plans records t
begun_so files g rows w names others plans records t same is = subst (λ (ns : List Name). IsBegun files g rows w ns plans records t) (sym same) is

walking_so : (files : Files) (g : Given) (rows : List Row) (w v : model.World) (names others : List Name) (plans more : List Planned) (records script : List Rec)
    → v ≡ w → others ≡ names → more ≡ plans → script ≡ records → Walking files g rows w names plans records → Walking files g rows v others more script
walking_so files g rows w v names others plans more records script a b c d k =
    subst (λ u. Walking files g rows u others more script) (sym a)
    (subst (λ (ns : List Name). Walking files g rows w ns more script) (sym b)
    (subst (λ (ps : List Planned). Walking files g rows w names ps script) (sym c)
    (subst (λ (rs : List Rec). Walking files g rows w names plans rs) (sym d) k)))

module _ (held : Map (List ℕ)) (files : Files) where
  -- over whatever walk, the model makes this of the world
  abbrev Makes : Name → (model.World → Result model.World Fault) → World → World → Type 0
  Makes folder does old new = (g : Given) → IsOver held files g folder old → does (world_over held files g old.seen old.plan) ≡ Ok (world_over held files g new.seen new.plan)

  abbrev Refuses : Name → (model.World → Result model.World Fault) → World → Fault → Type 0
  Refuses folder does old fault = (g : Given) → IsOver held files g folder old → does (world_over held files g old.seen old.plan) ≡ Err fault

  -- ---- actions without effect, and refusals by actions

  pub plain_went : (folder action : Name) (w : World) → Begins held files folder (step.Plain action) w w Went
  plain_went folder action w g rows row behind names plans over acts next = begun_plain files g rows row behind (world_over held files g w.seen w.plan) names plans w.plan.script next

  pub initialize_went : (folder : Name) (w : World) → Begins held files folder step.Initialize w w Went
  initialize_went folder w g rows row behind names plans over acts next = begun_plain files g rows row behind (world_over held files g w.seen w.plan) names plans w.plan.script next

  pub error_ended : (folder action : Name) (text : Text) (w : World) → Begins held files folder (step.Error action text) w w (Ended (Some (ErrorAction action text)))
  error_ended folder action text w g rows row behind names plans over acts next =
      subst (λ (a : Name). IsPlan files (walk g) (names ++ row.action ∷ []) plans (Some (ErrorAction a text))) (sym acts)
      (refused_error files g rows row behind (world_over held files g w.seen w.plan) names plans w.plan.script text next)

  -- ---- launch conditions

  same_launch : (g : Given) (s : Seen) (plan : Plan) → IsOf g s → launch_refusal g.rows (lookups (world_over held files g s plan)) ≡ launch_refusal (rows_in s.loaded) (seen_lookups s)
  same_launch g s plan of =
      ap (λ (r : Rows). launch_refusal r (lookups (world_over held files g s plan))) (sym of.knows.rows) ∙ ap (launch_refusal (rows_in s.loaded)) (sym (looks held files g s plan of))

  pub launch_went : (folder : Name) (w : World) → None ≡ launch_refusal (rows_in w.seen.loaded) (seen_lookups w.seen) → Begins held files folder step.Launch w w Went
  launch_went folder w is g rows row behind names plans over acts next =
      begun_launch files g rows row behind (world_over held files g w.seen w.plan) names plans w.plan.script next (same_launch g w.seen w.plan over.of ∙ sym is)

  pub launch_ended : (folder : Name) (w : World) (cause : Cause) → Some cause ≡ launch_refusal (rows_in w.seen.loaded) (seen_lookups w.seen) → Begins held files folder step.Launch w w (Ended (Some cause))
  launch_ended folder w cause is g rows row behind names plans over acts next =
      refused_launch files g rows row behind (world_over held files g w.seen w.plan) names plans w.plan.script cause next (same_launch g w.seen w.plan over.of ∙ sym is)

  -- ---- CostFinalize

  pub cost_went : (folder : Name) (old new : World) → Makes folder props.cost old new → new.plan ≡ old.plan → Begins held files folder step.Cost old new Went
  cost_went folder old new makes same g rows row behind names plans over acts next =
      same_script files g behind (world_over held files g new.seen new.plan) (names ++ row.action ∷ []) plans old.plan new.plan same
      (begun_cost files g rows row behind (world_over held files g old.seen old.plan) names plans old.plan.script (world_over held files g new.seen new.plan) refl next (makes g over))

  pub cost_ended : (folder : Name) (old new : World) (fault : Fault) → Refuses folder props.cost old fault → Begins held files folder step.Cost old new (Ended (Some (Table fault)))
  cost_ended folder old new fault refuses g rows row behind names plans over acts next =
      refused_cost files g rows row behind (world_over held files g old.seen old.plan) names plans old.plan.script fault next (refuses g over)

  -- ---- properties

  pub property_went : (folder action name : Name) (text : Text) (old new : World) → ((a : Name) → Makes folder (props.set_property a name text) old new) → new.plan ≡ old.plan → Begins held files folder (step.SetProperty action name text) old new Went
  property_went folder action name text old new makes same g rows row behind names plans over acts next =
      same_script files g behind (world_over held files g new.seen new.plan) (names ++ row.action ∷ []) plans old.plan new.plan same
      (begun_property files g rows row behind (world_over held files g old.seen old.plan) names plans old.plan.script name text (world_over held files g new.seen new.plan) refl next (makes row.action g over))

  pub property_ended : (folder action name : Name) (text : Text) (old new : World) → is_property_name name ≡ false → Begins held files folder (step.SetProperty action name text) old new (Ended (Some (Table (BadName action))))
  property_ended folder action name text old new isnt g rows row behind names plans over acts next =
      subst (λ (a : Name). IsPlan files (walk g) (names ++ row.action ∷ []) plans (Some (Table (BadName a)))) (sym acts)
      (refused_property files g rows row behind (world_over held files g old.seen old.plan) names plans old.plan.script name text (BadName row.action) next (bad_name row.action name text (world_over held files g old.seen old.plan) isnt))

  -- ---- directories

  pub dir_went : (folder action dir : Name) (text : Text) (old new : World) → Makes folder (props.set_dir dir text) old new → new.plan ≡ old.plan → Begins held files folder (step.SetDir action dir text) old new Went
  dir_went folder action dir text old new makes same g rows row behind names plans over acts next =
      same_script files g behind (world_over held files g new.seen new.plan) (names ++ row.action ∷ []) plans old.plan new.plan same
      (begun_directory files g rows row behind (world_over held files g old.seen old.plan) names plans old.plan.script dir text (world_over held files g new.seen new.plan) refl next (makes g over))

  pub dir_ended : (folder action dir : Name) (text : Text) (old new : World) (fault : Fault) → Refuses folder (props.set_dir dir text) old fault → Begins held files folder (step.SetDir action dir text) old new (Ended (Some (Table fault)))
  dir_ended folder action dir text old new fault refuses g rows row behind names plans over acts next =
      refused_directory files g rows row behind (world_over held files g old.seen old.plan) names plans old.plan.script dir text fault next (refuses g over)

  -- ---- phases

  pub phase_went : (folder : Name) (p : Phase) (s : Seen) (old new : Plan)
      → ((g : Given) → IsOf g s → g.files ≡ files → AreThere held files (present_items old.overlay) → Plans files (effect p) (world_over held files g s old) (plan_machine held files new) old.script new.script)
      → Begins held files folder (step.Phase p) (record { seen = s; plan = old }) (record { seen = s; plan = new }) Went
  phase_went folder p s old new made g rows row behind names plans over acts next =
      begun_phase files g rows row behind (world_over held files g s old) names plans old.script (effect p) (world_over held files g s new) new.script next (made g over.of over.handed over.contents) refl

  pub phase_ended : (folder : Name) (p : Phase) (s : Seen) (old new : Plan) (fault : Fault)
      → ((g : Given) → IsOf g s → g.files ≡ files → AreThere held files (present_items old.overlay) → phase_rows (effect p) (world_over held files g s old) ≡ Err fault)
      → Begins held files folder (step.Phase p) (record { seen = s; plan = old }) (record { seen = s; plan = new }) (Ended (Some (Table fault)))
  phase_ended folder p s old new fault refuses g rows row behind names plans over acts next =
      refused_phase files g rows row behind (world_over held files g s old) names plans old.script (effect p) fault next (refuses g over.of over.handed over.contents)

  -- ---- with the begun actions and the ended segments

  -- an arm that changes the world alone
  pub takes_world : (folder : Name) (s : Step) (old : Work) (world : World) (t : Turn) → Begins held files folder s old.world world t → Takes held files folder s old (record old { world = world }) t
  takes_world folder s old world t begins g rows row behind names over acts begun next =
      begun_so files g behind (world_over held files g world.seen world.plan) (names ++ row.action ∷ []) old.begun.items (planned_of old) world.plan.script t begun
      (begins g rows row behind names (planned_of old) over acts next)

  -- the end of a segment
  same_world : (g : Given) (old new : Work) → new.world.seen ≡ old.world.seen → new.world.plan.overlay ≡ old.world.plan.overlay → world_of held files g new ≡ world_of held files g old
  same_world g old new seen overlay = λ i. record {
    given = g;
    props = (seen i).props;
    costed = costed_of (seen i).placed (seen i).selection;
    machine = machine_over held files (present_items (overlay i));
  }

  pub takes_end : (folder : Name) (s : Step) (old new : Work) → meant s ≡ Ends → new.world.seen ≡ old.world.seen → new.world.plan.overlay ≡ old.world.plan.overlay → new.world.plan.script ≡ [] → new.begun.items ≡ old.begun.items
      → planned_of new ≡ planned_of old ++ record { records = old.world.plan.script; reached = length old.begun.items } ∷ [] → Takes held files folder s old new Went
  takes_end folder s old new ends seen overlay script begun segments g rows row behind names over acts is next =
      let w = world_of held files g old in
      let there = subst (λ st. IsNext files g rows row behind w names (planned_of old) old.world.plan.script st) ends next in
      walking_so files g behind w (world_of held files g new) (names ++ row.action ∷ []) new.begun.items
      (planned_of old ++ record { records = old.world.plan.script; reached = length (names ++ row.action ∷ []) } ∷ []) (planned_of new) [] new.world.plan.script
      (same_world g old new seen overlay) (begun ∙ is)
      (segments ∙ ap (λ (ns : List Name). planned_of old ++ record { records = old.world.plan.script; reached = length ns } ∷ []) is) script
      (begun_end files g rows row behind w names (planned_of old) old.world.plan.script there)

  -- an action that is begun, and takes its step
  pub steps_so : (folder : Name) (s : Step) (old mid new : Work) (t : Turn) → mid.world ≡ old.world → planned_of mid ≡ planned_of old → mid.begun.items ≡ old.begun.items ++ action_of s ∷ [] → Takes held files folder s mid new t → Steps held files folder s old new t
  steps_so folder s old mid new t world plans begun takes g rows row behind over acts next =
      takes g rows row behind old.begun.items (subst (λ (w : World). IsOver held files g folder w) (sym world) over) acts (begun ∙ ap (λ (a : Name). old.begun.items ++ a ∷ []) acts)
      (subst (λ (ps : List Planned). IsNext files g rows row behind (world_of held files g mid) old.begun.items ps mid.world.plan.script (meant s)) (sym plans)
      (subst (λ (w : World). IsNext files g rows row behind (world_over held files g w.seen w.plan) old.begun.items (planned_of old) w.plan.script (meant s)) (sym world) next))

-- ---- what they leave

pub leaves_cost : (old new : World) → new.seen.loaded ≡ old.seen.loaded → ((g : Given) → IsOf g old.seen → IsOf g new.seen × IsCosted new.seen) → new.plan ≡ old.plan → Leaves step.Cost old new
leaves_cost old new loaded of plan = record {
  loaded = loaded;
  of = λ g is. (of g is).0;
  costs = λ _ some. (of some.0 some.1).1;
  costed = λ some _. (of some.0 some.1).1;
  uncosted = λ e. cc;
  present = λ _. ap (λ (p : Plan). present_items p.overlay) plan;
  script = λ _. ap (λ (p : Plan). p.script) plan;
}

both_ways : {P X : Type 0} (o : Option X) → IsSome o → o ≡ None → P
both_ways None h e = cc
both_ways (Some x) h e = cc

pub leaves_dir : (action dir : Name) (text : Text) (old new : World) → IsCosted old.seen → new.seen.loaded ≡ old.seen.loaded → ((g : Given) → IsOf g old.seen → IsOf g new.seen × IsCosted new.seen) → new.plan ≡ old.plan
    → Leaves (step.SetDir action dir text) old new
leaves_dir action dir text old new costed loaded of plan = record {
  loaded = loaded;
  of = λ g is. (of g is).0;
  costs = λ e. cc;
  costed = λ some _. (of some.0 some.1).1;
  uncosted = λ _ isnt. both_ways old.seen.placed costed.0 isnt.0;
  present = λ _. ap (λ (p : Plan). present_items p.overlay) plan;
  script = λ _. ap (λ (p : Plan). p.script) plan;
}

-- what is seen stays
pub leaves_seen : (s : Step) (old new : World) → is_cost s ≡ false → new.seen ≡ old.seen → (is_phase s ≡ false → present_items new.plan.overlay ≡ present_items old.plan.overlay) → (writes_script s ≡ false → new.plan.script ≡ old.plan.script) → Leaves s old new
leaves_seen s old new isnt same present script = record {
  loaded = ap (λ (x : Seen). x.loaded) same;
  of = λ g is. subst (IsOf g) (sym same) is;
  costs = λ is. not_both (is_cost s) is isnt;
  costed = λ _ costed. subst IsCosted (sym same) costed;
  uncosted = λ _ uncosted. subst IsUncosted (sym same) uncosted;
  present = present;
  script = script;
}
  where
    not_both : {P : Type 0} (b : Bool) → b ≡ true → b ≡ false → P
    not_both true e f = cc
    not_both false e f = cc

-- a property alone is set
pub leaves_property : (action name : Name) (text : Text) (old new : World) (values : Values) → new ≡ record old { seen = record old.seen { props = values } } → ((g : Given) → IsOf g old.seen → IsOf g new.seen)
    → Leaves (step.SetProperty action name text) old new
leaves_property action name text old new values is of = record {
  loaded = ap (λ (w : World). w.seen.loaded) is;
  of = of;
  costs = λ e. cc;
  costed = λ _ costed. subst (λ (w : World). IsCosted w.seen) (sym is) costed;
  uncosted = λ _ uncosted. subst (λ (w : World). IsUncosted w.seen) (sym is) uncosted;
  present = λ _. ap (λ (w : World). present_items w.plan.overlay) is;
  script = λ _. ap (λ (w : World). w.plan.script) is;
}

-- ---- by the answer

pub leaves_result : {E : Type 0} (s u : Step) (old new : World) (r : Result Turn E) → s ≡ u → IfOk r (λ t. t ≡ Went → Leaves u old new) → IfOk r (λ t. t ≡ Went → Leaves s old new)
leaves_result s u old new (Ok t) is leaves = λ went. subst (λ (x : Step). Leaves x old new) (sym is) (leaves went)
leaves_result s u old new (Err e) is leaves = tt

pub ends_leave : {E : Type 0} (s u : Step) (old new : Work) (r : Result Turn E) → s ≡ u → is_cost u ≡ false → writes_script u ≡ true → OnOk r (new.world.seen ≡ old.world.seen) → OnOk r (new.world.plan.overlay ≡ old.world.plan.overlay)
    → IfOk r (λ t. t ≡ Went → Leaves s old.world new.world)
ends_leave s u old new (Ok t) is isnt writes seen overlay = λ _.
    subst (λ (x : Step). Leaves x old.world new.world) (sym is) (leaves_seen u old.world new.world isnt seen (λ _. ap present_items overlay) (λ none. let clash : true ≡ false = sym writes ∙ none in cc))
ends_leave s u old new (Err e) is isnt writes seen overlay = tt

module _ (held : Map (List ℕ)) (files : Files) where
  pub takes_result : {E : Type 0} (folder : Name) (s u : Step) (old : Work) (world : World) (r : Result Turn E) → s ≡ u → IfOk r (Begins held files folder u old.world world) → IfOk r (Takes held files folder s old (record old { world = world }))
  takes_result folder s u old world (Ok t) is begins = subst (λ (x : Step). Takes held files folder x old (record old { world = world }) t) (sym is) (takes_world held files folder u old world t begins)
  takes_result folder s u old world (Err e) is begins = tt

  pub ends_result : {E : Type 0} (folder : Name) (s u : Step) (old new : Work) (r : Result Turn E) → s ≡ u → meant u ≡ Ends → IfOk r (λ t. t ≡ Went) → OnOk r (new.world.seen ≡ old.world.seen) → OnOk r (new.world.plan.overlay ≡ old.world.plan.overlay)
      → OnOk r (new.world.plan.script ≡ []) → OnOk r (new.begun ≡ old.begun) → OnOk r (planned_of new ≡ planned_of old ++ record { records = old.world.plan.script; reached = length old.begun.items } ∷ []) → IfOk r (Takes held files folder s old new)
  ends_result folder s u old new (Ok t) is ends went seen overlay script begun segments =
      subst (λ (x : Turn). Takes held files folder s old new x) (sym went)
      (subst (λ (x : Step). Takes held files folder x old new Went) (sym is) (takes_end held files folder u old new ends seen overlay script (ap (λ (b : Vec (List ℕ) Global). b.items) begun) segments))
  ends_result folder s u old new (Err e) is ends went seen overlay script begun segments = tt

  pub steps_result : {E : Type 0} (folder : Name) (s : Step) (old mid new : Work) (r : Result Turn E) → mid.world ≡ old.world → planned_of mid ≡ planned_of old → mid.begun.items ≡ old.begun.items ++ action_of s ∷ []
      → IfOk r (Takes held files folder s mid new) → IfOk r (Steps held files folder s old new)
  steps_result folder s old mid new (Ok t) world plans begun takes = steps_so held files folder s old mid new t world plans begun takes
  steps_result folder s old mid new (Err e) world plans begun takes = tt

-- ---- the turn of a step

module _ (volume source : Type 0) (held : Map (List ℕ)) (files : Files) (folder : Name) where
  pub stepped_end : (s : Step) (k : Work) → is_end s ≡ true → IsStepped volume source held files folder s k k (Ended None)
  stepped_end (step.Plain action) k e = cc
  stepped_end step.Launch k e = cc
  stepped_end step.Cost k e = cc
  stepped_end step.Initialize k e = cc
  stepped_end (step.Phase p) k e = cc
  stepped_end (step.SetProperty action name text) k e = cc
  stepped_end (step.SetDir action dir text) k e = cc
  stepped_end (step.Error action text) k e = cc
  stepped_end (step.Execute action) k e = cc
  stepped_end step.Finalize k e = cc
  stepped_end step.End k e = (refl, refl)

  stepped_more : (s : Step) (old new : Work) (t : Turn) → is_end s ≡ false → IsDone volume source held files folder s old new t → IsStepped volume source held files folder s old new t
  stepped_more (step.Plain action) old new t e d = d
  stepped_more step.Launch old new t e d = d
  stepped_more step.Cost old new t e d = d
  stepped_more step.Initialize old new t e d = d
  stepped_more (step.Phase p) old new t e d = d
  stepped_more (step.SetProperty action name text) old new t e d = d
  stepped_more (step.SetDir action dir text) old new t e d = d
  stepped_more (step.Error action text) old new t e d = d
  stepped_more (step.Execute action) old new t e d = d
  stepped_more step.Finalize old new t e d = d
  stepped_more step.End old new t e d = cc

  pub stepped_result : {E : Type 0} (s : Step) (old new : Work) (r : Result Turn E) → is_end s ≡ false → (volume → source → IfOk r (Steps held files folder s old new)) → (volume → source → IfOk r (λ t. t ≡ Went → StaysThere held files old.world new.world))
      → (source → HaveLengths files old Went → IfOk r (HaveLengths files new)) → IfOk r EndsRight → OnOk r (new.begun.items ≡ old.begun.items ++ action_of s ∷ []) → IfOk r (λ t. t ≡ Went → Leaves s old.world new.world)
      → OnOk r (former_items new.world.plan.overlay ≡ former_items old.world.plan.overlay) → IfOk r (IsStepped volume source held files folder s old new)
  stepped_result s old new (Ok t) more steps there lengths ends begun leaves former =
      stepped_more s old new t more (record { steps = steps; there = there; lengths = lengths; ends = ends; begun = begun; leaves = leaves; former = former })
  stepped_result s old new (Err e) more steps there lengths ends begun leaves former = tt

-- ---- lengths

-- where the script and the segments stay
have_lengths : (files : Files) (old new : Work) (t : Turn) → new.segments ≡ old.segments → (t ≡ Went → new.world.plan.script ≡ old.world.plan.script) → HaveLengths files old Went → HaveLengths files new t
have_lengths files old new Went segments script have =
    (subst (λ (rs : List Rec). HaveLength files rs) (sym (script refl)) have.0, subst (λ (v : Vec Segment Global). SegmentsHave files v.items) (sym segments) have.1)
have_lengths files old new (Ended why) segments script have = subst (λ (v : Vec Segment Global). SegmentsHave files v.items) (sym segments) have.1

-- an arm that adds no record and changes the world alone
pub arm_lengths : {E : Type 0} (files : Files) (s u : Step) (old : Work) (world : World) (r : Result Turn E) → s ≡ u → writes_script u ≡ false → IfOk r (λ t. t ≡ Went → Leaves u old.world world)
    → HaveLengths files old Went → IfOk r (HaveLengths files (record old { world = world }))
arm_lengths files s u old world (Ok t) is isnt leaves have = have_lengths files old (record old { world = world }) t refl (λ went. (leaves went).script isnt) have
arm_lengths files s u old world (Err e) is isnt leaves have = tt

-- a turn that leaves all as it is
pub still_lengths : {E : Type 0} (files : Files) (k : Work) (r : Result Turn E) → HaveLengths files k Went → IfOk r (HaveLengths files k)
still_lengths files k (Ok t) have = have_lengths files k k t refl (λ went. refl) have
still_lengths files k (Err e) have = tt

-- a phase
pub phase_lengths : {E : Type 0} (files : Files) (old : Work) (world : World) (r : Result Turn E) → IfOk r (λ t. t ≡ Went → HaveLength files world.plan.script) → HaveLengths files old Went → IfOk r (HaveLengths files (record old { world = world }))
phase_lengths files old world (Ok Went) script have = (script refl, have.1)
phase_lengths files old world (Ok (Ended why)) script have = have.1
phase_lengths files old world (Err e) script have = tt

-- the end of a segment
pub end_lengths : {E : Type 0} (files : Files) (old new : Work) (reached : ℕ) (r : Result Turn E) → OnOk r (new.world.plan.script ≡ []) → OnOk r (new.segments.items ≡ old.segments.items ++ record { script = old.world.plan.script; reached = reached } ∷ [])
    → HaveLengths files old Went → IfOk r (HaveLengths files new)
end_lengths files old new reached (Ok t) script kept have = by_turn t
  where
    ended : SegmentsHave files new.segments.items
    ended = subst (λ (ss : List Segment). SegmentsHave files ss) (sym kept)
        (All-push (λ (s : Segment). HaveLength files s.script) old.segments.items (record { script = old.world.plan.script; reached = reached }) have.1 have.0)

    by_turn : (t : Turn) → HaveLengths files new t
    by_turn Went = (subst (λ (rs : List Rec). HaveLength files rs) (sym script) (All-nil (HasLength files)), ended)
    by_turn (Ended why) = ended
end_lengths files old new reached (Err e) script kept have = tt
