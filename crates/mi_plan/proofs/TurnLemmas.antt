-- What a turn makes of the walk so far, from the next step and from what it was taken for.
use Rattle.std.proofs.Common.{◌≡◌, ◌⊎◌, inl, inr, ℕ, ◌<◌, ◌≤◌, Bool, true, false, List, [], ◌∷◌, ◌++◌, map, length, Option, Some, None, refl, sym, ap, ◌∙◌, subst}
use Rattle.std.specs.Prelude.{IsSome, option_and_then, IfOk, OnOk, Result, Ok, Err, Vec}
use Rattle.std.specs.declared.alloc.Global.{Global}
use Rattle.mi_plan.specs.declared.segment.Segment.{Segment}
use Rattle.mi_text.specs.Maps.{Name, Map}
use Rattle.mi_text.specs.Lookups.{Lookups}
use Rattle.mi_base.specs.declared.answers.Fault.{Fault}
use Rattle.mi_base.specs.declared.answers.Cause.{Cause}
use Rattle.mi_base.specs.declared.answers.Cause.TheVariants.{Table}
use Rattle.mi_source.specs.Paths.{Files}
use Rattle.mi_dirs.specs.Places.{Place, row_of}
use Rattle.mi_schema.specs.declared.package.Package.{Package}
use Rattle.mi_schema.specs.declared.typed_rows.DirectoryRow.{DirectoryRow}
use Rattle.mi_schema.specs.RowsOf.{rows_in, behind}
use Rattle.mi_schema.specs.TableRows.{Rows}
use Rattle.mi_schema.specs.Laws.{KeysStand, ReferencesStand}
use Rattle.mi_image.specs.Items.{machine_over}
use Rattle.mi_image.specs.Overlays.{former_items}
use Rattle.mi_model.specs.World.{Given}
use Rattle.mi_model.specs.Asked.{lookups}
use Rattle.mi_model.specs.Sequence.{next_row, is_costed}
use Rattle.mi_model.specs.Steps.{step_of}
use Rattle.mi_model.specs.Walk.{walk}
use Rattle.mi_model.specs.Plans.{Planned}
use Rattle.mi_model.specs.Planning.{Walking, IsPlan}
use Rattle.mi_seq.specs.declared.step.Step.{Step}
use Rattle.mi_seq.specs.declared.step.Step.TheVariants as step
use Rattle.mi_seq.specs.declared.walk.Walk.{Walk}
use Rattle.mi_seq.specs.declared.error.SeqError.{SeqError}
use Rattle.mi_seq.specs.declared.error.SeqError.TheVariants as error
use Rattle.mi_seq.specs.Meaning.{meant}
use Rattle.mi_seq.specs.Walks as seq
use Rattle.mi_seq.specs.Walks.{rest, IsRefused}
use Rattle.mi_seq.proofs.LoopLemmas.{next_refused, next_ends, next_unfinished}
use Rattle.mi_world.specs.declared.seen.Seen.{Seen}
use Rattle.mi_world.specs.declared.world.World.{World}
use Rattle.mi_world.specs.Seen.{seen_lookups, dirs_in, ArePlaced}
use Rattle.mi_world.proofs.LookLemmas.{looks}
use Rattle.mi_plan.specs.declared.turn.Turn.{Turn}
use Rattle.mi_plan.specs.declared.turn.Turn.TheVariants.{Went, Ended}
use Rattle.mi_plan.specs.declared.work.Work.{Work}
use Rattle.mi_plan.specs.Nexts.{Row, IsNext}
use Rattle.mi_plan.specs.Turns.{IsBegun, IsOver, IsSoFar, IsTurned, world_of, planned_of}
use Rattle.mi_plan.specs.Stages.{is_initialized, IsStaged, IsRight, IsReady, MayTake, costs, IsDone, IsStepped, IsRefusedBy, with_refused}
use Rattle.mi_plan.specs.Made.{with_action}
use Rattle.mi_plan.specs.Lengths.{SegmentsHave, HaveLengths}
use Rattle.mi_plan.specs.Refusals.{EndsRight}
use Rattle.mi_plan.proofs.StepLemmas.{tells, sets_row, row_is}
use Rattle.mi_plan.proofs.StageLemmas.{staged, phase_stands, not_begun, once_more, next_shorter}

-- what walk.next tells, as the loop asks
abbrev pub Begun : Work → Walk → Walk → Step → Type 0
Begun k old new s = seq.Begins k.world.seen.loaded (seen_lookups k.world.seen) k.begun.items old new s

-- ---- what may be planned

no_initialize : (begun : List Name) (w : World) → IsStaged begun w → is_costed begun ≡ false → is_initialized begun ≡ false
no_initialize begun w is isnt = by_test (is_initialized begun) is.order
  where
    by_test : (b : Bool) → (b ≡ true → is_costed begun ≡ true) → b ≡ false
    by_test true f = let here : true ≡ false = sym (f refl) ∙ isnt in cc
    by_test false f = refl

-- the directories that stand, a row for each row of Directory
record There (s : Seen) (rows : Rows) : Type 0 where
  dirs : List Place
  are : dirs_in s ≡ Some dirs
  keys : map (λ (d : Place). d.key) dirs ≡ map (λ (r : DirectoryRow). r.directory) rows.directory

dirs_there : (s : Seen) (rows : Rows) → ArePlaced rows s.known s.placed → IsSome s.placed → There s rows
dirs_there s rows = elim s.placed as (λ o. ArePlaced rows s.known o → IsSome o → There (record s { placed = o }) rows) [
  | None ↦ λ is some. cc
  | Some p ↦ λ is some. record { dirs = p.dirs; are = refl; keys = is.keys }
]

module _ (k : Work) (old new : Walk) (ready : IsReady k old) where
  abbrev L : Lookups
  L = seen_lookups k.world.seen

  abbrev p : Package
  p = k.world.seen.loaded

  may_cost : Begun k old new step.Cost → MayTake step.Cost k.world
  may_cost b =
      let isnt = not_begun L k.begun.items (rest p old) b.row (rest p new) b.next ready.once (sym b.action) in
      (ready.staged.uncosted isnt, ready.staged.unchanged (no_initialize k.begun.items k.world ready.staged isnt))

  may_dir : (action dir : Name) (text : List ℕ) → KeysStand p → ReferencesStand p → Begun k old new (step.SetDir action dir text) → MayTake (step.SetDir action dir text) k.world
  unfolding rows_in
  may_dir action dir text keys references b =
      let it = (tells (rows_in p) L k.begun.items b.row.action (meant (step.SetDir action dir text)) b.does).set dir refl in
      let costed = ready.staged.costed it.costed in
      let there = dirs_there k.world.seen ready.of.0.rows ready.of.1.knows.placed costed.0 in
      let same : map (λ (d : Place). d.key) there.dirs ≡ map (λ (r : DirectoryRow). r.directory) (behind p.directory.entries) =
      there.keys ∙ ap (λ (r : Rows). map (λ (d : DirectoryRow). d.directory) r.directory) (sym ready.of.1.knows.rows) in
      let has = sets_row (rows_in p) L k.begun.items b.row.action dir p.custom_action.entries p.directory.entries refl references.custom_action_source it in
      (costed, subst (λ (o : Option (List Place)). IsSome (option_and_then (λ dirs. row_of dirs dir) o)) (sym there.are) (row_is dir there.dirs p.directory.entries same keys.directory has))

  pub may_take : (s : Step) → KeysStand p → ReferencesStand p → seq.Steps p L k.begun.items old new s → MayTake s k.world
  may_take (step.Plain action) keys references b = tt
  may_take step.Launch keys references b = tt
  may_take step.Cost keys references b = may_cost b
  may_take step.Initialize keys references b = tt
  may_take (step.Phase phase) keys references b = ready.staged.costed (ready.staged.order (phase_stands (rows_in p) L k.begun.items (step.Phase phase) b.row.action b.does b.action refl))
  may_take (step.SetProperty action name text) keys references b = tt
  may_take (step.SetDir action dir text) keys references b = may_dir action dir text keys references b
  may_take (step.Error action text) keys references b = tt
  may_take (step.Execute action) keys references b = tt
  may_take step.Finalize keys references b = tt
  may_take step.End keys references b = tt

  -- ---- a row that was begun

  module _ (volume source : Type 0) (held : Map (List ℕ)) (files : Files) (folder : Name) (j : Work) (s : Step) (t : Turn) (b : Begun k old new s) (d : IsDone volume source held files folder s k j t) where
    same_rest : t ≡ Went → rest j.world.seen.loaded new ≡ rest p new
    same_rest went = ap (λ (q : Package). rest q new) (d.leaves went).loaded

    done_shorter : t ≡ Went → length (rest j.world.seen.loaded new) < length (rest p old)
    done_shorter went = subst (λ n. n < length (rest p old)) (sym (ap length (same_rest went))) (next_shorter L (rest p old) b.row (rest p new) b.next)

    done_ready : t ≡ Went → IsReady j new
    done_ready went =
        let leaves = d.leaves went in
        let named : j.begun.items ≡ k.begun.items ++ b.row.action ∷ [] = d.begun ∙ ap (λ (a : Name). k.begun.items ++ a ∷ []) b.action in
        record {
          right = subst IsRight (sym leaves.loaded) ready.right;
          of = (ready.of.0, leaves.of ready.of.0 ready.of.1);
          staged = subst (λ (ns : List Name). IsStaged ns j.world) (sym named) (staged (rows_in p) L k.begun.items s b.row.action b.does b.action k.world j.world ready.of ready.staged d.former leaves);
          stands = subst (λ (ns : List Name). seq.Stands new ns) (sym named) b.stands;
          once = subst (λ (ns : List Name). costs ns (rest j.world.seen.loaded new) ≤ 1) (sym named)
              (subst (λ (rows : List Row). costs (k.begun.items ++ b.row.action ∷ []) rows ≤ 1) (sym (same_rest went)) (once_more L k.begun.items (rest p old) b.row (rest p new) b.next ready.once));
        }

    module _ (v : volume) (x : source) (g : Given) (so : IsSoFar held files g k old) (there : folder ≡ g.folder) where
      is_next : IsNext files g (rest p old) b.row (rest p new) (world_of held files g k) k.begun.items (planned_of k) k.world.plan.script (meant s)
      is_next =
          let same = looks held files g k.world.seen k.world.plan so.of in
          record {
            walking = so.walking;
            next = ap (λ (M : Lookups). next_row M (rest p old)) (sym same) ∙ b.next;
            does = ap (λ (r : Rows). step_of r (lookups (world_of held files g k)) k.begun.items b.row.action) (sym so.of.knows.rows) ∙ ap (λ (M : Lookups). step_of (rows_in p) M k.begun.items b.row.action) (sym same) ∙ b.does;
          }

      over : IsOver held files g folder k.world
      over = record { of = so.of; former = so.former; there = there; handed = so.handed; contents = so.contents }

      done_turned : IsTurned held files g j new t
      done_turned = by_turn t refl (d.steps v x g (rest p old) b.row (rest p new) over b.action is_next)
        where
          by_turn : (u : Turn) → t ≡ u → IsBegun files g (rest p new) (world_of held files g j) j.begun.items (planned_of j) j.world.plan.script u → IsTurned held files g j new u
          by_turn Went is walking = record {
            of = (d.leaves is).of g so.of;
            former = ap (machine_over held files) d.former ∙ so.former;
            handed = so.handed;
            contents = d.there v x is so.contents;
            walking = subst (λ (rows : List Row). Walking files g rows (world_of held files g j) j.begun.items (planned_of j) j.world.plan.script) (sym (same_rest is)) walking;
          }
          by_turn (Ended why) is planned = planned

  -- ---- where no row is left

  module _ (j : Work) (t : Turn) (e : seq.Ends p L k.begun.items old new) (is : t ≡ Ended None) (same : j ≡ k) where
    over_turned : (held : Map (List ℕ)) (files : Files) (g : Given) → IsSoFar held files g k old → IsTurned held files g j new t
    over_turned held files g so =
        subst (λ (u : Turn). IsTurned held files g j new u) (sym is)
        (subst (λ (i : Work). IsPlan files (walk g) i.begun.items (planned_of i) None) (sym same)
        (next_ends files g (world_of held files g k) k.begun.items (planned_of k) k.world.plan.script (rest p old) so.walking
        (ap (λ (M : Lookups). next_row M (rest p old)) (sym (looks held files g k.world.seen k.world.plan so.of)) ∙ e.none) e.outside))

    over_lengths : (files : Files) → HaveLengths files k Went → HaveLengths files j t
    over_lengths files have = subst (λ (u : Turn). HaveLengths files j u) (sym is) (subst (λ (i : Work). HaveLengths files i (Ended None)) (sym same) have.1)

    over_ends : EndsRight t
    over_ends = subst EndsRight (sym is) tt

    not_went : {P : Type 0} → t ≡ Went → P
    not_went went = let here : Ended None ≡ Went = sym is ∙ went in cc

  -- ---- by the step

  module _ (volume source : Type 0) (held : Map (List ℕ)) (files : Files) (folder : Name) where
    abbrev Told : Work → Step → Turn → Type 0
    Told j s t = (Begun k old new s × IsDone volume source held files folder s k j t) ⊎ (seq.Ends p L k.begun.items old new × (t ≡ Ended None) × (j ≡ k))

    told : (j : Work) (s : Step) (t : Turn) → seq.Steps p L k.begun.items old new s → IsStepped volume source held files folder s k j t → Told j s t
    told j (step.Plain action) t b d = inl (b, d)
    told j step.Launch t b d = inl (b, d)
    told j step.Cost t b d = inl (b, d)
    told j step.Initialize t b d = inl (b, d)
    told j (step.Phase phase) t b d = inl (b, d)
    told j (step.SetProperty action name text) t b d = inl (b, d)
    told j (step.SetDir action dir text) t b d = inl (b, d)
    told j (step.Error action text) t b d = inl (b, d)
    told j (step.Execute action) t b d = inl (b, d)
    told j step.Finalize t b d = inl (b, d)
    told j step.End t b d = inr (b, d.0, d.1)

    module _ (j : Work) (s : Step) (t : Turn) (b : seq.Steps p L k.begun.items old new s) (d : IsStepped volume source held files folder s k j t) where
      pub stepped_turned : volume → source → (g : Given) → folder ≡ g.folder → IsSoFar held files g k old → IsTurned held files g j new t
      stepped_turned v x g there so = elim (told j s t b d) [
        | inl y ↦ done_turned volume source held files folder j s t y.0 y.1 v x g so there
        | inr y ↦ over_turned j t y.0 y.1 y.2 held files g so
      ]

      pub stepped_lengths : source → HaveLengths files k Went → HaveLengths files j t
      stepped_lengths x have = elim (told j s t b d) [ inl y ↦ y.1.lengths x have | inr y ↦ over_lengths j t y.0 y.1 y.2 files have ]

      pub stepped_ends : EndsRight t
      stepped_ends = elim (told j s t b d) [ inl y ↦ y.1.ends | inr y ↦ over_ends j t y.0 y.1 y.2 ]

      pub stepped_ready : t ≡ Went → IsReady j new
      stepped_ready went = elim (told j s t b d) [ inl y ↦ done_ready volume source held files folder j s t y.0 y.1 went | inr y ↦ not_went j t y.0 y.1 y.2 went ]

      pub stepped_shorter : t ≡ Went → length (rest j.world.seen.loaded new) < length (rest p old)
      stepped_shorter went = elim (told j s t b d) [ inl y ↦ done_shorter volume source held files folder j s t y.0 y.1 went | inr y ↦ not_went j t y.0 y.1 y.2 went ]

      pub stepped_former : former_items j.world.plan.overlay ≡ former_items k.world.plan.overlay
      stepped_former = elim (told j s t b d) [ inl y ↦ y.1.former | inr y ↦ ap (λ (i : Work). former_items i.world.plan.overlay) y.2 ]

  -- ---- where it is refused

  pub refused_turned : (j : Work) (action : Option Name) (fault : Fault) → IsRefused p L k.begun.items old action fault → planned_of j ≡ planned_of k → j.begun.items ≡ with_action k.begun.items action
      → (held : Map (List ℕ)) (files : Files) (g : Given) → IsSoFar held files g k old → IsPlan files (walk g) j.begun.items (planned_of j) (Some (Table fault))
  refused_turned j action fault is plans begun held files g so =
      subst (λ (ns : List Name). IsPlan files (walk g) ns (planned_of j) (Some (Table fault))) (sym begun)
      (subst (λ (ps : List Planned). IsPlan files (walk g) (with_action k.begun.items action) ps (Some (Table fault))) (sym plans) (by_action action is))
    where
      same : seen_lookups k.world.seen ≡ lookups (world_of held files g k)
      same = looks held files g k.world.seen k.world.plan so.of

      next_as : (o : Option (Row × List Row)) → next_row (seen_lookups k.world.seen) (rest k.world.seen.loaded old) ≡ o → next_row (lookups (world_of held files g k)) (rest k.world.seen.loaded old) ≡ o
      next_as o e = ap (λ (M : Lookups). next_row M (rest k.world.seen.loaded old)) (sym same) ∙ e

      by_action : (action : Option Name) → IsRefused k.world.seen.loaded (seen_lookups k.world.seen) k.begun.items old action fault → IsPlan files (walk g) (with_action k.begun.items action) (planned_of k) (Some (Table fault))
      by_action (Some action) r =
          subst (λ (a : Name). IsPlan files (walk g) (k.begun.items ++ a ∷ []) (planned_of k) (Some (Table fault))) (sym r.named)
          (next_refused files g (world_of held files g k) k.begun.items (planned_of k) k.world.plan.script (rest k.world.seen.loaded old) r.row r.behind fault so.walking (next_as (Some (r.row, r.behind)) r.next)
          (ap (λ (rs : Rows). step_of rs (lookups (world_of held files g k)) k.begun.items r.row.action) (sym so.of.knows.rows)
          ∙ ap (λ (M : Lookups). step_of (rows_in k.world.seen.loaded) M k.begun.items r.row.action) (sym same) ∙ r.does))
      by_action None r =
          subst (λ (f : Fault). IsPlan files (walk g) k.begun.items (planned_of k) (Some (Table f))) (sym r.is)
          (next_unfinished files g (world_of held files g k) k.begun.items (planned_of k) k.world.plan.script (rest k.world.seen.loaded old) so.walking (next_as None r.none) r.inside)

-- ---- by the answer

pub ok_map : {A E : Type 0} (P Q : A → Type 0) (r : Result A E) → ((x : A) → P x → Q x) → IfOk r P → IfOk r Q
ok_map P Q (Ok x) f h = f x h
ok_map P Q (Err e) f h = tt

pub ok_on : {A E X : Type 0} (P : A → Type 0) (r : Result A E) → ((x : A) → P x → X) → IfOk r P → OnOk r X
ok_on P (Ok x) f h = f x h
ok_on P (Err e) f h = tt

went_not : {P : Type 0} (t : Turn) (why : Option Cause) → t ≡ Ended why → t ≡ Went → P
went_not t why is went = let here : Ended why ≡ Went = sym is ∙ went in cc

pub refused_ends : {E : Type 0} (P : Turn → Type 0) (error : SeqError) (r : Result Turn E) → IfOk r (IsRefusedBy error) → IfOk r (λ t. t ≡ Went → P t)
refused_ends P (error.Refused action fault) (Ok t) is = λ went. went_not t (Some (Table fault)) is went
refused_ends P error.NoMemory (Ok t) is = absurd is
refused_ends P error (Err e) is = tt

pub refused_result : {E : Type 0} (k : Work) (old new : Walk) (ready : IsReady k old) (j : Work) (e : SeqError) (r : Result Turn E)
    → seq.IfRefused (Err e) (λ action fault. (begun : List Name) → seq.Stands old begun → IsRefused k.world.seen.loaded (seen_lookups k.world.seen) begun old action fault)
    → IfOk r (IsRefusedBy e) → planned_of j ≡ planned_of k → OnOk r (j.begun.items ≡ with_refused k.begun.items e)
    → (held : Map (List ℕ)) (files : Files) (g : Given) → IsSoFar held files g k old → IfOk r (IsTurned held files g j new)
refused_result k old new ready j (error.Refused action fault) (Ok t) is ended plans begun held files g so =
    subst (λ (u : Turn). IsTurned held files g j new u) (sym ended) (refused_turned k old new ready j action fault (is k.begun.items ready.stands) plans begun held files g so)
refused_result k old new ready j error.NoMemory (Ok t) is ended plans begun held files g so = absurd ended
refused_result k old new ready j e (Err x) is ended plans begun held files g so = tt

-- where a walk is refused its segments stay
pub refused_lengths : {E : Type 0} (files : Files) (k j : Work) (e : SeqError) (r : Result Turn E) → IfOk r (IsRefusedBy e) → j.segments ≡ k.segments → HaveLengths files k Went → IfOk r (HaveLengths files j)
refused_lengths files k j e (Ok t) ended same have = by_error e ended
  where
    segments : SegmentsHave files j.segments.items
    segments = subst (λ (v : Vec Segment Global). SegmentsHave files v.items) (sym same) have.1

    by_error : (e : SeqError) → IsRefusedBy e t → HaveLengths files j t
    by_error (error.Refused action fault) ended = subst (λ (u : Turn). HaveLengths files j u) (sym ended) segments
    by_error error.NoMemory ended = absurd ended
refused_lengths files k j e (Err x) ended same have = tt

pub refused_right : {E : Type 0} (e : SeqError) (r : Result Turn E) → IfOk r (IsRefusedBy e) → IfOk r EndsRight
refused_right (error.Refused action fault) (Ok t) ended = subst EndsRight (sym ended) tt
refused_right error.NoMemory (Ok t) ended = absurd ended
refused_right e (Err x) ended = tt

-- the same walk over what the devices hold still
pub over_same : (held held' files files' : Map (List ℕ)) (g : Given) (k j : Work) (old new : Walk) (t : Turn) → held' ≡ held → files' ≡ files
    → (IsSoFar held' files' g k old → IsTurned held' files' g j new t) → IsSoFar held files g k old → IsTurned held files g j new t
over_same held held' files files' g k j old new t same_held same_files turned =
    subst (λ (h : Map (List ℕ)). IsSoFar h files g k old → IsTurned h files g j new t) same_held (subst (λ (f : Map (List ℕ)). IsSoFar held' f g k old → IsTurned held' f g j new t) same_files turned)

pub lengths_same : (files files' : Files) (k j : Work) (t : Turn) → files' ≡ files → (HaveLengths files' k Went → HaveLengths files' j t) → HaveLengths files k Went → HaveLengths files j t
lengths_same files files' k j t same f = subst (λ (x : Files). HaveLengths x k Went → HaveLengths x j t) same f
