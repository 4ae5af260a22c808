-- The clients and the product of a walk that isn't refused, row by row.
use Rattle.std.proofs.Common.{◌≡◌, inl, true, false, List, [], ◌∷◌, ◌++◌, Option, None, Ok, refl, sym, subst}
use Rattle.std.specs.Prelude.{codes, IsSome}
use Rattle.mi_text.specs.Maps.{is_among}
use Rattle.mi_text.proofs.MapLemmas.{from_same}
use Rattle.mi_base.specs.Machine.{Machine}
use Rattle.mi_schema.specs.declared.typed_rows.InstallExecuteSequenceRow.{InstallExecuteSequenceRow}
use Rattle.mi_model.specs.World.{Given, World, Effect, Selection}
use Rattle.mi_model.specs.ComponentRows.{choice_of}
use Rattle.mi_model.specs.PhaseRows.{Touches, after_rows, phase_rows}
use Rattle.mi_model.specs.ProcessComponents.{process_components}
use Rattle.mi_model.specs.PublishProduct.{publish_product}
use Rattle.mi_model.specs.Properties.{started, resolved, placed, cost}
use Rattle.mi_model.specs.Refusals.{◌>>=◌}
use Rattle.mi_model.specs.Selecting.{select}
use Rattle.mi_model_laws.proofs.RowLemmas.{from_ok, bound}
use Rattle.mi_model.specs.Sequence.{is_costed, is_inside}
use Rattle.mi_model.specs.Walk.{Walked, at_start, walked_row}
use Rattle.mi_model_laws.specs.PhaseLaws.{IsAfter}
use Rattle.mi_model_laws.proofs.WalkLemmas.{cost_keeps}
use Rattle.mi_laws.specs.Walks.{HasSelected}
use Rattle.mi_laws.proofs.TidyLemmas.{IsTidy}
use Rattle.mi_laws.proofs.UnrefusedLemmas.{IsNext}
use Rattle.mi_laws.proofs.StepKindLemmas.{IsOuter, phase_named}
use Rattle.mi_laws.proofs.StepLemmas.{Steps, Passed, Idle, Costs, Moves, Ran, Ended, row_steps}
use Rattle.mi_laws.proofs.SoundLemmas.{IsSound, sound_row, IsDone, at_the_end}
use Rattle.mi_model.specs.States.{named}
use Rattle.mi_laws.proofs.ClientPhaseLemmas.{processing, PhaseIs, Other, Processes, Publishes, phase_kinds}
use Rattle.mi_laws.proofs.SeenLemmas.{IsSeen, opened, kept, costs, ran_other, ran_processing, ran_publishing}

cost_chooses : (w u : World) → cost w ≡ Ok u → IsSome (choice_of u)
unfolding cost
cost_chooses w u e =
    let dirs = bound (resolved w.given w.props) (λ dirs. select w.given w.props dirs >>= λ choice. Ok (placed dirs choice w)) u e in
    let choice = bound (select w.given w.props dirs.value) (λ choice. Ok (placed dirs.value choice w)) u dirs.rest in
    subst (λ (v : World). IsSome (choice_of v)) (from_ok (placed dirs.value choice.value w) u choice.rest) refl

module _ (g : Given) (tidy : IsTidy g) where
  pub record IsWalked (w : Walked) : Type 0 where
    pub sound : IsSound g w
    pub seen : IsSeen g w.begun (choice_of w.world) w.world.machine

  seen_row : (w : Walked) (r : InstallExecuteSequenceRow) → IsNext g w r → w.refusal ≡ None → IsSound g w → IsSeen g w.begun (choice_of w.world) w.world.machine → (walked_row w r).refusal ≡ None
      → IsSeen g (walked_row w r).begun (choice_of (walked_row w r).world) (walked_row w r).world.machine
  seen_row w r next none sound s unrefused = by (walked_row w r) (row_steps w r none unrefused)
    where
      opens : IsOuter w.begun r.action → is_inside (w.begun ++ r.action ∷ []) ≡ true → is_costed w.begun ≡ true
      opens outer is = opened g w.begun r.action s.inside outer.opens is

      on : (effect : Effect) (rows : List Touches) → is_inside w.begun ≡ true → phase_rows effect w.world ≡ Ok rows → PhaseIs r.action effect → IsSeen g (w.begun ++ r.action ∷ []) (choice_of w.world) (after_rows w.world.machine rows)
      on effect rows inside touched (Other not_c not_p clients products) =
          let after : IsAfter effect w.world (after_rows w.world.machine rows) = record { rows = rows; touched = touched; machine = refl } in
          ran_other g w.begun r.action (choice_of w.world) w.world.machine (after_rows w.world.machine rows) inside not_c not_p (clients w.world _ after) (products w.world _ after) s
      on effect rows inside touched (Processes named not_p products is) =
          let after : IsAfter process_components w.world (after_rows w.world.machine rows) = record { rows = rows; touched = subst (λ e. phase_rows e w.world ≡ Ok rows) is touched; machine = refl } in
          subst (λ (h : Given). IsSeen h (w.begun ++ r.action ∷ []) (choice_of w.world) (after_rows w.world.machine rows)) sound.given
          (ran_processing w.world w.begun r.action (after_rows w.world.machine rows) (subst IsTidy (sym sound.given) tidy) (subst (λ (h : Given). HasSelected h w.world) (sym sound.given) sound.selected) inside named not_p
          (subst (λ n. is_among n w.begun ≡ false) (sym (from_same processing r.action named)) (tidy.fresh w r next none)) after
          (products w.world _ (record { rows = rows; touched = touched; machine = refl })) (subst (λ (h : Given). IsSeen h w.begun (choice_of w.world) w.world.machine) (sym sound.given) s))
      on effect rows inside touched (Publishes named not_c clients is) =
          let after : IsAfter publish_product w.world (after_rows w.world.machine rows) = record { rows = rows; touched = subst (λ e. phase_rows e w.world ≡ Ok rows) is touched; machine = refl } in
          subst (λ (h : Given). IsSeen h (w.begun ++ r.action ∷ []) (choice_of w.world) (after_rows w.world.machine rows)) sound.given
          (ran_publishing w.world w.begun r.action (after_rows w.world.machine rows) inside named not_c after
          (clients w.world _ (record { rows = rows; touched = touched; machine = refl })) (subst (λ (h : Given). IsSeen h w.begun (choice_of w.world) w.world.machine) (sym sound.given) s))

      by : (v : Walked) → Steps w r.action v → IsSeen g v.begun (choice_of v.world) v.world.machine
      by v (Passed is) = subst (λ (v : Walked). IsSeen g v.begun (choice_of v.world) v.world.machine) (sym is) s
      by v (Idle outer no_cost is) = subst (λ (v : Walked). IsSeen g v.begun (choice_of v.world) v.world.machine) (sym is) (kept g w.begun r.action (choice_of w.world) w.world.machine (opens outer) no_cost outer.no_phase s)
      by v (Costs outer named u costing is) =
          subst (λ (v : Walked). IsSeen g v.begun (choice_of v.world) v.world.machine) (sym is)
          (subst (λ (m : Machine). IsSeen g (w.begun ++ r.action ∷ []) (choice_of u) m) (sym (cost_keeps w.world u costing).machine)
          (costs g w.begun r.action (choice_of w.world) (choice_of u) w.world.machine (cost_chooses w.world u costing) (subst (λ n. is_among n w.begun ≡ false) (from_same r.action (codes "CostFinalize") named) (tidy.fresh w r next none)) named outer.no_phase (opens outer) s))
      by v (Moves outer no_cost u keeps is) =
          subst (λ (v : Walked). IsSeen g v.begun (choice_of v.world) v.world.machine) (sym is)
          (subst (λ (m : Machine). IsSeen g (w.begun ++ r.action ∷ []) (choice_of u) m) (sym keeps.machine)
          (subst (λ (o : Option Selection). IsSeen g (w.begun ++ r.action ∷ []) o w.world.machine) (sym keeps.choice)
          (kept g w.begun r.action (choice_of w.world) w.world.machine (opens outer) no_cost outer.no_phase s)))
      by v (Ran effect phase rows touched inside is) = subst (λ (v : Walked). IsSeen g v.begun (choice_of v.world) v.world.machine) (sym is) (on effect rows inside touched (phase_named PhaseIs phase_kinds r.action effect phase))
      by v (Ended inside no_cost no_phase is) = subst (λ (v : Walked). IsSeen g v.begun (choice_of v.world) v.world.machine) (sym is) (kept g w.begun r.action (choice_of w.world) w.world.machine (λ later. s.inside inside) no_cost no_phase s)

  walked_by_row : (w : Walked) (r : InstallExecuteSequenceRow) → IsNext g w r → w.refusal ≡ None → IsWalked w → (walked_row w r).refusal ≡ None → IsWalked (walked_row w r)
  walked_by_row w r next none i unrefused = record { sound = sound_row g w r next none i.sound unrefused; seen = seen_row w r next none i.sound i.seen unrefused }

  seen_start : IsSeen g [] None g.former
  seen_start = record {
    costed = λ is. cc;
    inside = λ is. cc;
    processed_costed = λ is. cc;
    published_costed = λ is. cc;
    others = λ q b own system. refl;
    products = λ q b other. refl;
    unprocessed = λ isnt q b. refl;
    unpublished = λ isnt q b. refl;
    own = λ q b system. inl refl;
    gone = λ is. cc;
    absent = λ is. cc;
    taken = λ is. cc;
    still = λ is. cc;
    published = λ is. cc;
  }

  walked_start : IsWalked (at_start g)
  unfolding at_start started
  walked_start = record { sound = record { given = refl; selected = tt; closed = λ out. refl }; seen = seen_start }

  pub walked_end : (w : Walked) → IsDone g w → IsWalked w
  walked_end w done = at_the_end g IsWalked walked_by_row w walked_start done
