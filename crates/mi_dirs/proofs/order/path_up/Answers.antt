use Rattle.std.proofs.Common.{◌≡◌, ℕ, suc, ◌<◌, length, Option, Some, None, List, false, sym, ap, subst, ◌∙◌, arith, ◌∷◌, [], ◌++◌, get_or, inl, inr}
use Rattle.std.specs.Prelude.{IfSome, Contains, slice_get}
use Rattle.std.proofs.lemmas.Option.{slice_get-get_or}
use Rattle.std.proofs.lemmas.List.Elements.{Contains-push_cases}
use Rattle.mi_dirs.specs.Order.{parent_in}
use Rattle.mi_dirs.specs.Paths.{LeadsTo, AllBelow}
use Rattle.mi_dirs.proofs.PathLemmas.{too_long, leads-push, below-push, if_below, parent_is}
use Rattle.mi_dirs.proofs.order.path_up.Goals as goal
use Rattle.mi_dirs.proofs.order.path_up.Goals.{in-Some+then-placed-next, in_default}

pub returns-then-len-parents : goal.returns-then-len-parents
returns-then-len-parents c =
    let parent = parent_in c.args.parents.now in
    let leads : LeadsTo parent c.loop-at.path.items (Some c.args.row) (Some c.in-Some.next) = subst (LeadsTo parent c.loop-at.path.items (Some c.args.row)) c.in-Some.is c.loop-at.invariant.0 in
    too_long parent c.loop-at.path.items c.args.row c.in-Some.next (suc (length c.args.parents.now)) leads (omega (arith, c.loop-at.path.ok, c.loop-at.invariant.3, c.if-len-parents.true, c.len.ensures))

pub loop-at-preserved : goal.loop-at-preserved
loop-at-preserved c =
    let parents = c.args.parents.now in
    let parent = parent_in parents in
    let next = c.in-Some.next in
    let lt : next < length parents = subst (λ (o : Option ℕ). IfSome o (λ r. r < length parents)) c.in-Some.is c.loop-at.invariant.2 in
    let leads : LeadsTo parent c.loop-at.path.items (Some c.args.row) (Some next) = subst (LeadsTo parent c.loop-at.path.items (Some c.args.row)) c.in-Some.is c.loop-at.invariant.0 in
    let up : parent next ≡ get_or parents next None = parent_is parents next lt in (
      subst (λ (p : List ℕ). LeadsTo parent p (Some c.args.row) (get_or parents next None)) (sym c.in_ok-push.ensures.items) (subst (LeadsTo parent (c.loop-at.path.items ++ next ∷ []) (Some c.args.row)) up (leads-push parent c.loop-at.path.items (Some c.args.row) next leads)),
      subst (AllBelow (length parents)) (sym c.in_ok-push.ensures.items) (below-push (length parents) c.loop-at.path.items next c.loop-at.invariant.1 lt),
      if_below (get_or parents next None) (length parents) (λ p e. c.requires.rows next p (up ∙ e)),
      omega (arith, c.in_ok-push.ensures.len, c.if-len-parents.false, c.len.ensures),
      λ r in_path. elim (Contains-push_cases c.loop-at.path.items next r (subst (λ (p : List ℕ). Contains p r) c.in_ok-push.ensures.items in_path)) [
        | inl old ↦ c.loop-at.invariant.4 r old
        | inr this ↦ ap (slice_get c.args.placed.now) (sym this) ∙ slice_get-get_or c.args.placed.now next false (omega (arith, c.requires.size)) ∙ ap Some c.if-placed-next.false
      ],
    )

pub returns : goal.returns
returns c =
    let parents = c.args.parents.now in
    let parent = parent_in parents in
    elim c.match-at.branch [
      | in-Some+then-placed-next w ↦
          let next = w.in-Some.next in
          let lt : next < length parents = subst (λ (o : Option ℕ). IfSome o (λ r. r < length parents)) w.in-Some.is c.loop-at.invariant.2 in
          record {
            last = Some next;
            leads = subst (LeadsTo parent c.loop-at.path.items (Some c.args.row)) w.in-Some.is c.loop-at.invariant.0;
            below = c.loop-at.invariant.1;
            unplaced = c.loop-at.invariant.4;
            placed_last = slice_get-get_or c.args.placed.now next false (omega (arith, c.requires.size)) ∙ ap Some w.if-placed-next.true;
          }
      | in_default w ↦ record {
        last = None;
        leads = subst (LeadsTo parent c.loop-at.path.items (Some c.args.row)) w.in_default.is c.loop-at.invariant.0;
        below = c.loop-at.invariant.1;
        unplaced = c.loop-at.invariant.4;
        placed_last = tt;
      }
    ]
