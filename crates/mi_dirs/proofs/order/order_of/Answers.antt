use Rattle.std.proofs.Common.{◌≡◌, ℕ, eqb, Bool, List, length, Option, Some, sym, subst, arith, inl, inr}
use Rattle.std.specs.Prelude.{MatchOption, Contains, Vec, None}
use Rattle.std.specs.declared.alloc.Global.{Global}
use Rattle.std.proofs.lemmas.Bool.{cases_Bool, eqb-true}
use Rattle.mi_dirs.specs.Order.{parent_in}
use Rattle.mi_dirs.specs.Paths.{IsWayUp}
use Rattle.mi_dirs.proofs.PathLemmas.{first_is_placed, apart}
use Rattle.mi_dirs.proofs.order.order_of.Goals as goal

-- the way that a call found
way_of : (parent : ℕ → Option ℕ) (n : ℕ) (first : Option ℕ) (seen placed : List Bool) (o : Option (Vec ℕ Global)) (path : Vec ℕ Global) (P : Type 0) → o ≡ Some path → seen ≡ placed
    → MatchOption o P (λ path. IsWayUp parent n seen first path.items) → IsWayUp parent n placed first path.items
way_of parent n first seen placed None path P is same h = absurd cc
way_of parent n first seen placed (Some v) path P is same h =
    let here : v ≡ path = cc in
    subst (λ (b : List Bool). IsWayUp parent n b first path.items) same (subst (λ (w : Vec ℕ Global). IsWayUp parent n seen first w.items) here h)

pub place-requires-clause-way : goal.place-requires-clause-way
place-requires-clause-way c = (Some c.loop-row.row, way_of (parent_in c.args.parents.now) (length c.args.parents.now) (Some c.loop-row.row) c.deref.result.now c.loop-row.placing.placed.items c.in_ok-path.field-0 c.in-Some.path _ c.in-Some.is c.deref.ensures.value c.in_ok-path.ensures)

pub loop-row-preserved : goal.loop-row-preserved
loop-row-preserved c = (
  c.in_ok-placing.ensures.placed,
  λ r lt.
      elim (cases_Bool (eqb r c.loop-row.row)) [
        | inl e ↦ subst (λ (q : ℕ). Contains c.in_ok-placing.placing.order.items q) (sym (eqb-true r c.loop-row.row e))
            (first_is_placed (parent_in c.args.parents.now) (length c.args.parents.now) c.loop-row.row c.loop-row.placing c.in_ok-placing.placing c.in-Some.path.items c.loop-row.invariant.0 (way_of (parent_in c.args.parents.now) (length c.args.parents.now) (Some c.loop-row.row) c.deref.result.now c.loop-row.placing.placed.items c.in_ok-path.field-0 c.in-Some.path _ c.in-Some.is c.deref.ensures.value c.in_ok-path.ensures) c.in_ok-placing.ensures.more)
        | inr e ↦ c.in_ok-placing.ensures.more.kept r (c.loop-row.invariant.1 r (apart r c.loop-row.row (omega arith) e))
      ],
)
