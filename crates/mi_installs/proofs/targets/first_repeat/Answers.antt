-- What an earlier row is found by its path.
use Rattle.std.proofs.Common.{◌≡◌, map, take, Some, None, sym, ap, subst, ◌∙◌}
use Rattle.std.specs.Prelude.{find, option_map}
use Rattle.std.specs.BTreeMap.{get_by}
use Rattle.mi_text.specs.Maps.{Name, name_cmp}
use Rattle.mi_text.specs.Fold.{folded}
use Rattle.mi_text.proofs.MapLemmas.{from_same}
use Rattle.mi_installs.specs.Placings.{as_placed}
use Rattle.mi_installs.proofs.TargetLemmas.{has_path, row_in, now_of, inserted, repeats, goes_on, held_with}
use Rattle.mi_installs.proofs.targets.first_repeat.Goals as goal

pub returns-in-Some : goal.returns-in-Some
returns-in-Some c =
    let k = c.loop-placed.placed-index in
    let rows = c.args.rows.now in
    let p = c.placed-item.result in
    let at : c.in_ok-path.path ≡ folded p.path = c.in_ok-path.ensures ∙ ap folded c.as_str.ensures.text in
    let found : option_map row_in (find (has_path c.in_ok-path.path) (map as_placed (take k rows))) ≡ Some c.in-Some.first.now.now = sym (ap now_of c.in-Some.ensures.value ∙ c.loop-placed.invariant.held c.in_ok-path.path) in
    sym c.loop-placed.invariant.rest
    ∙ repeats rows k p c.loop-placed-test.true c.placed-item.is c.in-Some.first.now (subst (λ (q : Name). option_map row_in (find (has_path q) (map as_placed (take k rows))) ≡ Some c.in-Some.first.now.now) at found)

pub loop-placed-preserved : goal.loop-placed-preserved
loop-placed-preserved c =
    let k = c.loop-placed.placed-index in
    let rows = c.args.rows.now in
    let p = c.placed-item.result in
    let path = c.in_ok-path.path in
    let at : path ≡ folded p.path = c.in_ok-path.ensures ∙ ap folded c.as_str.ensures.text in
    let none : option_map row_in (find (has_path path) (map as_placed (take k rows))) ≡ None = sym (ap now_of c.in_default.ensures.value ∙ c.loop-placed.invariant.held path) in
    record {
      held = λ q. held_with q rows k p path (now_of (get_by (name_cmp q) c.loop-placed.seen)) (now_of (get_by (name_cmp q) c.insert.new.self)) c.loop-placed-test.true c.placed-item.is at
          (λ n same. ap (λ (x : Name). option_map row_in (find (has_path x) (map as_placed (take k rows)))) (from_same n path same) ∙ none)
          (c.loop-placed.invariant.held q)
          (ap now_of (c.in_ok-insert.ensures.updates.0 q) ∙ inserted q path p.row (get_by (name_cmp q) c.loop-placed.seen));
      rest = goes_on rows k p c.loop-placed-test.true c.placed-item.is (subst (λ (q : Name). option_map row_in (find (has_path q) (map as_placed (take k rows))) ≡ None) at none) ∙ c.loop-placed.invariant.rest;
    }
