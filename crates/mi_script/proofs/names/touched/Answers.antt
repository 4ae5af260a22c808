use Rattle.std.proofs.Common.{rules, ◌≡◌, List, ℕ, map, sym, subst, ◌∙◌}
use Rattle.std.specs.BTreeSet.{contains}
use Rattle.std.proofs.lemmas.Map.Iter.{iter_end}
use Rattle.std.proofs.lemmas.List.{map-id}
use Rattle.mi_text.specs.Maps.{Name, name_cmp, is_among}
use Rattle.mi_script.specs.declared.rec.Rec.{Rec}
use Rattle.mi_script.specs.Scripts.{name_at}
use Rattle.mi_script.proofs.TouchedLemmas.{set_gives}
use Rattle.mi_script.proofs.names.touched.Goals as goal

pub returns : goal.returns
returns c =
    let names = c.in_ok-name-items.name-items in
    let gives = c.into_iter-name-iterator.ensures.into_iter_gives in
    let all = iter_end (λ (n : Name). n) names.keys c.loop-name.yielded c.into_iter-name-iterator.result c.loop-name.name-iterator c.next.new.self c.next.result gives.0 c.loop-name.yielded_by c.in-None.is c.next.ensures.steps in
    c.loop-name.invariant ∙ sym (map-id c.loop-name.yielded) ∙ all.0
    ∙ set_gives names c.args.script.now gives.4 (subst (λ (recs : List Rec). (q : List ℕ) → contains name_cmp names q ≡ is_among q (map name_at recs)) c.recs.ensures c.in_ok-name-items.ensures)

pub loop-name-preserved : goal.loop-name-preserved
loop-name-preserved c = search rules
