use Rattle.std.proofs.Common.{◌≡◌, [], refl, sym, subst, ◌∙◌}
use Rattle.std.proofs.lemmas.List.{take_all}
use Rattle.std.proofs.lemmas.List.Elements.{All-more}
use Rattle.mi_model.specs.Plans.{Planned}
use Rattle.mi_carry.specs.Segments.{HaveNoRecord}
use Rattle.mi_carry.proofs.IdleLemmas.{is_none}
use Rattle.mi_carry.proofs.carried.have_no_record.Goals as goal

pub loop-part-preserved : goal.loop-part-preserved
loop-part-preserved c =
    let P : Planned → Type 0 = λ s. s.records ≡ [] in
    All-more P c.args.parts.now c.loop-part.part-index c.part-item.result c.loop-part-test.true c.loop-part.invariant
    (subst P c.part-item.is (is_none c.part-item.result.records (sym c.is_empty.ensures ∙ c.if-not-is_empty.false)))

pub returns : goal.returns
returns c = (λ is. subst HaveNoRecord (take_all c.loop-part.part-index c.args.parts.now c.loop-part-test.false) c.loop-part.invariant, λ none. refl)
