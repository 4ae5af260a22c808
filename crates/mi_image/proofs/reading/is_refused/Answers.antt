use Rattle.std.proofs.Common.{◌≡◌, ℕ, true, false, eqb, Some, None, sym, ap, ◌∙◌, arith, eq-eqb}
use Rattle.std.specs.Prelude.{not}
use Rattle.std.specs.FinMap.{get}
use Rattle.mi_volume.specs.Maps.{bytes_or_none}
use Rattle.mi_image.proofs.ReadLemmas.{no_record}
use Rattle.mi_image.proofs.StatedLemmas.{length_refuses}
use Rattle.mi_image.proofs.reading.is_refused.Goals as goal

pub returns-then-is_shown_alone-clause-refused : goal.returns-then-is_shown_alone-clause-refused
returns-then-is_shown_alone-clause-refused g c told long refused =
    let whole = bytes_or_none (get (g.V.Volume.state c.args.vol.now).held c.args.name.now) in
    no_record c.args.name.now whole (omega (arith, c.if-size-gt-SHOWN_LIMIT.true, long)) (sym c.is_shown_alone.ensures ∙ c.if-is_shown_alone.true)

differ : (a b : ℕ) → not (eqb a b) ≡ true → Some a ≡ Some b → ⊥
differ a b unlike is =
    let same : a ≡ b = cc in
    let clash : false ≡ true = sym (ap not (eq-eqb a b same)) ∙ unlike in
    cc

pub returns-in-Some-clause-refused : goal.returns-in-Some-clause-refused
returns-in-Some-clause-refused g c told long refused =
    let whole = bytes_or_none (get (g.V.Volume.state c.args.vol.now).held c.args.name.now) in
    length_refuses c.args.name.now whole c.args.size (Some c.in-Some.stated) c.requires.other long (sym c.in-Some.is ∙ c.in_ok-stated.ensures.value told long) (differ c.in-Some.stated c.args.size refused)

pub returns-in-None-clause-refused : goal.returns-in-None-clause-refused
returns-in-None-clause-refused g c told long refused =
    let whole = bytes_or_none (get (g.V.Volume.state c.args.vol.now).held c.args.name.now) in
    length_refuses c.args.name.now whole c.args.size None c.requires.other long (sym c.in-None.is ∙ c.in_ok-stated.ensures.value told long) (λ is. let clash : None ≡ Some c.args.size = is in cc)
