use Rattle.mi_format.proofs.NameLemmas.{bracket_kept}
use Rattle.mi_format.proofs.part.Kept.with_text.Goals as goal

pub returns : goal.returns
returns c = λ q x e f. bracket_kept c.args.most c.args.self c.args.inside.now c.in_ok-text.text q x e f c.in_ok-text.ensures
