-- Written out, so that an edit that turns it is refused at once (docs/CONTRIBUTING.md).
use Rattle.std.proofs.Common.{◌∙◌}
use Rattle.std.specs.Str.{bytes_eq}
use Rattle.mi_print_looks.proofs.LookLemmas.{one_alone}
use Rattle.mi_print_looks.proofs.waiting.is_open.Goals as goal

pub returns : goal.returns
returns c = c.eq.ensures ∙ (λ i. bytes_eq c.args.bytes.now (c.as_slice.ensures i)) ∙ one_alone c.args.bytes.now
