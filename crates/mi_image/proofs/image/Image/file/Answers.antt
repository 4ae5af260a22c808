use Rattle.std.proofs.Common.{Some, ap, sym, ◌∙◌}
use Rattle.std.specs.Prelude.{option_map}
use Rattle.std.specs.Option.{option_copied}
use Rattle.mi_base.specs.Names.{file_name}
use Rattle.mi_image.specs.declared.item.Item.{Item}
use Rattle.mi_base.specs.Spelling.{head_of}
use Rattle.mi_image.specs.Lookups.{head_in}
use Rattle.mi_image.proofs.LookupLemmas.{file_over, no_file_over, nothing_over}
use Rattle.mi_image.proofs.image.Image.file.Goals as goal

pub returns-in_err-head-clause-value : goal.returns-in_err-head-clause-value
returns-in_err-head-clause-value c held files there =
    let q = file_name c.args.path.now in
    ap option_copied c.from_residual.ensures ∙ ap (option_map head_of) (sym (nothing_over held files c.args.self.now q (sym (c.in_err-head.ensures.value q c.file_name.ensures))))

pub returns-in-Head-clause-value : goal.returns-in-Head-clause-value
returns-in-Head-clause-value c held files there =
    let q = file_name c.args.path.now in
    file_over held files c.args.self.now q c.in-Head.head c.in-Head.field-1 (sym (c.in_ok-head.ensures.value q c.file_name.ensures) ∙ ap (λ (i : Item). Some i) c.in-Head.is) there

pub returns-in-Whole-clause-value : goal.returns-in-Whole-clause-value
returns-in-Whole-clause-value c held files there =
    let q = file_name c.args.path.now in
    ap (option_map head_of) (sym (no_file_over held files c.args.self.now q c.in-Whole.field-0 c.at.ensures.right (sym (c.in_ok-head.ensures.value q c.file_name.ensures) ∙ ap (λ (i : Item). Some i) c.in-Whole.is)))

pub returns-in_err-head-clause-head : goal.returns-in_err-head-clause-head
returns-in_err-head-clause-head c = let q = file_name c.args.path.now in ap option_copied c.from_residual.ensures ∙ ap head_in (c.in_err-head.ensures.value q c.file_name.ensures)

pub returns-in-Head-clause-head : goal.returns-in-Head-clause-head
returns-in-Head-clause-head c = let q = file_name c.args.path.now in ap head_in (sym (sym (c.in_ok-head.ensures.value q c.file_name.ensures) ∙ ap (λ (i : Item). Some i) c.in-Head.is))

pub returns-in-Whole-clause-head : goal.returns-in-Whole-clause-head
returns-in-Whole-clause-head c = let q = file_name c.args.path.now in ap head_in (sym (sym (c.in_ok-head.ensures.value q c.file_name.ensures) ∙ ap (λ (i : Item). Some i) c.in-Whole.is))
