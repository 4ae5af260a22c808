use Rattle.std.proofs.Common.{Some, ap, sym, ◌∙◌}
use Rattle.std.specs.Prelude.{option_map}
use Rattle.std.specs.Option.{option_copied}
use Rattle.mi_base.specs.Names.{file_name}
use Rattle.mi_image.specs.declared.item.Item.{Item}
use Rattle.mi_base.specs.declared.entry.FileEntry.{FileEntry}
use Rattle.mi_image.specs.Items.{content_bytes}
use Rattle.mi_image.proofs.LookupLemmas.{content_over, no_file_over, nothing_over}
use Rattle.mi_image.proofs.image.Image.content.Goals as goal

pub returns-in_err-content : goal.returns-in_err-content
returns-in_err-content c held files =
    let q = file_name c.args.path.now in
    ap (λ o. option_map (content_bytes held files q) (option_copied o)) c.from_residual.ensures ∙ ap (option_map (λ (f : FileEntry). f.bytes)) (sym (nothing_over held files c.args.self.now q (sym (c.in_err-content.ensures.value q c.file_name.ensures))))

pub returns-in-Head : goal.returns-in-Head
returns-in-Head c held files =
    let q = file_name c.args.path.now in
    content_over held files c.args.self.now q c.in-Head.field-0 c.in-Head.content c.at.ensures.right (sym (c.in_ok-content.ensures.value q c.file_name.ensures) ∙ ap (λ (i : Item). Some i) c.in-Head.is)

pub returns-in-Whole : goal.returns-in-Whole
returns-in-Whole c held files =
    let q = file_name c.args.path.now in
    ap (option_map (λ (f : FileEntry). f.bytes)) (sym (no_file_over held files c.args.self.now q c.in-Whole.field-0 c.at.ensures.right (sym (c.in_ok-content.ensures.value q c.file_name.ensures) ∙ ap (λ (i : Item). Some i) c.in-Whole.is)))
