-- A head is a file's, and nothing else is.
use Rattle.std.proofs.Common.{◌≡◌, Some, ap, sym, ◌∙◌}
use Rattle.std.specs.FinMap.{get}
use Rattle.std.specs.Prelude.{option_map}
use Rattle.mi_base.specs.Spelling.{head_of}
use Rattle.mi_image.specs.declared.item.Item.{Item}
use Rattle.mi_image.specs.declared.item.Item.TheVariants.{Head, Whole}
use Rattle.mi_image.proofs.LookupLemmas.{file_over}
use Rattle.mi_files.proofs.CopyLemmas.{no_file, none_at}
use Rattle.mi_files.proofs.duplicate.head_at.Goals as goal

pub returns-in-Some-Head-clause-file : goal.returns-in-Some-Head-clause-file
returns-in-Some-Head-clause-file c = λ held files there.
    let at : get c.args.image.now c.args.name.now ≡ Some (Head c.in-Some-Head.head c.in-Some-Head.field-0-1) = ap (get c.args.image.now) (sym c.as_str.ensures.text) ∙ sym c.in-Some-Head.ensures.value ∙ ap (λ (i : Item). Some i) c.in-Some-Head.field-0-is in
    file_over held files c.args.image.now c.args.name.now c.in-Some-Head.head c.in-Some-Head.field-0-1 at there

pub returns-in-Some-Head-clause-fits : goal.returns-in-Some-Head-clause-fits
returns-in-Some-Head-clause-fits c =
    let at : get c.args.image.now c.args.name.now ≡ Some (Head c.in-Some-Head.head c.in-Some-Head.field-0-1) = ap (get c.args.image.now) (sym c.as_str.ensures.text) ∙ sym c.in-Some-Head.ensures.value ∙ ap (λ (i : Item). Some i) c.in-Some-Head.field-0-is in
    (c.in-Some-Head.ensures.right c.args.name.now (Head c.in-Some-Head.head c.in-Some-Head.field-0-1) at).right

pub returns-in-Some-Whole-clause-file : goal.returns-in-Some-Whole-clause-file
returns-in-Some-Whole-clause-file c = λ held files there.
    let at : get c.args.image.now c.args.name.now ≡ Some (Whole c.in-Some-Whole.field-0-0) = ap (get c.args.image.now) (sym c.as_str.ensures.text) ∙ sym c.in-Some-Whole.ensures.value ∙ ap (λ (i : Item). Some i) c.in-Some-Whole.field-0-is in
    sym (ap (option_map head_of) (no_file held files c.args.image.now c.args.name.now c.in-Some-Whole.field-0-0 c.in-Some-Whole.ensures.right at))

pub returns-in-None-clause-file : goal.returns-in-None-clause-file
returns-in-None-clause-file c = λ held files there.
    sym (ap (option_map head_of) (none_at held files c.args.image.now c.args.name.now (ap (get c.args.image.now) (sym c.as_str.ensures.text) ∙ sym c.in-None.ensures.value)))
