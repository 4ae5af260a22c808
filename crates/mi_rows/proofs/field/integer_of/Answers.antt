use Rattle.std.proofs.Common.{◌≡◌, ◌∙◌, Some, sym, ap}
use Rattle.mi_idt.specs.Fields.{integer_within}
use Rattle.mi_rows.proofs.NumberLaws.{integer_fits, integer_passed}
use Rattle.mi_rows.proofs.field.integer_of.Goals as goal

pub overflow_cast-result : goal.overflow_cast-result
overflow_cast-result c =
    let read : integer_within 2147483647 c.args.text.now ≡ Some c.in-Some.number = ap (integer_within 2147483647) (sym c.as_bytes.ensures.value) ∙ sym c.integer_within.ensures ∙ c.in-Some.is in
    integer_fits c.args.text.now c.in-Some.number read

pub returns-in-Some : goal.returns-in-Some
returns-in-Some c =
    let read : integer_within 2147483647 c.args.text.now ≡ Some c.in-Some.number = ap (integer_within 2147483647) (sym c.as_bytes.ensures.value) ∙ sym c.integer_within.ensures ∙ c.in-Some.is in
    integer_passed c.args.text.now c.in-Some.number read
