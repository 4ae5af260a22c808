use Rattle.std.proofs.Common.{◌∙◌, ap, map, subst, sym}
use Rattle.std.specs.Str.{IsUtf8}
use Rattle.mi_idt.specs.Fields.{unescaped}
use Rattle.mi_idt.proofs.Utf8.{IsUtf8-unescaped}
use Rattle.mi_idt.proofs.escape.unescaped_text.Goals as goal

pub unreachable-requires : goal.unreachable-requires
unreachable-requires c =
    let valid : IsUtf8 c.in_ok-bytes.bytes.items = subst IsUtf8 (sym (c.in_ok-bytes.ensures ∙ ap (map unescaped) c.as_bytes.ensures.value)) (IsUtf8-unescaped c.args.field.now c.utf8.field) in
    let e = c.in-Err.ensures.succeeds valid in
    absurd cc
