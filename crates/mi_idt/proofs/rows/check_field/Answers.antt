-- Written out, so that an edit that turns it is refused at once (docs/GATE.md).
use Rattle.std.proofs.Common.{◌≡◌, ◌==◌, true, length, refl, sym, rules}
use Rattle.mi_idt.proofs.rows.check_field.Goals as goal

pub returns-else-is_nullable : goal.returns-else-is_nullable
returns-else-is_nullable c =
    let empty : (length c.args.field.now == 0) ≡ true = search rules in
    rw (empty, sym c.if-is_nullable.ensures) refl
