use Rattle.std.proofs.Common.{◌≡◌, true, false, sym, ◌∙◌}
use Rattle.mi_schema.specs.Checks.{companion_of}
use Rattle.mi_schema.specs.RowsOf.{rows_in}
use Rattle.mi_schema.specs.declared.typed_rows.FileRow.{FileRow}
use Rattle.mi_schema.proofs.CheckLemmas.{are_rows}
use Rattle.mi_installs.proofs.LeaderLemmas.{leaders_end}
use Rattle.mi_installs.proofs.leaders.led_order.Goals as goal

pub order_of-requires : goal.order_of-requires
order_of-requires c = are_rows (λ (r : FileRow). r.file) (λ (r : FileRow). companion_of r.version) (rows_in c.args.loaded.now).file c.args.leaders.now c.requires.leaders

pub unreachable-requires : goal.unreachable-requires
unreachable-requires c =
    let cycle = rw c.in-Err-Fault.field-0-is at c.in-Err-Fault.ensures.cycle in
    let ends = leaders_end c.args.loaded.now c.args.leaders.now c.requires.lawful c.requires.leaders cycle.0 cycle.2.is_row in
    let wrong : true ≡ false = sym ends ∙ cycle.2.endless in
    absurd cc
