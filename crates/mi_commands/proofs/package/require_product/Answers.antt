use Rattle.std.proofs.Common.{ap}
use Rattle.std.specs.Prelude.{is_some}
use Rattle.std.specs.Option.{option_copied}
use Rattle.mi_image.specs.Items.{machine_over}
use Rattle.mi_schema.specs.RowsOf.{rows_in}
use Rattle.mi_commands.proofs.PackageLemmas.{known_so, missing_so}
use Rattle.mi_commands.proofs.package.require_product.Goals as goal

pub returns-in-Some : goal.returns-in-Some
returns-in-Some c held files =
    known_so c.args.recorded (rows_in c.args.loaded.now) (machine_over held files c.args.image.now) c.product_code-code.result.number (option_copied c.product.result) c.product_code-code.ensures (c.product.ensures held files) (ap (λ x. is_some (option_copied x)) c.in-Some.is)

pub returns-in-None : goal.returns-in-None
returns-in-None c held files =
    missing_so c.args.recorded (rows_in c.args.loaded.now) (machine_over held files c.args.image.now) c.product_code-code.result (option_copied c.product.result) c.if-not-recorded.false c.product_code-code.ensures (c.product.ensures held files) (ap (λ x. is_some (option_copied x)) c.in-None.is)
