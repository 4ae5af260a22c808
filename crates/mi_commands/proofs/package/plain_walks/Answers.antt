use Rattle.std.proofs.Common.{subst}
use Rattle.mi_schema.specs.TableRows.{Rows}
use Rattle.mi_laws.specs.PlainLaws.{HasProductCode}
use Rattle.mi_commands.proofs.package.plain_walks.Goals as goal

pub returns : goal.returns
returns c g is = c.walks_are_plain.ensures g (subst (λ (rows : Rows). HasProductCode rows) is (c.lawful_packages_have_codes.ensures c.args.loaded.now c.requires))
