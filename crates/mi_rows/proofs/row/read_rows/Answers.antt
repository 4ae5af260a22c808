use Rattle.std.proofs.Common.{sym, subst}
use Rattle.std.specs.HashSet.{HashSet}
use Rattle.std.specs.Prelude.{String}
use Rattle.std.specs.declared.alloc.Global.{Global}
use Rattle.mi_idt.specs.Means.{meaning}
use Rattle.mi_rows.specs.Reads.{KnowsKeys, keys_asked}
use Rattle.mi_rows.specs.Columns.{table_as}
use Rattle.mi_rows.proofs.KnownLemmas.{has_begun}
use Rattle.mi_rows.proofs.row.read_rows.Goals as goal

pub keys_asked-requires-clause-columns : goal.keys_asked-requires-clause-columns
keys_asked-requires-clause-columns g c = has_begun (table_as c.args.layout.now).columns (meaning c.args.table.now) c.requires.columns

pub fill_rows-filled-requires-clause-knows : goal.fill_rows-filled-requires-clause-knows
fill_rows-filled-requires-clause-knows g c = subst (λ (texts : HashSet (String Global) _). KnowsKeys texts (keys_asked (table_as c.args.layout.now) (meaning c.args.table.now))) (sym c.new-seen.ensures.keys) c.in_ok-keys.ensures
