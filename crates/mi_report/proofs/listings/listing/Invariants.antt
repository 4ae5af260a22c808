use Rattle.std.proofs.Common.{◌≡◌, ◌++◌, drop}
use Rattle.std.specs.List.{flat_map}
use Rattle.mi_report.proofs.listings.listing.Given as goal

abbrev pub invariant-loop-entry : goal.invariant-loop-entry
invariant-loop-entry g l = l.out.items ++ flat_map g.T.Line.line (drop l.entry-index l.entries) ≡ flat_map g.T.Line.line l.entries
