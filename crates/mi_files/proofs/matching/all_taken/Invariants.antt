use Rattle.std.proofs.Common.{◌≡◌, Bool, List, ℕ, map, take}
use Rattle.std.specs.Prelude.{filter}
use Rattle.mi_base.specs.Names.{file_name}
use Rattle.mi_records.specs.Removing.{Guards}
use Rattle.mi_files.specs.Taking.{takes}
use Rattle.mi_files.proofs.matching.all_taken.Given as goal

abbrev pub invariant-loop-path : goal.invariant-loop-path
invariant-loop-path l = (guarded : List ℕ → Bool) → Guards l.taking.guards.now guarded → l.names.items ≡ filter (takes guarded l.taking.local l.taking.folder.now l.taking.pattern.now) (map file_name (take l.path-index l.paths))
