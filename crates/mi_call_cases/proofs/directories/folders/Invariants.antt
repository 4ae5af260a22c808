-- Each folder so far is one.
use Rattle.std.proofs.Common.{All}
use Rattle.mi_dirs.specs.Views.{IsFolder}
use Rattle.mi_call_cases.proofs.directories.folders.Given as goal

abbrev pub invariant-loop-key : goal.invariant-loop-key
invariant-loop-key l = All (λ r. IsFolder r.1) l.folders.items
