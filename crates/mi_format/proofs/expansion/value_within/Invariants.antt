use Rattle.std.proofs.Common.{length}
use Rattle.std.specs.Str.{IsUtf8}
use Rattle.mi_format.specs.Marks.{state_of}
use Rattle.mi_format.proofs.ValueLemmas.{Reading}
use Rattle.mi_format.proofs.expansion.value_within.Given as goal

abbrev pub invariant-loop-token : goal.invariant-loop-token
invariant-loop-token g l = IsUtf8 l.rest × Reading (g.E.Env.lookups l.env) l.room.most l.text (state_of l.scan) l.rest

abbrev pub decreases-loop-token : goal.decreases-loop-token
decreases-loop-token g l = length l.rest
