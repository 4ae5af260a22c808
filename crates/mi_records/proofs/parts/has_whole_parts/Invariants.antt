use Rattle.std.proofs.Common.{◌≡◌, drop}
use Rattle.mi_base.specs.Limits.{has_whole_parts}
use Rattle.mi_base.proofs.KeyLemmas.{whole_on}
use Rattle.mi_records.proofs.parts.has_whole_parts.Given as goal

-- the parts are whole where the rest ends them well
abbrev pub invariant-loop-byte : goal.invariant-loop-byte
invariant-loop-byte l = whole_on l.begins (drop l.byte-index l.text) ≡ has_whole_parts l.text
