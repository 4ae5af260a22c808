use Rattle.std.proofs.Common.{◌≡◌, drop, map}
use Rattle.std.specs.Prelude.{string_bytes}
use Rattle.mi_text.specs.Path.{path_on}
use Rattle.mi_text.proofs.path.push_parts.Given as goal

abbrev pub invariant-loop-part : goal.invariant-loop-part
invariant-loop-part l = path_on (string_bytes l.out) (map (λ b. b.now) (drop l.part-index l.parts)) ≡ path_on (string_bytes l.fn.out) (map (λ b. b.now) l.parts)
