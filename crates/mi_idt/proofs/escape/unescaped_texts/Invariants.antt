use Rattle.std.proofs.Common.{◌≡◌, ◌++◌, drop, map, string_bytes}
use Rattle.mi_idt.specs.Fields.{unescaped}
use Rattle.mi_idt.proofs.Basics.{shown}
use Rattle.mi_idt.proofs.escape.unescaped_texts.Given as goal

abbrev pub invariant-loop-field : goal.invariant-loop-field
invariant-loop-field l = map string_bytes l.texts.items ++ map (map unescaped) (shown (drop l.field-index l.fields)) ≡ map (map unescaped) (shown l.fields)
