use Rattle.std.proofs.Common.{◌≡◌, ◌++◌, drop, true}
use Rattle.std.specs.List.{flat_map, list_all}
use Rattle.mi_base.specs.Limits.{is_short}
use Rattle.mi_base.specs.Fields.{string}
use Rattle.mi_base.proofs.writing.put_each_text.Given as goal

-- with those that are left, what is written is what all write
abbrev pub invariant-loop-text : goal.invariant-loop-text
invariant-loop-text l = record {
  written : l.out.items ++ flat_map string (drop l.text-index l.texts) ≡ l.fn.out.items ++ flat_map string l.texts;
  short : list_all is_short (drop l.text-index l.texts) ≡ true;
}
