use Rattle.std.proofs.Common.{◌≡◌, drop}
use Rattle.std.specs.List.{list_all}
use Rattle.mi_base.specs.Limits.{is_short}
use Rattle.mi_base.proofs.limits.are_short.Given as goal

-- all are short where those that are left are
abbrev pub invariant-loop-text : goal.invariant-loop-text
invariant-loop-text l = list_all is_short (drop l.text-index l.texts) ≡ list_all is_short l.texts
