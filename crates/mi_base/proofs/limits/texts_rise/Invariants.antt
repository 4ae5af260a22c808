use Rattle.std.proofs.Common.{◌≡◌, drop}
use Rattle.std.specs.Option.{option_copied}
use Rattle.mi_base.specs.Limits.{is_above, is_chain, rises, text_below}
use Rattle.mi_base.proofs.limits.texts_rise.Given as goal

-- all rise where those that are left rise from the last
abbrev pub invariant-loop-text : goal.invariant-loop-text
invariant-loop-text l = is_chain (is_above text_below) (option_copied l.last) (drop l.text-index l.texts) ≡ rises text_below l.texts
