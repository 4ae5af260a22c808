use Rattle.std.proofs.Common.{◌≡◌, drop}
use Rattle.std.specs.Prelude.{nat_lt}
use Rattle.std.specs.Option.{option_copied}
use Rattle.mi_base.specs.Limits.{is_above, is_chain, rises}
use Rattle.mi_base.proofs.limits.numbers_rise.Given as goal

-- all rise where those that are left rise from the last
abbrev pub invariant-loop-number : goal.invariant-loop-number
invariant-loop-number l = is_chain (is_above nat_lt) (option_copied l.last) (drop l.number-index l.numbers) ≡ rises nat_lt l.numbers
