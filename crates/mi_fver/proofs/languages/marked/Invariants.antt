use Rattle.std.proofs.Common.{◌≡◌, ◌<◌, ℕ, length, get_or, take, false}
use Rattle.mi_fver.specs.Rules.{has}
use Rattle.mi_fver.proofs.languages.marked.Given as goal

abbrev pub invariant-loop-language : goal.invariant-loop-language
invariant-loop-language l = (length l.table ≡ 65536) × ((k : ℕ) → k < 65536 → get_or l.table k false ≡ has (take l.language-index l.languages) k)
