use Rattle.std.proofs.Common.{false}
use Rattle.std.proofs.lemmas.List.{length-replicate, get_or-replicate}
use Rattle.mi_fver.proofs.languages.marked.Goals as goal

pub loop-language-init : goal.loop-language-init
loop-language-init c = (length-replicate 65536 false, λ k lt. get_or-replicate 65536 k false false lt)
