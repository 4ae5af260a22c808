use Rattle.std.proofs.Common.{◌++◌, [], ℕ, List, ◌∙◌}
use Rattle.mi_print_looks.specs.Machines.{machine_in}
use Rattle.mi_show.specs.Differences.{differences, titled, different}
use Rattle.mi_show.proofs.differences.different.Goals as goal

pub returns-clause-text : goal.returns-clause-text
unfolding different
returns-clause-text g c = λ told told_other there there_other.
    let old = machine_in (g.W.Volume.state c.args.other.now).held c.args.before.now in
    let new = machine_in (g.V.Volume.state c.args.vol.now).held c.args.after.now in
    let of : List ℕ → List ℕ → List ℕ = λ title front. titled title (differences front old new) in
    c.in_ok-push_kinds.ensures.text told told_other there there_other
    ∙ (λ i. c.new-text.ensures.items i
    ++ (of (c.kind_of.ensures.title i) (c.kind_of.ensures.front i)
    ++ (of (c.kind_of-2.ensures.title i) (c.kind_of-2.ensures.front i)
    ++ (of (c.kind_of-3.ensures.title i) (c.kind_of-3.ensures.front i)
    ++ (of (c.kind_of-4.ensures.title i) (c.kind_of-4.ensures.front i)
    ++ (of (c.kind_of-5.ensures.title i) (c.kind_of-5.ensures.front i)
    ++ (of (c.kind_of-6.ensures.title i) (c.kind_of-6.ensures.front i)
    ++ (of (c.kind_of-7.ensures.title i) (c.kind_of-7.ensures.front i)
    ++ (of (c.kind_of-8.ensures.title i) (c.kind_of-8.ensures.front i)
    ++ (of (c.kind_of-9.ensures.title i) (c.kind_of-9.ensures.front i)
    ++ []))))))))))
