use Rattle.std.proofs.Common.{◌++◌, ℕ, List, map, ◌∙◌}
use Rattle.std.specs.Prelude.{String, string_bytes}
use Rattle.std.specs.declared.alloc.Global.{Global}
use Rattle.mi_print_looks.proofs.SetLemmas.{now_of, tree_names, list_more}
use Rattle.mi_print_looks.proofs.name_set.NameSet.list.Goals as goal

pub loop-name-init : goal.loop-name-init
loop-name-init c =
    let seen : String Global × Unit {0} → List ℕ = λ e. string_bytes e.0 in
    (λ i. map now_of (c.new-list.ensures.items i) ++ map seen ((c.into_iter-name-iterator.ensures.into_iter_gives ∙ c.iter-name-items.ensures.rest) i)) ∙ tree_names c.self.inside.names c.args.self.now c.self.view_is c.iter-name-items.ensures.ordered

pub loop-name-preserved : goal.loop-name-preserved
loop-name-preserved c =
    list_more c.loop-name.list.items c.push.new.self.items c.loop-name.name-iterator c.next.new.self c.in-Some.name.now _ c.as_str.result _ c.in-Some.ensures.steps c.as_str.ensures.value c.in_ok-push.ensures.items c.loop-name.invariant
