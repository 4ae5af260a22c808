-- A list of less items may stand where it stood.
use Rattle.std.proofs.Common.{◌≡◌, List, ℕ, ap, sym, subst, ◌∙◌}
use Rattle.mi_base.specs.declared.entry.Entry.TheVariants as entry
use Rattle.mi_base.specs.declared.entry.RegValue.TheVariants as value
use Rattle.mi_base.specs.declared.entry.ValueKey.{ValueKey}
use Rattle.mi_model.specs.ListItems.{without_items}
use Rattle.mi_records.specs.Removing.{MayBeLeft}
use Rattle.mi_records.specs.declared.less.Rest.TheVariants as rest
use Rattle.mi_records.proofs.LessLemmas.{may_be_left}
use Rattle.mi_records.proofs.less.less_list.Goals as goal

pub returns-clause-right : goal.returns-clause-right
returns-clause-right c = λ fit.
    let e = entry.Value c.args.key.now (value.List c.args.list.now) in
    let left : c.in_ok-left.left ≡ without_items c.args.items.now c.args.list.now = c.in_ok-left.ensures ∙ ap (λ (l : List (List ℕ)). without_items c.args.items.now l) c.as_slice.ensures in
    subst (λ (k : ValueKey). MayBeLeft e (rest.Left k c.in_ok-left.left)) (sym c.in_ok-copy_key.ensures)
    (subst (λ (l : List (List ℕ)). MayBeLeft e (rest.Left c.args.key.now l)) (sym left) (may_be_left c.args.key.now c.args.items.now c.args.list.now fit))
