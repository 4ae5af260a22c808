-- By the item that stands there.
use Rattle.std.proofs.Common.{sym}
use Rattle.mi_environment.proofs.VariableLemmas.{held_item, held_none, all_named}
use Rattle.mi_environment.proofs.variable.held_variable.Goals as goal

pub returns-in-Some-clause-value : goal.returns-in-Some-clause-value
returns-in-Some-clause-value c = λ held files.
    held_item held files c.args.image.now c.args.name.now c.in-Some.item.now _ (sym c.in-Some.ensures.value) (c.whole_variable.ensures.value held files)

pub returns-in-None-clause-value : goal.returns-in-None-clause-value
returns-in-None-clause-value c = λ held files.
    held_none held files c.args.image.now c.args.name.now (sym c.in-None.ensures.value)

pub returns-in-Some-clause-named : goal.returns-in-Some-clause-named
returns-in-Some-clause-named c =
    all_named c.args.image.now c.args.name.now c.in-Some.item.now c.whole_variable.result c.in-Some.ensures.right (sym c.in-Some.ensures.value) c.whole_variable.ensures.whole
