-- By the items that are left.
use Rattle.std.proofs.Common.{◌≡◌, Some, List, ℕ, Option, ap, sym, ◌∙◌, subst}
use Rattle.std.specs.Prelude.{option_map, IfSome}
use Rattle.std.proofs.lemmas.Result.{IfOk-weaker}
use Rattle.mi_base.specs.declared.entry.Entry.TheVariants as entry
use Rattle.mi_base.specs.declared.entry.Variable.{Variable}
use Rattle.mi_model.specs.ListItems.{without_first}
use Rattle.mi_model.specs.WriteEnvironmentStrings.{items_of}
use Rattle.mi_variables.specs.Lefts.{left}
use Rattle.mi_environment.specs.Variables.{IsHeldAt}
use Rattle.mi_environment.proofs.TakeLemmas.{part_some, part_none, value_named}
use Rattle.mi_environment.proofs.take.less_part.Goals as goal

pub returns-in-Ok-Some-clause-left : goal.returns-in-Ok-Some-clause-left
returns-in-Ok-Some-clause-left c =
    let v = c.args.variable.now in
    let items = λ (o : Option (List ℕ)). o ≡ left (without_first c.args.part.now (items_of v.value)) in
    let some : Some c.in-Ok-Some.value ≡ left (without_first c.args.part.now (items_of v.value)) = subst items c.in-Ok-Some.field-0-is (c.in-Ok-Some.ensures ∙ ap (λ (t : List ℕ). left (without_first c.args.part.now (items_of t))) c.as_str.ensures) in
    IfOk-weaker c.with_value.result _ _ (λ rest is. ap (option_map entry.Variable) is ∙ part_some c.args.part.now v c.in-Ok-Some.value some) c.with_value.ensures

pub returns-in-Ok-Some-clause-named : goal.returns-in-Ok-Some-clause-named
returns-in-Ok-Some-clause-named c = λ q held.
    IfOk-weaker c.with_value.result _ _ (λ rest is. subst (λ (o : Option Variable). IfSome o (IsHeldAt q)) (sym is) (value_named q c.args.variable.now c.in-Ok-Some.value held)) c.with_value.ensures

pub returns-in-Ok-None-clause-left : goal.returns-in-Ok-None-clause-left
returns-in-Ok-None-clause-left c =
    let v = c.args.variable.now in
    let items = λ (o : Option (List ℕ)). o ≡ left (without_first c.args.part.now (items_of v.value)) in
    part_none c.args.part.now v (subst items c.in-Ok-None.field-0-is (c.in-Ok-None.ensures ∙ ap (λ (t : List ℕ). left (without_first c.args.part.now (items_of t))) c.as_str.ensures))
