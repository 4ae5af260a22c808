-- Where the text extends a list, its items.
use Rattle.std.proofs.Common.{List, ℕ, Option, [], ◌∷◌, subst}
use Rattle.std.specs.Prelude.{OnOk}
use Rattle.mi_changes.specs.Touches.{Set}
use Rattle.mi_model.specs.RemoveRegistryValues.{less_items, less_added}
use Rattle.mi_steps.specs.Makes.{Makes}
use Rattle.mi_records.proofs.less.take_added.Goals as goal

pub returns-in-Some-clause-makes : goal.returns-in-Some-clause-makes
returns-in-Some-clause-makes c = λ held files.
    subst (λ (o : Option (List (List ℕ))). OnOk c.take_items.result (Makes held files c.args.plan.now c.take_items.new.plan (Set c.args.name.now (less_added o) ∷ []))) c.in-Some.ensures
    (subst (λ (l : List (List ℕ)). OnOk c.take_items.result (Makes held files c.args.plan.now c.take_items.new.plan (Set c.args.name.now (less_items l) ∷ []))) c.as_slice.ensures (c.take_items.ensures.makes held files))

pub returns-in-None-clause-makes : goal.returns-in-None-clause-makes
returns-in-None-clause-makes c = λ held files.
    subst (λ (o : Option (List (List ℕ))). OnOk c.drop_name.result (Makes held files c.args.plan.now c.drop_name.new.self (Set c.args.name.now (less_added o) ∷ []))) c.in-None.ensures (c.drop_name.ensures.makes held files)
