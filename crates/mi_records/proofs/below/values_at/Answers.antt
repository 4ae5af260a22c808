-- Their names, which are in order.
use Rattle.std.proofs.Common.{List, map, ap, sym, subst, ◌∙◌}
use Rattle.std.specs.Prelude.{All}
use Rattle.std.specs.FinMap.{empty}
use Rattle.mi_base.specs.declared.entry.ValueKey.{ValueKey}
use Rattle.mi_records.specs.Removing.{IsHeld, held_name}
use Rattle.mi_records.proofs.BelowLemmas.{values_held, values_told}
use Rattle.mi_records.proofs.below.values_at.Goals as goal

pub names_of_values-requires : goal.names_of_values-requires
names_of_values-requires c = subst (λ (ks : List ValueKey). All IsHeld ks) (sym (c.as_slice.ensures.value ∙ c.in_ok-values.ensures empty empty)) (values_held c.args.root c.args.key.now empty empty c.args.image.now c.stands_right.ensures)

pub returns : goal.returns
returns c = λ held files.
    c.in_ok-names.ensures ∙ ap (map held_name) (c.as_slice.ensures.value ∙ c.in_ok-values.ensures held files) ∙ values_told c.args.root c.args.key.now held files c.args.image.now c.stands_right.ensures
