-- The name of an entry at the place.
use Rattle.std.proofs.Common.{ap, ◌∙◌}
use Rattle.std.proofs.lemmas.Result.{IfOk-weaker}
use Rattle.mi_base.specs.declared.entry.Entry.TheVariants as entry
use Rattle.mi_base.specs.declared.entry.RegValue.TheVariants as value
use Rattle.mi_base.specs.declared.entry.ValueKey.{ValueKey}
use Rattle.mi_base.specs.Limits.{fits}
use Rattle.mi_base.specs.Spelling.{name_of}
use Rattle.mi_records.proofs.BelowLemmas.{value_fits, value_named_so}
use Rattle.mi_records.proofs.names.value_name.Goals as goal

pub entry_name-requires : goal.entry_name-requires
entry_name-requires c = ap (λ (k : ValueKey). fits (entry.Value k (value.Int 0))) c.in-Ok.ensures ∙ value_fits c.args.root c.args.key.now c.args.name.now c.requires.root c.requires.key c.requires.name

pub returns-in-Ok : goal.returns-in-Ok
returns-in-Ok c = IfOk-weaker c.entry_name.result _ _ (λ n is. is ∙ ap (λ (k : ValueKey). name_of (entry.Value k (value.Int 0))) c.in-Ok.ensures ∙ value_named_so c.args.root c.args.key.now c.args.name.now) c.entry_name.ensures
