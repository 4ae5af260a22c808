-- The name of an entry of the key.
use Rattle.std.proofs.Common.{List, ℕ, ap, ◌∙◌}
use Rattle.std.proofs.lemmas.Result.{IfOk-weaker}
use Rattle.mi_base.specs.Limits.{is_key}
use Rattle.mi_base.specs.Names.{key_name}
use Rattle.mi_records.proofs.KeyLemmas.{key_fits}
use Rattle.mi_records.proofs.names.key_name.Goals as goal

pub entry_name-requires : goal.entry_name-requires
entry_name-requires c = key_fits c.args.root c.in-Ok.key c.requires.root (ap is_key c.in-Ok.ensures ∙ c.requires.key)

pub returns-in-Ok : goal.returns-in-Ok
returns-in-Ok c = IfOk-weaker c.entry_name.result _ _ (λ n is. is ∙ ap (λ (k : List ℕ). key_name c.args.root k) c.in-Ok.ensures) c.entry_name.ensures
