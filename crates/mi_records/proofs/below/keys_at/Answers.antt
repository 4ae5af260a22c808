-- Their names, which are in order.
use Rattle.std.proofs.Common.{◌≡◌, true, List, ℕ, map, ap, sym, subst, ◌∙◌}
use Rattle.std.specs.Prelude.{All}
use Rattle.std.specs.FinMap.{empty}
use Rattle.mi_base.specs.Limits.{is_key}
use Rattle.mi_base.specs.Names.{key_name}
use Rattle.mi_records.proofs.BelowLemmas.{keys_held, keys_told}
use Rattle.mi_records.proofs.below.keys_at.Goals as goal

pub names_of_keys-requires-clause-keys : goal.names_of_keys-requires-clause-keys
names_of_keys-requires-clause-keys c = subst (λ (ks : List (List ℕ)). All (λ key. is_key key ≡ true) ks) (sym (c.as_slice.ensures.value ∙ c.in_ok-shown.ensures empty empty)) (keys_held c.args.root c.args.key.now empty empty c.args.image.now c.stands_right.ensures)

pub returns : goal.returns
returns c = λ held files.
    c.in_ok-names.ensures ∙ ap (map (key_name c.args.root)) (c.as_slice.ensures.value ∙ c.in_ok-shown.ensures held files) ∙ keys_told c.args.root c.args.key.now held files c.args.image.now c.stands_right.ensures
