use Rattle.std.proofs.Common.{ℕ, List, Bor, map, ap, ◌∙◌}
use Rattle.std.specs.Prelude.{filter, nat_eq}
use Rattle.std.specs.List.{filter_map, starts_with}
use Rattle.std.specs.FinMap.{empty, keys}
use Rattle.mi_text.specs.Maps.{Name}
use Rattle.mi_text.specs.Folded.{value_at_fold}
use Rattle.mi_image.specs.Items.{machine_over}
use Rattle.mi_world.specs.Variables.{pair_at}
use Rattle.mi_world.proofs.VariableLemmas.{kept_rise, kept_value}
use Rattle.mi_world.proofs.variables.folded_variables.Goals as goal

pub new-requires : goal.new-requires
new-requires c =
    kept_rise c.args.image.now c.stands_right.ensures c.args.system empty empty (map (λ (n : Bor Name). n.now) c.in_ok-names.names.items) c.in_ok-pairs.pairs.items
    (c.in_ok-names.ensures empty empty ∙ ap (λ f. filter (λ q. starts_with nat_eq q f) (keys (machine_over empty empty c.args.image.now))) c.front.ensures)
    (c.in_ok-pairs.ensures ∙ ap (λ (ks : List (Bor Name)). filter_map (pair_at c.args.image.now) (map (λ n. n.now) ks)) c.deref.ensures.value)

pub returns : goal.returns
returns c = λ held files name.
    ap (λ (t : List (Name × List ℕ)). value_at_fold t name) c.new.ensures
    ∙ kept_value c.args.image.now c.stands_right.ensures c.args.system held files (map (λ (n : Bor Name). n.now) c.in_ok-names.names.items) c.in_ok-pairs.pairs.items
    (c.in_ok-names.ensures held files ∙ ap (λ f. filter (λ q. starts_with nat_eq q f) (keys (machine_over held files c.args.image.now))) c.front.ensures)
    (c.in_ok-pairs.ensures ∙ ap (λ (ks : List (Bor Name)). filter_map (pair_at c.args.image.now) (map (λ n. n.now) ks)) c.deref.ensures.value)
    name
