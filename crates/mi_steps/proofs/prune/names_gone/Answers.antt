use Rattle.std.proofs.Common.{◌≡◌, List, ℕ, Bor, map, filter, ap, sym, ◌∙◌}
use Rattle.std.specs.List.{filter_map}
use Rattle.std.specs.FinMap.{keys, empty}
use Rattle.std.proofs.lemmas.Result.{IfOk-weaker}
use Rattle.mi_image.specs.Items.{machine_over}
use Rattle.mi_model.specs.Prune.{goes}
use Rattle.mi_steps.specs.Trees.{seat_in, keeps}
use Rattle.mi_steps.proofs.StepLemmas.{keys-over}
use Rattle.mi_steps.proofs.PruneLemmas.{all_begin, taken_goes}
use Rattle.mi_steps.proofs.prune.names_gone.Goals as goal

pub all_gone-requires : goal.all_gone-requires
all_gone-requires c =
    ap (λ (names : List (Bor (List ℕ))). map (λ n. n.now) names) c.as_slice-2.ensures.value
    ∙ c.in_ok-names.ensures empty empty ∙ all_begin (keys (machine_over empty empty c.args.image.now)) ∙ keys-over empty empty c.args.image.now

pub returns : goal.returns
returns c = λ held files.
    let names : map (λ (n : Bor (List ℕ)). n.now) c.as_slice.result.now ≡ keys c.args.image.now =
    ap (λ (names : List (Bor (List ℕ))). map (λ n. n.now) names) c.as_slice.ensures.value
    ∙ c.in_ok-names.ensures empty empty ∙ all_begin (keys (machine_over empty empty c.args.image.now)) ∙ keys-over empty empty c.args.image.now in
    IfOk-weaker c.all_gone.result _ _ (λ gone is.
    is
    ∙ taken_goes (seat_in c.args.tree) (keys c.args.image.now) c.args.touched c.args.protected c.in_ok-all_keeping.field-0.items
    (c.in_ok-all_keeping.ensures ∙ ap (filter_map (λ q. keeps c.args.touched (seat_in c.args.tree q))) names) c.of-kept.result c.of-kept.ensures
    ∙ ap (λ (held : List (List ℕ)). filter (goes (seat_in c.args.tree) held c.args.touched c.args.protected) held) (sym (keys-over held files c.args.image.now))) c.all_gone.ensures
