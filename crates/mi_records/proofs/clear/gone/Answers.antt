-- The keys, then the values.
use Rattle.std.proofs.Common.{◌≡◌, List, ℕ, not, ap, ◌∙◌}
use Rattle.std.specs.Prelude.{filter}
use Rattle.std.specs.List.{filter_map}
use Rattle.std.specs.FinMap.{keys}
use Rattle.mi_image.specs.Items.{machine_over}
use Rattle.mi_model.specs.Prune.{Path, is_on_way, key_place, key_seat}
use Rattle.mi_model.specs.RegistryGuards.{is_value_at, place_of_key}
use Rattle.mi_records.specs.Removing.{guarded_place, is_key_at, is_loose}
use Rattle.mi_records.proofs.ClearLemmas.{gone_are}
use Rattle.mi_records.proofs.clear.gone.Goals as goal

pub returns : goal.returns
returns c = λ guarded held files guards.
    let m = machine_over held files c.args.image.now in
    let place : key_place c.root-root.result c.key-key.result.now ≡ place_of_key c.args.place.now = ap (λ (r : ℕ). key_place r c.key-key.result.now) c.root-root.ensures.root ∙ ap (λ (k : List ℕ). key_place c.args.place.now.root k) c.key-key.ensures.key in
    gone_are guarded (place_of_key c.args.place.now) m c.of-kept.result c.in_ok-values.values.items c.in_ok-keys.keys.items c.in_ok-keys-2.keys.items c.in_ok-values-2.values.items
    (c.in_ok-values.ensures held files ∙ ap (λ (p : Path). filter (λ q. is_value_at p (key_seat q)) (keys m)) place)
    (c.in_ok-keys.ensures held files ∙ ap (λ (p : Path). filter (λ q. is_key_at p (key_seat q)) (keys m)) place)
    (λ holder. c.of-kept.ensures holder ∙ ap (λ (ps : List Path). is_on_way ps holder) (c.in_ok-guarded_places.ensures guarded guards ∙ ap (filter_map (guarded_place guarded)) c.as_slice.ensures.value))
    (c.in_ok-keys-2.ensures ∙ ap (filter (λ q. is_loose c.of-kept.result (key_seat q))) c.as_slice-2.ensures.value)
    (c.in_ok-values-2.ensures guarded guards ∙ ap (filter (λ q. not (guarded q))) c.as_slice-3.ensures.value)
