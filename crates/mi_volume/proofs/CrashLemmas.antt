-- What a crash leaves, after a change.
use Rattle.std.proofs.Common.{◌≡◌, ℕ, ◌≤◌, ◌/◌, true, false, cond, List, length, Option, Some, None, refl, sym, ap, subst, ◌∙◌, arith}
use Rattle.std.specs.Prelude.{option_map, unwrap_or}
use Rattle.std.specs.Option.{option_map_or}
use Rattle.std.proofs.lemmas.List.{length-take}
use Rattle.std.specs.FinMap.{get, empty, get-empty}
use Rattle.mi_text.specs.Maps.{Name, same_name, set_to}
use Rattle.mi_text.proofs.MapLemmas.{from_same, same, get-set_to}
use Rattle.mi_volume.specs.Maps.{size, slot_size, Fits}
use Rattle.mi_volume.specs.Kept.{Kept, changed, crashed, chosen, first_half}
use Rattle.mi_volume.specs.declared.choice.Choice.{Choice}
use Rattle.mi_volume.specs.declared.choice.Choice.TheVariants.{Old, New, Torn, Gone}
use Rattle.mi_volume.proofs.ImageLemmas.{get-crashed}
use Rattle.mi_volume.proofs.KeptLemmas.{get-noted}
use Rattle.mi_volume.proofs.SizeLemmas.{size-at_most}

-- a change leaves what was held at the last good sync
pub crashed_changed : (k : Kept) (name : Name) (now : Option (List ℕ)) → crashed Old (changed k name now) ≡ crashed Old k
crashed_changed k name now = same _ _ (λ q.
    get-crashed Old (changed k name now) q
    ∙ ap (λ o. option_map_or (λ (held : Option (List ℕ)). held) o (get (set_to k.held name now) q)) (get-noted k name now q)
    ∙ ap (option_map_or (λ (held : Option (List ℕ)). held) (cond (same_name q name) (Some (unwrap_or (get k.before name) (get k.held name))) (get k.before q))) (get-set_to k.held name now q)
    ∙ elim (same_name q name) as (λ b. same_name q name ≡ b → option_map_or (λ held. held) (cond b (Some (unwrap_or (get k.before name) (get k.held name))) (get k.before q)) (cond b now (get k.held q)) ≡ option_map_or (λ held. held) (get k.before q) (get k.held q)) [
      | true ↦ λ e. by_note (get k.before name) (get k.held name) ∙ ap (λ n. option_map_or (λ held. held) (get k.before n) (get k.held n)) (sym (from_same q name e))
      | false ↦ λ e. refl
    ] refl
    ∙ sym (get-crashed Old k q))
  where
    by_note : (o : Option (Option (List ℕ))) (held : Option (List ℕ)) → unwrap_or o held ≡ option_map_or (λ held. held) o held
    by_note None held = refl
    by_note (Some x) held = refl

-- where nothing is dirty a crash leaves what is held
pub crashed_clean : (choice : Choice) (k : Kept) → k.before ≡ empty → crashed choice k ≡ k.held
crashed_clean choice k clean = same _ _ (λ q. get-crashed choice k q ∙ ap (λ o. option_map_or (λ held. chosen choice held (get k.held q)) o (get k.held q)) (ap (λ m. get m q) clean ∙ get-empty _ q))

less : (choice : Choice) (k : Kept) → ((q : Name) (was now : Option (List ℕ)) → slot_size q (chosen choice was now) ≤ slot_size q now) → size (crashed choice k) ≤ size k.held
less choice k each = size-at_most (crashed choice k) k.held (λ q. subst (λ o. slot_size q o ≤ slot_size q (get k.held q)) (sym (get-crashed choice k q)) (by_note q (get k.before q) (get k.held q)))
  where
    by_note : (q : Name) (o : Option (Option (List ℕ))) (now : Option (List ℕ)) → slot_size q (option_map_or (λ held. chosen choice held now) o now) ≤ slot_size q now
    by_note q None now = omega arith
    by_note q (Some x) now = each q x now

half_less : (q : Name) (now : Option (List ℕ)) → slot_size q (option_map first_half now) ≤ slot_size q now
half_less q None = omega arith
half_less q (Some bytes) = let half = length-take (length bytes / 2) bytes in omega (arith, half)

fits_less : (capacity : Option ℕ) (a b : ℕ) → a ≤ b → Fits capacity b → Fits capacity a
fits_less None a b le fits = tt
fits_less (Some c) a b le fits = omega arith

-- what a crash leaves fits
pub crashed_fits : (choice : Choice) (k : Kept) (capacity : Option ℕ) → Fits capacity (size k.held) → Fits capacity (size (crashed Old k)) → Fits capacity (size (crashed choice k))
crashed_fits Old k capacity held old = old
crashed_fits New k capacity held old = fits_less capacity _ _ (less New k (λ q was now. omega arith)) held
crashed_fits Torn k capacity held old = fits_less capacity _ _ (less Torn k (λ q was now. half_less q now)) held
crashed_fits Gone k capacity held old = fits_less capacity _ _ (less Gone k (λ q was now. omega arith)) held

pub half_length : (bytes : List ℕ) → length (first_half bytes) ≤ length bytes
half_length bytes = let half = length-take (length bytes / 2) bytes in omega (arith, half)
