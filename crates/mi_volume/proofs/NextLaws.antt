-- The order of the names that `next` answers.
use Rattle.std.proofs.Common.{◌≡◌, ◌≤◌, ◌⊎◌, inl, inr, ⊎_elim, Bool, true, false, cond, List, [], ◌∷◌, length, Option, Some, None, refl, sym, ap, ◌∙◌}
use Rattle.std.specs.Prelude.{find, is_some}
use Rattle.std.specs.Ordering.{is_gt, ordering_reverse}
use Rattle.std.specs.declared.cmp.Ordering.{Ordering}
use Rattle.std.specs.declared.cmp.Ordering.TheVariants.{Less, Equal, Greater}
use Rattle.std.specs.FinMap.{get, keys}
use Rattle.mi_text.specs.Maps as names
use Rattle.mi_text.specs.Maps.{Name, name_cmp, same_name}
use Rattle.mi_text.specs.Next.{is_behind, next_name}
use Rattle.mi_text.proofs.MapLemmas.{names_total, from_same}
use Rattle.mi_text.proofs.NextLemmas.{next-first, next-none, next-held}
use Rattle.mi_volume.specs.Maps.{IsAbove}

found_passes : (p : Name → Bool) (ks : List Name) (k : Name) → find p ks ≡ Some k → p k ≡ true
found_passes p [] k at = cc
found_passes p (n ∷ ks) k at =
    elim (p n) as (λ b. p n ≡ b → cond b (Some n) (find p ks) ≡ Some k → p k ≡ true) [
      | true ↦ λ b here. let same : n ≡ k = cc in ap p (sym same) ∙ b
      | false ↦ λ b later. found_passes p ks k later
    ] refl at

above_greater : (a k : Name) → is_gt (name_cmp k a) ≡ true → IsAbove (Some a) k
above_greater a k greater = names_total.antisymm a k ∙ less (name_cmp k a) greater
  where
    less : (o : Ordering) → is_gt o ≡ true → ordering_reverse o ≡ Less
    less Less gt = cc
    less Equal gt = cc
    less Greater gt = refl

above_behind : (after : Option Name) (k : Name) → is_behind after k ≡ true → IsAbove after k
above_behind None k behind = tt
above_behind (Some after) k behind = above_greater after k behind

behind_above : (after : Option Name) (k : Name) → IsAbove after k → is_behind after k ≡ true
behind_above None k above = refl
behind_above (Some after) k above = ap is_gt (names_total.antisymm k after ∙ ap ordering_reverse above)

-- the next name stands above the last one
pub next-above : {X : Type 0} → (m : names.Map X) (after : Option Name) (k : Name) → next_name m after ≡ Some k → IsAbove after k
next-above m after k next = above_behind after k (found_passes (is_behind after) (keys m) k next)

-- and is held
pub next-is_held : {X : Type 0} → (m : names.Map X) (after : Option Name) (k : Name) → next_name m after ≡ Some k → is_some (get m k) ≡ true
next-is_held m after k next = next-held m after k next

-- a held name above the last one is the next one or stands above it
pub next-least : {X : Type 0} → (m : names.Map X) (after : Option Name) (k q : Name) (x : X) → next_name m after ≡ Some k → get m q ≡ Some x → 1 ≤ length q → IsAbove after q → (q ≡ k) ⊎ IsAbove (Some k) q
next-least m after k q x next at long above =
    ⊎_elim (λ same. inl (from_same q k same)) (λ greater. inr (above_greater k q greater)) (next-first m after k q x next at (behind_above after q above))

-- where there is no next name, none is held above the last one
pub next-last : {X : Type 0} → (m : names.Map X) (after : Option Name) (q : Name) → next_name m after ≡ None → 1 ≤ length q → IsAbove after q → get m q ≡ None
next-last {X} m after q next long above = by_held (get m q) refl
  where
    by_held : (o : Option X) → get m q ≡ o → o ≡ None
    by_held None at = refl
    by_held (Some x) at = let clash : false ≡ true = sym (next-none m after q x next at) ∙ behind_above after q above in cc
