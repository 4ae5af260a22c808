-- The names that are noted, as their lists grow.
use Rattle.std.proofs.Common.{◌≡◌, ℕ, zero, suc, ◌<◌, Bool, true, false, cond, ◌||◌, inl, inr, ◌⊎◌, ⊎_elim, List, [], ◌∷◌, ◌++◌, length, get_or, Contains, refl, sym, ap, subst, ◌∙◌, arith}
use Rattle.std.proofs.lemmas.List.Elements.{Contains-append_left, Contains-append_right, Contains-append_cases}
use Rattle.mi_text.specs.Maps.{Name, same_name, is_among}
use Rattle.mi_text.proofs.MapLemmas.{from_same, is_among-append}
use Rattle.mi_undo.specs.Names.{is_inside}
use Rattle.mi_undo.specs.Notes.{new_names}
use Rattle.mi_undo.specs.Area.{AreOutside}

-- one more name that stands outside
pub outside_push : (names : List Name) (n : Name) → AreOutside names → is_inside n ≡ false → AreOutside (names ++ n ∷ [])
outside_push [] n outside is = (is, tt)
outside_push (m ∷ names) n outside is = (outside.0, outside_push names n outside.1 is)

-- a name that is among these is one of them
among : (q : Name) (seen : List Name) → is_among q seen ≡ true → Contains seen q
among q [] is = absurd (let clash : false ≡ true = is in cc)
among q (n ∷ seen) is = by (same_name q n) refl (λ rest. among q seen rest)
  where
    by : (b : Bool) → same_name q n ≡ b → (is_among q seen ≡ true → Contains seen q) → Contains (n ∷ seen) q
    by true e later = (0, omega arith, sym (from_same q n e))
    by false e later = let found = later (sym (ap (λ b. b || is_among q seen) e) ∙ is) in (suc found.0, omega (arith, found.1), found.2)

-- a name that is asked for was noted before, or is a new one
new_has : (seen names : List Name) (k : ℕ) (x : Name) → k < length names → get_or names k x ≡ x → (is_among x seen ≡ true) ⊎ Contains (new_names seen names) x
new_has seen [] k x below is = absurd (omega arith)
new_has seen (n ∷ names) zero x below is =
    elim (is_among n seen) as (λ b. is_among n seen ≡ b → (is_among x seen ≡ true) ⊎ Contains (cond b (new_names seen names) (n ∷ new_names (seen ++ n ∷ []) names)) x) [
      | true ↦ λ old. inl (ap (λ (y : Name). is_among y seen) (sym is) ∙ old)
      | false ↦ λ new. inr (0, omega arith, is)
    ] refl
new_has seen (n ∷ names) (suc k) x below is =
    elim (is_among n seen) as (λ b. (is_among x seen ≡ true) ⊎ Contains (cond b (new_names seen names) (n ∷ new_names (seen ++ n ∷ []) names)) x) [
      | true ↦ new_has seen names k x (omega arith) is
      | false ↦ ⊎_elim
          (λ (among : is_among x (seen ++ n ∷ []) ≡ true). either (is_among x seen) (same_name x n) refl refl (sym (is_among-append x seen (n ∷ [])) ∙ among))
          (λ (among : Contains (new_names (seen ++ n ∷ []) names) x). inr (suc among.0, omega (arith, among.1), among.2))
          (new_has (seen ++ n ∷ []) names k x (omega arith) is)
    ]
  where
    either : (a b : Bool) → is_among x seen ≡ a → same_name x n ≡ b → (is_among x seen || (same_name x n || false)) ≡ true → (is_among x seen ≡ true) ⊎ Contains (n ∷ new_names (seen ++ n ∷ []) names) x
    either true b old this among = inl old
    either false true old this among = inr (0, omega arith, sym (from_same x n this))
    either false false old this among = let clash : false ≡ true = sym (λ i. old i || (this i || false)) ∙ among in cc

-- the names that were asked for before and now are noted
pub still_noted : (seen names noted : List Name) → ((q : Name) → Contains noted q → Contains seen q) → (q : Name) → Contains (noted ++ names) q → Contains (seen ++ new_names seen names) q
still_noted seen names noted all q has =
    ⊎_elim
    (λ (before : Contains noted q). Contains-append_left seen (new_names seen names) q (all q before))
    (λ (now : Contains names q). ⊎_elim (λ (old : is_among q seen ≡ true). Contains-append_left seen (new_names seen names) q (among q seen old)) (λ (new : Contains (new_names seen names) q). Contains-append_right seen (new_names seen names) q new) (new_has seen names now.0 q now.1 now.2))
    (Contains-append_cases noted names q has)
