-- The expansion of a text, or what is wrong with it, by whole groups.
use Rattle.std.proofs.Common.{◌≡◌, ℕ, ◌<◌, ◌≤◌, Bool, true, false, cond, List, [], ◌∷◌, ◌++◌, length, Ok, Err, refl, sym, ap, subst, ◌∙◌, arith, inl, inr, ◌||◌}
use Rattle.std.specs.Prelude.{Result, nat_lt, nat_le, map}
use Rattle.std.specs.List.{list_any}
use Rattle.std.proofs.lemmas.Bool.{cases_Bool}
use Rattle.std.proofs.lemmas.Bool.Decides.{nat_tests}
use Rattle.mi_text.specs.Lookups.{Lookups}
use Rattle.mi_format.specs.declared.token.Token.{Token}
use Rattle.mi_format.specs.declared.error.FormatFault.{FormatFault}
use Rattle.mi_format.specs.declared.error.FormatFault.TheVariants.{TooDeep}
use Rattle.mi_format.specs.declared.error.LimitFault.{LimitFault}
use Rattle.mi_format.specs.declared.error.LimitFault.TheVariants as limited
use Rattle.mi_format.specs.Tokens.{tokens}
use Rattle.mi_format.specs.Groups.{Pieces, tokens_in, whole, unended, prefixes, too_deep}
use Rattle.mi_format.specs.Expansion.{IsExpansion, IsTooDeep, expand_of, is_too_deep, expanded, within, expanded_within}
use Rattle.mi_format.proofs.DepthLemmas.{list_any-map}
use Rattle.mi_format.proofs.Grammar.{whole_is, whole_only, is_expansion, only_expansion}

-- ---- prefixes

either_true : (a b : Bool) → (a || b) ≡ true → (a ≡ false → b ≡ true)
either_true true b e h = absurd cc
either_true false b e h = e

abbrev Front : (List Token → Bool) → List Token → Type 0
Front q ts = (front : List Token) × (rest : List Token) × (front ++ rest ≡ ts) × (q front ≡ true)

some_front : (ts : List Token) (q : List Token → Bool) → list_any q (prefixes ts) ≡ true → Front q ts
some_front [] q e =
    elim (cases_Bool (q [])) [
      | inl here ↦ ([], [], refl, here)
      | inr none ↦ let h : false ≡ true = either_true (q []) false e none in absurd cc
    ]
some_front (t ∷ ts) q e =
    elim (cases_Bool (q [])) [
      | inl here ↦ ([], t ∷ ts, refl, here)
      | inr none ↦
          let later : list_any q (map (λ (p : List Token). t ∷ p) (prefixes ts)) ≡ true = either_true (q []) (list_any q (map (λ (p : List Token). t ∷ p) (prefixes ts))) e none in
          let more = some_front ts (λ p. q (t ∷ p)) (sym (list_any-map q (λ (p : List Token). t ∷ p) (prefixes ts)) ∙ later) in
          (t ∷ more.0, more.1, ap (λ (us : List Token). t ∷ us) more.2, more.3)
    ]

or_true : (a b : Bool) → b ≡ true → (a || b) ≡ true
or_true true b e = refl
or_true false b e = e

front_counts : (front rest : List Token) (q : List Token → Bool) → q front ≡ true → list_any q (prefixes (front ++ rest)) ≡ true
front_counts [] [] q e = ap (λ (b : Bool). b || false) e
front_counts [] (t ∷ ts) q e = ap (λ (b : Bool). b || list_any q (map (λ (p : List Token). t ∷ p) (prefixes ts))) e
front_counts (t ∷ front) rest q e =
    or_true (q []) (list_any q (map (λ (p : List Token). t ∷ p) (prefixes (front ++ rest))))
    (list_any-map q (λ (p : List Token). t ∷ p) (prefixes (front ++ rest)) ∙ front_counts front rest (λ p. q (t ∷ p)) e)

abbrev is_past_64 : List Token → Bool
is_past_64 p = nat_lt 64 (unended (whole p))

more_than : (n : ℕ) → nat_lt 64 n ≡ true → 64 < n
more_than n e = grind (arith, nat_tests)

counts_more : (n : ℕ) → 64 < n → nat_lt 64 n ≡ true
counts_more n lt = grind (arith, nat_tests)

pub deep_is : (text : List ℕ) → is_too_deep text ≡ true → IsTooDeep text
unfolding is_too_deep too_deep whole
deep_is text e =
    let found = some_front (tokens text) is_past_64 e in
    let w = whole_is (length found.0) found.0 (omega arith) in
    record { pieces = whole found.0; rest = found.1; is_whole = w.0; is_prefix = ap (λ (us : List Token). us ++ found.1) w.1 ∙ found.2; is_deep = more_than (unended (whole found.0)) found.3 }

pub is_deep : (text : List ℕ) → IsTooDeep text → is_too_deep text ≡ true
unfolding is_too_deep too_deep whole
is_deep text d =
    let same : whole (tokens_in d.pieces) ≡ d.pieces = whole_only d.pieces (length (tokens_in d.pieces)) d.is_whole (omega arith) in
    let past : is_past_64 (tokens_in d.pieces) ≡ true = ap (λ (p : Pieces). nat_lt 64 (unended p)) same ∙ counts_more (unended d.pieces) d.is_deep in
    ap (λ (us : List Token). list_any is_past_64 (prefixes us)) (sym d.is_prefix) ∙ front_counts (tokens_in d.pieces) d.rest is_past_64 past

-- ---- the total definition

pub fault_is : (L : Lookups) (text : List ℕ) → is_too_deep text ≡ true → expanded L text ≡ Err TooDeep
unfolding expanded
fault_is L text e = ap (λ (b : Bool). let r : Result (List ℕ) FormatFault = cond b (Err TooDeep) (Ok (expand_of L text)) in r) e

pub value_is : (L : Lookups) (text : List ℕ) → is_too_deep text ≡ false → expanded L text ≡ Ok (expand_of L text)
unfolding expanded
value_is L text e = ap (λ (b : Bool). let r : Result (List ℕ) FormatFault = cond b (Err TooDeep) (Ok (expand_of L text)) in r) e

pub is_value : (L : Lookups) (text x : List ℕ) → is_too_deep text ≡ false → x ≡ expand_of L text → expanded L text ≡ Ok x
is_value L text x e is = value_is L text e ∙ ap (λ (v : List ℕ). let r : Result (List ℕ) FormatFault = Ok v in r) (sym is)

pub some_is : (L : Lookups) (text x : List ℕ) → expanded L text ≡ Ok x → (is_too_deep text ≡ false) × (x ≡ expand_of L text)
some_is L text x e =
    elim (cases_Bool (is_too_deep text)) [
      | inl deep ↦ let h = fault_is L text deep in absurd cc
      | inr shallow ↦ let h = value_is L text shallow in (shallow, cc)
    ]

pub not_deep : (text : List ℕ) → is_too_deep text ≡ false → IsTooDeep text → ⊥
not_deep text e d = let h = is_deep text d in cc

pub refused_is : (L : Lookups) (text : List ℕ) → expanded L text ≡ Err TooDeep → IsTooDeep text
refused_is L text e =
    elim (cases_Bool (is_too_deep text)) [
      | inl deep ↦ deep_is text deep
      | inr shallow ↦ let h = value_is L text shallow in absurd cc
    ]

pub only_is : (L : Lookups) (text x : List ℕ) → IsExpansion L text x → (IsTooDeep text → ⊥) → expanded L text ≡ Ok x
only_is L text x e shallow =
    elim (cases_Bool (is_too_deep text)) [
      | inl deep ↦ absurd (shallow (deep_is text deep))
      | inr not_too_deep ↦ value_is L text not_too_deep ∙ ap (λ (v : List ℕ). let r : Result (List ℕ) FormatFault = Ok v in r) (sym (only_expansion L text x e))
    ]

pub groups_are : (L : Lookups) (text x : List ℕ) → x ≡ expand_of L text → IsExpansion L text x
groups_are L text x e = subst (λ (y : List ℕ). IsExpansion L text y) (sym e) (is_expansion L text)

-- ---- within a limit

pub limit_deep : (limit : ℕ) (L : Lookups) (text : List ℕ) → is_too_deep text ≡ true → expanded_within limit L text ≡ Err limited.TooDeep
unfolding expanded_within
limit_deep limit L text e = ap (within limit) (fault_is L text e)

abbrev limited_to : ℕ → List ℕ → Bool → Result (List ℕ) LimitFault
limited_to limit x b = cond b (Ok x) (Err limited.TooLong)

pub limit_long : (limit : ℕ) (L : Lookups) (text : List ℕ) → is_too_deep text ≡ false → limit < length (expand_of L text) → expanded_within limit L text ≡ Err limited.TooLong
unfolding expanded_within
limit_long limit L text e lt =
    let h : nat_le (length (expand_of L text)) limit ≡ false = grind (arith, nat_tests) in
    ap (within limit) (value_is L text e) ∙ ap (limited_to limit (expand_of L text)) h

pub limit_value : (limit : ℕ) (L : Lookups) (text x : List ℕ) → is_too_deep text ≡ false → x ≡ expand_of L text → length (expand_of L text) ≤ limit → expanded_within limit L text ≡ Ok x
unfolding expanded_within
limit_value limit L text x e is le =
    let h : nat_le (length (expand_of L text)) limit ≡ true = grind (arith, nat_tests) in
    ap (within limit) (value_is L text e) ∙ ap (limited_to limit (expand_of L text)) h ∙ ap (λ (v : List ℕ). let r : Result (List ℕ) LimitFault = Ok v in r) (sym is)
