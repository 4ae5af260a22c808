-- A text without an open mark is its own expansion.
use Rattle.std.proofs.Common.{◌≡◌, ℕ, eqb, Bool, true, false, cond, List, [], ◌∷◌, ◌++◌, length, map, None, Ok, refl, sym, ap, ◌∙◌, arith, inl, inr, ◌||◌}
use Rattle.std.specs.Prelude.{encode_utf8, encode_utf8_all}
use Rattle.std.specs.List.{list_any}
use Rattle.std.specs.Str.{chars, IsUtf8}
use Rattle.std.proofs.lemmas.Bool.{cases_Bool, eqb-true}
use Rattle.std.proofs.lemmas.Bool.Decides.{nat_tests}
use Rattle.std.proofs.lemmas.List.Folds.{list_any-append}
use Rattle.std.proofs.lemmas.Str.{encode_ascii, encodes-chars}
use Rattle.mi_text.specs.Lookups.{Lookups}
use Rattle.mi_format.specs.declared.token.Kind.TheVariants.{Bracket, Brace}
use Rattle.mi_format.specs.declared.token.Token.{Token}
use Rattle.mi_format.specs.declared.token.Token.TheVariants.{Char, Close}
use Rattle.mi_format.specs.Tokens.{token_of, tokens_behind, tokens, char_of, shown, opened}
use Rattle.mi_format.specs.Groups.{Pieces, whole_in, whole}
use Rattle.mi_format.specs.Value.{meaning}
use Rattle.mi_format.specs.Scan.{start, scan_passes}
use Rattle.mi_format.specs.Bare.{bare}
use Rattle.mi_format.specs.Expansion.{expand_of, is_too_deep, expanded, within, expanded_within}
use Rattle.mi_format.specs.OpenMarks.{is_open_mark, has_open_mark}
use Rattle.mi_format.proofs.OneScan.{whole_plain}
use Rattle.mi_format.proofs.DepthLemmas.{depth}
use Rattle.mi_format.proofs.LawLemmas.{is_value}

neither : (a b : Bool) → (a || b) ≡ false → (a ≡ false) × (b ≡ false)
neither true b e = absurd cc
neither false b e = (refl, e)

-- ---- a mark is a byte of its own

mark_below : (c : ℕ) → is_open_mark c ≡ true → encode_utf8 c ≡ c ∷ []
mark_below c e = encode_ascii c (grind (arith, nat_tests))

no_mark_in : (c : ℕ) → list_any is_open_mark (encode_utf8 c) ≡ false → is_open_mark c ≡ false
no_mark_in c e =
    elim (cases_Bool (is_open_mark c)) [
      | inl mark ↦ let found : list_any is_open_mark (encode_utf8 c) ≡ true = ap (list_any is_open_mark) (mark_below c mark) ∙ ap (λ (b : Bool). b || false) mark in absurd cc
      | inr other ↦ other
    ]

none_in : (cs : List ℕ) → list_any is_open_mark (encode_utf8_all cs) ≡ false → list_any is_open_mark cs ≡ false
none_in [] e = refl
none_in (c ∷ cs) e =
    let parts = neither (list_any is_open_mark (encode_utf8 c)) (list_any is_open_mark (encode_utf8_all cs)) (sym (list_any-append is_open_mark (encode_utf8 c) (encode_utf8_all cs)) ∙ e) in
    ap (λ (b : Bool). b || list_any is_open_mark cs) (no_mark_in c parts.0) ∙ none_in cs parts.1

-- ---- a character that is no open mark

module _ (c : ℕ) (plain : is_open_mark c ≡ false) where
  no_bracket : eqb c 91 ≡ false
  no_bracket = (neither (eqb c 91) (eqb c 123) plain).0

  no_brace : eqb c 123 ≡ false
  no_brace = (neither (eqb c 91) (eqb c 123) plain).1

  opens_nothing : opened (token_of c) ≡ None
  opens_nothing = rw no_brace (by_closes (eqb c 93) (eqb c 125))
    where
      by_closes : (a b : Bool) → opened (cond a (Close Bracket) (cond b (Close Brace) (Char c))) ≡ None
      by_closes true b = refl
      by_closes false true = refl
      by_closes false false = refl

  shows_itself : char_of (token_of c) ≡ c
  shows_itself =
      elim (cases_Bool (eqb c 93)) [
        | inl bracket ↦ rw (no_brace, bracket) (sym (eqb-true c 93 bracket))
        | inr other ↦
            elim (cases_Bool (eqb c 125)) [
              | inl brace ↦ rw (no_brace, other, brace) (sym (eqb-true c 125 brace))
              | inr char ↦ rw (no_brace, other, char) refl
            ]
      ]

  first_plain : (cs : List ℕ) → tokens_behind 0 (c ∷ cs) ≡ token_of c ∷ tokens_behind 0 cs
  first_plain cs = rw no_bracket refl

-- ---- characters without an open mark

stays_shallow : (t : Token) (ts : List Token) → opened t ≡ None → scan_passes bare (start bare) (t ∷ ts) ≡ scan_passes bare (start bare) ts
stays_shallow t ts o = rw o refl

all_plain : (cs : List ℕ) → list_any is_open_mark cs ≡ false → tokens_behind 0 cs ≡ map token_of cs
all_plain [] e = refl
all_plain (c ∷ cs) e = let parts = neither (is_open_mark c) (list_any is_open_mark cs) e in first_plain c parts.0 cs ∙ ap (λ (ts : List Token). token_of c ∷ ts) (all_plain cs parts.1)

shallow : (cs : List ℕ) → list_any is_open_mark cs ≡ false → scan_passes bare (start bare) (map token_of cs) ≡ false
shallow [] e = refl
shallow (c ∷ cs) e = let parts = neither (is_open_mark c) (list_any is_open_mark cs) e in stays_shallow (token_of c) (map token_of cs) (opens_nothing c parts.0) ∙ shallow cs parts.1

itself : (L : Lookups) (cs : List ℕ) → list_any is_open_mark cs ≡ false → (meaning L (whole_in (length (map token_of cs)) (map token_of cs))).text ≡ encode_utf8_all cs
itself L [] e = refl
itself L (c ∷ cs) e =
    let parts = neither (is_open_mark c) (list_any is_open_mark cs) e in
    ap (λ (p : Pieces). (meaning L p).text) (whole_plain (length (map token_of cs)) (token_of c) (map token_of cs) (opens_nothing c parts.0))
    ∙ ap (λ (t : List ℕ). shown (token_of c) ++ t) (itself L cs parts.1)
    ∙ ap (λ (ch : ℕ). encode_utf8 ch ++ encode_utf8_all cs) (shows_itself c parts.0)

-- ---- a text without an open mark

module _ (L : Lookups) (text : List ℕ) (utf8 : IsUtf8 text) (plain : has_open_mark text ≡ false) where
  none : list_any is_open_mark (chars text) ≡ false
  none = none_in (chars text) (ap (list_any is_open_mark) (encodes-chars text utf8) ∙ plain)

  pub plain_value : text ≡ expand_of L text
  unfolding expand_of whole tokens
  plain_value = sym (ap (λ (ts : List Token). (meaning L (whole_in (length ts) ts)).text) (all_plain (chars text) none) ∙ itself L (chars text) none ∙ encodes-chars text utf8)

  pub plain_depth : is_too_deep text ≡ false
  unfolding tokens
  plain_depth = sym (depth text) ∙ ap (scan_passes bare (start bare)) (all_plain (chars text) none) ∙ shallow (chars text) none

  pub plain_is : expanded L text ≡ Ok text
  plain_is = is_value L text text plain_depth plain_value

  pub plain_within : (limit : ℕ) → expanded_within limit L text ≡ within limit (Ok text)
  unfolding expanded_within
  plain_within limit = ap (within limit) plain_is
