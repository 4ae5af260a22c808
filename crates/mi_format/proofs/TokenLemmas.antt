-- The first token of a text.
use Rattle.std.proofs.Common.{◌≡◌, ℕ, zero, suc, ◌-◌, ◌≤◌, ◌<◌, eqb, true, false, List, [], ◌∷◌, length, Option, Some, None, get_or, refl, sym, ap, subst, ◌∙◌, arith, inl, inr}
use Rattle.std.specs.Prelude.{option_map}
use Rattle.std.specs.Str.{chars, IsUtf8, IsCharBoundary}
use Rattle.std.proofs.lemmas.Bool.{cases_Bool, eqb-true}
use Rattle.std.proofs.lemmas.Str.{chars-nil, IsCharBoundary-after_ascii}
use Rattle.mi_format.specs.declared.token.Token.{Token}
use Rattle.mi_format.specs.declared.token.Token.TheVariants.{Escape, Open}
use Rattle.mi_format.specs.declared.token.Kind.TheVariants.{Bracket}
use Rattle.mi_format.specs.Escape.{is_mark, behind_close, escape_of}
use Rattle.mi_format.specs.Tokens.{token_of, tokens_behind, tokens}

pub none_behind : (text : List ℕ) → text ≡ [] → None ≡ behind_close (chars text)
none_behind text e = sym (ap (λ (t : List ℕ). behind_close (chars t)) e ∙ ap behind_close chars-nil)

pub no_escape : (text : List ℕ) → text ≡ [] → None ≡ escape_of (chars text)
no_escape text e = sym (ap (λ (t : List ℕ). escape_of (chars t)) e ∙ ap escape_of chars-nil)

pub no_second : (text rest : List ℕ) (first : ℕ) → chars text ≡ first ∷ chars rest → rest ≡ [] → None ≡ escape_of (chars text)
no_second text rest first is e = sym (ap escape_of (is ∙ ap (λ (t : List ℕ). first ∷ chars t) e ∙ ap (λ (cs : List ℕ). first ∷ cs) chars-nil))

pub no_tokens : (text : List ℕ) → text ≡ [] → tokens text ≡ []
unfolding tokens
no_tokens text e = ap (λ (t : List ℕ). tokens_behind 0 (chars t)) e ∙ ap (tokens_behind 0) chars-nil

pub first_token : (text rest : List ℕ) (first : ℕ) → chars text ≡ first ∷ chars rest → eqb first 91 ≡ false → tokens text ≡ token_of first ∷ tokens rest
unfolding tokens
first_token text rest first is e = ap (tokens_behind 0) is ∙ rw e refl

pub first_mark : (text rest : List ℕ) (first : ℕ) → chars text ≡ first ∷ chars rest → eqb first 91 ≡ true → None ≡ escape_of (chars rest) → tokens text ≡ Open Bracket ∷ tokens rest
unfolding tokens
first_mark text rest first is e none = ap (tokens_behind 0) is ∙ rw (e, ← none) refl

-- ---- what follows an escape

closes_at : (c : ℕ) (cs : List ℕ) → eqb c 93 ≡ true → behind_close (c ∷ cs) ≡ Some cs
closes_at c cs e = rw e refl

stops_at : (c : ℕ) (cs : List ℕ) → eqb c 93 ≡ false → is_mark c ≡ true → behind_close (c ∷ cs) ≡ None
stops_at c cs e m = rw (m, e) refl

goes_past : (c : ℕ) (cs : List ℕ) → eqb c 93 ≡ false → is_mark c ≡ false → behind_close (c ∷ cs) ≡ behind_close cs
goes_past c cs e m = rw (m, e) refl

suffix : (cs r : List ℕ) → behind_close cs ≡ Some r → (length r < length cs) × (tokens_behind (length cs - length r) cs ≡ tokens_behind 0 r)
suffix [] r e = absurd cc
suffix (c ∷ cs) r e =
    elim (cases_Bool (eqb c 93)) [
      | inl closes ↦
          let step : behind_close (c ∷ cs) ≡ Some cs = closes_at c cs closes in
          let is : cs ≡ r = cc in
          let l : length cs ≡ length r = ap length is in
          let one : length (c ∷ cs) - length r ≡ suc zero = omega arith in
          (omega arith, ap (λ (n : ℕ). tokens_behind n (c ∷ cs)) one ∙ ap (tokens_behind 0) is)
      | inr other ↦
          elim (cases_Bool (is_mark c)) [
            | inl mark ↦ let step : behind_close (c ∷ cs) ≡ None = stops_at c cs other mark in absurd cc
            | inr plain ↦
                let step : behind_close (c ∷ cs) ≡ behind_close cs = goes_past c cs other plain in
                let s : behind_close cs ≡ Some r = sym step ∙ e in
                let more = suffix cs r s in
                let less : length r < length cs = more.0 in
                let next : length (c ∷ cs) - length r ≡ suc (length cs - length r) = omega arith in
                (omega arith, ap (λ (n : ℕ). tokens_behind n (c ∷ cs)) next ∙ more.1)
          ]
    ]

behind_escape : (cs r : List ℕ) (x : ℕ) → escape_of cs ≡ Some (x, r) → (length r < length cs) × (tokens_behind (length cs - length r) cs ≡ tokens_behind 0 r)
behind_escape [] r x e = absurd cc
behind_escape (b ∷ []) r x e = absurd cc
behind_escape (b ∷ c ∷ cs) r x e =
    elim (cases_Bool (eqb b 92)) [
      | inl back ↦ let step : escape_of (b ∷ c ∷ cs) ≡ option_map {U = ℕ × List ℕ} (λ rest. (c, rest)) (behind_close cs) = rw back refl in found (behind_close cs) refl (sym step ∙ e)
      | inr other ↦ let step : escape_of (b ∷ c ∷ cs) ≡ None = rw other refl in absurd cc
    ]
  where
    found : (o : Option (List ℕ)) → behind_close cs ≡ o → option_map {U = ℕ × List ℕ} (λ rest. (c, rest)) o ≡ Some (x, r) → (length r < length (b ∷ c ∷ cs)) × (tokens_behind (length (b ∷ c ∷ cs) - length r) (b ∷ c ∷ cs) ≡ tokens_behind 0 r)
    found None o f = absurd cc
    found (Some rest) o f =
        let pair : (c, rest) ≡ (x, r) = cc in
        let same : rest ≡ r = ap (λ (p : ℕ × List ℕ). p.1) pair in
        let more = suffix cs r (o ∙ ap Some same) in
        let less : length r < length cs = more.0 in
        let next : length (b ∷ c ∷ cs) - length r ≡ suc (suc (length cs - length r)) = omega arith in
        (omega arith, ap (λ (n : ℕ). tokens_behind n (b ∷ c ∷ cs)) next ∙ more.1)

pub first_escape : (text rest after : List ℕ) (first given : ℕ) → chars text ≡ first ∷ chars rest → eqb first 91 ≡ true → Some (given, chars after) ≡ escape_of (chars rest) → tokens text ≡ Escape given ∷ tokens after
unfolding tokens
first_escape text rest after first given is e some =
    let more = behind_escape (chars rest) (chars after) given (sym some) in
    ap (tokens_behind 0) is ∙ rw (e, ← some) (ap (λ (ts : List Token). Escape given ∷ ts) more.1)

-- behind an ASCII byte a text may be cut
pub behind_first : (bytes text : List ℕ) → bytes ≡ text → IsUtf8 text → 2 ≤ length bytes → get_or bytes 0 0 < 128 → IsCharBoundary text 1
behind_first bytes text is utf8 long ascii =
    let some : 0 < length text = omega (arith, ap length is) in
    IsCharBoundary-after_ascii text 0 utf8 some (subst (λ (t : List ℕ). get_or t 0 0 < 128) is ascii)

pub no_mark : (c : ℕ) → (c ≡ 91 → ⊥) → eqb c 91 ≡ false
no_mark c h = elim (cases_Bool (eqb c 91)) [ inl e ↦ absurd (h (eqb-true c 91 e)) | inr e ↦ e ]

pub shorter_behind : (a b c : ℕ) → a < b → b < c → a < c
shorter_behind a b c h k = omega arith
