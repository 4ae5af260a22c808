use Rattle.std.proofs.Common.{◌≡◌, ℕ, Bool, true, false, List, [], ◌∷◌, if◌then◌else◌, ◌+◌, ◌*◌, refl, ◌++◌, ap, sym, ◌∙◌, append_assoc}
use Rattle.std.proofs.lemmas.List.{append-nil}
use Rattle.mi_lines.specs.Escapes.{unescaped, first_byte, is_code, digit_value}

choice : (k : Bool) (x a : ℕ) (r s : List ℕ) → (if k then x ∷ unescaped r else a ∷ unescaped s) ≡ (let p : ℕ × List ℕ = if k then (x, r) else (a, s) in p.0 ∷ unescaped p.1)
choice true x a r s = refl
choice false x a r s = refl

-- a text stands for the byte at its front, and what the rest stands for
pub unescaped_first : (a : ℕ) (rest : List ℕ) → unescaped (a ∷ rest) ≡ (first_byte a rest).0 ∷ unescaped (first_byte a rest).1
unfolding unescaped
unescaped_first a [] = refl
unescaped_first a (b ∷ []) = refl
unescaped_first a (b ∷ c ∷ []) = refl
unescaped_first a (b ∷ c ∷ d ∷ rest) = choice (is_code a b c d) (digit_value b * 16 + digit_value c) a rest (b ∷ c ∷ d ∷ rest)

-- what is read so far, once the byte at the front is read
pub one_more : (text bytes left rest behind more : List ℕ) (first byte : ℕ) → unescaped text ≡ bytes ++ unescaped left → left ≡ first ∷ rest → (let p : ℕ × List ℕ = (byte, behind) in p ≡ first_byte first rest) → more ≡ bytes ++ byte ∷ [] → unescaped text ≡ more ++ unescaped behind
one_more text bytes left rest behind more first byte i l e h =
    i ∙ ap (λ u. bytes ++ u) (ap unescaped l ∙ unescaped_first first rest ∙ sym (ap (λ (p : ℕ × List ℕ). p.0 ∷ unescaped p.1) e))
    ∙ sym (append_assoc bytes (byte ∷ []) (unescaped behind)) ∙ ap (λ b. b ++ unescaped behind) (sym h)

-- nothing is left
pub all_read : (text bytes left : List ℕ) → unescaped text ≡ bytes ++ unescaped left → left ≡ [] → bytes ≡ unescaped text
unfolding unescaped
all_read text bytes left i l = sym (i ∙ ap (λ s. bytes ++ unescaped s) l ∙ append-nil bytes)
