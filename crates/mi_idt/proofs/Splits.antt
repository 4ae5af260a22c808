-- Parts joined by tabs are split again.
use Rattle.std.proofs.Common.{◌≡◌, ◌≢◌, ℕ, eqb, Bool, true, false, not, List, [], ◌∷◌, length, refl, sym, ap, ◌∙◌, arith}
use Rattle.std.specs.List.{list_all, join_with_byte, All, AllByRecursion}
use Rattle.std.proofs.lemmas.List.Elements.{All-nil, All-cons}
use Rattle.std.proofs.lemmas.List.Splits.{slice_split_none, slice_split_at}
use Rattle.mi_idt.specs.Fields.{fields_of}
use Rattle.mi_idt.proofs.Basics.{and_true}
use Rattle.mi_idt.proofs.FieldLaws.{is_clean}

-- each of the texts is clean
abbrev pub Clean : List (List ℕ) → Type 0
Clean [] = Unit {0}
Clean (x ∷ xs) = (list_all is_clean x ≡ true) × Clean xs

not_true : (a : Bool) → not a ≡ true → a ≡ false
not_true true e = absurd cc
not_true false e = refl

-- texts without tabs, and without ends
abbrev pub NoTab : List ℕ → Type 0
NoTab x = All (λ b. eqb b 9 ≡ false) x

abbrev pub NoEnd : List ℕ → Type 0
NoEnd x = All (λ b. eqb b 10 ≡ false) x

clean_byte : (b : ℕ) → is_clean b ≡ true → (eqb b 9 ≡ false) × (eqb b 10 ≡ false)
clean_byte b e = let q = and_true (not (eqb b 9)) (not (eqb b 10)) e in (not_true (eqb b 9) q.0, not_true (eqb b 10) q.1)

pub no_tab : (x : List ℕ) → list_all is_clean x ≡ true → NoTab x
no_tab [] e = All-nil (λ b. eqb b 9 ≡ false)
no_tab (b ∷ bs) e = let p = and_true (is_clean b) (list_all is_clean bs) e in All-cons (λ b. eqb b 9 ≡ false) b bs (clean_byte b p.0).0 (no_tab bs p.1)

pub no_end : (x : List ℕ) → list_all is_clean x ≡ true → NoEnd x
no_end [] e = All-nil (λ b. eqb b 10 ≡ false)
no_end (b ∷ bs) e = let p = and_true (is_clean b) (list_all is_clean bs) e in All-cons (λ b. eqb b 10 ≡ false) b bs (clean_byte b p.0).1 (no_end bs p.1)

pub clean_tabs : (xs : List (List ℕ)) → Clean xs → AllByRecursion NoTab xs
clean_tabs [] all = tt
clean_tabs (x ∷ xs) all = (no_tab x all.0, clean_tabs xs all.1)

pub clean_ends : (xs : List (List ℕ)) → Clean xs → AllByRecursion NoEnd xs
clean_ends [] all = tt
clean_ends (x ∷ xs) all = (no_end x all.0, clean_ends xs all.1)

fields-join : (x : List ℕ) (xs : List (List ℕ)) → AllByRecursion NoTab (x ∷ xs) → fields_of (join_with_byte 9 (x ∷ xs)) ≡ x ∷ xs
fields-join x [] all = slice_split_none (λ b. eqb b 9) x all.0
fields-join x (y ∷ ys) all = slice_split_at (λ b. eqb b 9) x 9 (join_with_byte 9 (y ∷ ys)) all.0 refl ∙ ap (λ (l : List (List ℕ)). x ∷ l) (fields-join y ys all.1)

-- parts without tabs, at least one, are the fields of their line
pub fields_of_join : (xs : List (List ℕ)) → xs ≢ [] → AllByRecursion NoTab xs → fields_of (join_with_byte 9 xs) ≡ xs
fields_of_join [] some all = absurd (some refl)
fields_of_join (x ∷ xs) some all = fields-join x xs all

pub join_injective : (xs ys : List (List ℕ)) → length xs ≡ length ys → Clean xs → Clean ys → join_with_byte 9 xs ≡ join_with_byte 9 ys → xs ≡ ys
join_injective [] [] l c d e = refl
join_injective [] (y ∷ ys) l c d e = absurd (omega arith)
join_injective (x ∷ xs) [] l c d e = absurd (omega arith)
join_injective (x ∷ xs) (y ∷ ys) l c d e = sym (fields-join x xs (clean_tabs (x ∷ xs) c)) ∙ ap fields_of e ∙ fields-join y ys (clean_tabs (y ∷ ys) d)
