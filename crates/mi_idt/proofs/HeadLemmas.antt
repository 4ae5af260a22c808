-- Steps of the reader of key columns.
use Rattle.std.proofs.Common.{◌≡◌, ℕ, ◌+◌, ◌<◌, List, [], ◌∷◌, ◌++◌, length, drop, get_or, Some, None, refl, sym, ap, ◌∙◌, Bor, append_assoc}
use Rattle.std.proofs.lemmas.List.{drop_more}
use Rattle.mi_text.specs.declared.answers.IdtFault.TheVariants.{KeyColumn}
use Rattle.mi_idt.specs.Columns.{place_of}
use Rattle.mi_idt.specs.Head.{key_fault, keys_fault, places_of}
use Rattle.mi_idt.proofs.Basics.{shown}

pub keys_fault_next : (names : List (List ℕ)) (seen : List ℕ) (k : List ℕ) (ks : List (List ℕ)) (i : ℕ) → place_of names k ≡ Some i → key_fault seen k (place_of names k) ≡ None → keys_fault names seen (k ∷ ks) ≡ keys_fault names (seen ++ i ∷ []) ks
keys_fault_next names seen k ks i place new = rw (new, place) refl

pub keys_fault_here : (names : List (List ℕ)) (seen : List ℕ) (k : List ℕ) (ks : List (List ℕ)) → key_fault seen k (place_of names k) ≡ Some (KeyColumn k) → keys_fault names seen (k ∷ ks) ≡ Some (KeyColumn k)
keys_fault_here names seen k ks fault = rw fault refl

pub places_next : (names : List (List ℕ)) (seen : List ℕ) (k : List ℕ) (ks : List (List ℕ)) (i : ℕ) → place_of names k ≡ Some i → seen ++ places_of names (k ∷ ks) ≡ (seen ++ i ∷ []) ++ places_of names ks
places_next names seen k ks i place = rw place (sym (append_assoc seen (i ∷ []) (places_of names ks)))

-- the same at an item of a loop
pub stops_here : (names : List (List ℕ)) (seen : List ℕ) (keys : List (Bor (List ℕ))) (i : ℕ) (d : Bor (List ℕ)) → i < length keys
    → key_fault seen (get_or keys i d).now (place_of names (get_or keys i d).now) ≡ Some (KeyColumn (get_or keys i d).now) → keys_fault names seen (shown (drop i keys)) ≡ Some (KeyColumn (get_or keys i d).now)
stops_here names seen keys i d in_range fault = ap (λ (ks : List (Bor (List ℕ))). keys_fault names seen (shown ks)) (drop_more keys i d in_range) ∙ keys_fault_here names seen (get_or keys i d).now (shown (drop (i + 1) keys)) fault

pub goes_on : (names : List (List ℕ)) (seen : List ℕ) (keys : List (Bor (List ℕ))) (i : ℕ) (d : Bor (List ℕ)) (place : ℕ) → i < length keys
    → place_of names (get_or keys i d).now ≡ Some place → key_fault seen (get_or keys i d).now (place_of names (get_or keys i d).now) ≡ None
    → keys_fault names seen (shown (drop i keys)) ≡ keys_fault names (seen ++ place ∷ []) (shown (drop (i + 1) keys))
goes_on names seen keys i d place in_range at new = ap (λ (ks : List (Bor (List ℕ))). keys_fault names seen (shown ks)) (drop_more keys i d in_range) ∙ keys_fault_next names seen (get_or keys i d).now (shown (drop (i + 1) keys)) place at new

pub places_go_on : (names : List (List ℕ)) (seen : List ℕ) (keys : List (Bor (List ℕ))) (i : ℕ) (d : Bor (List ℕ)) (place : ℕ) → i < length keys
    → place_of names (get_or keys i d).now ≡ Some place → seen ++ places_of names (shown (drop i keys)) ≡ (seen ++ place ∷ []) ++ places_of names (shown (drop (i + 1) keys))
places_go_on names seen keys i d place in_range at = ap (λ (ks : List (Bor (List ℕ))). seen ++ places_of names (shown ks)) (drop_more keys i d in_range) ∙ places_next names seen (get_or keys i d).now (shown (drop (i + 1) keys)) place at
