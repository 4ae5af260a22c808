-- The record of a file: its head, and then its bytes.
use Rattle.std.proofs.Common.{◌≡◌, ◌≢◌, ℕ, ◌-◌, List, ◌++◌, length, take, drop, Option, Some, None, ap, ◌∙◌, arith, length-drop}
use Rattle.std.specs.Prelude.{option_map, unwrap_or}
use Rattle.std.proofs.lemmas.List.{take_all}
use Rattle.std.specs.FinMap.{get, insert}
use Rattle.mi_volume.specs.Maps.{Map, bytes_or_none}
use Rattle.mi_volume.proofs.MapLemmas.{get-insert_same, get-insert_other}
use Rattle.mi_undo.proofs.StepLemmas.{insert_twice}
use Rattle.mi_script.specs.Scripts.{last_bytes}

-- a length that is told, or 0
pub told_length : (o : Option ℕ) (w : Option (List ℕ)) (n : ℕ) → o ≡ option_map length w → n ≡ unwrap_or o 0 → n ≡ length (bytes_or_none w)
told_length o None n is n_is = n_is ∙ ap (λ (x : Option ℕ). unwrap_or x 0) is
told_length o (Some b) n is n_is = n_is ∙ ap (λ (x : Option ℕ). unwrap_or x 0) is

-- the bytes from a place on, up to the end
pub to_the_end : (bytes : List ℕ) (at size : ℕ) → size ≡ length bytes → take (size - at) (drop at bytes) ≡ drop at bytes
to_the_end bytes at size is = take_all (size - at) (drop at bytes) (omega (arith, is, length-drop at bytes))

-- the head, and then the last bytes of another name's record
pub duplicated : (a c d : Map) (x from head : List ℕ) (n size at : ℕ) → from ≢ x → c ≡ insert a x head → at ≡ size - n → size ≡ length (bytes_or_none (get c from))
    → d ≡ insert c x (head ++ take (size - at) (drop at (bytes_or_none (get c from)))) → d ≡ insert a x (head ++ last_bytes n (bytes_or_none (get a from)))
duplicated a c d x from head n size at ne head_is at_is size_is put =
    let same_bytes : bytes_or_none (get c from) ≡ bytes_or_none (get a from) = ap bytes_or_none (ap (λ (m : Map). get m from) head_is ∙ get-insert_other a x head from ne) in
    put ∙ ap (λ (l : List ℕ). insert c x (head ++ l)) (to_the_end (bytes_or_none (get c from)) at size size_is ∙ ap (λ (k : ℕ). drop k (bytes_or_none (get c from))) (at_is ∙ ap (λ (k : ℕ). k - n) size_is) ∙ ap (last_bytes n) same_bytes)
    ∙ ap (λ (m : Map). insert m x (head ++ last_bytes n (bytes_or_none (get a from)))) head_is
    ∙ insert_twice a x head (head ++ last_bytes n (bytes_or_none (get a from)))

-- the head, and then the source's bytes
pub copied : (a b c : Map) (x head file bytes : List ℕ) → b ≡ insert a x head → c ≡ insert b x (head ++ bytes) → bytes ≡ file → c ≡ insert a x (head ++ file)
copied a b c x head file bytes head_is put is =
    put ∙ ap (λ (m : Map). insert m x (head ++ bytes)) head_is ∙ insert_twice a x head (head ++ bytes) ∙ ap (λ (l : List ℕ). insert a x (head ++ l)) is

pub stands_there : (a b : Map) (x head : List ℕ) → b ≡ insert a x head → get b x ≡ Some head
stands_there a b x head is = ap (λ (m : Map). get m x) is ∙ get-insert_same a x head
