-- Look-ups in notes.
use Rattle.std.proofs.Common.{◌≡◌, ℕ, Bool, true, false, not, nat_le, ◌&&◌, cond, List, [], ◌∷◌, ◌++◌, length, is_none, Option, Some, None, refl, sym, ap, subst, ◌∙◌, append_assoc}
use Rattle.std.proofs.lemmas.List.{append-nil}
use Rattle.mi_text.specs.Maps.{same_name}
use Rattle.mi_text.proofs.MapLemmas.{from_same}
use Rattle.std.specs.Str.{is_utf8}
use Rattle.mi_undo.specs.Names.{is_inside}
use Rattle.mi_undo.specs.Notes.{Note, note_of, all_notes, is_note, are_new}
use Rattle.mi_undo.specs.Keeps.{AreNew}

abbrev pub first_of_two : Option (Option (List ℕ)) → Option (Option (List ℕ)) → Option (Option (List ℕ))
first_of_two None o = o
first_of_two (Some w) o = Some w

pub note_of-append : (xs ys : List Note) (q : List ℕ) → note_of (xs ++ ys) q ≡ first_of_two (note_of xs q) (note_of ys q)
note_of-append [] ys q = refl
note_of-append (n ∷ xs) ys q =
    elim (same_name q n.name) as (λ b. cond b (Some n.was) (note_of (xs ++ ys) q) ≡ first_of_two (cond b (Some n.was) (note_of xs q)) (note_of ys q)) [ true ↦ refl | false ↦ note_of-append xs ys q ]

-- what both leave out
pub none_left : (xs ys : List Note) (q : List ℕ) → note_of (xs ++ ys) q ≡ None → note_of xs q ≡ None
none_left xs ys q is = at (note_of xs q) refl
  where
    at : (o : Option (Option (List ℕ))) → note_of xs q ≡ o → o ≡ None
    at None e = refl
    at (Some w) e = absurd (let both : first_of_two (Some w) (note_of ys q) ≡ None = subst (λ (x : Option (Option (List ℕ))). first_of_two x (note_of ys q) ≡ None) e (sym (note_of-append xs ys q) ∙ is) in cc)

pub none_right : (xs ys : List Note) (q : List ℕ) → note_of (xs ++ ys) q ≡ None → note_of ys q ≡ None
none_right xs ys q is = sym (note_of-append xs ys q ∙ ap (λ (x : Option (Option (List ℕ))). first_of_two x (note_of ys q)) (none_left xs ys q is)) ∙ is

pub none_both : (xs ys : List Note) (q : List ℕ) → note_of xs q ≡ None → note_of ys q ≡ None → note_of (xs ++ ys) q ≡ None
none_both xs ys q left right = note_of-append xs ys q ∙ ap (λ (x : Option (Option (List ℕ))). first_of_two x (note_of ys q)) left ∙ right

pub all_notes-push : (parts : List (List Note)) (ns : List Note) → all_notes (parts ++ ns ∷ []) ≡ all_notes parts ++ ns
all_notes-push [] ns = append-nil ns
all_notes-push (p ∷ parts) ns = ap (λ (l : List Note). p ++ l) (all_notes-push parts ns) ∙ sym (append_assoc p (all_notes parts) ns)

pub AreNew-push : (seen : List Note) (parts : List (List Note)) (ns : List Note) → AreNew seen parts → AreNew (seen ++ all_notes parts) (ns ∷ []) → AreNew seen (parts ++ ns ∷ [])
AreNew-push seen [] ns new next = subst (λ (l : List Note). AreNew l (ns ∷ [])) (append-nil seen) next
AreNew-push seen (p ∷ parts) ns new next =
    (new.0, new.1, AreNew-push (seen ++ p) parts ns new.2 (subst (λ (l : List Note). AreNew l (ns ∷ [])) (sym (append_assoc seen p (all_notes parts))) next))

pub both_true : (a b : Bool) → (a && b) ≡ true → (a ≡ true) × (b ≡ true)
both_true true b e = (refl, e)
both_true false b e = absurd (cc)

not_true : (a : Bool) → not a ≡ true → a ≡ false
not_true true e = absurd (cc)
not_true false e = refl

pub is_note-outside : (n : Note) → is_note n ≡ true → is_inside n.name ≡ false
is_note-outside n is =
    not_true (is_inside n.name) (both_true (nat_le 1 (length n.name) && nat_le (length n.name) 1024 && is_utf8 n.name) (not (is_inside n.name)) is).1

-- no new name is inside the area
pub new_outside : (seen ns : List Note) → are_new seen ns ≡ true → (q : List ℕ) → is_inside q ≡ true → note_of ns q ≡ None
new_outside seen [] new q inside = refl
new_outside seen (n ∷ ns) new q inside =
    let parts = both_true (is_note n && is_none (note_of seen n.name)) (are_new (seen ++ n ∷ []) ns) new in
    let out = is_note-outside n (both_true (is_note n) (is_none (note_of seen n.name)) parts.0).0 in
    elim (same_name q n.name) as (λ b. same_name q n.name ≡ b → cond b (Some n.was) (note_of ns q) ≡ None) [
      | true ↦ λ e. let clash : true ≡ false = sym inside ∙ ap is_inside (from_same q n.name e) ∙ out in absurd (cc)
      | false ↦ λ e. new_outside (seen ++ n ∷ []) ns parts.1 q inside
    ] refl

none_twice : (seen : List Note) (n : Note) (q : List ℕ) → same_name q n.name ≡ true → is_none (note_of seen n.name) ≡ true → note_of seen q ≡ None
none_twice seen n q e fresh = at (note_of seen n.name) refl fresh
  where
    at : (o : Option (Option (List ℕ))) → note_of seen n.name ≡ o → is_none o ≡ true → note_of seen q ≡ None
    at None is t = ap (λ (x : List ℕ). note_of seen x) (from_same q n.name e) ∙ is
    at (Some w) is t = absurd (cc)

-- a new name isn't noted before
pub new_unseen : (seen ns : List Note) → are_new seen ns ≡ true → (q : List ℕ) (w : Option (List ℕ)) → note_of ns q ≡ Some w → note_of seen q ≡ None
new_unseen seen [] new q w is = absurd (cc)
new_unseen seen (n ∷ ns) new q w is =
    let parts = both_true (is_note n && is_none (note_of seen n.name)) (are_new (seen ++ n ∷ []) ns) new in
    let here = both_true (is_note n) (is_none (note_of seen n.name)) parts.0 in
    elim (same_name q n.name) as (λ b. same_name q n.name ≡ b → cond b (Some n.was) (note_of ns q) ≡ Some w → note_of seen q ≡ None) [
      | true ↦ λ e at. none_twice seen n q e here.1
      | false ↦ λ e at. none_left seen (n ∷ []) q (new_unseen (seen ++ n ∷ []) ns parts.1 q w at)
    ] refl is

and_true : (a b : Bool) → a ≡ true → b ≡ true → (a && b) ≡ true
and_true true b p q = q
and_true false b p q = absurd (cc)

pub are_new-append : (seen xs ys : List Note) → are_new seen xs ≡ true → are_new (seen ++ xs) ys ≡ true → are_new seen (xs ++ ys) ≡ true
are_new-append seen [] ys p q = subst (λ (l : List Note). are_new l ys ≡ true) (append-nil seen) q
are_new-append seen (x ∷ xs) ys p q =
    let parts = both_true (is_note x && is_none (note_of seen x.name)) (are_new (seen ++ x ∷ []) xs) p in
    and_true (is_note x && is_none (note_of seen x.name)) (are_new (seen ++ x ∷ []) (xs ++ ys)) parts.0 (are_new-append (seen ++ x ∷ []) xs ys parts.1 (subst (λ (l : List Note). are_new l ys ≡ true) (sym (append_assoc seen (x ∷ []) xs)) q))

-- the notes of all parts are new
pub all_new : (seen : List Note) (parts : List (List Note)) → AreNew seen parts → are_new seen (all_notes parts) ≡ true
all_new seen [] new = refl
all_new seen (ns ∷ parts) new = are_new-append seen ns (all_notes parts) new.0 (all_new (seen ++ ns) parts new.2)
