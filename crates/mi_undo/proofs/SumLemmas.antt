-- The old bytes of notes, and how many they are.
use Rattle.std.proofs.Common.{◌≡◌, ℕ, ◌+◌, true, false, cond, ◌&&◌, List, [], ◌∷◌, ◌++◌, is_none, Option, Some, None, Result, Ok, refl, sym, ap, ◌∙◌, arith}
use Rattle.std.specs.FinMap.{get}
use Rattle.mi_text.specs.Maps.{same_name}
use Rattle.mi_volume.specs.Maps.{Map, size, slot_size}
use Rattle.mi_volume.proofs.SizeLemmas.{size-set_to}
use Rattle.mi_undo.specs.Names.{marker}
use Rattle.mi_undo.specs.Notes.{Note, note_of, is_note, are_new}
use Rattle.mi_undo.specs.Stands.{put_over, noted, is_one}
use Rattle.mi_undo.specs.Short.{old_sizes, IsShort}
use Rattle.mi_undo.proofs.NotesOf.{both_true, new_unseen, none_right, note_of-append, first_of_two}
use Rattle.mi_undo.proofs.StandsLemmas.{get-put_over, or_else}
use Rattle.mi_undo.proofs.BackLemmas.{note_of-head}

pub one_list : (a b : List Note) → ◌≡◌ {A = Result (List Note) (List ℕ)} (Ok a) (Ok b) → a ≡ b
one_list a b e = cc

-- a name that is noted once isn't noted again
unseen_later : (seen : List Note) (n : Note) (ns : List Note) → are_new seen (n ∷ ns) ≡ true → note_of ns n.name ≡ None
unseen_later seen n ns new = at (note_of ns n.name) refl
  where
    parts : (is_note n && is_none (note_of seen n.name) ≡ true) × (are_new (seen ++ n ∷ []) ns ≡ true)
    parts = both_true (is_note n && is_none (note_of seen n.name)) (are_new (seen ++ n ∷ []) ns) new

    at : (o : Option (Option (List ℕ))) → note_of ns n.name ≡ o → note_of ns n.name ≡ None
    at None is = is
    at (Some w) is =
        let none = none_right seen (n ∷ []) n.name (new_unseen (seen ++ n ∷ []) ns parts.1 n.name w is) in
        let clash : Some n.was ≡ None = sym (note_of-head n []) ∙ none in
        absurd (cc)

-- The old bytes of new names count beside a map where they are away.
pub over_sum : (seen ns : List Note) (d : Map) → are_new seen ns ≡ true → ((q : List ℕ) (w : Option (List ℕ)) → note_of ns q ≡ Some w → get d q ≡ None) → size (put_over ns d) ≡ size d + old_sizes ns
unfolding put_over
over_sum seen [] d new away = omega arith
over_sum seen (n ∷ ns) d new away =
    let parts = both_true (is_note n && is_none (note_of seen n.name)) (are_new (seen ++ n ∷ []) ns) new in
    let rest = over_sum (seen ++ n ∷ []) ns d parts.1 later in
    let here : get (put_over ns d) n.name ≡ None =
    get-put_over ns d n.name ∙ ap (λ (o : Option (Option (List ℕ))). or_else o (get d n.name)) (unseen_later seen n ns new) ∙ away n.name n.was (note_of-head n ns) in
    let none : slot_size n.name (get (put_over ns d) n.name) ≡ 0 = ap (slot_size n.name) here in
    let sum = size-set_to (put_over ns d) n.name n.was in
    omega (arith, rest, none, sum)
  where
    later : (q : List ℕ) (w : Option (List ℕ)) → note_of ns q ≡ Some w → get d q ≡ None
    later q w is =
        elim (same_name q n.name) as (λ b. same_name q n.name ≡ b → get d q ≡ None) [
          | true ↦ λ e. away q n.was (ap (λ b. cond b (Some n.was) (note_of ns q)) e)
          | false ↦ λ e. away q w (ap (λ b. cond b (Some n.was) (note_of ns q)) e ∙ is)
        ] refl

-- the first notes are new where all are
pub new_front : (seen xs ys : List Note) → are_new seen (xs ++ ys) ≡ true → are_new seen xs ≡ true
new_front seen [] ys new = refl
new_front seen (x ∷ xs) ys new =
    let parts = both_true (is_note x && is_none (note_of seen x.name)) (are_new (seen ++ x ∷ []) (xs ++ ys)) new in
    (λ i. parts.0 i && new_front (seen ++ x ∷ []) xs ys parts.1 i)

front_away : (xs ys : List Note) (d : Map) → ((q : List ℕ) (w : Option (List ℕ)) → note_of (xs ++ ys) q ≡ Some w → get d q ≡ None) → (q : List ℕ) (w : Option (List ℕ)) → note_of xs q ≡ Some w → get d q ≡ None
front_away xs ys d away q w is = away q w (note_of-append xs ys q ∙ ap (λ (o : Option (Option (List ℕ))). first_of_two o (note_of ys q)) is)

pub front_sum : (xs ys : List Note) (d : Map) → are_new [] (xs ++ ys) ≡ true → ((q : List ℕ) (w : Option (List ℕ)) → note_of (xs ++ ys) q ≡ Some w → get d q ≡ None) → size (put_over xs d) ≡ size d + old_sizes xs
front_sum xs ys d new away = over_sum [] xs d (new_front [] xs ys new) (front_away xs ys d away)

pub old_sizes-append : (xs ys : List Note) → old_sizes (xs ++ ys) ≡ old_sizes xs + old_sizes ys
old_sizes-append [] ys = omega arith
old_sizes-append (x ∷ xs) ys = let rest = old_sizes-append xs ys in omega (arith, rest)

pub not_empty : (front rest : List Note) (n : Note) → ◌≡◌ {A = Result (List Note) (List ℕ)} (Ok (front ++ n ∷ rest)) (Ok []) → ⊥
not_empty [] rest n is = cc
not_empty (m ∷ front) rest n is = cc

-- with a marker that isn't open no volume is short
pub shut_not_short : (capacity : Option ℕ) (h : Map) (name : List ℕ) → is_one (get h marker) ≡ false → IsShort capacity h name → ⊥
unfolding noted
shut_not_short capacity h name shut short = not_empty short.front short.rest short.note (sym (rw shut at short.read))
