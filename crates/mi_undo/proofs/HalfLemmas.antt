-- Reading an entry, note by note.
use Rattle.std.proofs.Common.{◌≡◌, ◌≢◌, ℕ, zero, suc, ◌+◌, ◌<◌, ◌≤◌, Bool, true, false, not, ◌&&◌, nat_le, cond, List, [], ◌∷◌, ◌++◌, length, take, drop, is_none, Option, Some, None, refl, sym, ap, subst, ◌∙◌, arith, append_assoc, length-drop}
use Rattle.std.proofs.lemmas.List.{append-nil, drop_all}
use Rattle.std.specs.Option.{option_map, option_and_then}
use Rattle.std.specs.Int.{w32, w64, from_be_bytes}
use Rattle.std.specs.FinMap.{get}
use Rattle.mi_text.specs.Maps.{is_among}
use Rattle.mi_volume.specs.Maps.{Map, bytes_or_none}
use Rattle.mi_undo.specs.Notes.{Note, note_of, is_note, are_new, split_at, text_at, blob_at, note_at, notes_within, notes_of}
use Rattle.mi_undo.specs.Stands.{only_new, entry_notes}
use Rattle.mi_undo.specs.Area.{AreBelow, place_names, notes_in, note_in}
use Rattle.mi_undo.specs.Reading.{Half, good_note, if_good, note_placed}
use Rattle.mi_undo.specs.declared.kept.Place.{Place}
use Rattle.mi_undo.proofs.EncodeLemmas.{within_next}
use Rattle.mi_undo.proofs.FreshLemmas.{unnoted-among, names_in}
use Rattle.mi_undo.proofs.EntryLemmas.{notes_in-append, below-append}

split_shorter : (n : ℕ) (bytes a b : List ℕ) → split_at n bytes ≡ Some (a, b) → length b ≤ length bytes
split_shorter n bytes a b is =
    elim (nat_le n (length bytes)) as (λ t. ◌≡◌ {A = Option (List ℕ × List ℕ)} (cond t (Some (take n bytes, drop n bytes)) None) (Some (a, b)) → length b ≤ length bytes) [
      | true ↦ λ e. let same : b ≡ drop n bytes = sym (ap (rest_of (drop n bytes)) e) in omega (arith, ap (λ (l : List ℕ). length l) same, length-drop n bytes)
      | false ↦ λ e. absurd (cc)
    ] is
  where
    rest_of : List ℕ → Option (List ℕ × List ℕ) → List ℕ
    rest_of d None = d
    rest_of d (Some p) = p.1

abbrev Shorter : ℕ → Option (List ℕ × List ℕ) → Type 0
Shorter n None = Unit {0}
Shorter n (Some p) = length p.1 ≤ n

split_short : (n : ℕ) (bytes : List ℕ) → Shorter (length bytes) (split_at n bytes)
split_short n bytes = elim (nat_le n (length bytes)) as (λ t. Shorter (length bytes) (cond t (Some (take n bytes, drop n bytes)) None)) [ true ↦ omega (arith, length-drop n bytes) | false ↦ tt ]

two_short : (m : ℕ) (f : List ℕ → ℕ) (o : Option (List ℕ × List ℕ)) → Shorter m o → Shorter m (option_and_then (λ p. split_at (f p.0) p.1) o)
two_short m f None short = tt
two_short m f (Some p) short = lower (split_at (f p.0) p.1) (split_short (f p.0) p.1)
  where
    lower : (o : Option (List ℕ × List ℕ)) → Shorter (length p.1) o → Shorter m o
    lower None s = tt
    lower (Some q) s = omega (arith, s, short)

text_short : (bytes : List ℕ) → Shorter (length bytes) (text_at bytes)
unfolding text_at
text_short bytes = two_short (length bytes) (from_be_bytes w32) (split_at 4 bytes) (split_short 4 bytes)

blob_short : (bytes : List ℕ) → Shorter (length bytes) (blob_at bytes)
unfolding blob_at
blob_short bytes = two_short (length bytes) (from_be_bytes w64) (split_at 8 bytes) (split_short 8 bytes)

abbrev NoteShorter : ℕ → Option (Note × List ℕ) → Type 0
NoteShorter n None = Unit {0}
NoteShorter n (Some p) = length p.1 < n

absent_short : (m : ℕ) (o : Option (List ℕ × List ℕ)) → Shorter m o → NoteShorter (suc m) (option_map (λ p. (record { name = p.0; was = None }, p.1)) o)
absent_short m None s = tt
absent_short m (Some p) s = omega (arith, s)

held_short : (m : ℕ) (o : Option (List ℕ × List ℕ)) → Shorter m o → NoteShorter (suc m) (option_and_then (λ p. option_map (λ b. (record { name = p.0; was = Some b.0 }, b.1)) (blob_at p.1)) o)
held_short m None s = tt
held_short m (Some p) s = at (blob_at p.1) (blob_short p.1)
  where
    at : (b : Option (List ℕ × List ℕ)) → Shorter (length p.1) b → NoteShorter (suc m) (option_map (λ b. (record { name = p.0; was = Some b.0 }, b.1)) b)
    at None t = tt
    at (Some b) t = omega (arith, s, t)

note_short : (bytes : List ℕ) → NoteShorter (length bytes) (note_at bytes)
unfolding note_at
note_short [] = tt
note_short (zero ∷ rest) = absent_short (length rest) (text_at rest) (text_short rest)
note_short (suc zero ∷ rest) = held_short (length rest) (text_at rest) (text_short rest)
note_short (suc (suc t) ∷ rest) = tt

rest_shorter : (bytes : List ℕ) (n : Note) (rest : List ℕ) → note_at bytes ≡ Some (n, rest) → length rest < length bytes
rest_shorter bytes n rest is = subst (λ (o : Option (Note × List ℕ)). NoteShorter (length bytes) o) is (note_short bytes)

within_bad : (fuel : ℕ) (b : ℕ) (bytes : List ℕ) → note_at (b ∷ bytes) ≡ None → notes_within fuel (b ∷ bytes) ≡ None
unfolding notes_within
within_bad zero b bytes is = refl
within_bad (suc fuel) b bytes is = ap (λ (o : Option (Note × List ℕ)). option_and_then (λ p. option_map (λ ns. p.0 ∷ ns) (notes_within fuel p.1)) o) is

within_none : (fuel : ℕ) → notes_within fuel [] ≡ Some []
unfolding notes_within
within_none zero = refl
within_none (suc fuel) = refl

-- enough fuel is enough
within_enough : (n m : ℕ) (bytes : List ℕ) → length bytes ≤ n → length bytes ≤ m → notes_within n bytes ≡ notes_within m bytes
within_enough n m [] a b = within_none n ∙ sym (within_none m)
within_enough zero m (x ∷ bytes) a b = absurd (omega arith)
within_enough (suc n) zero (x ∷ bytes) a b = absurd (omega arith)
within_enough (suc n) (suc m) (x ∷ bytes) a b = at (note_at (x ∷ bytes)) refl (λ rest less. within_enough n m rest (omega (arith, less)) (omega (arith, less)))
  where
    at : (o : Option (Note × List ℕ)) → note_at (x ∷ bytes) ≡ o → ((rest : List ℕ) → length rest < suc (length bytes) → notes_within n rest ≡ notes_within m rest) → notes_within (suc n) (x ∷ bytes) ≡ notes_within (suc m) (x ∷ bytes)
    at None is again = within_bad (suc n) x bytes is ∙ sym (within_bad (suc m) x bytes is)
    at (Some p) is again =
        within_next n (x ∷ bytes) p.0 p.1 is
        ∙ ap (λ (o : Option (List Note)). option_map (λ ns. p.0 ∷ ns) o) (again p.1 (rest_shorter (x ∷ bytes) p.0 p.1 is))
        ∙ sym (within_next m (x ∷ bytes) p.0 p.1 is)

-- the notes of bytes that begin with one
notes_next : (bytes : List ℕ) (n : Note) (rest : List ℕ) → note_at bytes ≡ Some (n, rest) → notes_of bytes ≡ option_map (λ ns. n ∷ ns) (notes_of rest)
unfolding notes_of
notes_next [] n rest is = absurd (let less = rest_shorter [] n rest is in omega (arith, less))
notes_next (b ∷ bytes) n rest is =
    let less = rest_shorter (b ∷ bytes) n rest is in
    within_next (length bytes) (b ∷ bytes) n rest is ∙ ap (λ (o : Option (List Note)). option_map (λ ns. n ∷ ns) o) (within_enough (length bytes) (length rest) rest (omega (arith, less)) (omega arith))

notes_bad : (bytes : List ℕ) → bytes ≢ [] → note_at bytes ≡ None → notes_of bytes ≡ None
unfolding notes_of
notes_bad [] some is = absurd (some refl)
notes_bad (b ∷ bytes) some is = within_bad (length (b ∷ bytes)) b bytes is

notes_none : notes_of [] ≡ Some []
unfolding notes_of
notes_none = within_none 0

abbrev Good : Option (Note × List ℕ) → Type 0
Good None = Unit {0}
Good (Some q) = is_note q.0 ≡ true

good_parts : (bytes : List ℕ) (n : Note) (rest : List ℕ) → good_note bytes ≡ Some (n, rest) → (note_at bytes ≡ Some (n, rest)) × (is_note n ≡ true)
unfolding good_note
good_parts bytes n rest is = at (note_at bytes) refl is
  where
    at : (o : Option (Note × List ℕ)) → note_at bytes ≡ o → if_good o ≡ Some (n, rest) → (note_at bytes ≡ Some (n, rest)) × (is_note n ≡ true)
    at None e h = absurd (cc)
    at (Some p) e h =
        elim (is_note p.0) as (λ b. is_note p.0 ≡ b → ◌≡◌ {A = Option (Note × List ℕ)} (cond b (Some p) None) (Some (n, rest)) → (note_at bytes ≡ Some (n, rest)) × (is_note n ≡ true)) [
          | true ↦ λ t i. (e ∙ i, subst (λ (o : Option (Note × List ℕ)). Good o) i t)
          | false ↦ λ t i. absurd (cc)
        ] refl h

-- bytes whose first note can't be one
only_bad : (seen : List Note) (bytes : List ℕ) → bytes ≢ [] → good_note bytes ≡ None → only_new seen (notes_of bytes) ≡ None
unfolding good_note
only_bad seen bytes some is = at (note_at bytes) refl is
  where
    cut : (n : Note) (o : Option (List Note)) → is_note n ≡ false → only_new seen (option_map (λ ns. n ∷ ns) o) ≡ None
    cut n None bad = refl
    cut n (Some ns) bad = ap (λ b. cond ((b && is_none (note_of seen n.name)) && are_new (seen ++ n ∷ []) ns) (Some (n ∷ ns)) None) bad

    at : (o : Option (Note × List ℕ)) → note_at bytes ≡ o → if_good o ≡ None → only_new seen (notes_of bytes) ≡ None
    at None e h = ap (λ (o : Option (List Note)). only_new seen o) (notes_bad bytes some e)
    at (Some p) e h =
        elim (is_note p.0) as (λ b. is_note p.0 ≡ b → ◌≡◌ {A = Option (Note × List ℕ)} (cond b (Some p) None) None → only_new seen (notes_of bytes) ≡ None) [
          | true ↦ λ t i. absurd (cc)
          | false ↦ λ t i. ap (λ (o : Option (List Note)). only_new seen o) (notes_next bytes p.0 p.1 e) ∙ cut p.0 (notes_of p.1) t
        ] refl h

-- one note more
only_next : (seen : List Note) (bytes : List ℕ) (n : Note) (rest : List ℕ) (b : Bool) → good_note bytes ≡ Some (n, rest) → is_none (note_of seen n.name) ≡ b
    → only_new seen (notes_of bytes) ≡ cond b (option_map (λ ns. n ∷ ns) (only_new (seen ++ n ∷ []) (notes_of rest))) None
only_next seen bytes n rest b is fresh =
    let parts = good_parts bytes n rest is in
    ap (λ (o : Option (List Note)). only_new seen o) (notes_next bytes n rest parts.0) ∙ at (notes_of rest) parts.1 b fresh
  where
    at : (o : Option (List Note)) → is_note n ≡ true → (b : Bool) → is_none (note_of seen n.name) ≡ b → only_new seen (option_map (λ ns. n ∷ ns) o) ≡ cond b (option_map (λ ns. n ∷ ns) (only_new (seen ++ n ∷ []) o)) None
    at None good true f = refl
    at None good false f = refl
    at (Some ns) good true f =
        ap (λ c. cond ((c && is_none (note_of seen n.name)) && are_new (seen ++ n ∷ []) ns) (Some (n ∷ ns)) None) good
        ∙ ap (λ c. cond (c && are_new (seen ++ n ∷ []) ns) (Some (n ∷ ns)) None) f
        ∙ by_rest (are_new (seen ++ n ∷ []) ns)
      where
        by_rest : (c : Bool) → cond c (Some (n ∷ ns)) None ≡ option_map (λ l. n ∷ l) (cond c (Some ns) None)
        by_rest true = refl
        by_rest false = refl
    at (Some ns) good false f =
        ap (λ c. cond ((c && is_none (note_of seen n.name)) && are_new (seen ++ n ∷ []) ns) (Some (n ∷ ns)) None) good
        ∙ ap (λ c. cond (c && are_new (seen ++ n ∷ []) ns) (Some (n ∷ ns)) None) f

pub half_start : (bytes : List ℕ) (seen : List Note) → Half bytes seen seen 0
half_start bytes seen = record { done = []; now_is = sym (append-nil seen); rest = by_rest (only_new seen (notes_of bytes)) }
  where
    by_rest : (o : Option (List Note)) → o ≡ option_map (λ (ns : List Note). [] ++ ns) o
    by_rest None = refl
    by_rest (Some ns) = refl

module _ (bytes : List ℕ) (seen now : List Note) (at : ℕ) (half : Half bytes seen now at) where
  pub half_bad : at < length bytes → good_note (drop at bytes) ≡ None → only_new seen (notes_of bytes) ≡ None
  half_bad below is = half.rest ∙ ap (λ (o : Option (List Note)). option_map (λ ns. half.done ++ ns) o) (only_bad now (drop at bytes) (λ e. omega (arith, below, ap (λ (l : List ℕ). length l) e, length-drop at bytes)) is)

  pub half_end : length bytes ≤ at → only_new seen (notes_of bytes) ≡ Some half.done
  half_end past =
      half.rest
      ∙ ap (λ (l : List ℕ). option_map (λ ns. half.done ++ ns) (only_new now (notes_of l))) (drop_all at bytes past)
      ∙ ap (λ (o : Option (List Note)). option_map (λ ns. half.done ++ ns) (only_new now o)) notes_none
      ∙ ap Some (append-nil half.done)

  module _ (n : Note) (next : ℕ) (is : good_note (drop at bytes) ≡ Some (n, drop next bytes)) where
    pub half_twice : is_none (note_of now n.name) ≡ false → only_new seen (notes_of bytes) ≡ None
    half_twice known = half.rest ∙ ap (λ (o : Option (List Note)). option_map (λ ns. half.done ++ ns) o) (only_next now (drop at bytes) n (drop next bytes) false is known)

    pub half_next : is_none (note_of now n.name) ≡ true → Half bytes seen (now ++ n ∷ []) next
    half_next fresh = record {
      done = half.done ++ n ∷ [];
      now_is = ap (λ (l : List Note). l ++ n ∷ []) half.now_is ∙ append_assoc seen half.done (n ∷ []);
      rest = half.rest ∙ ap (λ (o : Option (List Note)). option_map (λ ns. half.done ++ ns) o) (only_next now (drop at bytes) n (drop next bytes) true is fresh) ∙ by_rest (only_new (now ++ n ∷ []) (notes_of (drop next bytes)));
    }
      where
        by_rest : (o : Option (List Note)) → option_map (λ (ns : List Note). half.done ++ ns) (option_map (λ (ns : List Note). n ∷ ns) o) ≡ option_map (λ (ns : List Note). (half.done ++ n ∷ []) ++ ns) o
        by_rest None = refl
        by_rest (Some ns) = ap Some (sym (append_assoc half.done (n ∷ []) ns))

pub held_total : (o : Option (List ℕ)) (total : ℕ) → Some total ≡ option_map length o → (total ≡ length (bytes_or_none o)) × (o ≡ Some (bytes_or_none o))
held_total None total is = absurd (cc)
held_total (Some b) total is = (cc, refl)

pub none_held : (o : Option (List ℕ)) → None ≡ option_map length o → o ≡ None
none_held None is = refl
none_held (Some b) is = absurd (cc)

-- the notes of an entry that is there
pub entry_there : (seen : List Note) (o : Option (List ℕ)) (r : Option (List Note)) → o ≡ Some (bytes_or_none o) → only_new seen (notes_of (bytes_or_none o)) ≡ r → entry_notes seen o ≡ r
unfolding entry_notes
entry_there seen o r there is = ap (λ (x : Option (List ℕ)). entry_notes seen x) there ∙ is

pub entry_away : (seen : List Note) (o : Option (List ℕ)) → o ≡ None → entry_notes seen o ≡ None
unfolding entry_notes
entry_away seen o is = ap (λ (x : Option (List ℕ)). entry_notes seen x) is

-- whether the name of a place is noted
pub noted_place : (h : Map) (places : List Place) (name : List ℕ) (b : Bool) → not b ≡ is_among name (place_names places) → is_none (note_of (notes_in h places) name) ≡ b
noted_place h places name b is = unnoted-among (notes_in h places) name ∙ ap (λ (l : List (List ℕ)). not (is_among name l)) (names_in h places) ∙ ap not (sym is) ∙ twice b
  where
    twice : (b : Bool) → not (not b) ≡ b
    twice true = refl
    twice false = refl

-- what is read of the same map
pub placed_same : (h later : Map) (entry : List ℕ) (at : ℕ) (o : Option (Place × ℕ)) → later ≡ h → good_note (drop at (bytes_or_none (get later entry))) ≡ note_placed later (bytes_or_none (get later entry)) o
    → good_note (drop at (bytes_or_none (get h entry))) ≡ note_placed h (bytes_or_none (get h entry)) o
placed_same h later entry at o same is = subst (λ (m : Map). good_note (drop at (bytes_or_none (get m entry))) ≡ note_placed m (bytes_or_none (get m entry)) o) same is

pub half_placed : (h : Map) (bytes : List ℕ) (seen : List Note) (places later : List Place) (p : Place) (next : ℕ) → later ≡ places ++ p ∷ [] → Half bytes seen (notes_in h places ++ note_in h p ∷ []) next → Half bytes seen (notes_in h later) next
half_placed h bytes seen places later p next is half = subst (λ (l : List Note). Half bytes seen l next) (sym (ap (notes_in h) is ∙ notes_in-append h places (p ∷ []))) half

pub below_placed : (n : ℕ) (places later : List Place) (p : Place) → later ≡ places ++ p ∷ [] → AreBelow (n + 1) places → p.entry ≡ n → AreBelow (n + 1) later
below_placed n places later p is below at = subst (λ (l : List Place). AreBelow (n + 1) l) (sym is) (below-append (n + 1) places (p ∷ []) below (omega (arith, at), tt))
