-- Old bytes over a map, and how many bytes that takes.
use Rattle.std.proofs.Common.{◌≡◌, ◌≢◌, ⊎_elim, ℕ, zero, suc, ◌+◌, ◌≤◌, true, false, cond, not, List, [], ◌∷◌, ◌++◌, take, drop, take-append-drop, Option, Some, None, is_some, refl, sym, ap, subst, ◌∙◌, arith}
use Rattle.std.specs.FinMap.{get}
use Rattle.mi_text.specs.Maps.{set_to, same_name}
use Rattle.mi_text.proofs.MapLemmas.{same, same_itself, get-set_to, get-retained}
use Rattle.mi_volume.specs.Maps.{Map, Fits, Exceeds, size, slot_size}
use Rattle.mi_volume.specs.State.{State}
use Rattle.mi_volume.proofs.MapLemmas.{name_cases, same_name-other}
use Rattle.mi_volume.proofs.SizeLemmas.{size-within, size-over}
use Rattle.mi_undo.specs.Names.{is_inside}
use Rattle.mi_undo.specs.Notes.{Note, note_of, are_new}
use Rattle.mi_undo.specs.Stands.{put_over, outside, area_of}
use Rattle.mi_undo.specs.Keeps.{Keeps}
use Rattle.mi_undo.specs.Area.{note_in, notes_in}
use Rattle.mi_undo.specs.Steps.{IsWithin}
use Rattle.mi_undo.specs.Back.{InsideStays, Returning, IsStuck, IsWithout}
use Rattle.mi_undo.specs.declared.kept.Place.{Place}
use Rattle.mi_undo.proofs.NotesOf.{note_of-append, first_of_two}
use Rattle.mi_undo.proofs.StandsLemmas.{get-outside, get-put_over, or_else}
use Rattle.mi_undo.proofs.StepLemmas.{exceeds_more}
use Rattle.mi_undo.proofs.BackLemmas.{note_of-one, note_of-head, note_in_inside, new_before}

pub get-area_of : (d : Map) (q : List ℕ) → get (area_of d) q ≡ cond (is_inside q) (get d q) None
unfolding area_of
get-area_of d q = get-retained d is_inside q

-- the note of a new name is put over, too
pub over_more : (front : List Note) (n : Note) (d : Map) → note_of front n.name ≡ None → set_to (put_over front d) n.name n.was ≡ put_over (front ++ n ∷ []) d
over_more front n d new = same _ _ (λ q. get-set_to (put_over front d) n.name n.was q ∙ ⊎_elim (here q) (other q) (name_cases q n.name) ∙ sym (get-put_over (front ++ n ∷ []) d q))
  where
    here : (q : List ℕ) → q ≡ n.name → cond (same_name q n.name) n.was (get (put_over front d) q) ≡ or_else (note_of (front ++ n ∷ []) q) (get d q)
    here q is =
        let at : note_of (front ++ n ∷ []) n.name ≡ Some n.was =
        note_of-append front (n ∷ []) n.name ∙ ap (λ (o : Option (Option (List ℕ))). first_of_two o (note_of (n ∷ []) n.name)) new ∙ note_of-head n [] in
        ap (λ (x : List ℕ). cond (same_name x n.name) n.was (get (put_over front d) q)) is ∙ ap (λ b. cond b n.was (get (put_over front d) q)) (same_itself n.name)
        ∙ sym (ap (λ (x : List ℕ). or_else (note_of (front ++ n ∷ []) x) (get d q)) is ∙ ap (λ (o : Option (Option (List ℕ))). or_else o (get d q)) at)

    alone : (q : List ℕ) (o : Option (Option (List ℕ))) → q ≢ n.name → note_of front q ≡ o → note_of (front ++ n ∷ []) q ≡ o
    alone q None ne is = note_of-append front (n ∷ []) q ∙ ap (λ (o : Option (Option (List ℕ))). first_of_two o (note_of (n ∷ []) q)) is ∙ note_of-one n q ne
    alone q (Some w) ne is = note_of-append front (n ∷ []) q ∙ ap (λ (o : Option (Option (List ℕ))). first_of_two o (note_of (n ∷ []) q)) is

    other : (q : List ℕ) → q ≢ n.name → cond (same_name q n.name) n.was (get (put_over front d) q) ≡ or_else (note_of (front ++ n ∷ []) q) (get d q)
    other q ne =
        ap (λ b. cond b n.was (get (put_over front d) q)) (same_name-other q n.name ne) ∙ get-put_over front d q
        ∙ sym (ap (λ (o : Option (Option (List ℕ))). or_else o (get d q)) (alone q (note_of front q) ne refl))

-- while they are put back, the volume is what was without them, with the first of them over it
pub returning_is : (s0 s : State) (F : Map) (ns front : List Note) → Keeps s0 F ns → ((q : List ℕ) (w : Option (List ℕ)) → note_of ns q ≡ Some w → get s0.held q ≡ None) → Returning s0 s F ns front → s.held ≡ put_over front s0.held
returning_is s0 s F ns front keeps away r = same _ _ (λ q. at q (note_of front q) refl ∙ sym (get-put_over front s0.held q))
  where
    outer : (q : List ℕ) (o : Option (Option (List ℕ))) → note_of ns q ≡ o → note_of front q ≡ None → get s.held q ≡ get s0.held q
    outer q (Some w) noted none = r.away q w noted none ∙ sym (away q w noted)
    outer q None unnoted none =
        elim (is_inside q) as (λ b. is_inside q ≡ b → get s.held q ≡ get s0.held q) [
          | true ↦ λ within. r.inside q within
          | false ↦ λ out. r.keeps.others q out unnoted ∙ sym (keeps.others q out unnoted)
        ] refl

    at : (q : List ℕ) (o : Option (Option (List ℕ))) → note_of front q ≡ o → get s.held q ≡ or_else (note_of front q) (get s0.held q)
    at q None none = outer q (note_of ns q) refl none ∙ sym (ap (λ (o : Option (Option (List ℕ))). or_else o (get s0.held q)) none)
    at q (Some w) noted = r.back q w noted ∙ sym (ap (λ (o : Option (Option (List ℕ))). or_else o (get s0.held q)) noted)

pub take_notes : (d : Map) (places : List Place) (i : ℕ) → take i (notes_in d places) ≡ notes_in d (take i places)
take_notes d places zero = refl
take_notes d [] (suc i) = refl
take_notes d (p ∷ places) (suc i) = ap (λ (l : List Note). note_in d p ∷ l) (take_notes d places i)

-- at the note whose old bytes have no room
pub stuck : (s0 s : State) (F : Map) (ns front rest : List Note) (p : Place) (i : ℕ) (is : ns ≡ front ++ note_in s0.held p ∷ rest) → are_new [] ns ≡ true → Keeps s0 F ns
    → ((q : List ℕ) (w : Option (List ℕ)) → note_of ns q ≡ Some w → get s0.held q ≡ None) → Returning s0 s F ns front → take i ns ≡ front → take (i + 1) ns ≡ front ++ note_in s0.held p ∷ []
    → (IsWithin s0 → IsWithin s) → Exceeds s.capacity (size (set_to s.held p.name (note_in s.held p).was)) → IsStuck s0.capacity s0.held ns i
stuck s0 s F ns front rest p i is new keeps away r first more fits over =
    let n = note_in s0.held p in
    let held = returning_is s0 s F ns front keeps away r in
    let map : set_to s.held p.name (note_in s.held p).was ≡ put_over (take (i + 1) ns) s0.held =
    (λ j. set_to (held j) p.name (note_in_inside s0.held s.held p r.inside j).was) ∙ over_more front n s0.held (new_before s0 s F ns front rest n is new) ∙ ap (λ (l : List Note). put_over l s0.held) (sym more) in
    record {
      passes = subst (λ (c : Option ℕ). Exceeds c (size (put_over (take (i + 1) ns) s0.held))) r.goes.capacity (subst (λ (m : Map). Exceeds s.capacity (size m)) map over);
      before = λ start. subst (λ (c : Option ℕ). Fits c (size (put_over (take i ns) s0.held))) r.goes.capacity (subst (λ (m : Map). Fits s.capacity (size m)) (held ∙ ap (λ (l : List Note). put_over l s0.held) (sym first)) (fits start));
    }

-- the noted names are away
pub without : (s t : State) (F : Map) (ns : List Note) → Keeps s F ns → Keeps t F ns → InsideStays s.held t.held → ((q : List ℕ) (w : Option (List ℕ)) → note_of ns q ≡ Some w → get t.held q ≡ None) → IsWithout ns s.held t.held
without s t F ns before after inside away = record {
  away = away;
  others = λ q none.
      elim (is_inside q) as (λ b. is_inside q ≡ b → get t.held q ≡ get s.held q) [
        | true ↦ λ within. inside q within
        | false ↦ λ out. after.others q out none ∙ sym (before.others q out none)
      ] refl;
}

-- a note of the first ones is one of all
first_of_all : (ns : List Note) (i : ℕ) (q : List ℕ) (w : Option (List ℕ)) → note_of (take i ns) q ≡ Some w → note_of ns q ≡ Some w
first_of_all ns i q w is =
    ap (λ (l : List Note). note_of l q) (sym (take-append-drop i ns)) ∙ note_of-append (take i ns) (drop i ns) q ∙ ap (λ (o : Option (Option (List ℕ))). first_of_two o (note_of (drop i ns) q)) is

-- what is put back is no more than the former map and the area
pub over_within : (s : State) (F : Map) (ns : List Note) (base : Map) (i : ℕ) → Keeps s F ns → IsWithout ns s.held base → size (put_over (take i ns) base) ≤ size F + size (area_of s.held)
over_within s F ns base i keeps bare = size-within (put_over (take i ns) base) F (area_of s.held) (λ q. by_note q (note_of (take i ns) q) refl)
  where
    in_former : (q : List ℕ) (o : Option (List ℕ)) → o ≡ get F q → slot_size q o ≤ slot_size q (get F q) + slot_size q (get (area_of s.held) q)
    in_former q o is = let e : slot_size q o ≡ slot_size q (get F q) = ap (slot_size q) is in omega (arith, e)

    in_area : (q : List ℕ) (o : Option (List ℕ)) → o ≡ get (area_of s.held) q → slot_size q o ≤ slot_size q (get F q) + slot_size q (get (area_of s.held) q)
    in_area q o is = let e : slot_size q o ≡ slot_size q (get (area_of s.held) q) = ap (slot_size q) is in omega (arith, e)

    in_none : (q : List ℕ) (o : Option (List ℕ)) → o ≡ None → slot_size q o ≤ slot_size q (get F q) + slot_size q (get (area_of s.held) q)
    in_none q o is = let e : slot_size q o ≡ 0 = ap (slot_size q) is in omega (arith, e)

    by_side : (q : List ℕ) → note_of ns q ≡ None → slot_size q (get base q) ≤ slot_size q (get F q) + slot_size q (get (area_of s.held) q)
    by_side q none =
        elim (is_inside q) as (λ b. is_inside q ≡ b → slot_size q (get base q) ≤ slot_size q (get F q) + slot_size q (get (area_of s.held) q)) [
          | true ↦ λ within. in_area q (get base q) (bare.others q none ∙ sym (get-area_of s.held q ∙ ap (λ b. cond b (get s.held q) None) within))
          | false ↦ λ out. in_former q (get base q) (bare.others q none ∙ keeps.others q out none)
        ] refl

    unput : (q : List ℕ) (o : Option (Option (List ℕ))) → note_of ns q ≡ o → slot_size q (get base q) ≤ slot_size q (get F q) + slot_size q (get (area_of s.held) q)
    unput q None is = by_side q is
    unput q (Some w) is = in_none q (get base q) (bare.away q w is)

    by_note : (q : List ℕ) (o : Option (Option (List ℕ))) → note_of (take i ns) q ≡ o → slot_size q (get (put_over (take i ns) base) q) ≤ slot_size q (get F q) + slot_size q (get (area_of s.held) q)
    by_note q None is =
        let at : get (put_over (take i ns) base) q ≡ get base q = get-put_over (take i ns) base q ∙ ap (λ (o : Option (Option (List ℕ))). or_else o (get base q)) is in
        subst (λ (o : Option (List ℕ)). slot_size q o ≤ slot_size q (get F q) + slot_size q (get (area_of s.held) q)) (sym at) (unput q (note_of ns q) refl)
    by_note q (Some w) is =
        in_former q (get (put_over (take i ns) base) q)
        (get-put_over (take i ns) base q ∙ ap (λ (o : Option (Option (List ℕ))). or_else o (get base q)) is ∙ sym (keeps.olds q w (first_of_all ns i q w is)))

pub stuck_exceeds : (s : State) (F : Map) (ns : List Note) (base : Map) (i : ℕ) → Keeps s F ns → IsWithout ns s.held base → Exceeds s.capacity (size (put_over (take i ns) base)) → Exceeds s.capacity (size F + size (area_of s.held))
stuck_exceeds s F ns base i keeps bare over = exceeds_more s.capacity _ _ (over_within s F ns base i keeps bare) over

-- the former map and the area are no more than the volume where all is back
pub area_within_all : (h d F : Map) → ((q : List ℕ) → is_inside q ≡ true → get F q ≡ None) → InsideStays h d → outside d ≡ F → size F + size (area_of h) ≤ size d
area_within_all h d F nothing stays is = size-over F (area_of h) d (λ q. at q)
  where
    at : (q : List ℕ) → slot_size q (get F q) + slot_size q (get (area_of h) q) ≤ slot_size q (get d q)
    at q =
        elim (is_inside q) as (λ b. is_inside q ≡ b → slot_size q (get F q) + slot_size q (get (area_of h) q) ≤ slot_size q (get d q)) [
          | true ↦ λ within.
              let none : slot_size q (get F q) ≡ 0 = ap (slot_size q) (nothing q within) in
              let all : slot_size q (get (area_of h) q) ≡ slot_size q (get d q) = ap (slot_size q) (get-area_of h q ∙ ap (λ b. cond b (get h q) None) within ∙ sym (stays q within)) in
              omega (arith, none, all)
          | false ↦ λ out.
              let none : slot_size q (get (area_of h) q) ≡ 0 = ap (slot_size q) (get-area_of h q ∙ ap (λ b. cond b (get h q) None) out) in
              let all : slot_size q (get F q) ≡ slot_size q (get d q) = ap (slot_size q) (ap (λ (m : Map). get m q) (sym is) ∙ get-outside d q ∙ ap (λ b. cond (not b) (get d q) None) out) in
              omega (arith, none, all)
        ] refl

pub fits_less : (capacity : Option ℕ) (a b : ℕ) → a ≤ b → Fits capacity b → Fits capacity a
fits_less None a b le fits = tt
fits_less (Some c) a b le fits = omega arith

pub exceeds_some : (capacity : Option ℕ) (n : ℕ) → Exceeds capacity n → is_some capacity ≡ true
exceeds_some None n over = absurd over
exceeds_some (Some c) n over = refl

pub fits_not_over : (capacity : Option ℕ) (a b : ℕ) → a ≤ b → Fits capacity b → Exceeds capacity a → ⊥
fits_not_over None a b le fits over = over
fits_not_over (Some c) a b le fits over = omega arith
