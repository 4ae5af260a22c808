-- How many bytes an area takes, and that recovery has room for them.
use Rattle.std.proofs.Common.{◌≡◌, ◌≢◌, ⊎_elim, ℕ, ◌+◌, ◌≤◌, true, false, cond, not, ◌==◌, List, [], ◌∷◌, length, Contains, Option, Some, None, Result, Ok, Err, Vec, refl, sym, ap, ◌∙◌, arith}
use Rattle.std.specs.declared.alloc.Global.{Global}
use Rattle.std.specs.FinMap.{get, insert, remove}
use Rattle.mi_text.proofs.MapLemmas.{same}
use Rattle.mi_volume.specs.Maps.{Map, size, slot_size}
use Rattle.mi_volume.specs.State.{State, GoesOn, Images, ImagesOf, NothingDirty, Stays}
use Rattle.mi_volume.proofs.MapLemmas.{name_cases, get-insert_same, get-insert_other, get-remove_same, get-remove_other}
use Rattle.mi_volume.proofs.Moments.{started, joined, weaker}
use Rattle.mi_volume.proofs.SizeLemmas.{size-remove, size-within, size-over}
use Rattle.mi_undo.specs.Names.{marker, is_inside}
use Rattle.mi_undo.specs.Notes.{Note, notes_for, spelled}
use Rattle.mi_undo.specs.Stands.{StandsFor, outside, area_of}
use Rattle.mi_undo.specs.Keeps.{IsFree, IsStanding}
use Rattle.mi_undo.specs.Steps.{OnlyChanges, Touches}
use Rattle.mi_undo.specs.Area.{place_names, Works, CanGoBack}
use Rattle.mi_undo.specs.Entry.{Enters}
use Rattle.mi_undo.specs.Clear.{StandsPlainly}
use Rattle.mi_undo.specs.Commit.{IsHalfway, Closes}
use Rattle.mi_undo.specs.Room.{NeverShort, IsReadArea, TakesAtMost, GoesOnWithRoom, KeepsRoom, CommitsRoom, entry_size}
use Rattle.mi_undo.specs.declared.kept.Place.{Place}
use Rattle.mi_undo.specs.declared.kept.Kept.{Kept}
use Rattle.mi_undo.specs.declared.fault.OpFault.{OpFault}
use Rattle.mi_undo.specs.declared.fault.CommitFault.{CommitFault}
use Rattle.mi_undo.specs.declared.fault.CommitFault.TheVariants.{Before, Undoable}
use Rattle.mi_undo.proofs.StandsLemmas.{get-outside}
use Rattle.mi_undo.proofs.OverLemmas.{get-area_of}
use Rattle.mi_undo.proofs.NoteLemmas.{not_both}
use Rattle.mi_undo.proofs.CloseLemmas.{one_is, halfway_open}
use Rattle.mi_undo.proofs.BackSteps.{keeps_image}
use Rattle.mi_undo.proofs.CommitLemmas.{standing_stays, works_image}
use Rattle.mi_undo.proofs.ChangeLemmas.{works_changed, noted_outside}
use Rattle.mi_undo.proofs.TouchLemmas.{touches_name, touches_none}
use Rattle.mi_undo.proofs.RoomLemmas.{left_more, left_kept}
use Rattle.mi_undo.proofs.RecoverLemmas.{nothing_noted, has_room, goes_with_room, room_then, reads_beside, left_beside}

pub some_size : (m : Map) (fresh : List (List ℕ)) → false ≡ (length fresh == 0) → entry_size (notes_for m fresh) ≡ 25 + length (spelled (notes_for m fresh))
some_size m [] is = absurd (cc)
some_size m (n ∷ fresh) is = refl

pub takes_more : (n m : ℕ) (s : State) → n ≤ m → TakesAtMost n s → TakesAtMost m s
takes_more n m s le takes = let held = takes.held in record { held = omega (arith, held, le); left = left_more n m s le takes.left }

-- nothing is done yet
pub room_start : (s : State) (F : Map) (n m : ℕ) → TakesAtMost n s → n ≤ m → KeepsRoom s s F m
room_start s F n m takes le = record { takes = takes_more n m s le takes; goes = λ fits. started s (NeverShort s.capacity) }

-- a map is what is outside the area and what is in it
split_least : (m : Map) → size (outside m) + size (area_of m) ≤ size m
split_least m = size-over (outside m) (area_of m) m (λ q. at q)
  where
    at : (q : List ℕ) → slot_size q (get (outside m) q) + slot_size q (get (area_of m) q) ≤ slot_size q (get m q)
    at q =
        let out = ap (slot_size q) (get-outside m q) in
        let within = ap (slot_size q) (get-area_of m q) in
        elim (is_inside q) as (λ b. slot_size q (get (outside m) q) ≡ slot_size q (cond (not b) (get m q) None) → slot_size q (get (area_of m) q) ≡ slot_size q (cond b (get m q) None) → slot_size q (get (outside m) q) + slot_size q (get (area_of m) q) ≤ slot_size q (get m q)) [
          | true ↦ λ a b. omega (arith, a, b)
          | false ↦ λ a b. omega (arith, a, b)
        ] out within

split_most : (m : Map) → size m ≤ size (outside m) + size (area_of m)
split_most m = size-within m (outside m) (area_of m) (λ q. at q)
  where
    at : (q : List ℕ) → slot_size q (get m q) ≤ slot_size q (get (outside m) q) + slot_size q (get (area_of m) q)
    at q =
        let out = ap (slot_size q) (get-outside m q) in
        let within = ap (slot_size q) (get-area_of m q) in
        elim (is_inside q) as (λ b. slot_size q (get (outside m) q) ≡ slot_size q (cond (not b) (get m q) None) → slot_size q (get (area_of m) q) ≡ slot_size q (cond b (get m q) None) → slot_size q (get m q) ≤ slot_size q (get (outside m) q) + slot_size q (get (area_of m) q)) [
          | true ↦ λ a b. omega (arith, a, b)
          | false ↦ λ a b. omega (arith, a, b)
        ] out within

-- an entry was made, or wasn't
pub room_entered : (s t : State) (F : Map) (parts : List (List Note)) (number : ℕ) (ns : List Note) (r : Result (Vec Place Global) OpFault) → Enters number F parts ns s t r → (n : ℕ) → TakesAtMost n s → KeepsRoom s t F (n + (25 + length (spelled ns)))
room_entered s t F parts number ns r e n takes =
    let room = e.room n takes.left in
    let held = takes.held in
    let most = e.adds.most in
    let same_outside : size (outside t.held) ≡ size (outside s.held) = ap size e.trying.outside in
    record {
      takes = record { held = omega (arith, held, most, same_outside, split_least t.held, split_most s.held); left = room.1 };
      goes = goes_with_room s t F (n + (25 + length (spelled ns))) e.trying.goes room.0;
    }

area_same : (h d : Map) → ((q : List ℕ) → is_inside q ≡ true → get d q ≡ get h q) → area_of d ≡ area_of h
area_same h d alike = same (area_of d) (area_of h) (λ q. get-area_of d q ∙ at q ∙ sym (get-area_of h q))
  where
    at : (q : List ℕ) → cond (is_inside q) (get d q) None ≡ cond (is_inside q) (get h q) None
    at q = elim (is_inside q) as (λ b. is_inside q ≡ b → cond b (get d q) None ≡ cond b (get h q) None) [ true ↦ λ within. alike q within | false ↦ λ out. refl ] refl

-- a call that changes names outside the area
pub takes_beside : (n : ℕ) (s t : State) (X : List ℕ → Type 0) → TakesAtMost n s → ((q : List ℕ) → X q → is_inside q ≡ true → ⊥) → Touches X s t → TakesAtMost n t
takes_beside n s t X takes out touches = record {
  held = let same_size : size (area_of t.held) ≡ size (area_of s.held) = ap size (area_same s.held t.held (λ q within. touches.others q (λ one. out q one within))) in let held = takes.held in omega (arith, same_size, held);
  left = left_beside n s t X takes.left (λ q one within ne. out q one within) touches;
}

pub room_beside : (n : ℕ) (s t : State) (F : Map) (X : List ℕ → Type 0) → TakesAtMost n s → ((q : List ℕ) → X q → is_inside q ≡ true → ⊥) → Touches X s t → GoesOn s t (StandsFor F) → KeepsRoom s t F n
room_beside n s t F X takes out touches goes = record {
  takes = takes_beside n s t X takes out touches;
  goes = goes_with_room s t F n goes (reads_beside n s t X takes.left (λ q one within ne. out q one within) touches);
}

-- a noted name was changed
pub room_changed : (s t : State) (kept : Kept) (F : Map) (x : List ℕ) (n : ℕ) → Works s kept F → Contains (place_names kept.places.items) x → OnlyChanges x s t → TakesAtMost n s → KeepsRoom s t F n
room_changed s t kept F x n w among only takes =
    let out = noted_outside s kept F x w among in
    room_beside n s t F (λ q. q ≡ x) takes (λ q is within. not_both (is_inside q) within (ap is_inside is ∙ out)) (touches_name (λ q. q ≡ x) s t x (λ q is. is) only.goes only.others only.dirty) (works_changed s t kept F x w among only).goes

-- a call that only looks
pub room_looked : (s t : State) (kept : Kept) (F : Map) (n : ℕ) → CanGoBack s kept F → GoesOn s t (Images s) → Stays s t → TakesAtMost n s → KeepsRoom s t F n
room_looked s t kept F n can goes stays takes =
    room_beside n s t F (λ q. ⊥) takes (λ q never within. never) (touches_none (λ q. ⊥) s t goes stays) (weaker s t (Images s) (StandsFor F) (keeps_image s F can.notes can.keeps) goes)

-- an empty map
size-none : (m : Map) → ((q : List ℕ) → get m q ≡ None) → size m ≡ 0
size-none m none = let twice = size-over m m m (λ q. let zero_slot : slot_size q (get m q) ≡ 0 = ap (slot_size q) (none q) in omega (arith, zero_slot)) in omega (arith, twice)

-- an area that was begun takes no more than its marker
pub begun_takes : (s t : State) → IsFree s → t.held ≡ insert s.held marker (1 ∷ []) → NothingDirty t → TakesAtMost 0 t
begun_takes s t free held clean = record { held = marker_alone; left = λ d agrees small area is. let none = size-none area (λ q. nothing d agrees area is q (get area q) refl) in omega (arith, none) }
  where
    absent : (q : List ℕ) → is_inside q ≡ true → q ≢ marker → get t.held q ≡ None
    absent q within ne = ap (λ (m : Map). get m q) held ∙ get-insert_other s.held marker (1 ∷ []) q ne ∙ free.nothing_inside q within

    marker_alone : size (area_of t.held) ≤ 4 + 0
    marker_alone =
        let sum = size-remove (area_of t.held) marker in
        let slot : slot_size marker (get (area_of t.held) marker) ≡ 4 = ap (slot_size marker) (get-area_of t.held marker ∙ ap (λ (m : Map). get m marker) held ∙ get-insert_same s.held marker (1 ∷ [])) in
        let rest = size-none (remove (area_of t.held) marker) (λ q. ⊎_elim
        (λ (is : q ≡ marker). ap (λ (x : List ℕ). get (remove (area_of t.held) marker) x) is ∙ get-remove_same (area_of t.held) marker)
        (λ (ne : q ≢ marker). get-remove_other (area_of t.held) marker q ne ∙ get-area_of t.held q ∙ beside q ne)
        (name_cases q marker)) in
        omega (arith, sum, slot, rest)
      where
        beside : (q : List ℕ) → q ≢ marker → cond (is_inside q) (get t.held q) None ≡ None
        beside q ne = elim (is_inside q) as (λ b. is_inside q ≡ b → cond b (get t.held q) None ≡ None) [ true ↦ λ within. absent q within ne | false ↦ λ out. refl ] refl

    nothing : (d : Map) → ((q : List ℕ) → is_inside q ≡ true → q ≢ marker → ¬ t.dirty q → get d q ≡ get t.held q) → (area : Map) → IsReadArea d area → (q : List ℕ) (o : Option (List ℕ)) → get area q ≡ o → get area q ≡ None
    nothing d agrees area is q None none = none
    nothing d agrees area is q (Some b) some = absurd (clash q b some)
      where
        not_none : (q : List ℕ) (b : List ℕ) → get area q ≡ Some b → get area q ≡ None → ⊥
        not_none q b some none = let both : Some b ≡ None = sym some ∙ none in cc

        inside : (q : List ℕ) (b : List ℕ) → get area q ≡ Some b → is_inside q ≡ true → ⊥
        inside q b some within = ⊎_elim
            (λ (is_marker : q ≡ marker). not_none q b some (ap (λ (x : List ℕ). get area x) is_marker ∙ is.marker))
            (λ (ne : q ≢ marker). not_none q b some (is.held q within ne (λ unread. not_none q b some (is.unread q unread)) ∙ agrees q within ne (clean q) ∙ absent q within ne))
            (name_cases q marker)

        clash : (q : List ℕ) (b : List ℕ) → get area q ≡ Some b → ⊥
        clash q b some = elim (is_inside q) as (λ c. is_inside q ≡ c → ⊥) [ true ↦ λ within. inside q b some within | false ↦ λ out. not_none q b some (is.outside q out) ] refl

-- the sync before the commit write, and the write
module _ (s t : State) (kept : Kept) (F : Map) (n : ℕ) (w : Works s kept F) (takes : TakesAtMost n s) (looks : GoesOn s t (Images s)) (stays : Stays s t) where
  touched : Touches (λ q. ⊥) s t
  touched = touches_none (λ q. ⊥) s t looks stays

  takes_synced : TakesAtMost n t
  takes_synced = takes_beside n s t (λ q. ⊥) takes (λ q never within. never) touched

  first_room : GoesOnWithRoom s t F n
  first_room = goes_with_room s t F n (weaker s t (Images s) (StandsFor F) (works_image s kept F w) looks) (reads_beside n s t (λ q. ⊥) takes.left (λ q never within ne. never) touched)

  pub before_room : {T : Type 0} → CommitsRoom {T = T} s t F n (Err Before)
  before_room = record { goes = first_room; before = λ _. takes_synced; undoable = λ _. takes_synced }

  module _ (clean : NothingDirty t) (u : State) (T : Type 0) (result : Result T CommitFault) (c : Closes t u F w.parts result) where
    half : IsHalfway t F (outside t.held)
    half = halfway_open t F w.parts (standing_stays s t F w.parts w.is_open.standing stays) clean

    write_room : GoesOnWithRoom t u F n
    write_room fits = weaker t u (ImagesOf marker t) (NeverShort t.capacity)
        (λ d image. has_room t.capacity d F n (half.if_open d (λ q ne. image.agrees q (⊎_elim (clean q) ne))) (takes_synced.left d (λ q within ne solid. image.agrees q (⊎_elim solid ne))) fits) c.only.goes

    both_room : GoesOnWithRoom s u F n
    both_room = room_then s t u F n first_room write_room

    takes_open : IsStanding u F w.parts → TakesAtMost n u
    takes_open standing = record {
      held =
          let marked : get u.held marker ≡ get t.held marker = one_is (get u.held marker) standing.marked ∙ sym (one_is (get t.held marker) (standing_stays s t F w.parts w.is_open.standing stays).marked) in
          let same_size : size (area_of u.held) ≡ size (area_of t.held) = ap size (area_same t.held u.held (λ q within. ⊎_elim (λ (is : q ≡ marker). ap (λ (x : List ℕ). get u.held x) is ∙ marked ∙ sym (ap (λ (x : List ℕ). get t.held x) is)) (λ (ne : q ≢ marker). c.only.others q ne) (name_cases q marker))) in
          let held = takes_synced.held in
          omega (arith, same_size, held);
      left = left_kept n t u (λ q within ne. c.only.others q ne) (λ q within ne now. c.only.dirty q ne now) takes_synced.left;
    }

    pub failed_room : (fault : CommitFault) → result ≡ Err fault → (fault ≡ Before → ⊥) → CommitsRoom {T = Unit {0}} s u F n (Err fault)
    failed_room fault is not_before = record {
      goes = both_room;
      before = λ e. absurd (not_before (same_fault fault Before e));
      undoable = λ e. takes_open (c.undoable (is ∙ ap Err (same_fault fault Undoable e)));
    }
      where
        same_fault : (a b : CommitFault) → ◌≡◌ {A = Result (Unit {0}) CommitFault} (Err a) (Err b) → a ≡ b
        same_fault a b e = cc

    pub done_room : (v : State) (A : Map) → GoesOn u v (StandsPlainly A) → CommitsRoom {T = Unit {0}} s v F n (Ok tt)
    done_room v A clears = record {
      goes = λ fits. joined s u v (NeverShort s.capacity) (both_room fits) (weaker u v (StandsPlainly A) (NeverShort s.capacity) (λ d p. nothing_noted s.capacity d p.1) clears);
      before = λ e. absurd (cc);
      undoable = λ e. absurd (cc);
    }
