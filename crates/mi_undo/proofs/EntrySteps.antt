-- The turns of writing an entry.
use Rattle.std.proofs.Common.{◌≡◌, ◌≢◌, ℕ, zero, suc, ◌+◌, ◌<◌, ◌≤◌, true, false, List, [], ◌∷◌, ◌++◌, length, take, drop, get_or, Some, Result, Ok, Err, IsErr, IsErrOf, IsErrAnd, refl, sym, ap, subst, ◌∙◌, arith, append_assoc, length-append, take-append-drop}
use Rattle.std.proofs.lemmas.List.{append-nil, take_more}
use Rattle.std.specs.FinMap.{get}
use Rattle.mi_volume.specs.Maps.{Map}
use Rattle.mi_volume.specs.State.{State, GoesOn, ImagesOf}
use Rattle.mi_volume.specs.Calls.{Writes}
use Rattle.mi_volume.specs.declared.volume.PutFault.{PutFault}
use Rattle.mi_volume.specs.declared.volume.PutFault.TheVariants as put
use Rattle.mi_undo.specs.Names.{is_inside}
use Rattle.mi_undo.specs.Notes.{Note, notes_for, spelled_note, spelled}
use Rattle.mi_undo.specs.Area.{AreOutside, place_names}
use Rattle.mi_undo.specs.Steps.{HoldsNoMore, Adds}
use Rattle.mi_undo.specs.Entry.{AllFit, Gathers, note_for, place_of, places_from, WritesNote}
use Rattle.mi_undo.specs.declared.kept.Place.{Place}
use Rattle.mi_undo.specs.declared.fault.OpFault.{OpFault}
use Rattle.mi_undo.specs.declared.fault.OpFault.TheVariants as op
use Rattle.mi_undo.proofs.FaultLemmas.{at_err}
use Rattle.mi_undo.proofs.StepLemmas.{exceeds_longer, no_more_held, no_more_longer, no_more_written}
use Rattle.mi_undo.proofs.SpanLemmas.{Added}
use Rattle.mi_undo.proofs.AddLemmas.{added_then, added_get, adds_then, adds_added, adds_as, adds_longer}
use Rattle.mi_undo.proofs.GatherLemmas.{held_of, written_of, failed_of}
use Rattle.mi_undo.proofs.EncodeLemmas.{spelled-push, spelled-append, fit-push}
use Rattle.mi_undo.proofs.EntryLemmas.{places_from-push}

-- an entry is written as far as these notes, but for what is pending
pub record Begun (entry : List ℕ) (number : ℕ) (ns : List Note) (pending : List ℕ) (old new : State) (places : List Place) (at : ℕ) : Type 0 where
  pub written : List ℕ
  pub added : Added entry [] written old new
  pub gathered : written ++ pending ≡ spelled ns
  pub places_are : places ≡ places_from number 0 ns
  pub at_end : at ≡ length (spelled ns)
  pub fit : AllFit ns

pub begun : (s t : State) (entry : List ℕ) (number : ℕ) → GoesOn s t (ImagesOf entry s) → Writes {T = Unit {0}} entry [] s t (Ok tt) → Begun entry number [] [] s t [] 0
unfolding spelled
begun s t entry number goes writes = record {
  written = [];
  added = record { only = record { goes = goes; others = writes.others; dirty = writes.dirty }; held = writes.ok };
  gathered = refl;
  places_are = refl;
  at_end = refl;
  fit = tt;
}

pub first_failed : {T U : Type 0} (s t : State) (entry more : List ℕ) (r : Result T OpFault) (w : Result U PutFault) → GoesOn s t (ImagesOf entry s) → Writes entry [] s t w → IsErr r → (IsErrOf r op.Full → IsErrOf w put.Full) → Adds entry [] more s t r
first_failed s t entry more r w goes writes fails full = record {
  only = record { goes = goes; others = writes.others; dirty = writes.dirty };
  ok = at_err _ r fails;
  most = no_more_longer s t entry 0 (length more) (omega arith) (no_more_written s t entry [] w writes);
  full = λ is_full. exceeds_longer s.capacity s.held entry [] more (omega arith) (writes.exceeds (full is_full));
}

pub notes_for-take : (m : Map) (names : List (List ℕ)) (i : ℕ) (n : List ℕ) → i < length names → n ≡ get_or names i n → notes_for m (take (i + 1) names) ≡ notes_for m (take i names) ++ note_for m n ∷ []
notes_for-take m names i n below is = ap (λ (l : List (List ℕ)). notes_for m l) (take_more names i n below ∙ ap (λ (x : List ℕ). take i names ++ x ∷ []) (sym is)) ∙ notes_for-append m (take i names) (n ∷ [])
  where
    notes_for-append : (m : Map) (xs ys : List (List ℕ)) → notes_for m (xs ++ ys) ≡ notes_for m xs ++ notes_for m ys
    notes_for-append m [] ys = refl
    notes_for-append m (x ∷ xs) ys = ap (λ (l : List Note). note_for m x ∷ l) (notes_for-append m xs ys)

pub prefix_shorter : (m : Map) (names : List (List ℕ)) (k : ℕ) → length (spelled (notes_for m (take k names))) ≤ length (spelled (notes_for m names))
prefix_shorter m names k =
    let whole : notes_for m (take k names) ++ notes_for m (drop k names) ≡ notes_for m names = sym (notes_for-append m (take k names) (drop k names)) ∙ ap (λ (l : List (List ℕ)). notes_for m l) (take-append-drop k names) in
    let sum = spelled-append (notes_for m (take k names)) (notes_for m (drop k names)) in
    omega (arith, ap length sum, length-append (spelled (notes_for m (take k names))) (spelled (notes_for m (drop k names))), ap (λ (l : List Note). length (spelled l)) whole)
  where
    notes_for-append : (m : Map) (xs ys : List (List ℕ)) → notes_for m (xs ++ ys) ≡ notes_for m xs ++ notes_for m ys
    notes_for-append m [] ys = refl
    notes_for-append m (x ∷ xs) ys = ap (λ (l : List Note). note_for m x ∷ l) (notes_for-append m xs ys)

pub outside_at : (names : List (List ℕ)) (i : ℕ) (n : List ℕ) → AreOutside names → i < length names → n ≡ get_or names i n → is_inside n ≡ false
outside_at [] i n out below is = absurd (omega arith)
outside_at (m ∷ names) zero n out below is = ap is_inside is ∙ out.0
outside_at (m ∷ names) (suc i) n out below is = outside_at names i n out.1 (omega arith) is

pub apart : (entry n : List ℕ) → is_inside entry ≡ true → is_inside n ≡ false → entry ≢ n
apart entry n inside out e = let clash : true ≡ false = sym inside ∙ ap is_inside e ∙ out in absurd (cc)

module _ (s t u : State) (entry name : List ℕ) (number : ℕ) (ns : List Note) (pending left : List ℕ) (places : List Place) (at : ℕ) (far : Begun entry number ns pending s t places at) (ne : entry ≢ name) where
  same_note : note_for t.held name ≡ note_for s.held name
  same_note i = record { name = name; was = far.added.only.others name (λ e. ne (sym e)) i }

  -- what stands at the entry before this note
  pub before_note : get t.held entry ≡ Some far.written
  before_note = added_get s t entry [] far.written far.added

  pub note_failed : {T : Type 0} (r : Result T OpFault) (e : OpFault) (all : List ℕ) → WritesNote entry far.written pending left number at (note_for t.held name) t u (Err e) → IsErrAnd r (λ x. x ≡ e) → IsErr r
      → length (spelled (ns ++ note_for s.held name ∷ [])) ≤ length all → Adds entry [] all s u r
  note_failed r e all writes is fails le =
      let more = pending ++ spelled_note (note_for t.held name) in
      let adds = adds_then s t u entry [] far.written more (Err e) far.added (failed_of t u entry far.written pending (spelled_note (note_for t.held name)) left e writes.gathers) in
      let longer : length (far.written ++ more) ≤ length all =
      omega (
        arith,
        le,
        length-append far.written more,
        length-append pending (spelled_note (note_for t.held name)),
        length-append far.written pending,
        ap length far.gathered,
        ap length (spelled-push ns (note_for s.held name)),
        length-append (spelled ns) (spelled_note (note_for s.held name)),
        ap (λ (n : Note). length (spelled_note n)) same_note,
      ) in
      adds_longer s u entry [] (far.written ++ more) all r (adds_as s u entry [] (far.written ++ more) r e adds is) fails longer

  pub note_more : (r : Place × ℕ) → WritesNote entry far.written pending left number at (note_for t.held name) t u (Ok r) → length name ≤ 1024 → Begun entry number (ns ++ note_for s.held name ∷ []) left s u (places ++ r.0 ∷ []) r.1
  note_more r by_now short =
      let writes = subst (λ (n : Note). WritesNote entry far.written pending left number at n t u (Ok r)) same_note by_now in
      let pushed = spelled-push ns (note_for s.held name) in
      let bytes = spelled_note (note_for s.held name) in
      record {
        written = far.written ++ writes.gathers.ok.0;
        added = added_then s t u entry [] far.written writes.gathers.ok.0 far.added (written_of t u entry far.written pending bytes left r writes.gathers);
        gathered =
            append_assoc far.written writes.gathers.ok.0 left
            ∙ ap (λ (l : List ℕ). far.written ++ l) writes.gathers.ok.1.1
            ∙ sym (append_assoc far.written pending bytes)
            ∙ ap (λ (l : List ℕ). l ++ bytes) far.gathered
            ∙ sym pushed;
        places_are = (λ i. far.places_are i ++ (writes.place i) ∷ []) ∙ ap (λ (k : ℕ). places_from number 0 ns ++ place_of number k (note_for s.held name) ∷ []) (let e : at ≡ 0 + length (spelled ns) = omega (arith, far.at_end) in e) ∙ sym (places_from-push number 0 ns (note_for s.held name));
        at_end = omega (arith, writes.end_is, far.at_end, ap length pushed, length-append (spelled ns) (spelled_note (note_for s.held name)));
        fit = fit-push ns (note_for s.held name) far.fit (record { name = omega arith; was = writes.fits });
      }

pub place_names-append : (xs ys : List Place) → place_names (xs ++ ys) ≡ place_names xs ++ place_names ys
place_names-append [] ys = refl
place_names-append (p ∷ xs) ys = ap (λ (l : List (List ℕ)). p.name ∷ l) (place_names-append xs ys)

pub names_pushed : (xs ys : List Place) (p : Place) (names : List (List ℕ)) (i : ℕ) (n : List ℕ) → ys ≡ xs ++ p ∷ [] → place_names xs ≡ take i names → p.name ≡ n → i < length names → n ≡ get_or names i n → place_names ys ≡ take (i + 1) names
names_pushed xs ys p names i n is so_far name below at =
    ap place_names is ∙ place_names-append xs (p ∷ []) ∙ (λ j. so_far j ++ name j ∷ []) ∙ sym (take_more names i n below ∙ ap (λ (x : List ℕ). take i names ++ x ∷ []) (sym at))

module _ (s t : State) (entry : List ℕ) (number : ℕ) (ns : List Note) (pending : List ℕ) (places : List Place) (at : ℕ) (far : Begun entry number ns pending s t places at) where
  -- and no more stands there
  pub note_most : (all : List ℕ) → length (spelled ns) ≤ length all → HoldsNoMore entry (length all) s t
  note_most all le =
      let fewer = held_of far.written pending (spelled ns) far.gathered in
      no_more_longer s t entry (length far.written) (length all) (omega (arith, fewer, le)) (no_more_held s t entry far.written far.added.held)

  -- what is pending behind the last note wasn't written
  pub rest_failed : {T U : Type 0} (u : State) (left : List ℕ) (r : Result T OpFault) (e : OpFault) → Gathers {T = U} entry far.written pending [] left t u (Err e) → IsErrAnd r (λ x. x ≡ e) → Adds entry [] (spelled ns) s u r
  rest_failed {T} {U} u left r e g is =
      let adds = adds_then s t u entry [] far.written (pending ++ []) (Err e) far.added (failed_of {T = U} t u entry far.written pending [] left e g) in
      adds_as s u entry [] (spelled ns) r e (subst (λ (l : List ℕ). Adds {T = U} entry [] l s u (Err e)) (ap (λ (l : List ℕ). far.written ++ l) (append-nil pending) ∙ far.gathered) adds) is

  -- and where it was, the entry is whole
  pub rest_written : {T U : Type 0} (u : State) (left : List ℕ) (x : T) (y : U) → Gathers entry far.written pending [] left t u (Ok x) → left ≡ [] → Adds entry [] (spelled ns) s u (Ok y)
  rest_written u left x y g none =
      let all : far.written ++ g.ok.0 ≡ spelled ns =
      ap (λ (l : List ℕ). far.written ++ l) (sym (append-nil g.ok.0) ∙ ap (λ (l : List ℕ). g.ok.0 ++ l) (sym none) ∙ g.ok.1.1 ∙ append-nil pending) ∙ far.gathered in
      adds_added s u entry [] (spelled ns) y (subst (λ (l : List ℕ). Added entry [] l s u) all (added_then s t u entry [] far.written g.ok.0 far.added (written_of t u entry far.written pending [] left x g)))
