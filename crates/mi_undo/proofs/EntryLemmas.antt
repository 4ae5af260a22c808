-- Writing an entry.
use Rattle.std.proofs.Common.{◌≡◌, ℕ, ◌+◌, ◌-◌, ◌<◌, ◌≤◌, ◌^◌, true, false, List, [], ◌∷◌, ◌++◌, length, take, drop, Option, Some, None, unwrap_or, Result, refl, sym, ap, subst, ◌∙◌, arith, append_assoc, length-append}
use Rattle.std.specs.Option.{option_map}
use Rattle.std.proofs.Math.Seq.{take-append_seam, drop-append_seam, drop-append-add}
use Rattle.std.specs.FinMap.{get}
use Rattle.mi_volume.specs.Maps.{Map, OthersStay, bytes_or_none}
use Rattle.mi_volume.specs.State.{State, GoesOn, Images, Stays}
use Rattle.mi_undo.specs.Names.{entry_name, is_inside}
use Rattle.mi_undo.specs.Notes.{Note, head_bytes, old_bytes, spelled_note, spelled}
use Rattle.mi_undo.specs.Area.{note_in, notes_in, AreBelow}
use Rattle.mi_undo.specs.Entry.{Gathers, note_for, placed_at, place_of, places_from}
use Rattle.mi_undo.specs.declared.kept.Place.{Place}
use Rattle.mi_undo.specs.declared.kept.Span.{Span}
use Rattle.mi_undo.specs.declared.fault.OpFault.{OpFault}
use Rattle.mi_undo.proofs.GatherLemmas.{gathers_looked}
use Rattle.mi_undo.proofs.EncodeLemmas.{length-spelled}

-- how many old bytes there are, as the code counts them
pub old_length : (w : Option (List ℕ)) → unwrap_or (option_map length w) 0 ≡ length (old_bytes w)
old_length None = refl
old_length (Some b) = refl

-- a head and old bytes spell the note
pub note_gathered : {T : Type 0} (s t u : State) (entry before pending left name head : List ℕ) (len : Option ℕ) (r : Result T OpFault) → GoesOn s t (Images s) → Stays s t → len ≡ option_map length (get s.held name) → head ≡ head_bytes name len → get s.held entry ≡ Some before
    → (unwrap_or len 0 ≡ length (old_bytes (get t.held name)) → get t.held entry ≡ Some before → Gathers entry before pending (head ++ old_bytes (get t.held name)) left t u r) → Gathers entry before pending (spelled_note (note_for s.held name)) left s u r
unfolding spelled_note
note_gathered s t u entry before pending left name head len r goes stays is is_head held gathers_then =
    let same_old : get t.held name ≡ get s.held name = ap (λ (m : Map). get m name) stays.held in
    let gathers = gathers_then (ap (λ (l : Option ℕ). unwrap_or l 0) is ∙ old_length (get s.held name) ∙ ap (λ (o : Option (List ℕ)). length (old_bytes o)) (sym same_old)) (ap (λ (m : Map). get m entry) stays.held ∙ held) in
    let same_bytes : head ++ old_bytes (get t.held name) ≡ head_bytes name (option_map length (get s.held name)) ++ old_bytes (get s.held name) =
    ap (λ (h : List ℕ). h ++ old_bytes (get t.held name)) (is_head ∙ ap (head_bytes name) is) ∙ ap (λ (o : Option (List ℕ)). head_bytes name (option_map length (get s.held name)) ++ old_bytes o) same_old in
    gathers_looked s t u entry before pending (head_bytes name (option_map length (get s.held name)) ++ old_bytes (get s.held name)) left r goes stays (subst (λ (l : List ℕ). Gathers entry before pending l left t u r) same_bytes gathers)

abbrev pub placed_after : ℕ → ℕ → List ℕ → ℕ → Option ℕ → Place
placed_after number at name head len = record { name = name; entry = number; old = option_map (λ n. record { at = at + head; end = at + head + n }) len }

pub placed_is : (number at : ℕ) (name : List ℕ) (head : ℕ) (len : Option ℕ) (w : Option (List ℕ)) → len ≡ option_map length w → head ≡ length (head_bytes name len) → placed_after number at name head len ≡ placed_at number at name (option_map length w)
placed_is number at name head len w is is_head = ap (λ (h : ℕ). placed_after number at name h len) is_head ∙ ap (λ (l : Option ℕ). placed_at number at name l) is

pub end_is : (at : ℕ) (n : Note) (head : ℕ) (len : Option ℕ) → len ≡ option_map length n.was → head ≡ length (head_bytes n.name len) → at + head + unwrap_or len 0 ≡ at + length (spelled_note n)
unfolding spelled_note
end_is at n head len is is_head =
    let h : head ≡ length (head_bytes n.name (option_map length n.was)) = is_head ∙ ap (λ (l : Option ℕ). length (head_bytes n.name l)) is in
    let u : unwrap_or len 0 ≡ length (old_bytes n.was) = ap (λ (l : Option ℕ). unwrap_or l 0) is ∙ old_length n.was in
    omega (arith, h, u, length-append (head_bytes n.name (option_map length n.was)) (old_bytes n.was))

pub old_fits : (len : Option ℕ) (w : Option (List ℕ)) → len ≡ option_map length w → unwrap_or len 0 < 2 ^ 64 → length (old_bytes w) < 2 ^ 64
old_fits len w is fits = at w (subst (λ (l : Option ℕ). unwrap_or l 0 < 2 ^ 64) is fits)
  where
    at : (w : Option (List ℕ)) → unwrap_or (option_map length w) 0 < 2 ^ 64 → length (old_bytes w) < 2 ^ 64
    at None fits = fits
    at (Some b) fits = fits

pub length_nothing : length (spelled []) ≡ 0
unfolding spelled
length_nothing = refl

-- one place more
pub places_from-push : (number at : ℕ) (ns : List Note) (n : Note) → places_from number at (ns ++ n ∷ []) ≡ places_from number at ns ++ place_of number (at + length (spelled ns)) n ∷ []
places_from-push number at [] n = ap (λ (k : ℕ). place_of number k n ∷ []) (let e : at ≡ at + length (spelled []) = omega (arith, length_nothing) in e)
places_from-push number at (m ∷ ns) n =
    ap (λ (l : List Place). place_of number at m ∷ l)
    (places_from-push number (at + length (spelled_note m)) ns n
    ∙ ap (λ (k : ℕ). places_from number (at + length (spelled_note m)) ns ++ place_of number k n ∷ []) (let e : at + length (spelled_note m) + length (spelled ns) ≡ at + length (spelled (m ∷ ns)) = omega (arith, length-spelled m ns) in e))

spelled_cons : (n : Note) (ns : List Note) → spelled (n ∷ ns) ≡ spelled_note n ++ spelled ns
unfolding spelled
spelled_cons n ns = refl

module _ (number at : ℕ) (pre head b more : List ℕ) (e : at ≡ length pre) where
  -- old bytes behind their head
  pub run_in : take ((at + length head + length b) - (at + length head)) (drop (at + length head) (pre ++ ((head ++ b) ++ more))) ≡ b
  run_in =
      let long : (at + length head + length b) - (at + length head) ≡ length b = omega arith in
      ap (λ (k : ℕ). take k (drop (at + length head) (pre ++ ((head ++ b) ++ more)))) long
      ∙ ap (λ (k : ℕ). take (length b) (drop (k + length head) (pre ++ ((head ++ b) ++ more)))) e
      ∙ ap (λ (l : List ℕ). take (length b) l)
      (drop-append-add pre ((head ++ b) ++ more) (length head) ∙ ap (λ (l : List ℕ). drop (length head) l) (append_assoc head b more) ∙ drop-append_seam head (b ++ more))
      ∙ take-append_seam b more

-- what stands at the place of a note
pub note_in-place : (d : Map) (number at : ℕ) (pre more : List ℕ) (n : Note) → get d (entry_name number) ≡ Some (pre ++ (spelled_note n ++ more)) → at ≡ length pre → note_in d (place_of number at n) ≡ n
unfolding spelled_note
note_in-place d number at pre more n is e =
    ap (λ (o : Option (List ℕ)). record { name = n.name; was = option_map (λ (s : Span). take (s.end - s.at) (drop s.at (bytes_or_none o))) (place_of number at n).old }) is ∙ (λ i. record { name = n.name; was = by_was n.was i })
  where
    by_was : (w : Option (List ℕ)) → option_map (λ (s : Span). take (s.end - s.at) (drop s.at (pre ++ ((head_bytes n.name (option_map length w) ++ old_bytes w) ++ more)))) (placed_at number at n.name (option_map length w)).old ≡ w
    by_was None = refl
    by_was (Some b) = ap Some (run_in number at pre (head_bytes n.name (Some (length b))) b more e)

pub notes_in-places : (d : Map) (number at : ℕ) (pre : List ℕ) (ns : List Note) → get d (entry_name number) ≡ Some (pre ++ spelled ns) → at ≡ length pre → notes_in d (places_from number at ns) ≡ ns
notes_in-places d number at pre [] is e = refl
notes_in-places d number at pre (n ∷ ns) is e =
    let whole = is ∙ ap (λ (l : List ℕ). Some (pre ++ l)) (spelled_cons n ns) in
    let next = whole ∙ ap Some (sym (append_assoc pre (spelled_note n) (spelled ns))) in
    let past : at + length (spelled_note n) ≡ length (pre ++ spelled_note n) = omega (arith, e, length-append pre (spelled_note n)) in
    (λ i. note_in-place d number at pre (spelled ns) n whole e i ∷ notes_in-places d number (at + length (spelled_note n)) (pre ++ spelled_note n) ns next past i)

pub places_below : (number at n : ℕ) (ns : List Note) → number < n → AreBelow n (places_from number at ns)
places_below number at n [] below = tt
places_below number at n (m ∷ ns) below = (below, places_below number (at + length (spelled_note m)) n ns below)

pub below-append : (n : ℕ) (xs ys : List Place) → AreBelow n xs → AreBelow n ys → AreBelow n (xs ++ ys)
below-append n [] ys a b = b
below-append n (p ∷ xs) ys a b = (a.0, below-append n xs ys a.1 b)

pub below_more : (n m : ℕ) (xs : List Place) → n ≤ m → AreBelow n xs → AreBelow m xs
below_more n m [] le a = tt
below_more n m (p ∷ xs) le a = (omega (arith, a.0), below_more n m xs le a.1)

-- entries below a number hold the same, so the notes at their places are the same
pub notes_in_same : (h d : Map) (n : ℕ) (places : List Place) → ((k : ℕ) → k < n → get d (entry_name k) ≡ get h (entry_name k)) → AreBelow n places → notes_in d places ≡ notes_in h places
notes_in_same h d n [] alike below = refl
notes_in_same h d n (p ∷ places) alike below =
    (λ i. record { name = p.name; was = option_map (λ (s : Span). take (s.end - s.at) (drop s.at (bytes_or_none (alike p.entry below.0 i)))) p.old } ∷ notes_in_same h d n places alike below.1 i)

pub notes_in-append : (d : Map) (xs ys : List Place) → notes_in d (xs ++ ys) ≡ notes_in d xs ++ notes_in d ys
notes_in-append d [] ys = refl
notes_in-append d (p ∷ xs) ys = ap (λ (l : List Note). note_in d p ∷ l) (notes_in-append d xs ys)

-- where a name outside the area changes
pub notes_in_outside : (h d : Map) (x : List ℕ) (places : List Place) → is_inside x ≡ false → OthersStay x h d → notes_in d places ≡ notes_in h places
notes_in_outside h d x [] out others = refl
notes_in_outside h d x (p ∷ places) out others =
    let alike = others (entry_name p.entry) (λ e. let clash : true ≡ false = ap is_inside e ∙ out in absurd (cc)) in
    (λ i. record { name = p.name; was = option_map (λ (s : Span). take (s.end - s.at) (drop s.at (bytes_or_none (alike i)))) p.old } ∷ notes_in_outside h d x places out others i)
