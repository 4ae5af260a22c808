-- What is read keeps what the volume stands for.
use Rattle.std.proofs.Common.{◌≡◌, inl, ⊎_elim, ℕ, zero, suc, ◌+◌, ◌≤◌, ◌<◌, arith, true, false, not, cond, List, [], ◌++◌, Option, Some, None, Result, Ok, refl, sym, ap, ◌∙◌, ◌⊎◌}
use Rattle.std.specs.FinMap.{get}
use Rattle.mi_volume.specs.Maps.{Map}
use Rattle.mi_volume.specs.State.{State, NothingDirty}
use Rattle.mi_text.proofs.MapLemmas.{same}
use Rattle.mi_undo.specs.Names.{marker, gate_name, entry_name, most_entries, is_inside}
use Rattle.mi_undo.specs.Notes.{Note, note_of, notes_of, are_new}
use Rattle.mi_undo.specs.Stands.{is_one, only_new, entry_notes, or_bad, read_from, noted, put_over, outside, back_by, stands, StandsFor}
use Rattle.mi_undo.specs.Keeps.{IsNoted}
use Rattle.mi_undo.specs.Reading.{first_shut, IsUnread, Spare}
use Rattle.mi_undo.proofs.NameLemmas.{same_entry, gate_not_entry, marker_not_entry}
use Rattle.mi_undo.proofs.StandsLemmas.{get-outside, get-put_over, or_else}
use Rattle.mi_undo.proofs.NotesOf.{new_outside, are_new-append}

or_bad_same : (o : Option (List Note)) (name : List ℕ) (f g : List Note → Result (List Note) (List ℕ)) → ((ns : List Note) → f ns ≡ g ns) → or_bad o name f ≡ or_bad o name g
or_bad_same None name f g alike = refl
or_bad_same (Some ns) name f g alike = alike ns

from_first : (d : Map) (k n : ℕ) → k ≤ first_shut d k n
unfolding first_shut
from_first d k zero = omega arith
from_first d k (suc n) = elim (is_one (get d (gate_name k))) as (λ b. k ≤ cond b (first_shut d (suc k) n) k) [ true ↦ omega (arith, from_first d (suc k) n) | false ↦ omega arith ]

-- maps with the same gates, and the same entries below the first gate that is shut, read the same
pub read_same : (h d : Map) → ((j : ℕ) → get d (gate_name j) ≡ get h (gate_name j)) → (k n : ℕ) (seen : List Note) → ((j : ℕ) → j < first_shut h k n → get d (entry_name j) ≡ get h (entry_name j)) → read_from d k n seen ≡ read_from h k n seen
unfolding read_from first_shut
read_same h d gates k zero seen alike = refl
read_same h d gates k (suc n) seen alike =
    rw (gates k)
    (elim (is_one (get h (gate_name k))) as (λ b. ((j : ℕ) → j < cond b (first_shut h (suc k) n) k → get d (entry_name j) ≡ get h (entry_name j))
    → cond b (or_bad (entry_notes seen (get d (entry_name k))) (entry_name k) (λ ns. read_from d (suc k) n (seen ++ ns))) (Ok seen) ≡ cond b (or_bad (entry_notes seen (get h (entry_name k))) (entry_name k) (λ ns. read_from h (suc k) n (seen ++ ns))) (Ok seen)) [
      | true ↦ λ same_entries.
          ap (λ (o : Option (List ℕ)). or_bad (entry_notes seen o) (entry_name k) (λ ns. read_from d (suc k) n (seen ++ ns))) (same_entries k (let far = from_first h (suc k) n in omega (arith, far)))
          ∙ or_bad_same (entry_notes seen (get h (entry_name k))) (entry_name k) (λ ns. read_from d (suc k) n (seen ++ ns)) (λ ns. read_from h (suc k) n (seen ++ ns)) (λ ns. read_same h d gates (suc k) n (seen ++ ns) same_entries)
      | false ↦ λ same_entries. refl
    ] alike)

only_new_is : (seen : List Note) (o : Option (List Note)) (ns : List Note) → only_new seen o ≡ Some ns → are_new seen ns ≡ true
only_new_is seen None ns is = absurd (cc)
only_new_is seen (Some m) ns is =
    elim (are_new seen m) as (λ b. are_new seen m ≡ b → cond b (Some m) None ≡ Some ns → are_new seen ns ≡ true) [
      | true ↦ λ e is_m. let same_notes : m ≡ ns = cc in ap (λ (l : List Note). are_new seen l) (sym same_notes) ∙ e
      | false ↦ λ e none. absurd (cc)
    ] refl is

entry_new : (seen : List Note) (o : Option (List ℕ)) (ns : List Note) → entry_notes seen o ≡ Some ns → are_new seen ns ≡ true
unfolding entry_notes
entry_new seen None ns is = absurd (cc)
entry_new seen (Some bytes) ns is = only_new_is seen (notes_of bytes) ns is

-- what is read is new
pub read_new : (d : Map) (k n : ℕ) (seen ns : List Note) → are_new [] seen ≡ true → read_from d k n seen ≡ Ok ns → are_new [] ns ≡ true
unfolding read_from
read_new d k zero seen ns new is = let same_notes : seen ≡ ns = cc in ap (λ (l : List Note). are_new [] l) (sym same_notes) ∙ new
read_new d k (suc n) seen ns new is =
    elim (is_one (get d (gate_name k))) as (λ b. cond b (or_bad (entry_notes seen (get d (entry_name k))) (entry_name k) (λ m. read_from d (suc k) n (seen ++ m))) (Ok seen) ≡ Ok ns → are_new [] ns ≡ true) [
      | true ↦ λ e. by_entry (entry_notes seen (get d (entry_name k))) refl e (λ m h. read_new d (suc k) n (seen ++ m) ns h)
      | false ↦ λ e. let same_notes : seen ≡ ns = cc in ap (λ (l : List Note). are_new [] l) (sym same_notes) ∙ new
    ] is
  where
    by_entry : (o : Option (List Note)) → entry_notes seen (get d (entry_name k)) ≡ o → or_bad o (entry_name k) (λ m. read_from d (suc k) n (seen ++ m)) ≡ Ok ns → ((m : List Note) → are_new [] (seen ++ m) ≡ true → read_from d (suc k) n (seen ++ m) ≡ Ok ns → are_new [] ns ≡ true) → are_new [] ns ≡ true
    by_entry None at e more = absurd (cc)
    by_entry (Some m) at e more = more m (are_new-append [] seen m new (entry_new seen (get d (entry_name k)) m at)) e

pub first_at_most : (d : Map) (k n : ℕ) → first_shut d k n ≤ k + n
unfolding first_shut
first_at_most d k zero = omega arith
first_at_most d k (suc n) = elim (is_one (get d (gate_name k))) as (λ b. cond b (first_shut d (suc k) n) k ≤ k + suc n) [ true ↦ (let far = first_at_most d (suc k) n in omega (arith, far)) | false ↦ omega arith ]

-- what the volume stands for, where its notes are read
module _ (s : State) (ns : List Note) (clean : NothingDirty s) (marked : is_one (get s.held marker) ≡ true) (read : read_from s.held 0 most_entries [] ≡ Ok ns) where
  pub notes_new : are_new [] ns ≡ true
  notes_new = read_new s.held 0 most_entries [] ns refl read

  inside_unnoted : (q : List ℕ) → is_inside q ≡ true → note_of ns q ≡ None
  inside_unnoted q inside = new_outside [] ns notes_new q inside

  at_f : (q : List ℕ) → is_inside q ≡ false → get (outside (put_over ns s.held)) q ≡ or_else (note_of ns q) (get s.held q)
  at_f q out = get-outside (put_over ns s.held) q ∙ ap (λ b. cond (not b) (get (put_over ns s.held) q) None) out ∙ get-put_over ns s.held q

  old : (q : List ℕ) (w : Option (List ℕ)) → note_of ns q ≡ Some w → get (outside (put_over ns s.held)) q ≡ w
  old q w noted_q =
      elim (is_inside q) as (λ b. is_inside q ≡ b → get (outside (put_over ns s.held)) q ≡ w) [
        | true ↦ λ inside. let clash : Some w ≡ None = sym noted_q ∙ inside_unnoted q inside in absurd (cc)
        | false ↦ λ out. at_f q out ∙ ap (λ (o : Option (Option (List ℕ))). or_else o (get s.held q)) noted_q
      ] refl

  module _ (d : Map) (agrees : (q : List ℕ) → ¬ ((s.dirty q ⊎ IsNoted ns q) ⊎ IsUnread (first_shut s.held 0 most_entries) q) → get d q ≡ get s.held q) where
    still : (q : List ℕ) → note_of ns q ≡ None → ¬ IsUnread (first_shut s.held 0 most_entries) q → get d q ≡ get s.held q
    still q none is_read = agrees q (⊎_elim (⊎_elim (clean q) (λ (n : IsNoted ns q). let clash : Some n.0 ≡ None = sym n.1 ∙ none in cc)) is_read)

    still_gate : (j : ℕ) → get d (gate_name j) ≡ get s.held (gate_name j)
    still_gate j = still (gate_name j) (inside_unnoted (gate_name j) refl) (λ u. gate_not_entry j u.0 u.1.1.1)

    still_entry : (j : ℕ) → j < first_shut s.held 0 most_entries → get d (entry_name j) ≡ get s.held (entry_name j)
    still_entry j below =
        let most = first_at_most s.held 0 most_entries in
        still (entry_name j) (inside_unnoted (entry_name j) refl) (λ u. let same_number = same_entry j u.0 (omega (arith, below, most)) u.1.1.0 u.1.1.1 in omega (arith, below, same_number, u.1.0))

    still_marker : get d marker ≡ get s.held marker
    still_marker = still marker (inside_unnoted marker refl) (λ u. marker_not_entry u.0 u.1.1.1)

    still_outside : (q : List ℕ) → is_inside q ≡ false → note_of ns q ≡ None → get d q ≡ get s.held q
    still_outside q out none = still q none (λ u. let clash : true ≡ false = sym (ap is_inside u.1.1.1) ∙ out in cc)

    same_outside : outside (put_over ns d) ≡ outside (put_over ns s.held)
    same_outside = same (outside (put_over ns d)) (outside (put_over ns s.held)) (λ q. get-outside (put_over ns d) q ∙ by_side q ∙ sym (get-outside (put_over ns s.held) q))
      where
        at : (q : List ℕ) (o : Option (Option (List ℕ))) → is_inside q ≡ false → note_of ns q ≡ o → or_else (note_of ns q) (get d q) ≡ or_else (note_of ns q) (get s.held q)
        at q None out none = ap (λ (x : Option (List ℕ)). or_else (note_of ns q) x) (still_outside q out none)
        at q (Some w) out some = ap (λ (o : Option (Option (List ℕ))). or_else o (get d q)) some ∙ sym (ap (λ (o : Option (Option (List ℕ))). or_else o (get s.held q)) some)

        by_side : (q : List ℕ) → cond (not (is_inside q)) (get (put_over ns d) q) None ≡ cond (not (is_inside q)) (get (put_over ns s.held) q) None
        by_side q = elim (is_inside q) as (λ b. is_inside q ≡ b → cond (not b) (get (put_over ns d) q) None ≡ cond (not b) (get (put_over ns s.held) q) None) [
          | true ↦ λ inside. refl
          | false ↦ λ out. get-put_over ns d q ∙ at q (note_of ns q) out refl ∙ sym (get-put_over ns s.held q)
        ] refl

    whole : StandsFor (outside (put_over ns s.held)) d
    unfolding stands noted
    whole = rw (ap is_one still_marker ∙ marked) (ap (back_by d) (read_same s.held d still_gate 0 most_entries [] still_entry ∙ read) ∙ ap Ok same_outside)

  pub keeps_read : Spare s (outside (put_over ns s.held)) ns (first_shut s.held 0 most_entries)
  keeps_read = record {
    keeps = record {
      robust = λ d agrees. whole d (λ q free. agrees q (λ loose. free (inl loose)));
      marked = marked;
      others = λ q out none. sym (at_f q out ∙ ap (λ (o : Option (Option (List ℕ))). or_else o (get s.held q)) none);
      olds = λ q w noted_q. old q w noted_q;
      outside = inside_unnoted;
      nothing_inside = λ q inside. get-outside (put_over ns s.held) q ∙ ap (λ b. cond (not b) (get (put_over ns s.held) q) None) inside;
    };
    spare = whole;
  }
