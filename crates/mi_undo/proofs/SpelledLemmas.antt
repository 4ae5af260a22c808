-- What is read is spelled so.
use Rattle.std.proofs.Common.{◌≡◌, ℕ, zero, suc, ◌+◌, ◌-◌, ◌≤◌, ◌<◌, true, false, cond, nat_le, List, [], ◌∷◌, ◌++◌, length, get_or, take, drop, length-take, take-append-drop, Option, Some, None, Result, Ok, Err, refl, sym, ap, subst, ◌∙◌, arith, append_assoc}
use Rattle.std.proofs.lemmas.Bool.{leb-true}
use Rattle.std.proofs.lemmas.List.{append-nil}
use Rattle.std.proofs.lemmas.List.Folds.{list_all-append}
use Rattle.std.proofs.lemmas.Nat.{be_bytes_4, be_bytes_8}
use Rattle.std.specs.FinMap.{get}
use Rattle.std.specs.Int.{Width, w32, w64, to_be_bytes, from_be_bytes}
use Rattle.std.specs.Option.{option_map, option_and_then}
use Rattle.mi_text.specs.Bytes.{AreBytes}
use Rattle.mi_text.proofs.ByteLemmas.{by_index}
use Rattle.mi_volume.specs.Maps.{Map, bytes_or_none}
use Rattle.mi_undo.specs.Names.{marker, entry_name, gate_name, most_entries}
use Rattle.mi_undo.specs.Notes.{Note, all_notes, are_new, text, spelled_note, spelled, split_at, text_at, blob_at, note_at, notes_within, notes_of}
use Rattle.mi_undo.specs.Stands.{is_one, only_new, entry_notes, or_bad, read_from, noted, back_by, stands}
use Rattle.mi_undo.specs.Keeps.{Opened, AreNew}
use Rattle.mi_undo.specs.Spelled.{AreAllOpen, IsFirstBad, HoldsBytes}
use Rattle.mi_undo.proofs.NotesOf.{both_true}
use Rattle.mi_undo.proofs.ReadLemmas.{step_bad}
use Rattle.mi_undo.proofs.SettleSteps.{stands_bad}
use Rattle.mi_undo.proofs.SumLemmas.{one_list}

bytes_front : (xs ys : List ℕ) → AreBytes (xs ++ ys) → AreBytes xs × AreBytes ys
bytes_front xs ys all = both_true _ _ (sym (list_all-append _ xs ys) ∙ all)

abbrev SplitsAt : ℕ → List ℕ → Option (List ℕ × List ℕ) → Type 0
SplitsAt n bytes None = Unit {0}
SplitsAt n bytes (Some p) = (bytes ≡ p.0 ++ p.1) × (length p.0 ≡ n)

split_is : (n : ℕ) (bytes : List ℕ) → SplitsAt n bytes (split_at n bytes)
split_is n bytes =
    elim (nat_le n (length bytes)) as (λ b. nat_le n (length bytes) ≡ b → SplitsAt n bytes (cond b (Some (take n bytes, drop n bytes)) None)) [
      | true ↦ λ long. let le : n ≤ length bytes = leb-true n (length bytes) long in (sym (take-append-drop n bytes), omega (arith, length-take n bytes, le))
      | false ↦ λ short. tt
    ] refl

-- bytes with their length in front of them
abbrev IsSizedAt : Width → List ℕ → Option (List ℕ × List ℕ) → Type 0
IsSizedAt w bytes None = Unit {0}
IsSizedAt w bytes (Some p) = bytes ≡ to_be_bytes w (length p.0) ++ (p.0 ++ p.1)

sized_is : (w : Width) (n : ℕ) → ((bs : List ℕ) (m : ℕ) → length bs ≡ n → ((i : ℕ) → get_or bs i 0 < 256) → m ≡ from_be_bytes w bs → to_be_bytes w m ≡ bs) → (bytes : List ℕ) → AreBytes bytes
    → IsSizedAt w bytes (option_and_then (λ p. split_at (from_be_bytes w p.0) p.1) (split_at n bytes))
sized_is w n back bytes all = by_head (split_at n bytes) (split_is n bytes)
  where
    by_body : (p q : List ℕ × List ℕ) → (bytes ≡ p.0 ++ p.1) × (length p.0 ≡ n) → (p.1 ≡ q.0 ++ q.1) × (length q.0 ≡ from_be_bytes w p.0) → bytes ≡ to_be_bytes w (length q.0) ++ (q.0 ++ q.1)
    by_body p q s t =
        let front = bytes_front p.0 p.1 (subst AreBytes s.0 all) in
        let head : to_be_bytes w (length q.0) ≡ p.0 = back p.0 (length q.0) s.1 (by_index p.0 front.0) t.1 in
        s.0 ∙ ap (λ (l : List ℕ). l ++ p.1) (sym head) ∙ ap (λ (l : List ℕ). to_be_bytes w (length q.0) ++ l) t.0

    by_rest : (p : List ℕ × List ℕ) → (bytes ≡ p.0 ++ p.1) × (length p.0 ≡ n) → (o : Option (List ℕ × List ℕ)) → SplitsAt (from_be_bytes w p.0) p.1 o → IsSizedAt w bytes o
    by_rest p s None t = tt
    by_rest p s (Some q) t = by_body p q s t

    by_head : (o : Option (List ℕ × List ℕ)) → SplitsAt n bytes o → IsSizedAt w bytes (option_and_then (λ p. split_at (from_be_bytes w p.0) p.1) o)
    by_head None s = tt
    by_head (Some p) s = by_rest p s (split_at (from_be_bytes w p.0) p.1) (split_is (from_be_bytes w p.0) p.1)

text_is : (bytes : List ℕ) → AreBytes bytes → IsSizedAt w32 bytes (text_at bytes)
unfolding text_at
text_is bytes all = sized_is w32 4 be_bytes_4 bytes all

blob_is : (bytes : List ℕ) → AreBytes bytes → IsSizedAt w64 bytes (blob_at bytes)
unfolding blob_at
blob_is bytes all = sized_is w64 8 be_bytes_8 bytes all

abbrev IsNoteAt : List ℕ → Option (Note × List ℕ) → Type 0
IsNoteAt bytes None = Unit {0}
IsNoteAt bytes (Some p) = bytes ≡ spelled_note p.0 ++ p.1

absent_is : (rest : List ℕ) (o : Option (List ℕ × List ℕ)) → IsSizedAt w32 rest o → IsNoteAt (0 ∷ rest) (option_map (λ p. (record { name = p.0; was = None }, p.1)) o)
unfolding spelled_note
absent_is rest None t = tt
absent_is rest (Some p) t = ap (λ (l : List ℕ). 0 ∷ l) (t ∙ sym (append_assoc (to_be_bytes w32 (length p.0)) p.0 p.1)) ∙ ap (λ (l : List ℕ). 0 ∷ (l ++ p.1)) (sym (append-nil (text p.0)))

held_is : (rest : List ℕ) → AreBytes rest → (o : Option (List ℕ × List ℕ)) → IsSizedAt w32 rest o → IsNoteAt (1 ∷ rest) (option_and_then (λ p. option_map (λ b. (record { name = p.0; was = Some b.0 }, b.1)) (blob_at p.1)) o)
unfolding spelled_note
held_is rest all None t = tt
held_is rest all (Some p) t = by_blob (blob_at p.1) (blob_is p.1 (bytes_front (text p.0) p.1 (subst AreBytes whole all)).1)
  where
    whole : rest ≡ text p.0 ++ p.1
    whole = t ∙ sym (append_assoc (to_be_bytes w32 (length p.0)) p.0 p.1)

    by_blob : (o : Option (List ℕ × List ℕ)) → IsSizedAt w64 p.1 o → IsNoteAt (1 ∷ rest) (option_map (λ b. (record { name = p.0; was = Some b.0 }, b.1)) o)
    by_blob None u = tt
    by_blob (Some b) u =
        ap (λ (l : List ℕ). 1 ∷ l)
        (whole ∙ ap (λ (l : List ℕ). text p.0 ++ l) u ∙ sym (append_assoc (text p.0) (to_be_bytes w64 (length b.0)) (b.0 ++ b.1)) ∙ sym (append_assoc (text p.0 ++ to_be_bytes w64 (length b.0)) b.0 b.1))

note_is : (bytes : List ℕ) → AreBytes bytes → IsNoteAt bytes (note_at bytes)
unfolding note_at
note_is [] all = tt
note_is (zero ∷ rest) all = absent_is rest (text_at rest) (text_is rest (bytes_front (0 ∷ []) rest all).1)
note_is (suc zero ∷ rest) all = held_is rest (bytes_front (1 ∷ []) rest all).1 (text_at rest) (text_is rest (bytes_front (1 ∷ []) rest all).1)
note_is (suc (suc tag) ∷ rest) all = tt

abbrev AreSpelled : List ℕ → Option (List Note) → Type 0
AreSpelled bytes None = Unit {0}
AreSpelled bytes (Some ns) = bytes ≡ spelled ns

nothing_spelled : AreSpelled [] (Some [])
unfolding spelled
nothing_spelled = refl

within_is : (fuel : ℕ) (bytes : List ℕ) → AreBytes bytes → AreSpelled bytes (notes_within fuel bytes)
unfolding notes_within spelled
within_is zero [] all = nothing_spelled
within_is zero (b ∷ bytes) all = tt
within_is (suc fuel) [] all = nothing_spelled
within_is (suc fuel) (b ∷ bytes) all = by_note (b ∷ bytes) all (note_at (b ∷ bytes)) (note_is (b ∷ bytes) all) (λ rest fine. within_is fuel rest fine)
  where
    more : (whole : List ℕ) (p : Note × List ℕ) → whole ≡ spelled_note p.0 ++ p.1 → (o : Option (List Note)) → AreSpelled p.1 o → AreSpelled whole (option_map (λ ns. p.0 ∷ ns) o)
    more whole p t None u = tt
    more whole p t (Some ns) u = t ∙ ap (λ (l : List ℕ). spelled_note p.0 ++ l) u

    by_note : (whole : List ℕ) → AreBytes whole → (o : Option (Note × List ℕ)) → IsNoteAt whole o → ((rest : List ℕ) → AreBytes rest → AreSpelled rest (notes_within fuel rest)) → AreSpelled whole (option_and_then (λ p. option_map (λ ns. p.0 ∷ ns) (notes_within fuel p.1)) o)
    by_note whole fine None t rest_is = tt
    by_note whole fine (Some p) t rest_is = more whole p t (notes_within fuel p.1) (rest_is p.1 (bytes_front (spelled_note p.0) p.1 (subst AreBytes t fine)).1)

-- bytes that are read as notes spell them
pub spelled_so : (bytes : List ℕ) (ns : List Note) → AreBytes bytes → notes_of bytes ≡ Some ns → bytes ≡ spelled ns
unfolding notes_of
spelled_so bytes ns all is = subst (λ (o : Option (List Note)). AreSpelled bytes o) is (within_is (length bytes) bytes all)

-- an entry that is read is spelled and new
pub record IsEntryOf (seen : List Note) (o : Option (List ℕ)) (ns : List Note) : Type 0 where
  pub there : o ≡ Some (spelled ns)
  pub new : AreNew seen (ns ∷ [])

entry_is : (seen : List Note) (o : Option (List ℕ)) (ns : List Note) → AreBytes (bytes_or_none o) → entry_notes seen o ≡ Some ns → IsEntryOf seen o ns
unfolding entry_notes
entry_is seen None ns all is = absurd (cc)
entry_is seen (Some bytes) ns all is = by_notes (notes_of bytes) refl is
  where
    by_notes : (o : Option (List Note)) → notes_of bytes ≡ o → only_new seen o ≡ Some ns → IsEntryOf seen (Some bytes) ns
    by_notes None at e = absurd (cc)
    by_notes (Some m) at e =
        elim (are_new seen m) as (λ b. are_new seen m ≡ b → cond b (Some m) None ≡ Some ns → IsEntryOf seen (Some bytes) ns) [
          | true ↦ λ new same_some.
              let same_notes : m ≡ ns = cc in
              let whole = spelled_so bytes ns all (at ∙ same_some) in
              record { there = ap Some whole; new = (ap (λ (l : List Note). are_new seen l) (sym same_notes) ∙ new, ap notes_of (sym whole) ∙ at ∙ same_some, tt) }
          | false ↦ λ old none. absurd (cc)
        ] refl e

entry_again : (seen : List Note) (o : Option (List ℕ)) (ns : List Note) → IsEntryOf seen o ns → entry_notes seen o ≡ Some ns
unfolding entry_notes
entry_again seen o ns e = ap (entry_notes seen) e.there ∙ ap (only_new seen) e.new.1 ∙ ap (λ b. cond b (Some ns) None) e.new.0

-- what is read from one entry on
record ReadsFrom (d : Map) (k fuel : ℕ) (seen ns : List Note) : Type 0 where
  parts : List (List Note)
  opened : Opened d k parts
  new : AreNew seen parts
  few : length parts ≤ fuel
  shut : k + length parts < most_entries → is_one (get d (gate_name (k + length parts))) ≡ false
  are : ns ≡ seen ++ all_notes parts

reads_from : (d : Map) → HoldsBytes d → (k fuel : ℕ) (seen ns : List Note) → k + fuel ≡ most_entries → read_from d k fuel seen ≡ Ok ns → ReadsFrom d k fuel seen ns
unfolding read_from
reads_from d all k zero seen ns sum is = record { parts = []; opened = tt; new = tt; few = omega arith; shut = λ below. absurd (omega (arith, sum, below)); are = sym (append-nil seen ∙ one_list seen ns is) }
reads_from d all k (suc fuel) seen ns sum is =
    elim (is_one (get d (gate_name k))) as (λ b. is_one (get d (gate_name k)) ≡ b → cond b (or_bad (entry_notes seen (get d (entry_name k))) (entry_name k) (λ m. read_from d (suc k) fuel (seen ++ m))) (Ok seen) ≡ Ok ns → ReadsFrom d k (suc fuel) seen ns) [
      | true ↦ λ gate e. by_entry gate (entry_notes seen (get d (entry_name k))) refl e (λ m h. reads_from d all (suc k) fuel (seen ++ m) ns (omega (arith, sum)) h)
      | false ↦ λ gate e. record { parts = []; opened = tt; new = tt; few = omega arith; shut = λ below. ap (λ (j : ℕ). is_one (get d (gate_name j))) (let same : k + 0 ≡ k = omega arith in same) ∙ gate; are = sym (append-nil seen ∙ one_list seen ns e) }
    ] refl is
  where
    by_entry : is_one (get d (gate_name k)) ≡ true → (o : Option (List Note)) → entry_notes seen (get d (entry_name k)) ≡ o → or_bad o (entry_name k) (λ m. read_from d (suc k) fuel (seen ++ m)) ≡ Ok ns
        → ((m : List Note) → read_from d (suc k) fuel (seen ++ m) ≡ Ok ns → ReadsFrom d (suc k) fuel (seen ++ m) ns) → ReadsFrom d k (suc fuel) seen ns
    by_entry gate None at e more = absurd (cc)
    by_entry gate (Some m) at e more =
        let entry = entry_is seen (get d (entry_name k)) m (all k) at in
        let rest = more m e in
        record {
          parts = m ∷ rest.parts;
          opened = (gate, entry.there, rest.opened);
          new = (entry.new.0, entry.new.1, rest.new);
          few = omega (arith, rest.few);
          shut = λ below. ap (λ (j : ℕ). is_one (get d (gate_name j))) (let same : k + suc (length rest.parts) ≡ suc k + length rest.parts = omega arith in same) ∙ rest.shut (omega (arith, below));
          are = rest.are ∙ append_assoc seen m (all_notes rest.parts);
        }

noted_from : (d : Map) (r : Result (List Note) (List ℕ)) → is_one (get d marker) ≡ true → noted d ≡ r → read_from d 0 most_entries [] ≡ r
unfolding noted
noted_from d r marked is = sym (ap (λ b. cond b (read_from d 0 most_entries []) (Ok [])) marked) ∙ is

pub open_read : (d : Map) (ns : List Note) → HoldsBytes d → is_one (get d marker) ≡ true → noted d ≡ Ok ns → (parts : List (List Note)) × (AreAllOpen d parts × (ns ≡ all_notes parts))
open_read d ns all marked is =
    let r = reads_from d all 0 most_entries [] ns (omega arith) (noted_from d (Ok ns) marked is) in
    let start : 0 + length r.parts ≡ length r.parts = omega arith in (
      r.parts,
      (
        record {
          are_open = record { marked = marked; opened = r.opened; are_new = r.new; few = r.few };
          shut = λ below. ap (λ (j : ℕ). is_one (get d (gate_name j))) (sym start) ∙ r.shut (omega (arith, below));
        },
        r.are,
      ),
    )

-- the entries before one that is read
read_over : (d : Map) (k fuel : ℕ) (seen : List Note) (parts : List (List Note)) → Opened d k parts → AreNew seen parts → read_from d k (length parts + fuel) seen ≡ read_from d (k + length parts) fuel (seen ++ all_notes parts)
unfolding read_from
read_over d k fuel seen [] opened new = (λ i. read_from d (first i) (none i) (sym (append-nil seen) i))
  where
    first : k ≡ k + 0
    first = omega arith

    none : 0 + fuel ≡ fuel
    none = omega arith
read_over d k fuel seen (ns ∷ parts) opened new =
    ap (λ (n : ℕ). read_from d k n seen) (let one : suc (length parts) + fuel ≡ suc (length parts + fuel) = omega arith in one)
    ∙ rw (opened.0, entry_again seen (get d (entry_name k)) ns (record { there = opened.1; new = (new.0, new.1, tt) }))
    (read_over d (suc k) fuel (seen ++ ns) parts opened.2 new.2
    ∙ (λ i. read_from d (next i) fuel (append_assoc seen ns (all_notes parts) i)))
  where
    next : suc k + length parts ≡ k + suc (length parts)
    next = omega arith

-- the first that isn't
record RefusesFrom (d : Map) (k fuel : ℕ) (seen : List Note) (name : List ℕ) : Type 0 where
  parts : List (List Note)
  opened : Opened d k parts
  new : AreNew seen parts
  few : length parts < fuel
  gate : is_one (get d (gate_name (k + length parts))) ≡ true
  bad : entry_notes (seen ++ all_notes parts) (get d (entry_name (k + length parts))) ≡ None
  is_name : name ≡ entry_name (k + length parts)

refuses_from : (d : Map) → HoldsBytes d → (k fuel : ℕ) (seen : List Note) (name : List ℕ) → read_from d k fuel seen ≡ Err name → RefusesFrom d k fuel seen name
unfolding read_from
refuses_from d all k zero seen name is = absurd (cc)
refuses_from d all k (suc fuel) seen name is =
    elim (is_one (get d (gate_name k))) as (λ b. is_one (get d (gate_name k)) ≡ b → cond b (or_bad (entry_notes seen (get d (entry_name k))) (entry_name k) (λ m. read_from d (suc k) fuel (seen ++ m))) (Ok seen) ≡ Err name → RefusesFrom d k (suc fuel) seen name) [
      | true ↦ λ gate e. by_entry gate (entry_notes seen (get d (entry_name k))) refl e (λ m h. refuses_from d all (suc k) fuel (seen ++ m) name h)
      | false ↦ λ gate e. absurd (cc)
    ] refl is
  where
    here : k + 0 ≡ k
    here = omega arith

    by_entry : is_one (get d (gate_name k)) ≡ true → (o : Option (List Note)) → entry_notes seen (get d (entry_name k)) ≡ o → or_bad o (entry_name k) (λ m. read_from d (suc k) fuel (seen ++ m)) ≡ Err name
        → ((m : List Note) → read_from d (suc k) fuel (seen ++ m) ≡ Err name → RefusesFrom d (suc k) fuel (seen ++ m) name) → RefusesFrom d k (suc fuel) seen name
    by_entry gate None at e more =
        let same_name : entry_name k ≡ name = cc in
        record {
          parts = [];
          opened = tt;
          new = tt;
          few = omega arith;
          gate = ap (λ (j : ℕ). is_one (get d (gate_name j))) here ∙ gate;
          bad = (λ i. entry_notes (append-nil seen i) (get d (entry_name (here i)))) ∙ at;
          is_name = sym same_name ∙ ap entry_name (sym here);
        }
    by_entry gate (Some m) at e more =
        let entry = entry_is seen (get d (entry_name k)) m (all k) at in
        let rest = more m e in
        let next : suc k + length rest.parts ≡ k + suc (length rest.parts) = omega arith in
        record {
          parts = m ∷ rest.parts;
          opened = (gate, entry.there, rest.opened);
          new = (entry.new.0, entry.new.1, rest.new);
          few = omega (arith, rest.few);
          gate = ap (λ (j : ℕ). is_one (get d (gate_name j))) (sym next) ∙ rest.gate;
          bad = sym (λ i. entry_notes (append_assoc seen m (all_notes rest.parts) i) (get d (entry_name (next i)))) ∙ rest.bad;
          is_name = rest.is_name ∙ ap entry_name next;
        }

refused_noted : (d : Map) (name : List ℕ) → stands d ≡ Err name → noted d ≡ Err name
unfolding stands
refused_noted d name is = at (noted d) is
  where
    at : (r : Result (List Note) (List ℕ)) → back_by d r ≡ Err name → r ≡ Err name
    at (Ok ns) e = absurd (cc)
    at (Err other) e = let same_name : other ≡ name = cc in ap Err same_name

refused_open : (d : Map) (name : List ℕ) → noted d ≡ Err name → is_one (get d marker) ≡ true
unfolding noted
refused_open d name is =
    elim (is_one (get d marker)) as (λ b. cond b (read_from d 0 most_entries []) (Ok []) ≡ Err name → b ≡ true) [ true ↦ λ e. refl | false ↦ λ e. absurd (cc) ] is

pub bad_refused : (d : Map) (name : List ℕ) → HoldsBytes d → stands d ≡ Err name → IsFirstBad d name
bad_refused d name all is =
    let refused = refused_noted d name is in
    let marked = refused_open d name refused in
    let r = refuses_from d all 0 most_entries [] name (noted_from d (Err name) marked refused) in
    let start : 0 + length r.parts ≡ length r.parts = omega arith in
    record {
      parts = r.parts;
      are_open = record { marked = marked; opened = r.opened; are_new = r.new; few = omega (arith, r.few) };
      below = r.few;
      gate = ap (λ (j : ℕ). is_one (get d (gate_name j))) (sym start) ∙ r.gate;
      bad = λ ns there new.
          let read = entry_again (all_notes r.parts) (get d (entry_name (length r.parts))) ns (record { there = there; new = new }) in
          let none : entry_notes (all_notes r.parts) (get d (entry_name (length r.parts))) ≡ None = ap (λ (j : ℕ). entry_notes (all_notes r.parts) (get d (entry_name j))) (sym start) ∙ r.bad in
          let clash : Some ns ≡ None = sym read ∙ none in
          cc;
      is_name = r.is_name ∙ ap entry_name start;
    }

pub refused_bad : (d : Map) (name : List ℕ) → HoldsBytes d → IsFirstBad d name → stands d ≡ Err name
refused_bad d name all b =
    stands_bad d name b.are_open.marked
    (ap (λ (n : ℕ). read_from d 0 n []) fuel ∙ read_over d 0 (suc (most_entries - (length b.parts + 1))) [] b.parts b.are_open.opened b.are_open.are_new
    ∙ ap (λ (j : ℕ). read_from d j (suc (most_entries - (length b.parts + 1))) (all_notes b.parts)) (let start : 0 + length b.parts ≡ length b.parts = omega arith in start)
    ∙ step_bad d (length b.parts) (most_entries - (length b.parts + 1)) (all_notes b.parts) b.gate (not_read (entry_notes (all_notes b.parts) (get d (entry_name (length b.parts)))) refl) ∙ ap Err (sym b.is_name))
  where
    fuel : most_entries ≡ length b.parts + suc (most_entries - (length b.parts + 1))
    fuel = omega (arith, b.below)

    not_read : (o : Option (List Note)) → entry_notes (all_notes b.parts) (get d (entry_name (length b.parts))) ≡ o → entry_notes (all_notes b.parts) (get d (entry_name (length b.parts))) ≡ None
    not_read None none = none
    not_read (Some ns) read = let e = entry_is (all_notes b.parts) (get d (entry_name (length b.parts))) ns (all (length b.parts)) read in absurd (b.bad ns e.there e.new)
