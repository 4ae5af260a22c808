-- An entry's bytes spell its notes.
use Rattle.std.proofs.Common.{◌≡◌, ℕ, zero, suc, ◌+◌, ◌≤◌, ◌<◌, ◌^◌, true, cond, nat_le, List, [], ◌∷◌, ◌++◌, length, take, drop, Option, Some, None, refl, sym, ap, ◌∙◌, arith, append_assoc, length-append}
use Rattle.std.specs.Option.{option_map, option_and_then}
use Rattle.std.specs.Int.{w32, w64, to_be_bytes, from_be_bytes}
use Rattle.std.proofs.lemmas.Nat.{from_be_bytes-to_be_bytes_4, from_be_bytes-to_be_bytes_8}
use Rattle.std.proofs.lemmas.List.{append-nil}
use Rattle.std.proofs.lemmas.Bool.{le-leb}
use Rattle.std.proofs.Math.Seq.{take-append_seam, drop-append_seam}
use Rattle.mi_undo.specs.Entry.{Fits, AllFit}
use Rattle.mi_undo.specs.Notes.{Note, text, head_bytes, old_bytes, spelled_note, spelled, split_at, text_at, blob_at, note_at, notes_within, notes_of}

pub split_seam : (xs ys : List ℕ) (n : ℕ) → n ≡ length xs → split_at n (xs ++ ys) ≡ Some (xs, ys)
split_seam xs ys n is =
    let fits : nat_le n (length (xs ++ ys)) ≡ true = le-leb n (length (xs ++ ys)) (omega (arith, is, length-append xs ys)) in
    ap (λ b. cond b (Some (take n (xs ++ ys), drop n (xs ++ ys))) None) fits
    ∙ ap (λ (k : ℕ). Some (take k (xs ++ ys), drop k (xs ++ ys))) is
    ∙ (λ i. Some (take-append_seam xs ys i, drop-append_seam xs ys i))

pub text_at-text : (t rest : List ℕ) → length t < 2 ^ 32 → text_at (text t ++ rest) ≡ Some (t, rest)
unfolding text_at
text_at-text t rest fits =
    ap (λ (l : List ℕ). option_and_then (λ p. split_at (from_be_bytes w32 p.0) p.1) (split_at 4 l)) (append_assoc (to_be_bytes w32 (length t)) t rest)
    ∙ ap (λ (o : Option (List ℕ × List ℕ)). option_and_then (λ p. split_at (from_be_bytes w32 p.0) p.1) o) (split_seam (to_be_bytes w32 (length t)) (t ++ rest) 4 refl)
    ∙ split_seam t rest (from_be_bytes w32 (to_be_bytes w32 (length t))) (from_be_bytes-to_be_bytes_4 (length t) fits)

pub blob_at-blob : (b rest : List ℕ) → length b < 2 ^ 64 → blob_at (to_be_bytes w64 (length b) ++ (b ++ rest)) ≡ Some (b, rest)
unfolding blob_at
blob_at-blob b rest fits =
    ap (λ (o : Option (List ℕ × List ℕ)). option_and_then (λ p. split_at (from_be_bytes w64 p.0) p.1) o) (split_seam (to_be_bytes w64 (length b)) (b ++ rest) 8 refl)
    ∙ split_seam b rest (from_be_bytes w64 (to_be_bytes w64 (length b))) (from_be_bytes-to_be_bytes_8 (length b) fits)

absent_note : (name rest : List ℕ) → length name < 2 ^ 32 → note_at ((head_bytes name None ++ []) ++ rest) ≡ Some (record { name = name; was = None }, rest)
unfolding note_at
absent_note name rest short =
    ap (λ (l : List ℕ). option_map (λ (p : List ℕ × List ℕ). (record { name = p.0; was = None }, p.1)) (text_at (l ++ rest))) (append-nil (text name))
    ∙ ap (λ (o : Option (List ℕ × List ℕ)). option_map (λ (p : List ℕ × List ℕ). (record { name = p.0; was = None }, p.1)) o) (text_at-text name rest short)

abbrev with_blob : Option (List ℕ × List ℕ) → Option (Note × List ℕ)
with_blob o = option_and_then (λ p. option_map (λ b. (record { name = p.0; was = Some b.0 }, b.1)) (blob_at p.1)) o

held_note : (name b rest : List ℕ) → length name < 2 ^ 32 → length b < 2 ^ 64 → note_at ((head_bytes name (Some (length b)) ++ b) ++ rest) ≡ Some (record { name = name; was = Some b }, rest)
unfolding note_at
held_note name b rest short_name short =
    ap (λ (l : List ℕ). with_blob (text_at l)) (append_assoc (text name ++ to_be_bytes w64 (length b)) b rest ∙ append_assoc (text name) (to_be_bytes w64 (length b)) (b ++ rest))
    ∙ ap with_blob (text_at-text name (to_be_bytes w64 (length b) ++ (b ++ rest)) short_name)
    ∙ ap (λ (o : Option (List ℕ × List ℕ)). option_map (λ (q : List ℕ × List ℕ). (record { name = name; was = Some q.0 }, q.1)) o) (blob_at-blob b rest short)

abbrev bytes_for : List ℕ → Option (List ℕ) → List ℕ
bytes_for name w = head_bytes name (option_map length w) ++ old_bytes w

read_back : (name rest : List ℕ) (w : Option (List ℕ)) → length name < 2 ^ 32 → length (old_bytes w) < 2 ^ 64 → note_at (bytes_for name w ++ rest) ≡ Some (record { name = name; was = w }, rest)
read_back name rest None short_name short = absent_note name rest short_name
read_back name rest (Some b) short_name short = held_note name b rest short_name short

-- the first note of what spells it
pub note_at-spelled : (n : Note) (rest : List ℕ) → Fits n → note_at (spelled_note n ++ rest) ≡ Some (n, rest)
unfolding spelled_note
note_at-spelled n rest fits = read_back n.name rest n.was fits.name fits.was

-- the notes of bytes that begin with one
pub within_next : (fuel : ℕ) (bytes : List ℕ) (n : Note) (rest : List ℕ) → note_at bytes ≡ Some (n, rest) → notes_within (suc fuel) bytes ≡ option_map (λ ns. n ∷ ns) (notes_within fuel rest)
unfolding notes_within note_at
within_next fuel [] n rest is = absurd (cc)
within_next fuel (b ∷ bytes) n rest is = ap (λ (o : Option (Note × List ℕ)). option_and_then (λ p. option_map (λ ns. p.0 ∷ ns) (notes_within fuel p.1)) o) is

bytes_long : (name : List ℕ) (w : Option (List ℕ)) → 1 ≤ length (bytes_for name w)
bytes_long name None = omega arith
bytes_long name (Some b) = omega arith

note_long : (n : Note) → 1 ≤ length (spelled_note n)
unfolding spelled_note
note_long n = bytes_long n.name n.was

pub length-spelled : (n : Note) (ns : List Note) → length (spelled (n ∷ ns)) ≡ length (spelled_note n) + length (spelled ns)
unfolding spelled
length-spelled n ns = length-append (spelled_note n) (spelled ns)

spelled_first : (n : Note) (ns : List Note) → Fits n → note_at (spelled (n ∷ ns)) ≡ Some (n, spelled ns)
unfolding spelled
spelled_first n ns fits = note_at-spelled n (spelled ns) fits

within_nothing : (fuel : ℕ) → notes_within fuel (spelled []) ≡ Some []
unfolding notes_within spelled
within_nothing zero = refl
within_nothing (suc fuel) = refl

within_spelled : (fuel : ℕ) (ns : List Note) → AllFit ns → length (spelled ns) ≤ fuel → notes_within fuel (spelled ns) ≡ Some ns
within_spelled fuel [] fit long = within_nothing fuel
within_spelled zero (n ∷ ns) fit long = absurd (omega (arith, note_long n, length-spelled n ns))
within_spelled (suc fuel) (n ∷ ns) fit long =
    within_next fuel (spelled (n ∷ ns)) n (spelled ns) (spelled_first n ns fit.0)
    ∙ ap (λ (o : Option (List Note)). option_map (λ l. n ∷ l) o) (within_spelled fuel ns fit.1 (omega (arith, note_long n, length-spelled n ns)))

pub notes_of-spelled : (ns : List Note) → AllFit ns → notes_of (spelled ns) ≡ Some ns
unfolding notes_of
notes_of-spelled ns fit = within_spelled (length (spelled ns)) ns fit (omega arith)

spelled_nothing : ◌≡◌ {A = List ℕ} (spelled []) []
unfolding spelled
spelled_nothing = refl

-- one note more
pub spelled-push : (ns : List Note) (n : Note) → spelled (ns ++ n ∷ []) ≡ spelled ns ++ spelled_note n
unfolding spelled
spelled-push [] n = append-nil (spelled_note n)
spelled-push (m ∷ ns) n = ap (λ (l : List ℕ). spelled_note m ++ l) (spelled-push ns n) ∙ sym (append_assoc (spelled_note m) (spelled ns) (spelled_note n))

pub spelled-append : (xs ys : List Note) → spelled (xs ++ ys) ≡ spelled xs ++ spelled ys
unfolding spelled
spelled-append [] ys = refl
spelled-append (n ∷ xs) ys = ap (λ (l : List ℕ). spelled_note n ++ l) (spelled-append xs ys) ∙ sym (append_assoc (spelled_note n) (spelled xs) (spelled ys))

pub fit-push : (ns : List Note) (n : Note) → AllFit ns → Fits n → AllFit (ns ++ n ∷ [])
fit-push [] n fit one = (one, tt)
fit-push (m ∷ ns) n fit one = (fit.0, fit-push ns n fit.1 one)
