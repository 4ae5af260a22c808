-- Bytes that are added to a name by pieces, from another name or from the source.
use Rattle.std.proofs.Common.{◌≡◌, ◌≢◌, ℕ, ◌+◌, ◌-◌, ◌≤◌, ◌<◌, min, List, [], ◌++◌, length, take, drop, Option, Some, refl, sym, ap, subst, ◌∙◌, arith, append_assoc, length-append, length-take, length-drop}
use Rattle.std.proofs.lemmas.List.{append-nil, drop-drop, take_all}
use Rattle.std.proofs.Math.Seq.{take-add}
use Rattle.std.specs.FinMap.{get, insert}
use Rattle.mi_text.specs.Maps.{Name}
use Rattle.mi_text.proofs.PieceLemmas.{take_own}
use Rattle.mi_volume.specs.Maps.{Map, bytes_or_none}
use Rattle.mi_volume.specs.State.{State}
use Rattle.mi_volume.proofs.MapLemmas.{get-insert_same}
use Rattle.mi_volume.specs.declared.volume.VolFault.{VolFault}
use Rattle.mi_volume.specs.declared.volume.VolFault.TheVariants as vol
use Rattle.mi_undo.specs.Faults.{vol_fault_of}
use Rattle.mi_undo.specs.Area.{volume, IsWorking}
use Rattle.mi_undo.specs.declared.kept.Kept.{Kept}
use Rattle.mi_undo.specs.declared.area.Open.{Open}
use Rattle.mi_undo.specs.declared.fault.OpFault.TheVariants as op
use Rattle.mi_undo.proofs.StepLemmas.{insert_itself, insert_twice}
use Rattle.mi_runner.specs.Steps.{KeepsOver}
use Rattle.mi_runner.proofs.StepLemmas.{keeps_start, keeps_then, IsWithin, within_put, Wrote}

pub was_failed : (e : VolFault) → vol_fault_of e ≡ op.Fault → e ≡ vol.Failed
was_failed vol.NoMemory is = absurd (cc)
was_failed vol.Failed is = refl

pub not_full : (e : VolFault) → vol_fault_of e ≡ op.Full → ⊥
not_full vol.NoMemory is = cc
not_full vol.Failed is = cc

-- the next piece
piece_is : (bytes : List ℕ) (from at n : ℕ) → from ≤ at → take (at - from) (drop from bytes) ++ take n (drop at bytes) ≡ take ((at + n) - from) (drop from bytes)
piece_is bytes from at n le =
    let low : from + (at - from) ≡ at = omega arith in
    let sum : (at - from) + n ≡ (at + n) - from = omega arith in
    ap (λ (l : List ℕ). take (at - from) (drop from bytes) ++ take n l) (sym (drop-drop (at - from) from bytes ∙ ap (λ (k : ℕ). drop k bytes) low))
    ∙ sym (take-add (at - from) n (drop from bytes))
    ∙ ap (λ (k : ℕ). take k (drop from bytes)) sum

-- where nothing is read, nothing is left of the run
pub run_ended : (bytes : List ℕ) (from at n end : ℕ) → from ≤ at → at ≤ end → 0 < n → length (take n (drop at bytes)) ≡ 0 → take (at - from) (drop from bytes) ≡ take (end - from) (drop from bytes)
run_ended bytes from at n end low high some none =
    let short : length bytes ≤ at = omega (arith, none, length-take n (drop at bytes), length-drop at bytes) in
    let rest = length-drop from bytes in
    take_all (at - from) (drop from bytes) (omega (arith, rest)) ∙ sym (take_all (end - from) (drop from bytes) (omega (arith, rest)))

pub run_short : (n : ℕ) (bytes : List ℕ) → length (take n bytes) ≤ n
run_short n bytes = omega (arith, length-take n bytes)

module _ {V : Type 0} (told : Type 0) (state : V → State) where
  abbrev held_by : Open V Kept → Map
  held_by o = (state (volume o)).held

  -- the first piece stands at the name
  pub first_wrote : (a b : Open V Kept) (x bytes piece : List ℕ) → piece ≡ take (length piece) bytes → KeepsOver told state a b (λ q. q ≡ x) → IsWorking b → (told → held_by b ≡ insert (held_by a) x piece) → Wrote told state a b x (take (length piece) bytes)
  first_wrote a b x bytes piece is keeps working held = record { keeps = keeps; working = working; held = λ t. held t ∙ ap (λ (l : List ℕ). insert (held_by a) x l) is }

  -- what stands there with one more piece is short still
  pub piece_small : (a b : Open V Kept) (x front piece : List ℕ) (n : ℕ) → Wrote told state a b x front → length front + length piece ≤ n → told → length x + length (bytes_or_none (get (held_by b) x) ++ piece) ≤ length x + n
  piece_small a b x front piece n wrote le t =
      let here : bytes_or_none (get (held_by b) x) ≡ front = ap (λ (m : Map). bytes_or_none (get m x)) (wrote.held t) ∙ ap bytes_or_none (get-insert_same (held_by a) x front) in
      let is : length (bytes_or_none (get (held_by b) x) ++ piece) ≡ length (front ++ piece) = ap (λ (l : List ℕ). length (l ++ piece)) here in
      omega (arith, is, length-append front piece, le)

  pub wrote_within : (a b : Open V Kept) (x front : List ℕ) (n : ℕ) → Wrote told state a b x front → length front ≤ n → IsWithin told state a b x (length x + n)
  wrote_within a b x front n wrote le = within_put told state a b x front (length x + n) wrote.held (omega (arith, le))

  -- these bytes were added behind what stood at the name
  abbrev pub Added : Open V Kept → Open V Kept → List ℕ → List ℕ → Type 0
  Added a b x more = (before : List ℕ) → get (held_by a) x ≡ Some before → held_by b ≡ insert (held_by a) x (before ++ more)

  pub added_none : (a : Open V Kept) (x : List ℕ) → Added a a x []
  added_none a x before is = sym (ap (λ (l : List ℕ). insert (held_by a) x l) (append-nil before) ∙ insert_itself (held_by a) x before is)

  pub added_more : (a b c d : Open V Kept) (x so_far piece : List ℕ) → Added a b x so_far → held_by c ≡ held_by b → held_by d ≡ insert (held_by c) x (bytes_or_none (get (held_by c) x) ++ piece) → Added a d x (so_far ++ piece)
  added_more a b c d x so_far piece added still put before is =
      let here : held_by c ≡ insert (held_by a) x (before ++ so_far) = still ∙ added before is in
      let stands : bytes_or_none (get (held_by c) x) ≡ before ++ so_far = ap (λ (m : Map). bytes_or_none (get m x)) here ∙ ap bytes_or_none (get-insert_same (held_by a) x (before ++ so_far)) in
      put ∙ ap (λ (l : List ℕ). insert (held_by c) x (l ++ piece)) stands
      ∙ ap (λ (m : Map). insert m x ((before ++ so_far) ++ piece)) here
      ∙ insert_twice (held_by a) x (before ++ so_far) ((before ++ so_far) ++ piece)
      ∙ ap (λ (l : List ℕ). insert (held_by a) x l) (append_assoc before so_far piece)

  pub added_small : (a b c : Open V Kept) (x so_far piece before : List ℕ) (n : ℕ) → (told → Added a b x so_far) → (told → held_by c ≡ held_by b) → (told → get (held_by a) x ≡ Some before) → length so_far + length piece ≤ n
      → told → length x + length (bytes_or_none (get (held_by c) x) ++ piece) ≤ length x + (length before + n)
  added_small a b c x so_far piece before n added still is le t =
      let here : held_by c ≡ insert (held_by a) x (before ++ so_far) = still t ∙ added t before (is t) in
      let stands : bytes_or_none (get (held_by c) x) ≡ before ++ so_far = ap (λ (m : Map). bytes_or_none (get m x)) here ∙ ap bytes_or_none (get-insert_same (held_by a) x (before ++ so_far)) in
      let long : length (bytes_or_none (get (held_by c) x) ++ piece) ≡ length ((before ++ so_far) ++ piece) = ap (λ (l : List ℕ). length (l ++ piece)) stands in
      omega (arith, long, length-append (before ++ so_far) piece, length-append before so_far, le)

  pub added_within : (a b : Open V Kept) (x so_far before : List ℕ) (n : ℕ) → (told → Added a b x so_far) → (told → get (held_by a) x ≡ Some before) → length so_far ≤ n → IsWithin told state a b x (length x + (length before + n))
  added_within a b x so_far before n added is le = λ t.
      within_put told state a b x (before ++ so_far) (length x + (length before + n)) (λ t. added t before (is t)) (omega (arith, length-append before so_far, le)) t

  -- the bytes of another name that were added so far
  pub record Appending (a b : Open V Kept) (x from : Name) (first at end : ℕ) : Type 0 where
    pub low : first ≤ at
    pub high : first < at → at ≤ end
    pub keeps : KeepsOver told state a b (λ q. q ≡ x)
    pub working : IsWorking b
    pub added : told → Added a b x (take (at - first) (drop first (bytes_or_none (get (held_by a) from))))

  pub appending_starts : (a : Open V Kept) (x from : Name) (first end : ℕ) → IsWorking a → Appending a a x from first first end
  appending_starts a x from first end working = record {
    low = omega arith;
    high = λ less. absurd (omega arith);
    keeps = keeps_start told state a (λ q. q ≡ x);
    working = working;
    added = λ t. let zero : first - first ≡ 0 = omega arith in subst (λ (k : ℕ). Added a a x (take k (drop first (bytes_or_none (get (held_by a) from))))) (sym zero) (added_none a x);
  }

  pub run_front : (first at end : ℕ) → first ≤ at → (first < at → at ≤ end) → at - first ≤ end - first
  run_front first at end low high = grind (arith, low, high)

  pub appending_short : (a b : Open V Kept) (x from : Name) (first at end : ℕ) → Appending a b x from first at end → length (take (at - first) (drop first (bytes_or_none (get (held_by a) from)))) ≤ end - first
  appending_short a b x from first at end so_far =
      let front = run_front first at end so_far.low so_far.high in
      omega (arith, run_short (at - first) (drop first (bytes_or_none (get (held_by a) from))), front)

  -- what is read of the other name is what it held
  pub other_read : (a b : Open V Kept) (x from piece : Name) (first at end n : ℕ) → Appending a b x from first at end → told → from ≢ x → piece ≡ take n (drop at (bytes_or_none (get (held_by b) from))) → piece ≡ take n (drop at (bytes_or_none (get (held_by a) from)))
  other_read a b x from piece first at end n so_far t ne is = is ∙ ap (λ (o : Option (List ℕ)). take n (drop at (bytes_or_none o))) (so_far.keeps.others t from ne)

  pub appending_more : (a b c d : Open V Kept) (x from piece : Name) (first at end n : ℕ) → Appending a b x from first at end → from ≢ x → at + n ≤ end → KeepsOver told state b c (λ q. q ≡ x) → (told → held_by c ≡ held_by b) → (told → piece ≡ take n (drop at (bytes_or_none (get (held_by b) from))))
      → KeepsOver told state c d (λ q. q ≡ x) → IsWorking d → (told → held_by d ≡ insert (held_by c) x (bytes_or_none (get (held_by c) x) ++ piece)) → Appending a d x from first (at + n) end
  appending_more a b c d x from piece first at end n so_far ne le looked still read put working held =
      let low = so_far.low in
      record {
        low = omega (arith, low);
        high = λ less. le;
        keeps = keeps_then told state a b d (λ q. q ≡ x) so_far.keeps (keeps_then told state b c d (λ q. q ≡ x) looked put);
        working = working;
        added = λ t.
            subst (λ (l : List ℕ). Added a d x l)
            (ap (λ (l : List ℕ). take (at - first) (drop first (bytes_or_none (get (held_by a) from))) ++ l) (other_read a b x from piece first at end n so_far t ne (read t)) ∙ piece_is (bytes_or_none (get (held_by a) from)) first at n low)
            (added_more a b c d x (take (at - first) (drop first (bytes_or_none (get (held_by a) from)))) piece (so_far.added t) (still t) (held t));
      }

  -- all of them
  pub appending_ends : (a b : Open V Kept) (x from : Name) (first at end : ℕ) → Appending a b x from first at end → end ≤ at → told → Added a b x (take (end - first) (drop first (bytes_or_none (get (held_by a) from))))
  appending_ends a b x from first at end so_far past t =
      let same : at - first ≡ end - first = grind (arith, so_far.low, so_far.high, past) in
      subst (λ (k : ℕ). Added a b x (take k (drop first (bytes_or_none (get (held_by a) from))))) same (so_far.added t)

  -- the bytes of the source's file that were added so far
  pub record Filling (source_told : Type 0) (a b : Open V Kept) (x file : Name) (at stated : ℕ) : Type 0 where
    pub within : at ≤ stated
    pub keeps : KeepsOver told state a b (λ q. q ≡ x)
    pub working : IsWorking b
    pub bytes : List ℕ
    pub few : length bytes ≤ at
    pub added : told → Added a b x bytes
    pub are : source_told → bytes ≡ take at file
    pub there : source_told → at ≤ length file

  pub filling_starts : (source_told : Type 0) (a : Open V Kept) (x file : Name) (stated : ℕ) → IsWorking a → Filling source_told a a x file 0 stated
  filling_starts source_told a x file stated working = record {
    within = omega arith;
    keeps = keeps_start told state a (λ q. q ≡ x);
    working = working;
    bytes = [];
    few = omega arith;
    added = λ t. added_none a x;
    are = λ s. refl;
    there = λ s. omega arith;
  }

  pub filling_more : (source_told : Type 0) (a b c : Open V Kept) (x file piece : Name) (at stated n : ℕ) → Filling source_told a b x file at stated → at + length piece ≤ stated → (source_told → piece ≡ take n (drop at file))
      → KeepsOver told state b c (λ q. q ≡ x) → IsWorking c → (told → held_by c ≡ insert (held_by b) x (bytes_or_none (get (held_by b) x) ++ piece)) → Filling source_told a c x file (at + length piece) stated
  filling_more source_told a b c x file piece at stated n so_far le read put working held = record {
    within = le;
    keeps = keeps_then told state a b c (λ q. q ≡ x) so_far.keeps put;
    working = working;
    bytes = so_far.bytes ++ piece;
    few = let few = so_far.few in omega (arith, length-append so_far.bytes piece, few);
    added = λ t. added_more a b b c x so_far.bytes piece (so_far.added t) refl (held t);
    are = λ s. ap (λ (l : List ℕ). l ++ piece) (so_far.are s) ∙ ap (λ (l : List ℕ). take at file ++ l) (own s) ∙ sym (take-add at (length piece) file);
    there = λ s.
        let was = so_far.there s in
        let is = ap length (read s) in
        omega (arith, was, is, length-take n (drop at file), length-drop at file);
  }
    where
      own : source_told → piece ≡ take (length piece) (drop at file)
      own s = read s ∙ shorter n (drop at file) ∙ ap (λ (l : List ℕ). take (length l) (drop at file)) (sym (read s))
        where
          shorter : (n : ℕ) (l : List ℕ) → take n l ≡ take (length (take n l)) l
          shorter n l = sym (take_own n l)

  -- where a piece is short, the file ends
  pub filling_short : (source_told : Type 0) (a b : Open V Kept) (x file : Name) (at was stated n found : ℕ) (piece : List ℕ) → Filling source_told a b x file at stated → at ≡ was + found → found ≡ length piece → found < n → (source_told → piece ≡ take n (drop was file)) → source_told → (at ≡ min stated (length file)) × (take at file ≡ take stated file)
  filling_short source_told a b x file at was stated n found piece so_far sum is_found short read s =
      let is = ap length (read s) in
      let there = so_far.there s in
      let within = so_far.within in
      let whole : at ≡ length file = omega (arith, sum, is_found, short, is, there, length-take n (drop was file), length-drop was file) in
      (omega (arith, whole, within), take_all at file (omega (arith, whole)) ∙ sym (take_all stated file (omega (arith, whole, within))))

  pub filling_done : (source_told : Type 0) (a b : Open V Kept) (x file : Name) (at stated : ℕ) → Filling source_told a b x file at stated → stated ≤ at → source_told → (at ≡ min stated (length file)) × (take at file ≡ take stated file)
  filling_done source_told a b x file at stated so_far past s =
      let there = so_far.there s in
      let within = so_far.within in
      let all : at ≡ stated = omega (arith, past, within) in
      (omega (arith, all, there), ap (λ (k : ℕ). take k file) all)

  -- what was added is the front of the file that is stated
  pub filled : (source_told : Type 0) (a b : Open V Kept) (x file : Name) (at stated : ℕ) → Filling source_told a b x file at stated → (source_told → take at file ≡ take stated file) → told → source_told → Added a b x (take stated file)
  filled source_told a b x file at stated so_far is t s = subst (λ (l : List ℕ). Added a b x l) (so_far.are s ∙ is s) (so_far.added t)

  pub filling_same : (source_told : Type 0) (a b : Open V Kept) (x file piece : Name) (at stated : ℕ) {found : ℕ} → length piece ≡ found → Filling source_told a b x file (at + length piece) stated → Filling source_told a b x file (at + found) stated
  filling_same source_told a b x file piece at stated is so_far = subst (λ (k : ℕ). Filling source_told a b x file (at + k) stated) is so_far
