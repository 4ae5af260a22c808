-- The room of a volume in memory, after a change.
use Rattle.std.proofs.Common.{◌≡◌, ℕ, ◌+◌, ◌-◌, ◌^◌, ◌≤◌, ◌<◌, min, Bool, true, false, cond, List, [], ◌∷◌, length, length-append, Option, Some, None, IfSome, IfNone, Result, Ok, Err, OnOk, refl, sym, ap, subst, ◌∙◌, arith}
use Rattle.std.specs.Prelude.{option_map, is_some}
use Rattle.std.specs.Option.{option_map_or}
use Rattle.std.specs.Result.{is_err}
use Rattle.std.specs.FinMap.{get, insert, remove, empty, entries, from_sorted, get-empty, get-from_sorted, entries-from_sorted}
use Rattle.mi_text.specs.Maps.{Name, name_cmp}
use Rattle.mi_text.proofs.MapLemmas.{same}
use Rattle.mi_volume.specs.Maps.{Map, size, slot_size, weight, Fits, Exceeds, HoldsByte}
use Rattle.mi_volume.specs.Kept.{Kept, nothing_kept, changed, changed_if_held, cleaned, crashed, imaged, chosen, is_dirty}
use Rattle.mi_volume.specs.State.{MayLeave}
use Rattle.mi_volume.specs.Memory.{Memory, HasRoom, HasRoomFor, HasNoRoomFor, IsSizeWith, length_after, with_piece, touched}
use Rattle.mi_volume.specs.declared.call.CallKind.{CallKind}
use Rattle.mi_volume.specs.declared.call.CallKind.TheVariants.{Put, Append}
use Rattle.mi_volume.specs.declared.choice.Choice.{Choice}
use Rattle.mi_volume.specs.declared.choice.Choice.TheVariants.{Old}
use Rattle.mi_volume.proofs.SizeLemmas.{size-insert, size-remove, size-set_to}
use Rattle.mi_volume.proofs.CrashLemmas.{crashed_changed, crashed_clean, crashed_fits}
use Rattle.mi_volume.proofs.ImageLemmas.{get-crashed}
use Rattle.mi_volume.proofs.StateLemmas.{touched_holds}

pub size-empty : size empty ≡ 0
unfolding size
size-empty =
    let none : empty ≡ from_sorted {R = name_cmp} [] = same empty (from_sorted []) (λ q. get-empty name_cmp q ∙ sym (get-from_sorted name_cmp [] q tt)) in
    ap (λ (m : Map). weight (entries m)) none ∙ ap weight (entries-from_sorted name_cmp [] tt)

at_some : (capacity : Option ℕ) (P : ℕ → Type 0) (c : ℕ) → IfSome capacity P → capacity ≡ Some c → P c
at_some None P c p is = cc
at_some (Some x) P c p is = let same : x ≡ c = cc in subst P same p

fits_nothing : (capacity : Option ℕ) (n : ℕ) → n ≡ 0 → Fits capacity n
fits_nothing None n is = tt
fits_nothing (Some c) n is = omega arith

pub opens : (k : Kept) (capacity : Option ℕ) → k ≡ nothing_kept → IfSome capacity (λ c. c < 2 ^ 64 - 1) → HasRoom k capacity 0
opens k capacity is small = subst (λ k. HasRoom k capacity 0) (sym is) (record {
  small = λ c at. at_some capacity (λ c. c < 2 ^ 64 - 1) c small at;
  exact = λ c at. sym size-empty;
  held = fits_nothing capacity (size empty) size-empty;
  before = fits_nothing capacity (size (crashed Old nothing_kept)) (ap size (crashed_clean Old nothing_kept refl) ∙ size-empty);
})

-- a change of what is held, where the size is known
pub room_then : (k l : Kept) (capacity : Option ℕ) (used after : ℕ) → HasRoom k capacity used → ((c : ℕ) → capacity ≡ Some c → (after ≡ size l.held) × (after ≤ c)) → crashed Old l ≡ crashed Old k → HasRoom l capacity after
room_then k l capacity used after room sizes before = record {
  small = room.small;
  exact = λ c at. (sizes c at).0;
  held = fits capacity sizes;
  before = subst (λ m. Fits capacity (size m)) (sym before) room.before;
}
  where
    fits : (capacity : Option ℕ) → ((c : ℕ) → capacity ≡ Some c → (after ≡ size l.held) × (after ≤ c)) → Fits capacity (size l.held)
    fits None sizes = tt
    fits (Some c) sizes = let s = sizes c refl in omega (arith, s.0, s.1)

within : (k : Kept) (capacity : Option ℕ) (used : ℕ) → HasRoom k capacity used → (c : ℕ) → capacity ≡ Some c → (used ≡ size k.held) × (used ≤ c)
within k capacity used room c at = let exact = room.exact c at in let fits = at_some capacity (λ c. size k.held ≤ c) c room.held at in (exact, omega (arith, exact, fits))

same_before : (k : Kept) (name : Name) (now : Option (List ℕ)) → crashed Old (changed_if_held k name now) ≡ crashed Old k
same_before k name now = elim (is_some (get k.held name)) as (λ b. crashed Old (cond b (changed k name now) k) ≡ crashed Old k) [ true ↦ crashed_changed k name now | false ↦ refl ]

pub touched_room : (k l : Kept) (capacity : Option ℕ) (used : ℕ) (name : Name) → l ≡ touched k name → HasRoom k capacity used → HasRoom l capacity used
touched_room k l capacity used name is room =
    let held : size l.held ≡ size k.held = ap size (same l.held k.held (λ q. ap (λ (k : Kept). get k.held q) is ∙ touched_holds k name q)) in
    room_then k l capacity used used room (λ c at. let w = within k capacity used room c at in (w.0 ∙ sym held, w.1)) (ap (crashed Old) is ∙ same_before k name (get k.held name))

pub marked_room : (k l : Kept) (capacity : Option ℕ) (used : ℕ) (name : Name) (byte : ℕ) → HoldsByte k.held name → l ≡ changed k name (Some (byte ∷ [])) → HasRoom k capacity used → HasRoom l capacity used
marked_room k l capacity used name byte holds is room =
    let sum = size-set_to k.held name (Some (byte ∷ [])) in
    let was : slot_size name (get k.held name) ≡ length name + 1 = ap (slot_size name) holds.1 in
    let held : size l.held ≡ size k.held = ap (λ (k : Kept). size k.held) is ∙ omega (arith, sum, was) in
    room_then k l capacity used used room (λ c at. let w = within k capacity used room c at in (w.0 ∙ sym held, w.1)) (ap (crashed Old) is ∙ crashed_changed k name (Some (byte ∷ [])))

-- what a name counts, as a number that stands still at the greatest u64
pub counts : (name : Name) (o : Option (List ℕ)) → option_map_or (λ n. min (length name + n) (2 ^ 64 - 1)) (option_map length o) 0 ≡ min (slot_size name o) (2 ^ 64 - 1)
counts name None = refl
counts name (Some bytes) = refl

pub removed_room : (k l : Kept) (capacity : Option ℕ) (used gone : ℕ) (name : Name) → gone ≡ min (slot_size name (get k.held name)) (2 ^ 64 - 1) → l ≡ changed_if_held k name None → HasRoom k capacity used → HasRoom l capacity (used - gone)
removed_room k l capacity used gone name is_gone is room =
    room_then k l capacity used (used - gone) room (λ c at.
    let w = within k capacity used room c at in
    let small = room.small c at in
    let sum : size l.held + slot_size name (get k.held name) ≡ size k.held = after (get k.held name) refl in
    (omega (arith, w.0, w.1, small, sum, is_gone), omega (arith, w.1)))
    (ap (crashed Old) is ∙ same_before k name None)
  where
    after : (o : Option (List ℕ)) → get k.held name ≡ o → size l.held + slot_size name o ≡ size k.held
    after None at =
        let same_size : size l.held ≡ size k.held = ap (λ (k : Kept). size k.held) is ∙ ap (λ o. size (cond (is_some o) (changed k name None) k).held) at in
        omega arith
    after (Some bytes) at =
        let left : size l.held ≡ size (remove k.held name) = ap (λ (k : Kept). size k.held) is ∙ ap (λ o. size (cond (is_some o) (changed k name None) k).held) at in
        let sum = size-remove k.held name in
        let was : slot_size name (get k.held name) ≡ length name + length bytes = ap (slot_size name) at in
        let whole : size l.held + (length name + length bytes) ≡ size k.held = omega (arith, sum, was, left) in
        whole

pub cleaned_room : (k l : Kept) (capacity : Option ℕ) (used : ℕ) → l ≡ cleaned k → HasRoom k capacity used → HasRoom l capacity used
cleaned_room k l capacity used is room = subst (λ l. HasRoom l capacity used) (sym is) (record {
  small = room.small;
  exact = room.exact;
  held = room.held;
  before = subst (λ m. Fits capacity (size m)) (sym (crashed_clean Old (cleaned k) refl)) room.held;
})

pub stored_room : (k l : Kept) (capacity : Option ℕ) (used after : ℕ) (name : Name) (whole : List ℕ) → l ≡ changed k name (Some whole) → ((c : ℕ) → capacity ≡ Some c → (after ≡ size (insert k.held name whole)) × (after ≤ c)) → HasRoom k capacity used → HasRoom l capacity after
stored_room k l capacity used after name whole is sizes room =
    room_then k l capacity used after room (λ c at. ((sizes c at).0 ∙ sym (ap (λ (k : Kept). size k.held) is), (sizes c at).1)) (ap (crashed Old) is ∙ crashed_changed k name (Some whole))

pub image_room : (choice : Choice) (k l : Kept) (capacity : Option ℕ) (used after : ℕ) → l ≡ imaged choice k → after ≡ min (size l.held) (2 ^ 64 - 1) → HasRoom k capacity used → HasRoom l capacity after
image_room choice k l capacity used after is sum room =
    let fits : Fits capacity (size l.held) = subst (λ (l : Kept). Fits capacity (size l.held)) (sym is) (crashed_fits choice k capacity room.held room.before) in
    record {
      small = room.small;
      exact = λ c at. let small = room.small c at in let below = at_some capacity (λ c. size l.held ≤ c) c fits at in omega (arith, sum, small, below);
      held = fits;
      before = subst (λ m. Fits capacity (size m)) (sym (crashed_clean Old l (ap (λ (l : Kept). l.before) is))) fits;
    }

pub slot_within : (k : Kept) (capacity : Option ℕ) (used old : ℕ) (name : Name) → old ≡ min (slot_size name (get k.held name)) (2 ^ 64 - 1) → HasRoom k capacity used → (c : ℕ) → capacity ≡ Some c → old ≤ used
slot_within k capacity used old name is room c at =
    let exact = room.exact c at in let sum = size-remove k.held name in omega (arith, is, exact, sum)

-- the sums of the code, which stand still at the greatest u64
pub room_found : (m : Memory) (kind : CallKind) (name : Name) (whole part used old new after : ℕ) → HasRoom m.kept m.capacity used
    → old ≡ min (slot_size name (get m.kept.held name)) (2 ^ 64 - 1)
    → new ≡ min (length name + min (length_after kind (option_map length (get m.kept.held name)) whole) (2 ^ 64 - 1)) (2 ^ 64 - 1)
    → part ≤ whole
    → ((c : ℕ) → m.capacity ≡ Some c → (after + old + (whole - part) ≡ used + new) × (after + (whole - part) ≤ c)) → HasRoomFor m kind name whole part after
room_found m kind name whole part used old new after room is_old is_new le sums = record {
  exact = λ c at.
      let exact = room.exact c at in let small = room.small c at in let sum = sums c at in let below = size-remove m.kept.held name in let w = within m.kept m.capacity used room c at in
      let parts = parts_of kind (option_map length (get m.kept.held name)) whole part le in
      omega (arith, exact, small, sum.0, sum.1, below, w.1, is_old, is_new, parts, le);
  within = λ c at n is.
      let exact = room.exact c at in let small = room.small c at in let sum = sums c at in let below = size-remove m.kept.held name in let w = within m.kept m.capacity used room c at in
      omega (arith, exact, small, sum.0, sum.1, below, w.1, is_old, is_new, is, le);
}
  where
    parts_of : (kind : CallKind) (o : Option ℕ) (whole part : ℕ) → part ≤ whole → length_after kind o whole ≡ length_after kind o part + (whole - part)
    parts_of Put o whole part le = omega arith
    parts_of Append o whole part le = omega arith

pub no_room_found : (m : Memory) (kind : CallKind) (name : Name) (whole used old new : ℕ) → HasRoom m.kept m.capacity used
    → old ≡ min (slot_size name (get m.kept.held name)) (2 ^ 64 - 1)
    → new ≡ min (length name + min (length_after kind (option_map length (get m.kept.held name)) whole) (2 ^ 64 - 1)) (2 ^ 64 - 1)
    → (c : ℕ) × (m.capacity ≡ Some c) × (c + old < used + new) → HasNoRoomFor m kind name whole
no_room_found m kind name whole used old new room is_old is_new passes = (
  passes.0,
  passes.1,
  λ n is.
      let exact = room.exact passes.0 passes.1 in let small = room.small passes.0 passes.1 in let below = size-remove m.kept.held name in let w = within m.kept m.capacity used room passes.0 passes.1 in
      omega (arith, exact, small, passes.2, below, w.1, is_old, is_new, is),
)

piece_length : (kind : CallKind) (now : Option (List ℕ)) (piece : List ℕ) → length (with_piece kind now piece) ≡ length_after kind (option_map length now) (length piece)
piece_length Put now piece = refl
piece_length Append None piece = let zero : length piece ≡ 0 + length piece = omega arith in zero
piece_length Append (Some bytes) piece = length-append bytes piece

-- the size after a piece is put or appended
pub size_with : (m : Memory) (kind : CallKind) (name : Name) (piece : List ℕ) → IsSizeWith m kind name (length piece) (size (insert m.kept.held name (with_piece kind (get m.kept.held name) piece)))
size_with m kind name piece =
    let sum = size-insert m.kept.held name (with_piece kind (get m.kept.held name) piece) in
    let long = piece_length kind (get m.kept.held name) piece in
    omega (arith, sum, long)

pub passes_then : (m : Memory) (kind : CallKind) (name : Name) (piece : List ℕ) (whole : ℕ) → whole ≡ length piece → HasNoRoomFor m kind name whole → Exceeds m.capacity (size (insert m.kept.held name (with_piece kind (get m.kept.held name) piece)))
passes_then m kind name piece whole is none =
    subst (λ capacity. Exceeds capacity (size (insert m.kept.held name (with_piece kind (get m.kept.held name) piece)))) (sym none.1)
    (none.2 (size (insert m.kept.held name (with_piece kind (get m.kept.held name) piece))) (subst (λ n. IsSizeWith m kind name n (size (insert m.kept.held name (with_piece kind (get m.kept.held name) piece)))) (sym is) (size_with m kind name piece)))

pub never_passes : (m : Memory) (kind : CallKind) (name : Name) (piece : List ℕ) (whole part after : ℕ) → whole ≡ length piece → HasRoomFor m kind name whole part after → Exceeds m.capacity (size (insert m.kept.held name (with_piece kind (get m.kept.held name) piece))) → ⊥
never_passes m kind name piece whole part after is room exceeds = by_capacity m.capacity refl exceeds
  where
    by_capacity : (o : Option ℕ) → m.capacity ≡ o → Exceeds o (size (insert m.kept.held name (with_piece kind (get m.kept.held name) piece))) → ⊥
    by_capacity None at over = over
    by_capacity (Some c) at over =
        let le = room.within c at (size (insert m.kept.held name (with_piece kind (get m.kept.held name) piece))) (subst (λ n. IsSizeWith m kind name n (size (insert m.kept.held name (with_piece kind (get m.kept.held name) piece)))) (sym is) (size_with m kind name piece)) in
        omega (arith, le, over)

-- the size that was found is that after the part
pub size_found : (m : Memory) (kind : CallKind) (name : Name) (piece : List ℕ) (whole part after : ℕ) → part ≡ length piece → part ≤ whole → HasRoomFor m kind name whole part after
    → (c : ℕ) → m.capacity ≡ Some c → (after ≡ size (insert m.kept.held name (with_piece kind (get m.kept.held name) piece))) × (after ≤ c)
size_found m kind name piece whole part after is le room c at =
    let exact = room.exact c at in
    let here = subst (λ n. IsSizeWith m kind name n (size (insert m.kept.held name (with_piece kind (get m.kept.held name) piece)))) (sym is) (size_with m kind name piece) in
    let below = room.within c at (after + (whole - part)) (more kind (option_map length (get m.kept.held name)) exact) in
    (omega (arith, exact, here), omega (arith, below))
  where
    more : (kind : CallKind) (o : Option ℕ) → after + slot_size name (get m.kept.held name) ≡ size m.kept.held + (length name + length_after kind o part)
        → after + (whole - part) + slot_size name (get m.kept.held name) ≡ size m.kept.held + (length name + length_after kind o whole)
    more Put o exact = omega (arith, exact, le)
    more Append o exact = omega (arith, exact, le)

pub ok_holds : {T E P : Type 0} → (r : Result T E) (b : Bool) → b ≡ is_err r → b ≡ false → OnOk r P → P
ok_holds (Ok x) b is well p = p
ok_holds (Err e) b is well p = cc

pub some_then : (o : Option ℕ) (P Q : ℕ → Type 0) → ((n : ℕ) → P n → Q n) → IfSome o P → IfSome o Q
some_then None P Q then p = tt
some_then (Some n) P Q then p = then n p

pub none_then : (o : Option ℕ) (P Q : Type 0) → (P → Q) → IfNone o P → IfNone o Q
none_then None P Q then p = then p
none_then (Some n) P Q then p = tt

-- an image is one that a crash may leave
pub possible : (choice : Choice) (m : Memory) (used : ℕ) (l : Kept) → HasRoom m.kept m.capacity used → l ≡ imaged choice m.kept → MayLeave m.kept.held (λ q. is_dirty m.kept q ≡ true) m.capacity l.held
possible choice m used l room is =
    subst (λ (l : Kept). MayLeave m.kept.held (λ q. is_dirty m.kept q ≡ true) m.capacity l.held) (sym is) (record {
      agrees = λ q clean. get-crashed choice m.kept q ∙ by_note q (get m.kept.before q) refl clean;
      fits = crashed_fits choice m.kept m.capacity room.held room.before;
    })
  where
    by_note : (q : Name) (o : Option (Option (List ℕ))) → get m.kept.before q ≡ o → ¬ (is_dirty m.kept q ≡ true) → option_map_or (λ held. chosen choice held (get m.kept.held q)) o (get m.kept.held q) ≡ get m.kept.held q
    by_note q None at clean = refl
    by_note q (Some held) at clean = absurd (clean (ap is_some at))
