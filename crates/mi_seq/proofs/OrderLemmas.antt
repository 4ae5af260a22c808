-- Rows by their seats: a tree of places has, in order, the rows of the sequence.
use Rattle.std.proofs.Common.{◌≡◌, ℕ, zero, suc, ℤ, ◌+◌, ◌-◌, ◌<◌, ◌≤◌, true, false, cond, List, [], ◌∷◌, map, drop, Option, Some, None, refl, sym, ap, ◌∙◌, subst, add-one, length, arith}
use Rattle.std.specs.Prelude.{slice_get, filter, Result, Ok, Err, OnOk}
use Rattle.std.proofs.lemmas.List.{length-map}
use Rattle.std.specs.List.{cons_option}
use Rattle.std.specs.declared.cmp.Ordering.TheVariants.{Less, Equal, Greater}
use Rattle.std.specs.Ordering.{match_ordering}
use Rattle.std.specs.Cmp.{IsTotalOrder, int_cmp_total}
use Rattle.std.specs.Cmp.Lexicographic.{nat_list_cmp_total}
use Rattle.std.proofs.lemmas.Cmp.{then_total, on_total}
use Rattle.std.specs.FinMap.{entries, values, entries-insert, len-entries, len-empty}
use Rattle.std.specs.FinMap.Entries.{put, by_order}
use Rattle.std.specs.BTreeMap.{insert_entry}
use denote.Ref.{Bor}
use Rattle.mi_schema.specs.declared.typed_rows.InstallExecuteSequenceRow.{InstallExecuteSequenceRow}
use Rattle.mi_model.specs.Sequence.{Seat, seat_cmp, seat_of, has_seat, by_seat}
use Rattle.mi_seq.specs.Orders.{rows_at}
use Rattle.mi_seq.specs.Seats.{Placed, placed_cmp, seated, as_there, AreSeated}

pub seat_total : IsTotalOrder seat_cmp
seat_total = then_total (on_total (λ (s : Seat). s.0) int_cmp_total) (on_total (λ (s : Seat). s.1) nat_list_cmp_total)

-- what is inserted in the tree is put among its rows
seated-insert : (rows : List InstallExecuteSequenceRow) (k : ℤ × Bor (List ℕ)) (place : ℕ) (es : List Placed)
    → map (seated rows) (insert_entry placed_cmp es k place) ≡ put seat_cmp (k.0, k.1.now) (slice_get rows place) (map (seated rows) es)
seated-insert rows k place [] = refl
seated-insert rows k place (e ∷ es) =
    elim (placed_cmp k e.0) as (λ o. map (seated rows) (match_ordering o ((k, place) ∷ e ∷ es) ((e.0, place) ∷ es) (e ∷ insert_entry placed_cmp es k place))
    ≡ by_order o (seated rows (k, place) ∷ map (seated rows) (e ∷ es)) (((e.0.0, e.0.1.now), slice_get rows place) ∷ map (seated rows) es) (seated rows e ∷ put seat_cmp (k.0, k.1.now) (slice_get rows place) (map (seated rows) es))) [
      | Less ↦ refl
      | Equal ↦ refl
      | Greater ↦ ap (λ r. seated rows e ∷ r) (seated-insert rows k place es)
    ]

there-put : (s : Seat) (r : InstallExecuteSequenceRow) (es : List (Seat × InstallExecuteSequenceRow)) → map as_there (put seat_cmp s r es) ≡ put seat_cmp s (Some r) (map as_there es)
there-put s r [] = refl
there-put s r (e ∷ es) =
    elim (seat_cmp s e.0) as (λ o. map as_there (by_order o ((s, r) ∷ e ∷ es) ((e.0, r) ∷ es) (e ∷ put seat_cmp s r es))
    ≡ by_order o ((s, Some r) ∷ map as_there (e ∷ es)) ((e.0, Some r) ∷ map as_there es) (as_there e ∷ put seat_cmp s (Some r) (map as_there es))) [
      | Less ↦ refl
      | Equal ↦ refl
      | Greater ↦ ap (λ r. as_there e ∷ r) (there-put s r es)
    ]

-- ---- one row more

pub drop-there : {X : Type 0} (xs : List X) (k : ℕ) (x : X) → slice_get xs k ≡ Some x → drop k xs ≡ x ∷ drop (suc k) xs
drop-there [] k x e = cc
drop-there (y ∷ xs) zero x e = cc
drop-there (y ∷ xs) (suc k) x e = drop-there xs k x e

drop-none : {X : Type 0} (xs : List X) (k : ℕ) → slice_get xs k ≡ None → drop k xs ≡ drop (suc k) xs
drop-none [] zero e = refl
drop-none [] (suc k) e = refl
drop-none (y ∷ xs) zero e = cc
drop-none (y ∷ xs) (suc k) e = drop-none xs k e

-- no row is at the place
pub seated_none : (rows : List InstallExecuteSequenceRow) (k : ℕ) (es : List Placed) → slice_get rows k ≡ None → AreSeated rows (k + 1) es → AreSeated rows k es
seated_none rows k es e are = are ∙ ap (λ rs. map as_there (entries (by_seat (filter has_seat rs)))) (ap (λ n. drop n rows) (add-one k) ∙ sym (drop-none rows k e))

-- the row at the place has no seat
pub seated_without : (rows : List InstallExecuteSequenceRow) (k : ℕ) (es : List Placed) (r : InstallExecuteSequenceRow) → slice_get rows k ≡ Some r → has_seat r ≡ false
    → AreSeated rows (k + 1) es → AreSeated rows k es
seated_without rows k es r e isnt are = are
    ∙ ap (λ rs. map as_there (entries (by_seat rs)))
    (ap (λ n. filter has_seat (drop n rows)) (add-one k)
    ∙ sym (ap (filter has_seat) (drop-there rows k r e) ∙ ap (λ b. cond b (r ∷ filter has_seat (drop (suc k) rows)) (filter has_seat (drop (suc k) rows))) isnt))

-- it has one, and takes it
pub seated_with : (rows : List InstallExecuteSequenceRow) (k : ℕ) (es : List Placed) (r : InstallExecuteSequenceRow) (s : ℤ × Bor (List ℕ)) → slice_get rows k ≡ Some r → has_seat r ≡ true
    → (s.0, s.1.now) ≡ seat_of r → AreSeated rows (k + 1) es → AreSeated rows k (insert_entry placed_cmp es s k)
seated_with rows k es r s e is at are =
    seated-insert rows s k es
    ∙ ap (λ o. put seat_cmp (s.0, s.1.now) o (map (seated rows) es)) e
    ∙ ap (λ (q : Seat). put seat_cmp q (Some r) (map (seated rows) es)) at
    ∙ ap (put seat_cmp (seat_of r) (Some r)) (are ∙ ap (λ n. map as_there (entries (by_seat (filter has_seat (drop n rows))))) (add-one k))
    ∙ sym (there-put (seat_of r) r (entries (by_seat (filter has_seat (drop (suc k) rows)))))
    ∙ sym (ap (map as_there) (entries-insert seat_total (by_seat (filter has_seat (drop (suc k) rows))) (seat_of r) r))
    ∙ sym (ap (λ rs. map as_there (entries (by_seat rs)))
    (ap (filter has_seat) (drop-there rows k r e) ∙ ap (λ b. cond b (r ∷ filter has_seat (drop (suc k) rows)) (filter has_seat (drop (suc k) rows))) is))

-- ---- all rows

pub drop-all : {X : Type 0} (xs : List X) → drop (length xs) xs ≡ []
drop-all [] = refl
drop-all (x ∷ xs) = drop-all xs

pub of_length : {X : Type 0} (xs : List X) → length xs ≡ 0 → xs ≡ []
of_length [] e = refl
of_length (x ∷ xs) e = absurd (omega arith)

entries-none : entries (by_seat []) ≡ []
entries-none = of_length (entries (by_seat [])) (sym (len-entries (by_seat [])) ∙ len-empty seat_cmp InstallExecuteSequenceRow)

pub seated_start : {K : Type 0} (es : List (K × InstallExecuteSequenceRow)) (n : ℕ) (placed : List Placed) → n ≡ length es → placed ≡ [] → AreSeated (map (λ (e : K × InstallExecuteSequenceRow). e.1) es) n placed
seated_start {K} es n placed at none =
    ap (map (seated rows)) none
    ∙ sym (ap (map as_there) entries-none)
    ∙ sym (ap (λ rs. map as_there (entries (by_seat (filter has_seat rs)))) (ap (λ k. drop k rows) (at ∙ sym (length-map es (λ (e : K × InstallExecuteSequenceRow). e.1))) ∙ drop-all rows))
  where
    rows : List InstallExecuteSequenceRow
    rows = map (λ (e : K × InstallExecuteSequenceRow). e.1) es

pub seated_below : (rows : List InstallExecuteSequenceRow) (k : ℕ) (es : List Placed) → 0 < k → AreSeated rows k es → AreSeated rows ((k - 1) + 1) es
seated_below rows k es lt are = subst (λ n. AreSeated rows n es) (above k lt) are
  where
    above : (n : ℕ) → 0 < n → n ≡ (n - 1) + 1
    above n h = omega arith

pub seated_end : (rows : List InstallExecuteSequenceRow) (k : ℕ) (es : List Placed) → k ≤ 0 → AreSeated rows k es → AreSeated rows 0 es
seated_end rows k es le are = subst (λ n. AreSeated rows n es) (none k le) are
  where
    none : (n : ℕ) → n ≤ 0 → n ≡ 0
    none n h = omega arith

pub if_ok : {A E : Type 0} {P Q : Type 0} (r : Result A E) → OnOk r P → (P → Q) → OnOk r Q
if_ok (Ok x) h f = f h
if_ok (Err e) h f = tt

-- the places, in the order of the seats, have the rows of the sequence
rows_at-seated : (rows : List InstallExecuteSequenceRow) (es : List Placed) (there : List (Seat × InstallExecuteSequenceRow)) → map (seated rows) es ≡ map as_there there
    → rows_at rows (map (λ (f : Placed). f.1) es) ≡ map (λ (x : Seat × InstallExecuteSequenceRow). x.1) there
rows_at-seated rows [] [] e = refl
rows_at-seated rows [] (t ∷ there) e = cc
rows_at-seated rows (p ∷ es) [] e = cc
rows_at-seated rows (p ∷ es) (t ∷ there) e =
    let first : ◌≡◌ {A = Seat × Option InstallExecuteSequenceRow} (seated rows p) (as_there t) = cc in
    let behind : map (seated rows) es ≡ map as_there there = cc in
    ap (λ o. cons_option o (rows_at rows (map (λ (f : Placed). f.1) es))) (ap (λ (x : Seat × Option InstallExecuteSequenceRow). x.1) first)
    ∙ ap (λ rs. t.1 ∷ rs) (rows_at-seated rows es there behind)

pub seated_all : (rows : List InstallExecuteSequenceRow) (es : List Placed) (places : List ℕ) → AreSeated rows 0 es → places ≡ map (λ (f : Placed). f.1) es
    → rows_at rows places ≡ values (by_seat (filter has_seat rows))
seated_all rows es places are is = ap (rows_at rows) is ∙ rows_at-seated rows es (entries (by_seat (filter has_seat rows))) are
