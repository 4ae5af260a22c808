-- An action is begun at most once, since it is the key of its row.
use Rattle.std.proofs.Common.{◌≡◌, ◌⊎◌, inl, inr, ℕ, ◌+◌, ◌≤◌, Bool, true, false, cond, ◌||◌, List, [], ◌∷◌, ◌++◌, map, length, fold, None, refl, sym, ap, subst, ◌∙◌, arith}
use Rattle.std.specs.Cmp.{IsTotalOrder, int_cmp_total}
use Rattle.std.proofs.lemmas.Cmp.{then_total, on_total}
use Rattle.std.specs.Cmp.Lexicographic.{nat_list_cmp_total}
use Rattle.std.specs.Prelude.{filter}
use Rattle.std.specs.declared.cmp.Ordering.TheVariants.{Less, Equal, Greater}
use Rattle.std.specs.FinMap.{entries, entries-insert, len-entries, len-empty}
use Rattle.std.specs.FinMap.Entries.{put, by_order}
use Rattle.mi_text.specs.Maps.{Name, same_name, is_among}
use Rattle.mi_text.proofs.MapLemmas.{from_same, same_itself, is_among-append}
use Rattle.mi_schema.specs.TableRows.{Rows}
use Rattle.mi_schema.specs.declared.typed_rows.InstallExecuteSequenceRow.{InstallExecuteSequenceRow}
use Rattle.mi_model.specs.World.{Given}
use Rattle.mi_model.specs.Sequence.{Seat, seat_cmp, seat_of, has_seat, by_seat, sequence}
use Rattle.mi_model.specs.Walk.{Walked, at_start, walked_row}
use Rattle.mi_laws.proofs.KeyOrderLemmas.{IsNew, AreApart}
use Rattle.mi_laws.proofs.UnrefusedLemmas.{IsNext, unrefused}
use Rattle.mi_laws.proofs.StepLemmas.{Steps, Passed, Idle, Costs, Moves, Ran, Ended, row_steps}

abbrev Row : Type 0
Row = InstallExecuteSequenceRow

abbrev pub action_of_row : Row → Name
action_of_row r = r.action

abbrev actions : List Row → List Name
actions rows = map action_of_row rows

seat_total : IsTotalOrder seat_cmp
seat_total = then_total (on_total (λ (s : Seat). s.0) int_cmp_total) (on_total (λ (s : Seat). s.1) nat_list_cmp_total)

no_length : {X : Type 0} (xs : List X) → length xs ≡ 0 → xs ≡ []
no_length [] e = refl
no_length (x ∷ xs) e = absurd (omega arith)

-- ---- how often an action is in the sequence

module _ (q : Name) where
  abbrev how_many : List Name → ℕ
  how_many [] = 0
  how_many (n ∷ names) = cond (same_name q n) 1 0 + how_many names

  how_many-append : (a b : List Name) → how_many (a ++ b) ≡ how_many a + how_many b
  how_many-append [] b = omega arith
  how_many-append (n ∷ a) b = let rest = how_many-append a b in omega (arith, rest)

  actions-append : (a b : List Row) → actions (a ++ b) ≡ actions a ++ actions b
  actions-append [] b = refl
  actions-append (r ∷ a) b = ap (λ (l : List Name). r.action ∷ l) (actions-append a b)

  none_among : (names : List Name) → how_many names ≡ 0 → is_among q names ≡ false
  none_among [] e = refl
  none_among (n ∷ names) e = by (same_name q n) e (none_among names)
    where
      by : (b : Bool) → cond b 1 0 + how_many names ≡ 0 → (how_many names ≡ 0 → is_among q names ≡ false) → (b || is_among q names) ≡ false
      by true e rest = absurd (omega (arith, e))
      by false e rest = rest (omega (arith, e))

  put_once : (seat : Seat) (r : Row) (es : List (Seat × Row)) → how_many (actions (map (λ (e : Seat × Row). e.1) (put seat_cmp seat r es))) ≤ how_many (r.action ∷ []) + how_many (actions (map (λ (e : Seat × Row). e.1) es))
  put_once seat r [] = omega arith
  put_once seat r (e ∷ es) =
      let rest = put_once seat r es in
      elim (seat_cmp seat e.0) as (λ o. how_many (actions (map (λ (x : Seat × Row). x.1) (by_order o ((seat, r) ∷ e ∷ es) ((e.0, r) ∷ es) (e ∷ put seat_cmp seat r es)))) ≤ how_many (r.action ∷ []) + how_many (actions (map (λ (x : Seat × Row). x.1) (e ∷ es)))) [
        | Less ↦ omega arith
        | Equal ↦ omega arith
        | Greater ↦ omega (arith, rest)
      ]

  seats_once : (rows : List Row) → how_many (actions (map (λ (e : Seat × Row). e.1) (entries (by_seat rows)))) ≤ how_many (actions rows)
  seats_once [] = let none = ap (λ (es : List (Seat × Row)). how_many (actions (map (λ (e : Seat × Row). e.1) es))) (no_length (entries (by_seat [])) (sym (len-entries (by_seat [])) ∙ len-empty seat_cmp InstallExecuteSequenceRow)) in omega (arith, none)
  seats_once (r ∷ rows) =
      let rest = seats_once rows in
      let more = put_once (seat_of r) r (entries (by_seat rows)) in
      let is = ap (λ (es : List (Seat × Row)). how_many (actions (map (λ (e : Seat × Row). e.1) es))) (entries-insert seat_total (by_seat rows) (seat_of r) r) in
      omega (arith, rest, more, is)

  filter_once : (test : Row → Bool) (rows : List Row) → how_many (actions (filter test rows)) ≤ how_many (actions rows)
  filter_once test [] = omega arith
  filter_once test (r ∷ rows) =
      let rest = filter_once test rows in
      elim (test r) as (λ b. how_many (actions (cond b (r ∷ filter test rows) (filter test rows))) ≤ how_many (actions (r ∷ rows))) [ true ↦ omega (arith, rest) | false ↦ omega (arith, rest) ]

  none_later : (k : Name) (rows : List Row) → same_name q k ≡ true → IsNew action_of_row k rows → how_many (actions rows) ≡ 0
  none_later k [] is new = refl
  none_later k (r ∷ rows) is new = by (same_name q r.action) refl (none_later k rows is new.1)
    where
      by : (b : Bool) → same_name q r.action ≡ b → how_many (actions rows) ≡ 0 → cond b 1 0 + how_many (actions rows) ≡ 0
      by true at rest = absurd (new.0 (sym (from_same q k is) ∙ from_same q r.action at))
      by false at rest = omega (arith, rest)

  rows_once : (rows : List Row) → AreApart action_of_row rows → how_many (actions rows) ≤ 1
  rows_once [] apart = omega arith
  rows_once (r ∷ rows) apart = by (same_name q r.action) refl (rows_once rows apart.1)
    where
      by : (b : Bool) → same_name q r.action ≡ b → how_many (actions rows) ≤ 1 → cond b 1 0 + how_many (actions rows) ≤ 1
      by true at rest = let none = none_later r.action rows at apart.0 in omega (arith, none)
      by false at rest = omega (arith, rest)

  sequence_once : (rows : Rows) → AreApart action_of_row rows.install_execute_sequence → how_many (actions (sequence rows)) ≤ 1
  unfolding sequence
  sequence_once rows apart =
      let all = rows_once rows.install_execute_sequence apart in
      let some = filter_once has_seat rows.install_execute_sequence in
      let seated = seats_once (filter has_seat rows.install_execute_sequence) in
      omega (arith, all, some, seated)

  -- ---- what a walk has begun is in its rows so far

  begun_by : (w v : Walked) (action : Name) → Steps w action v → is_among q v.begun ≡ true → (is_among q w.begun ≡ true) ⊎ (same_name q action ≡ true)
  begun_by w v action step e = by step
    where
      either : (a b : Bool) → (a || (b || false)) ≡ true → (a ≡ true) ⊎ (b ≡ true)
      either true b e = inl refl
      either false true e = inr refl
      either false false e = cc

      later : (u : Walked) → v ≡ u → u.begun ≡ w.begun ++ action ∷ [] → (is_among q w.begun ≡ true) ⊎ (same_name q action ≡ true)
      later u is begun = either (is_among q w.begun) (same_name q action) (sym (is_among-append q w.begun (action ∷ [])) ∙ ap (is_among q) (sym begun) ∙ ap (λ (x : Walked). is_among q x.begun) (sym is) ∙ e)

      by : Steps w action v → (is_among q w.begun ≡ true) ⊎ (same_name q action ≡ true)
      by (Passed is) = inl (ap (λ (x : Walked). is_among q x.begun) (sym is) ∙ e)
      by (Idle outer no_cost is) = later _ is refl
      by (Costs outer named u costs is) = later _ is refl
      by (Moves outer no_cost u keeps is) = later _ is refl
      by (Ran effect phase rows touched inside is) = later _ is refl
      by (Ended inside no_cost no_phase is) = later _ is refl

  begun_at : (w : Walked) (front : List Row) → (fold walked_row w front).refusal ≡ None → is_among q (fold walked_row w front).begun ≡ true → (is_among q w.begun ≡ true) ⊎ (is_among q (actions front) ≡ true)
  begun_at w [] none e = inl e
  begun_at w (r ∷ front) none e = by (begun_at (walked_row w r) front none e)
    where
      further : (a b : Bool) → b ≡ true → (a || b) ≡ true
      further true b e = refl
      further false b e = e

      here : (is_among q w.begun ≡ true) ⊎ (same_name q r.action ≡ true) → (is_among q w.begun ≡ true) ⊎ (is_among q (actions (r ∷ front)) ≡ true)
      here (inl before) = inl before
      here (inr same) = inr (ap (λ b. b || is_among q (actions front)) same)

      by : (is_among q (walked_row w r).begun ≡ true) ⊎ (is_among q (actions front) ≡ true) → (is_among q w.begun ≡ true) ⊎ (is_among q (actions (r ∷ front)) ≡ true)
      by (inl now) = here (begun_by w (walked_row w r) r.action (row_steps w r (unrefused w (r ∷ front) none) (unrefused (walked_row w r) front none)) now)
      by (inr after) = inr (further (same_name q r.action) (is_among q (actions front)) after)

-- ---- a row's action isn't begun before it

not_before : (front rest : List Row) (r : Row) → how_many r.action (actions (front ++ r ∷ rest)) ≤ 1 → is_among r.action (actions front) ≡ false
not_before front rest r once =
    let here : how_many r.action (r.action ∷ []) ≡ 1 = ap (λ b. cond b 1 0 + 0) (same_itself r.action) in
    let whole : how_many r.action (actions (front ++ r ∷ rest)) ≡ how_many r.action (actions front) + how_many r.action (r.action ∷ actions rest) = ap (how_many r.action) (actions-append r.action front (r ∷ rest)) ∙ how_many-append r.action (actions front) (r.action ∷ actions rest) in
    none_among r.action (actions front) (omega (arith, once, here, whole))

pub is_fresh : (g : Given) → AreApart action_of_row g.rows.install_execute_sequence → (w : Walked) (r : Row) → IsNext g w r → w.refusal ≡ None → is_among r.action w.begun ≡ false
unfolding at_start
is_fresh g apart w r next none = by (is_among r.action w.begun) refl
  where
    absent : is_among r.action (actions next.front) ≡ false
    absent = not_before next.front next.rest r (subst (λ (rows : List Row). how_many r.action (actions rows) ≤ 1) next.rows (sequence_once r.action g.rows apart))

    found : (is_among r.action (at_start g).begun ≡ true) ⊎ (is_among r.action (actions next.front) ≡ true) → ⊥
    found (inl start) = let none : false ≡ true = start in cc
    found (inr before) = let both = sym absent ∙ before in cc

    by : (b : Bool) → is_among r.action w.begun ≡ b → b ≡ false
    by true is = absurd (found (begun_at r.action (at_start g) next.front (ap (λ (v : Walked). v.refusal) (sym next.walked) ∙ none) (ap (λ (v : Walked). is_among r.action v.begun) (sym next.walked) ∙ is)))
    by false is = refl
