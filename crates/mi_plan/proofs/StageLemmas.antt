-- Where the walk stands behind one more action, and what may be planned there.
use Rattle.std.proofs.Common.{◌≡◌, ◌≢◌, ℕ, suc, ◌+◌, ◌<◌, ◌≤◌, Bool, true, false, cond, not, ◌&&◌, ◌||◌, List, [], ◌∷◌, ◌++◌, map, length, get_or, Option, Some, None, refl, sym, ap, ◌∙◌, subst, arith}
use Rattle.std.specs.Prelude.{codes, filter, All, AllPairs, Ok}
use Rattle.std.specs.List.{AllByRecursion}
use Rattle.std.proofs.lemmas.List.Elements.{recursion_from_All}
use Rattle.std.specs.declared.cmp.Ordering.TheVariants.{Less, Equal, Greater}
use Rattle.std.specs.FinMap.{entries, entries-insert, len-entries, len-empty}
use Rattle.std.specs.FinMap.Entries.{put, by_order}
use Rattle.mi_text.specs.Maps.{Name, same_name, is_among}
use Rattle.mi_text.specs.Lookups.{Lookups}
use Rattle.mi_text.proofs.MapLemmas.{from_same, same_itself, is_among-append}
use Rattle.mi_schema.specs.declared.typed_rows.InstallExecuteSequenceRow.{InstallExecuteSequenceRow}
use Rattle.mi_schema.specs.RowsOf.{behind}
use Rattle.mi_schema.specs.TableRows.{Rows}
use Rattle.mi_image.specs.Overlays.{former_items}
use Rattle.mi_model.specs.Conditions.{holds}
use Rattle.mi_model.specs.Sequence.{Seat, seat_cmp, seat_of, has_seat, by_seat, sequence, next_row, is_costed, is_finalized, is_inside}
use Rattle.mi_model.specs.Steps as model
use Rattle.mi_model.specs.Steps.{step_of}
use Rattle.mi_seq.proofs.OrderLemmas.{seat_total, of_length}
use Rattle.mi_seq.specs.declared.step.Step.{Step}
use Rattle.mi_seq.specs.declared.step.Step.TheVariants as step
use Rattle.mi_seq.specs.Meaning.{meant, action_of}
use Rattle.mi_world.specs.declared.world.World.{World}
use Rattle.mi_world.specs.Seen.{IsCosted}
use Rattle.mi_plan.specs.Nexts.{Row}
use Rattle.mi_plan.specs.Stages.{IsOfSome, is_initialized, IsStaged, how_many, actions, costs, is_cost, is_phase, Leaves}
use Rattle.mi_plan.proofs.StepLemmas.{IsRun, tells, cost_is, initialize_is}

abbrev cost_name : Name
cost_name = codes "CostFinalize"

abbrev initialize_name : Name
initialize_name = codes "InstallInitialize"

-- ---- one action more

one_more : (q n : Name) (names : List Name) → is_among q (names ++ n ∷ []) ≡ (is_among q names || same_name q n)
one_more q n names = is_among-append q names (n ∷ []) ∙ ap (λ b. is_among q names || b) (alone (same_name q n))
  where
    alone : (b : Bool) → (b || false) ≡ b
    alone true = refl
    alone false = refl

neither : (a b : Bool) → (a || b) ≡ false → (a ≡ false) × (b ≡ false)
neither true b e = cc
neither false b e = (refl, e)

either : {P : Type 0} (a b : Bool) → (a || b) ≡ true → (a ≡ true → P) → (b ≡ true → P) → P
either true b e f g = f refl
either false b e f g = g e

-- ---- steps and their actions

is_meant_cost : (s : Step) → meant s ≡ model.Cost → is_cost s ≡ true
is_meant_cost (step.Plain action) e = cc
is_meant_cost step.Launch e = cc
is_meant_cost step.Cost e = refl
is_meant_cost step.Initialize e = cc
is_meant_cost (step.Phase p) e = cc
is_meant_cost (step.SetProperty action name text) e = cc
is_meant_cost (step.SetDir action dir text) e = cc
is_meant_cost (step.Error action text) e = cc
is_meant_cost (step.Execute action) e = cc
is_meant_cost step.Finalize e = cc
is_meant_cost step.End e = cc

cost_acts : (s : Step) → is_cost s ≡ true → action_of s ≡ cost_name
cost_acts (step.Plain action) e = cc
cost_acts step.Launch e = cc
cost_acts step.Cost e = refl
cost_acts step.Initialize e = cc
cost_acts (step.Phase p) e = cc
cost_acts (step.SetProperty action name text) e = cc
cost_acts (step.SetDir action dir text) e = cc
cost_acts (step.Error action text) e = cc
cost_acts (step.Execute action) e = cc
cost_acts step.Finalize e = cc
cost_acts step.End e = cc

phase_runs : (s : Step) → is_phase s ≡ true → IsRun (meant s)
phase_runs (step.Plain action) e = cc
phase_runs step.Launch e = cc
phase_runs step.Cost e = cc
phase_runs step.Initialize e = cc
phase_runs (step.Phase p) e = tt
phase_runs (step.SetProperty action name text) e = cc
phase_runs (step.SetDir action dir text) e = cc
phase_runs (step.Error action text) e = cc
phase_runs (step.Execute action) e = cc
phase_runs step.Finalize e = cc
phase_runs step.End e = cc

not_true : (b : Bool) → (b ≡ true → ⊥) → b ≡ false
not_true true f = absurd (f refl)
not_true false f = refl

false_true : {P : Type 0} (b : Bool) → b ≡ true → b ≡ false → P
false_true true e f = cc
false_true false e f = cc

inside_initialized : (begun : List Name) → is_inside begun ≡ true → is_initialized begun ≡ true
inside_initialized begun e = first (is_initialized begun) (not (is_finalized begun)) e
  where
    first : (a b : Bool) → (a && b) ≡ true → a ≡ true
    first true b e = refl
    first false b e = cc

-- ---- behind a step that was taken

module _ (rows : Rows) (L : Lookups) (begun : List Name) (s : Step) (action : Name) (does : step_of rows L begun action ≡ Ok (meant s)) (acts : action_of s ≡ action) where
  -- a step that isn't CostFinalize has another name
  not_cost : same_name cost_name action ≡ false → is_cost s ≡ false
  not_cost isnt = not_true (is_cost s) (λ is. false_true (same_name cost_name action) (ap (same_name cost_name) (sym acts ∙ cost_acts s is) ∙ same_itself cost_name) isnt)

  is_the_cost : same_name cost_name action ≡ true → is_cost s ≡ true
  is_the_cost is = is_meant_cost s (cost_is rows L begun action (meant s) (sym (from_same cost_name action is)) does)

  -- a phase stands behind InstallInitialize
  pub phase_stands : is_phase s ≡ true → is_initialized begun ≡ true
  phase_stands is = inside_initialized begun ((tells rows L begun action (meant s) does).inside (phase_runs s is))

  pub staged : (old new : World) → IsOfSome old.seen → IsStaged begun old → former_items new.plan.overlay ≡ former_items old.plan.overlay → Leaves s old new → IsStaged (begun ++ action ∷ []) new
  staged old new of is former leaves = record {
    uncosted = λ isnt.
        let both = neither (is_costed begun) (same_name cost_name action) (sym (one_more cost_name action begun) ∙ isnt) in
        leaves.uncosted (not_cost both.1) (is.uncosted both.0);
    costed = λ costed. either {P = IsCosted new.seen} (is_costed begun) (same_name cost_name action) (sym (one_more cost_name action begun) ∙ costed)
        (λ before. leaves.costed of (is.costed before))
        (λ now. leaves.costs (is_the_cost now) of);
    order = λ initialized. one_more cost_name action begun ∙ left (is_costed begun) (same_name cost_name action)
        (either {P = is_costed begun ≡ true} (is_initialized begun) (same_name initialize_name action) (sym (one_more initialize_name action begun) ∙ initialized)
        is.order
        (λ now. initialize_is rows L begun action (meant s) (sym (from_same initialize_name action now)) does));
    unchanged = λ isnt.
        let both = neither (is_initialized begun) (same_name initialize_name action) (sym (one_more initialize_name action begun) ∙ isnt) in
        leaves.present (not_true (is_phase s) (λ phase. false_true (is_initialized begun) (phase_stands phase) both.0)) ∙ is.unchanged both.0 ∙ sym former;
  }
    where
      left : (a b : Bool) → a ≡ true → (a || b) ≡ true
      left true b e = refl
      left false b e = cc

-- ---- CostFinalize comes once

none_among : (names : List Name) → how_many names ≡ 0 → is_costed names ≡ false
none_among [] e = refl
none_among (n ∷ names) e = elim (same_name cost_name n) as (λ b. (cond b 1 0) + how_many names ≡ 0 → (b || is_costed names) ≡ false) [
  | true ↦ λ at. absurd (omega arith)
  | false ↦ λ at. none_among names (omega arith)
] e

how_many-append : (a b : List Name) → how_many (a ++ b) ≡ how_many a + how_many b
how_many-append [] b = omega arith
how_many-append (n ∷ a) b = let rest = how_many-append a b in omega (arith, rest)

-- the next row, and those behind it, are of these rows
pub next_costs : (L : Lookups) (rows : List Row) (row : Row) (behind : List Row) → ◌≡◌ {A = Option (Row × List Row)} (next_row L rows) (Some (row, behind))
    → how_many (row.action ∷ []) + how_many (actions behind) ≤ how_many (actions rows)
next_costs L [] row behind e = cc
next_costs L (r ∷ rows) row behind e =
    elim (holds L r.condition) as (λ b. ◌≡◌ {A = Option (Row × List Row)} (cond b (Some (r, rows)) (next_row L rows)) (Some (row, behind)) → how_many (row.action ∷ []) + how_many (actions behind) ≤ how_many (actions (r ∷ rows))) [
      | true ↦ λ at. let same : ◌≡◌ {A = Row × List Row} (r, rows) (row, behind) = pair_in at in
          subst (λ (p : Row × List Row). how_many (p.0.action ∷ []) + how_many (actions p.1) ≤ how_many (actions (r ∷ rows))) same (omega arith)
      | false ↦ λ at. let rest = next_costs L rows row behind at in omega (arith, rest)
    ] e
  where
    fst_of : Option (Row × List Row) → Row × List Row
    fst_of (Some p) = p
    fst_of None = (r, rows)

    pair_in : ◌≡◌ {A = Option (Row × List Row)} (Some (r, rows)) (Some (row, behind)) → ◌≡◌ {A = Row × List Row} (r, rows) (row, behind)
    pair_in at = ap fst_of at

pub next_shorter : (L : Lookups) (rows : List Row) (row : Row) (behind : List Row) → ◌≡◌ {A = Option (Row × List Row)} (next_row L rows) (Some (row, behind)) → length behind < length rows
next_shorter L [] row behind e = cc
next_shorter L (r ∷ rows) row behind e =
    elim (holds L r.condition) as (λ b. ◌≡◌ {A = Option (Row × List Row)} (cond b (Some (r, rows)) (next_row L rows)) (Some (row, behind)) → length behind < suc (length rows)) [
      | true ↦ λ at. let n : length rows ≡ length behind = ap behind_length at in omega (arith, n)
      | false ↦ λ at. let rest = next_shorter L rows row behind at in omega (arith, rest)
    ] e
  where
    behind_length : Option (Row × List Row) → ℕ
    behind_length (Some p) = length p.1
    behind_length None = 0

-- one more is begun
pub once_more : (L : Lookups) (begun : List Name) (rows : List Row) (row : Row) (behind : List Row) → ◌≡◌ {A = Option (Row × List Row)} (next_row L rows) (Some (row, behind)) → costs begun rows ≤ 1
    → costs (begun ++ row.action ∷ []) behind ≤ 1
once_more L begun rows row behind next once = omega (arith, next_costs L rows row behind next, how_many-append begun (row.action ∷ []))

-- where it is the next row, it wasn't begun
pub not_begun : (L : Lookups) (begun : List Name) (rows : List Row) (row : Row) (behind : List Row) → ◌≡◌ {A = Option (Row × List Row)} (next_row L rows) (Some (row, behind)) → costs begun rows ≤ 1
    → row.action ≡ cost_name → is_costed begun ≡ false
not_begun L begun rows row behind next once is =
    let here : how_many (row.action ∷ []) ≡ 1 = ap (λ (n : Name). how_many (n ∷ [])) is ∙ ap (λ b. cond b 1 0 + 0) (same_itself cost_name) in
    none_among begun (omega (arith, next_costs L rows row behind next, here))

-- ---- at the start

put_once : (seat : Seat) (r : Row) (es : List (Seat × Row)) → how_many (actions (map (λ (e : Seat × Row). e.1) (put seat_cmp seat r es))) ≤ how_many (r.action ∷ []) + how_many (actions (map (λ (e : Seat × Row). e.1) es))
put_once seat r [] = omega arith
put_once seat r (e ∷ es) =
    let rest = put_once seat r es in
    elim (seat_cmp seat e.0) as (λ o. how_many (actions (map (λ (x : Seat × Row). x.1) (by_order o ((seat, r) ∷ e ∷ es) ((e.0, r) ∷ es) (e ∷ put seat_cmp seat r es)))) ≤ how_many (r.action ∷ []) + how_many (actions (map (λ (x : Seat × Row). x.1) (e ∷ es)))) [
      | Less ↦ omega arith
      | Equal ↦ omega arith
      | Greater ↦ omega (arith, rest)
    ]

seats_once : (rows : List Row) → how_many (actions (map (λ (e : Seat × Row). e.1) (entries (by_seat rows)))) ≤ how_many (actions rows)
seats_once [] = let none = ap (λ es. how_many (actions (map (λ (e : Seat × Row). e.1) es))) (of_length (entries (by_seat [])) (sym (len-entries (by_seat [])) ∙ len-empty seat_cmp InstallExecuteSequenceRow)) in omega (arith, none)
seats_once (r ∷ rows) =
    let rest = seats_once rows in
    let more = put_once (seat_of r) r (entries (by_seat rows)) in
    let is = ap (λ es. how_many (actions (map (λ (e : Seat × Row). e.1) es))) (entries-insert seat_total (by_seat rows) (seat_of r) r) in
    omega (arith, rest, more, is)

filter_once : (test : Row → Bool) (rows : List Row) → how_many (actions (filter test rows)) ≤ how_many (actions rows)
filter_once test [] = omega arith
filter_once test (r ∷ rows) =
    let rest = filter_once test rows in
    elim (test r) as (λ b. how_many (actions (cond b (r ∷ filter test rows) (filter test rows))) ≤ how_many (actions (r ∷ rows))) [ true ↦ omega (arith, rest) | false ↦ omega (arith, rest) ]

-- rows of their own keys
none_later : (es : List (Name × Row)) (k : Name) → same_name cost_name k ≡ true → AllByRecursion (λ (e : Name × Row). e.0 ≡ e.1.action) es → ((j : ℕ) (d : Name × Row) → j < length es → k ≢ (get_or es j d).0) → how_many (actions (behind es)) ≡ 0
none_later [] k is keys all = refl
none_later (e ∷ es) k is keys all =
    let rest = none_later es k is keys.1 (λ j d lt. all (suc j) d (omega arith)) in
    elim (same_name cost_name e.1.action) as (λ b. same_name cost_name e.1.action ≡ b → (cond b 1 0) + how_many (actions (behind es)) ≡ 0) [
      | true ↦ λ at. absurd (all 0 e (omega arith) (sym (from_same cost_name k is) ∙ from_same cost_name e.1.action at ∙ sym keys.0))
      | false ↦ λ at. omega (arith, rest)
    ] refl

rows_once : (es : List (Name × Row)) → AllByRecursion (λ (e : Name × Row). e.0 ≡ e.1.action) es → AllPairs (λ (a b : Name × Row). a.0 ≢ b.0) es → how_many (actions (behind es)) ≤ 1
rows_once [] keys apart = omega arith
rows_once (e ∷ es) keys apart =
    let rest = rows_once es keys.1 (λ i j d lt within. apart (suc i) (suc j) d (omega arith) (omega arith)) in
    elim (same_name cost_name e.1.action) as (λ b. same_name cost_name e.1.action ≡ b → (cond b 1 0) + how_many (actions (behind es)) ≤ 1) [
      | true ↦ λ at. let none = none_later es e.0 (ap (same_name cost_name) keys.0 ∙ at) keys.1 (λ j d lt. apart 0 (suc j) d (omega arith) (omega arith)) in omega (arith, none)
      | false ↦ λ at. omega (arith, rest)
    ] refl

pub once_at_start : (rows : Rows) (es : List (Name × Row)) → rows.install_execute_sequence ≡ behind es → All (λ (e : Name × Row). e.0 ≡ e.1.action) es → AllPairs (λ (a b : Name × Row). a.0 ≢ b.0) es → costs [] (sequence rows) ≤ 1
unfolding sequence
once_at_start rows es same keys apart =
    let first = rows_once es (recursion_from_All (λ (e : Name × Row). e.0 ≡ e.1.action) es keys) apart in
    let is = ap (λ (rs : List Row). how_many (actions rs)) same in
    omega (arith, seats_once (filter has_seat rows.install_execute_sequence), filter_once has_seat rows.install_execute_sequence, is, first)
