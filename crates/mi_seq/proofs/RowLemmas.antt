-- The next row among places.
use Rattle.std.proofs.Common.{◌≡◌, ℕ, true, false, cond, List, ◌∷◌, Option, Some, None, refl, ap}
use Rattle.std.specs.Prelude.{slice_get}
use Rattle.std.specs.List.{cons_option}
use Rattle.mi_text.specs.Lookups.{Lookups}
use Rattle.mi_schema.specs.declared.typed_rows.InstallExecuteSequenceRow.{InstallExecuteSequenceRow}
use Rattle.mi_model.specs.Conditions.{holds}
use Rattle.mi_model.specs.Sequence.{next_row}
use Rattle.mi_seq_rows.specs.Conditions.{holding}
use Rattle.mi_seq.specs.Orders.{rows_at}

abbrev NextOf : Type 0
NextOf = Option (InstallExecuteSequenceRow × List InstallExecuteSequenceRow)

-- a row at the first place that holds is next
pub next_here : (rows : List InstallExecuteSequenceRow) (L : Lookups) (place : ℕ) (behind : List ℕ) (r : InstallExecuteSequenceRow) → holding L (slice_get rows place) ≡ Some r
    → ◌≡◌ {A = NextOf} (next_row L (rows_at rows (place ∷ behind))) (Some (r, rows_at rows behind))
next_here rows L place behind r e =
    elim (slice_get rows place) as (λ o. holding L o ≡ Some r → ◌≡◌ {A = NextOf} (next_row L (cons_option o (rows_at rows behind))) (Some (r, rows_at rows behind))) [
      | None ↦ λ at. cc
      | Some s ↦ λ at. elim (holds L s.condition) as (λ b. cond b (Some s) None ≡ Some r → ◌≡◌ {A = NextOf} (cond b (Some (s, rows_at rows behind)) (next_row L (rows_at rows behind))) (Some (r, rows_at rows behind))) [
        | true ↦ λ is. let same : s ≡ r = cc in ap (λ (x : InstallExecuteSequenceRow). Some (x, rows_at rows behind)) same
        | false ↦ λ is. cc
      ] at
    ] e

-- else it is passed over
pub next_behind : (rows : List InstallExecuteSequenceRow) (L : Lookups) (place : ℕ) (behind : List ℕ) → holding L (slice_get rows place) ≡ None
    → next_row L (rows_at rows (place ∷ behind)) ≡ next_row L (rows_at rows behind)
next_behind rows L place behind e =
    elim (slice_get rows place) as (λ o. holding L o ≡ None → next_row L (cons_option o (rows_at rows behind)) ≡ next_row L (rows_at rows behind)) [
      | None ↦ λ at. refl
      | Some s ↦ λ at. elim (holds L s.condition) as (λ b. cond b (Some s) None ≡ None → cond b (Some (s, rows_at rows behind)) (next_row L (rows_at rows behind)) ≡ next_row L (rows_at rows behind)) [
        | true ↦ λ is. cc
        | false ↦ λ is. refl
      ] at
    ] e

-- what holds there stands there
pub stands_there : (L : Lookups) (o : Option InstallExecuteSequenceRow) (r : InstallExecuteSequenceRow) → holding L o ≡ Some r → o ≡ Some r
stands_there L None r e = cc
stands_there L (Some s) r e =
    elim (holds L s.condition) as (λ b. cond b (Some s) None ≡ Some r → Some s ≡ Some r) [ true ↦ λ at. at | false ↦ λ at. cc ] e
