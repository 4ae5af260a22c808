-- A walk that isn't refused, row by row: what each row keeps holds everywhere on it.
use Rattle.std.proofs.Common.{◌≡◌, Bool, true, false, cond, List, [], ◌∷◌, ◌++◌, fold, append_assoc, Option, Some, None, refl, sym, ap, subst, ◌∙◌}
use Rattle.std.specs.Prelude.{◌&&◌, is_none}
use Rattle.mi_base.specs.declared.answers.Cause.{Cause}
use Rattle.mi_schema.specs.declared.typed_rows.InstallExecuteSequenceRow.{InstallExecuteSequenceRow}
use Rattle.mi_model.specs.World.{Given}
use Rattle.mi_model.specs.Asked.{lookups}
use Rattle.mi_model.specs.Conditions.{holds}
use Rattle.mi_model.specs.Sequence.{sequence}
use Rattle.mi_model.specs.Walk.{Walked, at_start, walked_row}
use Rattle.mi_laws.specs.Walks.{StandsAt}

abbrev Row : Type 0
Row = InstallExecuteSequenceRow

-- ---- after a refusal

passed_by : (b : Bool) (x y : Walked) → b ≡ false → cond b x y ≡ y
passed_by true x y e = cc
passed_by false x y e = refl

refused_row : (w : Walked) (cause : Cause) (r : Row) → w.refusal ≡ Some cause → walked_row w r ≡ w
unfolding walked_row
refused_row w cause r is = passed_by (is_none w.refusal && holds (lookups w.world) r.condition) _ _ (ap (λ (o : Option Cause). is_none o && holds (lookups w.world) r.condition) is)

refused_rows : (w : Walked) (cause : Cause) (rows : List Row) → w.refusal ≡ Some cause → fold walked_row w rows ≡ w
refused_rows w cause [] is = refl
refused_rows w cause (r ∷ rows) is = ap (λ v. fold walked_row v rows) (refused_row w cause r is) ∙ refused_rows w cause rows is

none_or : {X : Type 0} (o : Option X) → ((x : X) → o ≡ Some x → ⊥) → o ≡ None
none_or None isnt = refl
none_or (Some x) isnt = absurd (isnt x refl)

both_ways : {X : Type 0} (o : Option X) (x : X) → o ≡ None → o ≡ Some x → ⊥
both_ways o x none some = let both = sym none ∙ some in cc

pub unrefused : (w : Walked) (rows : List Row) → (fold walked_row w rows).refusal ≡ None → w.refusal ≡ None
unrefused w rows none = none_or w.refusal (λ cause is. both_ways w.refusal cause (ap (λ (v : Walked). v.refusal) (sym (refused_rows w cause rows is)) ∙ none) is)

-- ---- what each row keeps

fold-snoc : (w : Walked) (front : List Row) (r : Row) → fold walked_row w (front ++ r ∷ []) ≡ walked_row (fold walked_row w front) r
fold-snoc w [] r = refl
fold-snoc w (x ∷ front) r = fold-snoc (walked_row w x) front r

-- the walk is here before this row
pub record IsNext (g : Given) (w : Walked) (r : Row) : Type 0 where
  pub front : List Row
  pub rest : List Row
  pub rows : sequence g.rows ≡ front ++ r ∷ rest
  pub walked : w ≡ fold walked_row (at_start g) front

pub stands_at : (g : Given) (w : Walked) (r : Row) → IsNext g w r → StandsAt g w
stands_at g w r next = record { front = next.front; rest = r ∷ next.rest; rows = next.rows; walked = next.walked }

module _ (g : Given) (I : Walked → Type 0) (step : (w : Walked) (r : Row) → IsNext g w r → w.refusal ≡ None → I w → (walked_row w r).refusal ≡ None → I (walked_row w r)) where
  keeps_on : (front rest : List Row) (w : Walked) → sequence g.rows ≡ front ++ rest → w ≡ fold walked_row (at_start g) front → I w → (fold walked_row w rest).refusal ≡ None → I (fold walked_row w rest)
  keeps_on front [] w rows is i none = i
  keeps_on front (r ∷ rest) w rows is i none =
      keeps_on (front ++ r ∷ []) rest (walked_row w r) (rows ∙ sym (append_assoc front (r ∷ []) rest)) (ap (λ v. walked_row v r) is ∙ sym (fold-snoc (at_start g) front r))
      (step w r (record { front = front; rest = rest; rows = rows; walked = is }) (unrefused w (r ∷ rest) none) i (unrefused (walked_row w r) rest none)) none

  pub keeps_all : I (at_start g) → (fold walked_row (at_start g) (sequence g.rows)).refusal ≡ None → I (fold walked_row (at_start g) (sequence g.rows))
  keeps_all i none = keeps_on [] (sequence g.rows) (at_start g) refl refl i none

  -- and so everywhere on it
  pub keeps_at : (w : Walked) → I (at_start g) → StandsAt g w → w.refusal ≡ None → I w
  keeps_at w i on none = subst I (sym on.walked) (by on.front on.rest on.rows (ap (λ (v : Walked). v.refusal) (sym on.walked) ∙ none))
    where
      short : (done front rest : List Row) (v : Walked) → sequence g.rows ≡ done ++ (front ++ rest) → v ≡ fold walked_row (at_start g) done → I v → (fold walked_row v front).refusal ≡ None → I (fold walked_row v front)
      short done [] rest v rows is i none = i
      short done (r ∷ front) rest v rows is i none =
          short (done ++ r ∷ []) front rest (walked_row v r) (rows ∙ sym (append_assoc done (r ∷ []) (front ++ rest))) (ap (λ u. walked_row u r) is ∙ sym (fold-snoc (at_start g) done r))
          (step v r (record { front = done; rest = front ++ rest; rows = rows; walked = is }) (unrefused v (r ∷ front) none) i (unrefused (walked_row v r) front none)) none

      by : (front rest : List Row) → sequence g.rows ≡ front ++ rest → (fold walked_row (at_start g) front).refusal ≡ None → I (fold walked_row (at_start g) front)
      by front rest rows none = short [] front rest (at_start g) rows refl i none
