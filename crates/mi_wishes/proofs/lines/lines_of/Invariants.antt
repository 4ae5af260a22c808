use Rattle.std.proofs.Common.{◌≡◌, ℕ, List, Option, length}
use Rattle.mi_text.specs.Lookups.{Lookups}
use Rattle.mi_schema.specs.RowsOf.{rows_in}
use Rattle.mi_model.specs.Texts.{Text}
use Rattle.mi_wishes.specs.Kept.{AreBrought}
use Rattle.mi_wishes.specs.Wishes.{AreWishes}
use Rattle.mi_wishes.proofs.LineLemmas.{AreLines}
use Rattle.mi_wishes.proofs.lines.lines_of.Given as goal

abbrev pub invariant-loop-place : goal.invariant-loop-place
invariant-loop-place l = record {
  size : length l.lines.items ≡ length l.parents;
  lines : (L : Lookups) (recorded : Option (List Text)) (level : ℕ) → AreWishes (rows_in l.loaded) L recorded level l.wishes → AreBrought (rows_in l.loaded) L recorded level l.brought → AreLines (rows_in l.loaded) L recorded level l.order l.place-index l.lines.items;
}
