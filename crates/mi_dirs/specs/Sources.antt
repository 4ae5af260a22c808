-- Sources that are made of what is kept of the rows.
use Rattle.std.specs.Prelude.{◌≡◌, ℕ, ◌<◌, Bool, if◌then◌else◌, List, [], ◌∷◌, length, map, Option, Some, None, slice_get, unwrap_or, codes}
use Rattle.std.specs.Option.{option_map_or, option_or, option_flatten}
use Rattle.std.specs.Str.{bytes_eq}
use Rattle.mi_dirs.specs.declared.dir.Dir.{Dir}
use Rattle.mi_dirs.specs.Chains.{along}
use Rattle.mi_dirs.specs.Faults.{numbers}
use Rattle.mi_dirs.specs.Places.{bound, parent_at}
use Rattle.mi_dirs.specs.Rows.{source_from}
use Rattle.mi_dirs.specs.Views.{places_in}

abbrev pub source_names : List Dir → List (List ℕ)
source_names rows = map (λ (d : Dir). d.source) rows

-- the source of a row by its name and that of its parent
abbrev pub named_step : List (List ℕ) → List ℕ → ℕ → Option (List ℕ) → List ℕ
named_step names folder row above = option_map_or (λ name. source_from folder name above) (slice_get names row) []

-- the source of a row
unfoldable pub kept_source : List Dir → List ℕ → ℕ → List ℕ
kept_source rows folder row = along (parent_at (places_in rows [])) (named_step (source_names rows) folder) [] (bound rows) row

abbrev pub sources_in : List ℕ → List Dir → List (List ℕ)
sources_in folder rows = map (kept_source rows folder) (numbers rows)

-- The row from whose source a row's is made by its name: its parent, or what its parent has where that lies in the folder of its
-- own parent.
abbrev pub or_above : Bool → ℕ → Option ℕ → Option ℕ
or_above b p above = if b then option_or above (Some p) else Some p

abbrev pub above_from : List (List ℕ) → Option ℕ → Option (Option ℕ) → Option ℕ
above_from names None above = None
above_from names (Some p) above = or_above (bytes_eq (unwrap_or (slice_get names p) []) (codes ".")) p (option_flatten above)

abbrev pub above_step : (ℕ → Option ℕ) → List (List ℕ) → ℕ → Option (Option ℕ) → Option ℕ
above_step parent names row above = above_from names (parent row) above

unfoldable pub above_in : List Dir → ℕ → Option ℕ
above_in rows row = along (parent_at (places_in rows [])) (above_step (parent_at (places_in rows [])) (source_names rows)) None (bound rows) row

-- the table has it for each row
abbrev pub AreAbove : List Dir → List (Option ℕ) → Type 0
AreAbove rows table = (row : ℕ) → row < length rows → slice_get table row ≡ Some (above_in rows row)

-- the source of the first of these rows, each of which hangs below the next, and the last below this source
abbrev pub down_to : (ℕ → Option (List ℕ) → List ℕ) → List ℕ → List ℕ → List ℕ
down_to step [] above = above
down_to step (row ∷ rows) above = step row (Some (down_to step rows above))
