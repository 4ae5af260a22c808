-- Companions, by the places of their rows in File. (Companion Files; File Table, Version.)
use Rattle.std.specs.Prelude.{ℕ, suc, ◌||◌, Bool, false, List, [], ◌∷◌, map, length, Option, Some, None, option_and_then, unwrap_or, slice_get, slice_index_or, slice_set, replicate}
use Rattle.std.specs.Option.{option_flatten, option_map_or}
use Rattle.mi_text.specs.Maps.{Name}
use Rattle.mi_dirs.specs.Chains.{along}
use Rattle.mi_dirs.specs.Order.{parent_in}
use Rattle.mi_schema.specs.Checks.{companion_of, row_with, parents_of}
use Rattle.mi_schema.specs.declared.typed_rows.FileRow.{FileRow}
use Rattle.mi_installs.specs.declared.placed.Placed.{Placed}

-- the place of the row of a key, from 0
abbrev pub place_of : List FileRow → Name → Option ℕ
place_of files key = row_with (map (λ (r : FileRow). r.file) files) key

-- the place of the row that a row follows
abbrev pub leader_place : List FileRow → FileRow → Option ℕ
leader_place files r = option_and_then (place_of files) (companion_of r.version)

-- those of all rows
abbrev pub leaders_of : List FileRow → List (Option ℕ)
leaders_of files = parents_of (λ (r : FileRow). r.file) (λ (r : FileRow). companion_of r.version) files

-- what a coming row by itself asks for stands at its place
abbrev pub noted : List (Option Bool) → Option ℕ → Bool → List (Option Bool)
noted asked None called = asked
noted asked (Some place) called = slice_set asked place (Some called)

abbrev pub all_noted : {P : Type 0} → (P → Option ℕ) → List (Option Bool) → List P → List Bool → List (Option Bool)
all_noted place asked [] called = asked
all_noted place asked (p ∷ rows) [] = asked
all_noted place asked (p ∷ rows) (c ∷ called) = all_noted place (noted asked (place p) c) rows called

-- what each row of the table by itself asks for, where these come and ask for this
abbrev pub asked_of : List FileRow → List Placed → List Bool → List (Option Bool)
asked_of files rows called = all_noted (λ (p : Placed). place_of files p.row.now.file) (replicate (length files) None) rows called

-- a coming row is written where it asks for it, or the one that it follows is written
abbrev pub led_step : Option Bool → Option Bool → Bool
led_step None leader = false
led_step (Some called) leader = called || unwrap_or leader false

-- whether the row at a place comes and is written
unfoldable pub written_at : List (Option ℕ) → List (Option Bool) → ℕ → Bool
written_at leaders asked row = along (parent_in leaders) (λ k leader. led_step (option_flatten (slice_get asked k)) leader) false (suc (length leaders)) row

-- whether the row of a key is, by places
abbrev pub written_in : List FileRow → List Bool → Name → Bool
written_in files written key = option_map_or (λ place. slice_index_or written place false) (place_of files key) false

-- whether the row of a key comes and is written, where these come and ask for this
abbrev pub is_followed : List FileRow → List Placed → List Bool → Name → Bool
is_followed files rows called key = option_map_or (written_at (leaders_of files) (asked_of files rows called)) (place_of files key) false
