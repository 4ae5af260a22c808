-- Directories as they stand (Directory Table; Changing the Target Location for a Directory).
use Rattle.std.specs.Prelude.{ℕ, suc, Bool, if◌then◌else◌, List, [], ◌∷◌, length, Option, Some, None, option_and_then, option_map, unwrap_or, slice_get, codes, refl}
use Rattle.std.specs.Result.{result_ok}
use Rattle.std.specs.Str.{bytes_eq}
use Rattle.std.specs.Coded.{Coded, coded_ℕ, coded_list, coded_option, code_by, coded×}
use Rattle.mi_text.specs.Maps.{Name, same_name}
use Rattle.mi_text.specs.Path.{below_of}
use Rattle.mi_dirs.specs.Chains.{along}

-- the bytes of a folder's path
abbrev pub Folder : Type 0
Folder = List ℕ

-- A row of the table as it stands. Rows count from 0 here.
pub record Place : Type 0 where
  pub key : Name
  pub parent : Option ℕ  -- the row of its parent, and None for a root row
  pub name : List ℕ  -- its target name
  pub own : Option (Option Folder)  -- what stands for its target whatever its parent's is; Some None where that is refused
  pub source : List ℕ  -- its folder in the source

abbrev coded_bytes : Coded (List ℕ)
coded_bytes = coded_list coded_ℕ

abbrev coded_place : Coded Place
coded_place = code_by (List ℕ × (Option ℕ × (List ℕ × (Option (Option (List ℕ)) × List ℕ))))
    (coded× coded_bytes (coded× (coded_option coded_ℕ) (coded× coded_bytes (coded× (coded_option (coded_option coded_bytes)) coded_bytes))))
    (λ p. (p.key, (p.parent, (p.name, (p.own, p.source)))))
    (λ t. record { key = t.0; parent = t.1.0; name = t.1.1.0; own = t.1.1.1.0; source = t.1.1.1.1 }) (λ _. refl)

abbrev pub places_code : Coded (List Place)
places_code = coded_list coded_place

abbrev pub parent_at : List Place → ℕ → Option ℕ
parent_at places row = option_and_then (λ (p : Place). p.parent) (slice_get places row)

-- a root row is `C:\`; any other row is below its parent's target by its name, where `.` is the parent's; below a refused one it is refused
abbrev pub joined : List ℕ → Option (Option Folder) → Option Folder
joined name None = Some (codes "C:\\")
joined name (Some None) = None
joined name (Some (Some folder)) = if bytes_eq name (codes ".") then Some folder else result_ok (below_of folder name)

-- the target of a row from that of its parent, which is None for a root row
abbrev pub target_from : Place → Option (Option Folder) → Option Folder
target_from place above = unwrap_or place.own (joined place.name above)

abbrev pub target_step : List Place → ℕ → Option (Option Folder) → Option Folder
target_step places row above = option_and_then (λ (p : Place). target_from p above) (slice_get places row)

-- a chain of parents that ends has no row twice, so that it has at most as many rows as there are
abbrev pub bound : {A : Type 0} → List A → ℕ
bound rows = suc (length rows)

-- the target of a row; None where it is refused
unfoldable pub target_at : List Place → ℕ → Option Folder
target_at places row = along (parent_at places) (target_step places) None (bound places) row

-- the first that passes a test
abbrev pub first_row : {A : Type 0} → (A → Bool) → List A → Option ℕ
first_row test [] = None
first_row test (x ∷ xs) = if test x then Some 0 else option_map suc (first_row test xs)

abbrev pub is_named : Name → Place → Bool
is_named dir place = same_name dir place.key

-- the row of a directory
abbrev pub row_of : List Place → Name → Option ℕ
row_of places dir = first_row (is_named dir) places

abbrev pub target_of : List Place → Name → Option Folder
target_of places dir = option_and_then (target_at places) (row_of places dir)

abbrev pub source_of : List Place → Name → Option (List ℕ)
source_of places dir = option_map (λ (p : Place). p.source) (option_and_then (slice_get places) (row_of places dir))

-- this stands for the target of the directory from now on, whatever did before
abbrev pub with_own : Name → Option Folder → List Place → List Place
with_own dir own [] = []
with_own dir own (p ∷ ps) = if is_named dir p then record p { own = Some own } ∷ ps else p ∷ with_own dir own ps
