-- Which entries have a record: limits and rules.
use Rattle.std.specs.Prelude.{ℕ, ◌^◌, ◌<◌, nat_lt, nat_le, ◌==◌, ◌&&◌, not, Bool, true, List, [], ◌∷◌, length, Option, Some, None, FitsSigned}
use Rattle.std.specs.List.{slice_split, list_all, AllByRecursion}
use Rattle.std.specs.Str.{IsUtf8, bytes_eq}
use Rattle.std.specs.Int.{w16}
use Rattle.std.specs.Ordering.{is_lt, nat_cmp}
use Rattle.std.specs.Cmp.Lexicographic.{slice_cmp}
pub use Rattle.mi_text.specs.Bytes.{are_bytes, AreBytes}
use Rattle.mi_text.specs.Fold.{folded}
use Rattle.mi_text.specs.PropertyNames.{is_property_name}
use Rattle.mi_text.specs.Path.{is_file_path, is_folder_path}
use Rattle.mi_text.specs.declared.version.Version.{Version}
use Rattle.mi_base.specs.declared.entry.RegValue.{RegValue}
use Rattle.mi_base.specs.declared.entry.RegValue.TheVariants as value
use Rattle.mi_base.specs.declared.entry.Entry.{Entry}
use Rattle.mi_base.specs.declared.entry.Entry.TheVariants.{File, Folder, Value, Key, Shortcut, Variable, Client, Product, System}

abbrev pub is_folded : List ℕ → Bool
is_folded text = bytes_eq (folded text) text

abbrev pub has_no_zero : List ℕ → Bool
has_no_zero text = list_all (λ b. not (b == 0)) text

-- parts joined by a backslash, none empty
abbrev pub has_whole_parts : List ℕ → Bool
has_whole_parts key = list_all (λ part. not (length part == 0)) (slice_split (λ b. b == 92) key)

-- 1 to 500 bytes
unfoldable pub is_key : List ℕ → Bool
is_key key = nat_le (length key) 500 && has_no_zero key && has_whole_parts key

unfoldable pub is_value_name : List ℕ → Bool
is_value_name name = nat_le (length name) 500 && has_no_zero name

unfoldable pub is_variable_name : List ℕ → Bool
is_variable_name name = not (length name == 0) && nat_le (length name) 500 && has_no_zero name

-- a property name that a name of the volume has room for
unfoldable pub is_system_name : List ℕ → Bool
is_system_name name = is_property_name name && nat_le (length name) 1022

-- an item above the one before, if there is one
abbrev pub is_above : {X : Type 0} → (X → X → Bool) → Option X → X → Bool
is_above below None x = true
is_above below (Some last) x = below last x

-- each item may follow the one before
abbrev pub is_chain : {X : Type 0} → (Option X → X → Bool) → Option X → List X → Bool
is_chain may_follow last [] = true
is_chain may_follow last (x ∷ xs) = may_follow last x && is_chain may_follow (Some x) xs

abbrev pub rises : {X : Type 0} → (X → X → Bool) → List X → Bool
rises below xs = is_chain (is_above below) None xs

abbrev pub text_below : List ℕ → List ℕ → Bool
text_below a b = is_lt (slice_cmp nat_cmp a b)

-- how many bytes and how many items a length and a count can state
abbrev pub is_short : List ℕ → Bool
is_short bytes = nat_lt (length bytes) (2 ^ 32)

abbrev pub are_few : {X : Type 0} → List X → Bool
are_few xs = nat_lt (length xs) (2 ^ 16)

abbrev pub fits_value : RegValue → Bool
fits_value (value.Text t) = is_short t
fits_value (value.Expand t) = is_short t
fits_value (value.Int n) = true
fits_value (value.Binary b) = is_short b
fits_value (value.List ts) = are_few ts && list_all is_short ts

-- the entry keeps every limit and rule of its record
unfoldable pub fits : Entry → Bool
fits (File f) = is_file_path f.shown && are_few f.languages && rises nat_lt f.languages && nat_lt f.attributes 8
fits (Folder shown) = is_folder_path shown && not (length shown == 3)
fits (Value k v) = nat_lt k.root 4 && is_key k.key && is_folded k.key && is_value_name k.shown && fits_value v
fits (Key root shown) = nat_lt root 4 && is_key shown
fits (Shortcut s) = is_file_path s.shown && is_short s.target && is_short s.arguments && is_short s.description && is_short s.icon && is_short s.folder
fits (Variable v) = is_variable_name v.name && is_short v.value
fits (Client c) = is_short c.key_path
fits (Product p) = is_short p.name && are_few p.features && list_all is_short p.features && rises text_below p.features
fits (System property text) = is_system_name property && is_short text

-- ---- what each value of the program's types has

pub record IsVersion (v : Version) : Type 0 where
  pub major : v.major < 2 ^ 16
  pub minor : v.minor < 2 ^ 16
  pub build : v.build < 2 ^ 16
  pub revision : v.revision < 2 ^ 16

abbrev pub IsVersionOrNone : Option Version → Type 0
IsVersionOrNone None = Unit {0}
IsVersionOrNone (Some v) = IsVersion v

abbrev pub IsRegValue : RegValue → Type 0
IsRegValue (value.Text t) = IsUtf8 t
IsRegValue (value.Expand t) = IsUtf8 t
IsRegValue (value.Int n) = n < 2 ^ 32
IsRegValue (value.Binary b) = AreBytes b
IsRegValue (value.List ts) = AllByRecursion IsUtf8 ts

-- numbers are of their widths, and texts are UTF-8
unfoldable pub IsEntry : Entry → Type 0
IsEntry (File f) = IsUtf8 f.shown × IsVersionOrNone f.version × AllByRecursion (λ l. l < 2 ^ 16) f.languages × (f.created < 2 ^ 64) × (f.modified < 2 ^ 64) × AreBytes f.bytes
IsEntry (Folder shown) = IsUtf8 shown
IsEntry (Value k v) = IsUtf8 k.key × IsUtf8 k.shown × IsRegValue v
IsEntry (Key root shown) = IsUtf8 shown
IsEntry (Shortcut s) = IsUtf8 s.shown × IsUtf8 s.target × IsUtf8 s.arguments × IsUtf8 s.description × (s.hotkey < 2 ^ 16) × IsUtf8 s.icon × FitsSigned w16 s.icon_index × (s.show < 2 ^ 16) × IsUtf8 s.folder
IsEntry (Variable v) = IsUtf8 v.name × IsUtf8 v.value
IsEntry (Client c) = (c.component.number < 2 ^ 128) × (c.product.number < 2 ^ 128) × IsUtf8 c.key_path
IsEntry (Product p) = (p.code.number < 2 ^ 128) × IsUtf8 p.name × IsVersion p.version × (p.language < 2 ^ 16) × AllByRecursion IsUtf8 p.features
IsEntry (System property text) = IsUtf8 text
