-- The names under which entries are held. Paths, keys, value names and variable names are folded in
-- them. All are this project's own.
use Rattle.std.specs.Prelude.{ℕ, ◌+◌, ◌/◌, ◌%◌, Bool, if◌then◌else◌, List, [], ◌∷◌, ◌++◌, length, codes}
use Rattle.mi_text.specs.Maps.{Name}
use Rattle.mi_text.specs.Fold.{folded}
use Rattle.mi_text.specs.Guid.{guid_text}

abbrev pub digit : ℕ → ℕ
digit n = 48 + n

abbrev pub four_digits : ℕ → List ℕ
four_digits n = digit (n / 1000 % 10) ∷ digit (n / 100 % 10) ∷ digit (n / 10 % 10) ∷ digit (n % 10) ∷ []

unfoldable pub file_name : List ℕ → Name
file_name path = codes "f/" ++ folded path

unfoldable pub folder_name : List ℕ → Name
folder_name path = codes "d/" ++ folded path

unfoldable pub key_name : ℕ → List ℕ → Name
key_name root key = codes "k/" ++ (digit root ∷ folded key)

-- the digits say where the key ends
unfoldable pub value_name : ℕ → List ℕ → List ℕ → Name
value_name root key name = codes "v/" ++ (digit root ∷ four_digits (length (folded key)) ++ folded key ++ folded name)

unfoldable pub shortcut_name : List ℕ → Name
shortcut_name path = codes "s/" ++ folded path

-- a variable of the system, or else of the user
unfoldable pub variable_name : Bool → List ℕ → Name
variable_name system name = codes "n/" ++ ((if system then digit 1 else digit 0) ∷ folded name)

unfoldable pub client_name : ℕ → ℕ → Name
client_name component product = codes "c/" ++ guid_text component ++ guid_text product

unfoldable pub product_name : ℕ → Name
product_name code = codes "p/" ++ guid_text code

unfoldable pub system_name : List ℕ → Name
system_name property = codes "y/" ++ property
