-- What the words of the command line ask for. (Windows Installer command-line options. That other words are refused, and the commands
-- `/clients`, `/products`, `/recover` and `/selftest`, are this project's own.)
use Rattle.std.specs.Prelude.{ℕ, ◌==◌, nat_eq, ◌&&◌, Bool, true, false, List, [], ◌∷◌, ◌++◌, length, drop, Option, Some, None, Result, Ok, Err, codes, if◌then◌else◌}
use Rattle.std.specs.List.{list_all, starts_with}
use Rattle.std.specs.Str.{bytes_eq}
use Rattle.mi_text.specs.Fold.{folded}
use Rattle.mi_idt.specs.Fields.{number_within}
use Rattle.mi_fver.specs.LetterTests.{is_letter}
use Rattle.mi_model.specs.Texts.{Text}
use Rattle.mi_model.specs.Assignments.{Assigned, Placed, kept_words, assignments, with_words}

-- What a run is asked for.
pub data Command : Type 0 where
  -- the package of a folder, with these properties; `recorded` says that its product has to be recorded
  Package : (recorded : Bool) → (folder : Text) → (words : Assigned) → Command
  -- the package that is made for tests, with so many files
  Selftest : (files : ℕ) → (words : Assigned) → Command
  -- the list of the clients, or of the products
  Clients : Command
  Products : Command
  -- the former machine, and nothing more
  Recover : Command

-- ---- behind the command; `all` is the number of all words, the place of a word that is missing

-- a folder, which isn't empty, and properties; behind them stand those that the command sets
abbrev pub package_in : ℕ → Bool → Assigned → List Placed → Result Command ℕ
package_in all recorded sets [] = Err all
package_in all recorded sets (w ∷ rest) =
    if length w.1 == 0 then Err w.0 else with_words (assignments rest) (λ words. Package recorded w.1 (words ++ sets))

-- decimal digits of a number from 1 to 5,000, without a zero in front
abbrev pub test_size : Text → Option ℕ
test_size [] = None
test_size (d ∷ ds) = if d == 48 then None else number_within 5000 (d ∷ ds)

abbrev pub sized_test : Option ℕ → ℕ → List Placed → Result Command ℕ
sized_test None place rest = Err place
sized_test (Some n) place rest = with_words (assignments rest) (Selftest n)

abbrev pub selftest_in : ℕ → List Placed → Result Command ℕ
selftest_in all [] = Err all
selftest_in all (w ∷ rest) = sized_test (test_size w.1) w.0 rest

abbrev pub alone : Command → List Placed → Result Command ℕ
alone command [] = Ok command
alone command (w ∷ rest) = Err w.0

-- ---- the command

-- `/f` and letters of REINSTALLMODE, which may be none
abbrev pub is_repair : Text → Bool
is_repair word = starts_with nat_eq word (codes "/f") && list_all is_letter (drop 2 word)

-- what a repair sets: its letters, where it has any
abbrev pub repair_sets : Text → Assigned
repair_sets [] = (codes "REINSTALL", codes "ALL") ∷ []
repair_sets (letter ∷ letters) = (codes "REINSTALL", codes "ALL") ∷ (codes "REINSTALLMODE", letter ∷ letters) ∷ []

abbrev pub command_in : ℕ → ℕ → Text → List Placed → Result Command ℕ
command_in all place word rest =
    if bytes_eq word (codes "/i") then package_in all false [] rest
    else if bytes_eq word (codes "/x") then package_in all true ((codes "REMOVE", codes "ALL") ∷ []) rest
    else if is_repair word then package_in all true (repair_sets (drop 2 word)) rest
    else if bytes_eq word (codes "/selftest") then selftest_in all rest
    else if bytes_eq word (codes "/clients") then alone Clients rest
    else if bytes_eq word (codes "/products") then alone Products rest
    else if bytes_eq word (codes "/recover") then alone Recover rest
    else Err place

abbrev pub command_of_kept : ℕ → List Placed → Result Command ℕ
command_of_kept all [] = Err all
command_of_kept all (w ∷ rest) = command_in all w.0 (folded w.1) rest

-- what the words ask for, or the place of the first word that is refused, from 0 and with the dropped ones counted;
-- where a word is missing, the number of all words. The command is in either case.
unfoldable pub command_of : List Text → Result Command ℕ
command_of words = command_of_kept (length words) (kept_words words)

-- the command carries out a package
abbrev pub walks : Result Command ℕ → Bool
walks (Ok (Package recorded folder words)) = true
walks (Ok (Selftest files words)) = true
walks other = false

-- the command looks at the source
abbrev pub Installs : Result Command ℕ → Type 0
Installs (Ok (Package recorded folder words)) = Unit {0}
Installs other = ⊥
