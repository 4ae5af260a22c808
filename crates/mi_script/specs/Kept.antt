-- What each record of a script has by the types of its fields. (This project's own.)
use Rattle.std.specs.Prelude.{◌≡◌, ℕ, ◌^◌, ◌<◌, true, List, length}
use Rattle.std.specs.List.{AllByRecursion}
use Rattle.std.specs.Str.{IsUtf8}
use Rattle.mi_text.specs.Path.{is_path}
use Rattle.mi_base.specs.declared.entry.FileHead.{FileHead}
use Rattle.mi_base.specs.Limits.{IsVersionOrNone}
use Rattle.mi_script.specs.declared.rec.Rec.{Rec}
use Rattle.mi_script.specs.declared.rec.Rec.TheVariants.{Put, Drop, Copy, Dup}
use Rattle.mi_script.specs.Written.{written_head}
use Rattle.mi_script.specs.Reading.{is_name}

abbrev pub IsLong : List ℕ → Type 0
IsLong bytes = length bytes < 2 ^ 64

abbrev pub IsText : List ℕ → Type 0
IsText text = IsUtf8 text × IsLong text

abbrev pub IsNameText : List ℕ → Type 0
IsNameText name = IsText name × (is_name name ≡ true)

pub record IsHead (h : FileHead) : Type 0 where
  pub shown : IsText h.shown
  pub path : is_path h.shown ≡ true
  pub version : IsVersionOrNone h.version
  pub languages : AllByRecursion (λ l. l < 2 ^ 16) h.languages
  pub few : length h.languages < 2 ^ 64
  pub created : h.created < 2 ^ 64
  pub modified : h.modified < 2 ^ 64
  pub attributes : h.attributes < 2 ^ 32
  pub len : h.length < 2 ^ 64
  -- its written form has a length, too
  pub whole : IsLong (written_head h)

abbrev pub IsRec : Rec → Type 0
IsRec (Put name bytes) = IsNameText name × IsLong bytes
IsRec (Drop name) = IsNameText name
IsRec (Copy name h file path n) = IsNameText name × IsHead h × IsText file × IsText path × (n < 2 ^ 64)
IsRec (Dup name h from) = IsNameText name × IsHead h × IsNameText from
