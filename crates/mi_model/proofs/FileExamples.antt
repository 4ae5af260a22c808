-- Patterns and paths of files, by computation. (RemoveFile Table, FileName; WildCardFilename; File Table.)
use Rattle.std.proofs.Common.{◌≡◌, true, false, [], ◌∷◌, Some, None, refl}
use Rattle.std.specs.Prelude.{pos, codes}
use Rattle.mi_base.specs.declared.answers.Fault.TheVariants.{SameTarget}
use Rattle.mi_model.specs.Texts.{Text}
use Rattle.mi_model.specs.Patterns.{matches}
use Rattle.mi_model.specs.InstallFiles.{Placed, same_target}

any_text : matches (codes "t*.t?t") (codes "tool.txt") ≡ true
any_text = refl

one_character : matches (codes "tool?.txt") (codes "tool.txt") ≡ false
one_character = refl

abbrev file : Text → Text → Placed
file key path = record {
  row = record {
    file = key;
    component = codes "CFile";
    file_name = codes "tool.txt";
    file_size = pos 5;
    version = None;
    language = None;
    attributes = None;
    sequence = pos 1;
  };
  path = path;
}

one_path : same_target [] (file (codes "FTool") (codes "C:\\App\\tool.txt") ∷ file (codes "FTwo") (codes "C:\\App\\TOOL.TXT") ∷ []) ≡ Some (SameTarget (codes "FTool") (codes "FTwo"))
one_path = refl
