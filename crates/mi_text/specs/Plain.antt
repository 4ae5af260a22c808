-- The first item of a name.
use Rattle.std.specs.Prelude.{ℕ, ℤ, negsuc, List, [], ◌∷◌, ◌&&◌, if◌then◌else◌, Bool, true, false, String, string_bytes}
use Rattle.std.specs.declared.alloc.Global.{Global}
use Rattle.std.specs.Str.{bytes_eq}
use Rattle.mi_text.specs.declared.env.Sign.{Sign}
use Rattle.mi_text.specs.declared.env.Sign.TheVariants.{Action, Installed, FeatureAction, FeatureInstalled}

abbrev pub text_in : List (String Global × String Global) → List ℕ → List ℕ
text_in [] name = []
text_in (item ∷ items) name = if bytes_eq (string_bytes item.0) name then string_bytes item.1 else text_in items name

abbrev pub same_sign : Sign → Sign → Bool
same_sign Action Action = true
same_sign Installed Installed = true
same_sign FeatureAction FeatureAction = true
same_sign FeatureInstalled FeatureInstalled = true
same_sign a b = false

abbrev pub state_in : List (Sign × String Global × ℤ) → Sign → List ℕ → ℤ
state_in [] sign key = negsuc 0
state_in (item ∷ items) sign key = if same_sign item.0 sign && bytes_eq (string_bytes item.1) key then item.2 else state_in items sign key
