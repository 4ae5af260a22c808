-- A path ends with a backslash exactly where it is a folder's.
use Rattle.std.proofs.Common.{◌≡◌, ◌++◌, ◌∷◌, [], List, ℕ, Bool, true, false, not, take, length, ◌-◌, refl, ap, sym, subst, ◌∙◌, lit<}
use Rattle.std.proofs.lemmas.Str.Pattern.{ends_char}
use Rattle.mi_text.specs.Path.{is_path, is_folder_path, is_file_path}
use Rattle.mi_text.proofs.PathLemmas.{only_file, only_folder}
use Rattle.mi_text.proofs.path.PathText.is_folder.Goals as goal

told : (b : Bool) (path : List ℕ) → is_path path ≡ true → (b ≡ true → path ≡ take (length path - 1) path ++ 92 ∷ []) → ((front : List ℕ) → path ≡ front ++ 92 ∷ [] → b ≡ true) → (b ≡ is_folder_path path) × (b ≡ not (is_file_path path))
told true path e ends open_end = let is = only_folder path (take (length path - 1) path) e (ends refl) in (sym is.0, sym (ap not is.1))
told false path e ends open_end = let is = only_file path e (λ front at. let wrong : false ≡ true = open_end front at in cc) in (sym is.0, sym (ap not is.1))

whole : (c : goal.After-ends_with) → (c.ends_with.result ≡ is_folder_path c.args.self.now) × (c.ends_with.result ≡ not (is_file_path c.args.self.now))
whole c =
    let same = c.as_str.ensures ∙ c.self.view_is in
    let facts = ends_char 92 c.as_str.result.now c.ends_with.result c.ends_with.ensures.cases (lit< tt) in
    subst (λ (path : List ℕ). (c.ends_with.result ≡ is_folder_path path) × (c.ends_with.result ≡ not (is_file_path path))) same
    (told c.ends_with.result c.as_str.result.now (subst (λ (path : List ℕ). is_path path ≡ true) (sym c.as_str.ensures) c.self.invariant) facts.0 facts.1)

pub returns-clause-folder : goal.returns-clause-folder
returns-clause-folder c = (whole c).0

pub returns-clause-file : goal.returns-clause-file
returns-clause-file c = (whole c).1
