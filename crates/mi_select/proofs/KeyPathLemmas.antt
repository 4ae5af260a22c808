-- What holds of an item at a place, how a value is told as a key path, and what an image holds at a key path.
use Rattle.std.proofs.Common.{◌≡◌, ℕ, ◌+◌, ◌<◌, true, false, eqb, List, [], ◌∷◌, ◌++◌, get_or, Option, Some, None, inr, refl, sym, ap, subst, ◌∙◌, arith}
use Rattle.std.specs.Prelude.{slice_get, All, is_some, option_copied, option_map}
use Rattle.std.proofs.lemmas.Option.{slice_get_within}
use Rattle.std.specs.FinMap.{get}
use Rattle.std.specs.Fmt.{decimal}
use Rattle.std.proofs.lemmas.Fmt.{decimal_digit}
use denote.Ref.{Bor}
use Rattle.mi_text.specs.Maps.{Name, Map}
use Rattle.mi_text.specs.Path.{is_folder_path}
use Rattle.mi_base.specs.declared.entry.Entry.TheVariants as entry
use Rattle.mi_base.specs.Limits.{fits}
use Rattle.mi_base.specs.Machine.{as_folder, folder_at}
use Rattle.mi_base.specs.Names.{digit, folder_name}
use Rattle.mi_image.specs.declared.item.Item.{Item}
use Rattle.mi_image.specs.declared.item.Item.TheVariants.{Head, Whole}
use Rattle.mi_image.specs.Items.{Items, machine_over, MayStand, AreRight}
use Rattle.mi_image.specs.Lookups.{IsNoName, whole_of}
use Rattle.mi_image.proofs.LookupLemmas.{letter, first_letter, none_there, over_whole}
use Rattle.mi_model.specs.KeyPaths.{Value, key_path_text}
use Rattle.mi_model.specs.RegistryRows.{RegistryPlace}
use Rattle.mi_wishes.proofs.LineLemmas.{get_or_from}

-- what holds of each item holds of the one at a place
pub at_place : {A : Type 0} (P : A → Type 0) (xs : List A) (k : ℕ) (x : A) → slice_get xs k ≡ Some x → All P xs → P x
at_place P xs k x at all = subst P (get_or_from xs k x x at) (all k x (slice_get_within xs k x at))

-- ---- the text of a value

root_shown : (root : ℕ) (rest : List ℕ) → root < 4 → decimal root ++ rest ≡ digit root ∷ rest
root_shown root rest small = ap (λ (ds : List ℕ). ds ++ rest) (decimal_digit root (omega arith))

-- the digit of a root is all that is written of it
pub value_shown : (p : RegistryPlace) (root : ℕ) (key name text made : List ℕ) → root ≡ p.root → p.root < 4 → key ≡ p.key → name ≡ p.name → made ≡ text → text ≡ 48 ∷ (decimal root ++ 58 ∷ (key ++ 92 ∷ name)) → made ≡ key_path_text (Value p)
unfolding key_path_text
value_shown p root key name text made at small keyed named is shown = let root_first = root_shown root (58 ∷ (key ++ 92 ∷ name)) (omega arith) in cc

-- ---- what is there

-- what is found where something is
pub found_as : {A B C : Type 0} (f : A → C) (g : B → C) (o : Option (Bor A)) (there : Option B) → option_map f (option_copied o) ≡ option_map g there → is_some o ≡ is_some there
found_as f g None None e = refl
found_as f g (Some a) (Some b) e = refl
found_as f g None (Some b) e = cc
found_as f g (Some a) None e = cc

pub found_at : {A B : Type 0} (g : B → A) (o : Option (Bor A)) (there : Option B) → option_copied o ≡ option_map g there → is_some o ≡ is_some there
found_at g None None e = refl
found_at g (Some a) (Some b) e = refl
found_at g None (Some b) e = cc
found_at g (Some a) None e = cc

-- what stands at the name of a folder without a path would begin so
letter_of : (i : Item) → MayStand (folder_name []) i → letter i ≡ 100
unfolding folder_name
letter_of i may = sym (first_letter i) ∙ ap (λ (n : Name). get_or n 0 0) may.named

no_folder : (path : List ℕ) → folder_name path ≡ folder_name [] → fits (entry.Folder path) ≡ true → ⊥
unfolding folder_name fits is_folder_path
no_folder [] named right = cc
no_folder (b ∷ path) named right = cc

differs : (n : ℕ) → eqb n 100 ≡ false → n ≡ 100 → ⊥
differs n off same = let clash : true ≡ false = ap (λ k. eqb k 100) (sym same) ∙ off in cc

no_name : IsNoName (folder_name [])
no_name (Whole (entry.Folder path)) may = no_folder path may.named may.right
no_name (Head h content) may = differs _ refl (letter_of (Head h content) may)
no_name (Whole (entry.File f)) may = differs _ refl (letter_of (Whole (entry.File f)) may)
no_name (Whole (entry.Value k v)) may = differs _ refl (letter_of (Whole (entry.Value k v)) may)
no_name (Whole (entry.Key r t)) may = differs _ refl (letter_of (Whole (entry.Key r t)) may)
no_name (Whole (entry.Shortcut s)) may = differs _ refl (letter_of (Whole (entry.Shortcut s)) may)
no_name (Whole (entry.Variable v)) may = differs _ refl (letter_of (Whole (entry.Variable v)) may)
no_name (Whole (entry.Client c)) may = differs _ refl (letter_of (Whole (entry.Client c)) may)
no_name (Whole (entry.Product p)) may = differs _ refl (letter_of (Whole (entry.Product p)) may)
no_name (Whole (entry.System p t)) may = differs _ refl (letter_of (Whole (entry.System p t)) may)

-- a folder without a path is never there
pub no_path_there : (held files : Map (List ℕ)) (items : Items) → AreRight items → folder_at (machine_over held files items) [] ≡ None
no_path_there held files items right =
    sym (over_whole as_folder (λ f. refl) held files items (folder_name [])) ∙ ap (λ (o : Option Item). as_folder (whole_of o)) (none_there items (folder_name []) right (inr no_name))

pub nothing_at : (items : Items) → AreRight items → (o : Option (Bor Item)) → option_copied o ≡ get items (folder_name []) → is_some o ≡ false
nothing_at items right None at = refl
nothing_at items right (Some i) at = let none : get items (folder_name []) ≡ None = none_there items (folder_name []) right (inr no_name) in cc
