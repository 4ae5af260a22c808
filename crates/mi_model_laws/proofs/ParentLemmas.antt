-- Folders and keys that rows make, at a name.
use Rattle.std.proofs.Common.{◌≡◌, false, cond, [], ◌∷◌, ◌++◌, map, Option, Some, None, refl, ap, ◌∙◌}
use Rattle.std.specs.Prelude.{ℕ}
use Rattle.std.specs.Option.{option_or}
use Rattle.mi_text.specs.Maps.{Name, same_name}
use Rattle.mi_base.specs.declared.entry.Entry.{Entry}
use Rattle.mi_base.specs.declared.entry.Entry.TheVariants as entry
use Rattle.mi_base.specs.Names.{folder_name, key_name}
use Rattle.mi_changes.specs.Touches.{Set, left_at}
use Rattle.mi_changes.proofs.TouchLemmas.{left_at-append}
use Rattle.mi_model.specs.Texts.{Text}
use Rattle.mi_model.specs.Parents.{or_new, folders_down_to, folder_with_parents, keys_down_to, key_with_parents}
use Rattle.mi_model_laws.specs.PhaseLaws.{first_named}
use Rattle.mi_model_laws.proofs.RowLemmas.{elsewhere, made}

pub or_nothing : (old : Option Entry) → option_or old None ≡ old
or_nothing None = refl
or_nothing (Some e) = refl

-- ---- folders

abbrev pub IsNoFolder : Name → Type 0
IsNoFolder q = (folder : Text) → same_name q (folder_name folder) ≡ false

pub folders_elsewhere : (q : Name) (folder : Text) (old : Option Entry) → IsNoFolder q → left_at q (folder_with_parents folder) old ≡ old
folders_elsewhere q folder old apart = elsewhere q folder_name (λ f. or_new (entry.Folder f)) (folders_down_to folder) old apart

pub folders_made : (q : Name) (folder : Text) (old : Option Entry) → left_at q (folder_with_parents folder) old ≡ option_or old (first_named q (map entry.Folder (folders_down_to folder)))
folders_made q folder old = made q entry.Folder (folders_down_to folder) old

-- what is set behind its folders
pub set_in_folder : (q n : Name) (change : Option Entry → Option Entry) (folder : Text) (old : Option Entry) → IsNoFolder q
    → left_at q (folder_with_parents folder ++ Set n change ∷ []) old ≡ cond (same_name q n) (change old) old
set_in_folder q n change folder old apart =
    left_at-append q (folder_with_parents folder) (Set n change ∷ []) old
    ∙ ap (λ o. cond (same_name q n) (change o) o) (folders_elsewhere q folder old apart)

pub folders_of_set : (q n : Name) (change : Option Entry → Option Entry) (folder : Text) (old : Option Entry) → same_name q n ≡ false
    → left_at q (folder_with_parents folder ++ Set n change ∷ []) old ≡ option_or old (first_named q (map entry.Folder (folders_down_to folder)))
folders_of_set q n change folder old apart =
    left_at-append q (folder_with_parents folder) (Set n change ∷ []) old
    ∙ ap (λ b. cond b (change (left_at q (folder_with_parents folder) old)) (left_at q (folder_with_parents folder) old)) apart
    ∙ folders_made q folder old

-- ---- keys

abbrev pub IsNoKey : Name → Type 0
IsNoKey q = (root : ℕ) (key : Text) → same_name q (key_name root key) ≡ false

pub keys_elsewhere : (q : Name) (root : ℕ) (key : Text) (old : Option Entry) → IsNoKey q → left_at q (key_with_parents root key) old ≡ old
keys_elsewhere q root key old apart = elsewhere q (key_name root) (λ k. or_new (entry.Key root k)) (keys_down_to key) old (apart root)

pub keys_made : (q : Name) (root : ℕ) (key : Text) (old : Option Entry) → left_at q (key_with_parents root key) old ≡ option_or old (first_named q (map (entry.Key root) (keys_down_to key)))
keys_made q root key old = made q (entry.Key root) (keys_down_to key) old

pub set_in_key : (q n : Name) (change : Option Entry → Option Entry) (root : ℕ) (key : Text) (old : Option Entry) → IsNoKey q
    → left_at q (key_with_parents root key ++ Set n change ∷ []) old ≡ cond (same_name q n) (change old) old
set_in_key q n change root key old apart =
    left_at-append q (key_with_parents root key) (Set n change ∷ []) old
    ∙ ap (λ o. cond (same_name q n) (change o) o) (keys_elsewhere q root key old apart)

pub keys_of_set : (q n : Name) (change : Option Entry → Option Entry) (root : ℕ) (key : Text) (old : Option Entry) → same_name q n ≡ false
    → left_at q (key_with_parents root key ++ Set n change ∷ []) old ≡ option_or old (first_named q (map (entry.Key root) (keys_down_to key)))
keys_of_set q n change root key old apart =
    left_at-append q (key_with_parents root key) (Set n change ∷ []) old
    ∙ ap (λ b. cond b (change (left_at q (key_with_parents root key) old)) (left_at q (key_with_parents root key) old)) apart
    ∙ keys_made q root key old
