-- Names are no longer than a name of the volume.
use Rattle.std.proofs.Common.{◌≡◌, ℕ, zero, suc, get_or, inl, inr, ◌≤◌, ◌<◌, true, false, leb, ◌&&◌, List, [], ◌∷◌, length, ap, arith}
use Rattle.std.specs.List.{list_all}
use Rattle.std.specs.Str.{is_utf8}
use Rattle.std.proofs.lemmas.Bool.{leb-true, cases_Bool}
use Rattle.std.proofs.lemmas.Bool.Decides.{nat_tests}
use Rattle.std.proofs.lemmas.Str.{is_utf8-from_IsUtf8, IsUtf8-from_ascii}
use Rattle.std.proofs.lemmas.List.{length-append}
use Rattle.mi_text.specs.PropertyNames.{begins_name, continues_name, is_property_name}
use Rattle.mi_text.specs.Fold.{folded, IsNameLength}
use Rattle.mi_text.specs.Guid.{guid_text}
use Rattle.mi_text.proofs.GuidLemmas.{length-guid_text}
use Rattle.mi_base.specs.declared.entry.Entry.{Entry}
use Rattle.mi_base.specs.declared.entry.Entry.TheVariants.{File, Folder, Value, Key, Shortcut, Variable, Client, Product, System}
use Rattle.mi_base.specs.Names.{file_name, folder_name, key_name, value_name, shortcut_name, variable_name, client_name, product_name, system_name}
use Rattle.mi_base.specs.Limits.{fits, is_key, is_value_name, is_variable_name, is_system_name}
use Rattle.mi_base.specs.Spelling.{name_of}
use Rattle.mi_base.proofs.ByteLemmas.{both}
use Rattle.mi_base.proofs.FoldLemmas.{length-folded, file_short, folder_short}

pub key_short : (key : List ℕ) → is_key key ≡ true → length key ≤ 500
unfolding is_key
key_short key e = leb-true _ _ (both _ _ (both _ _ e).0).0

pub value_name_short : (name : List ℕ) → is_value_name name ≡ true → length name ≤ 500
unfolding is_value_name
value_name_short name e = leb-true _ _ (both _ _ e).0

pub variable_name_short : (name : List ℕ) → is_variable_name name ≡ true → length name ≤ 500
unfolding is_variable_name
variable_name_short name e = leb-true _ _ (both _ _ (both _ _ e).0).1

property_short : (name : List ℕ) → is_system_name name ≡ true → length name ≤ 1022
unfolding is_system_name
property_short name e = leb-true _ _ (both _ _ e).1

pub name_length : (e : Entry) → fits e ≡ true → IsNameLength (name_of e)
unfolding fits file_name folder_name key_name value_name shortcut_name variable_name client_name product_name system_name
name_length (File f) e = let n = file_short f.shown (both _ _ (both _ _ (both _ _ e).0).0).0 in let l = length-folded f.shown in (omega arith, omega arith)
name_length (Folder p) e = let n = folder_short p (both _ _ e).0 in let l = length-folded p in (omega arith, omega arith)
name_length (Value k v) e =
    let four = both _ _ e in
    let three = both _ _ four.0 in
    let two = both _ _ three.0 in
    let one = both _ _ two.0 in
    let n = key_short k.key one.1 in
    let m = value_name_short k.shown three.1 in
    let l = length-folded k.key in
    let j = length-folded k.shown in
    let all = length-append (folded k.key) (folded k.shown) in (omega arith, omega arith)
name_length (Key root p) e = let n = key_short p (both _ _ e).1 in let l = length-folded p in (omega arith, omega arith)
name_length (Shortcut s) e = let n = file_short s.shown (both _ _ (both _ _ (both _ _ (both _ _ (both _ _ e).0).0).0).0).0 in let l = length-folded s.shown in (omega arith, omega arith)
name_length (Variable v) e = let n = variable_name_short v.name (both _ _ e).0 in let l = length-folded v.name in (omega arith, omega arith)
name_length (Client c) e = let a = length-guid_text c.component.number in let b = length-guid_text c.product.number in let all = length-append (guid_text c.component.number) (guid_text c.product.number) in (omega arith, omega arith)
name_length (Product p) e = let a = length-guid_text p.code.number in (omega arith, omega arith)
name_length (System p t) e = let n = property_short p (both _ _ e).0 in (omega arith, omega arith)

-- ---- what isn't UTF-8 names no property

name_ascii : (b : ℕ) → continues_name b ≡ true → b < 128
name_ascii b e = grind (arith, nat_tests)

all_ascii : (bs : List ℕ) → list_all continues_name bs ≡ true → (i : ℕ) → get_or bs i 0 < 128
all_ascii [] e i = omega arith
all_ascii (b ∷ bs) e zero = name_ascii b (both _ _ e).0
all_ascii (b ∷ bs) e (suc i) = all_ascii bs (both _ _ e).1 i

first_ascii : (b : ℕ) → begins_name b ≡ true → b < 128
first_ascii b e = grind (arith, nat_tests)

property_utf8 : (name : List ℕ) → is_property_name name ≡ true → is_utf8 name ≡ true
property_utf8 [] e = absurd cc
property_utf8 (b ∷ bs) e =
    let two = both _ _ e in
    is_utf8-from_IsUtf8 (b ∷ bs) (IsUtf8-from_ascii (b ∷ bs) (at (first_ascii b two.0) (all_ascii bs two.1)))
  where
    at : b < 128 → ((i : ℕ) → get_or bs i 0 < 128) → (i : ℕ) → get_or (b ∷ bs) i 0 < 128
    at first others zero = first
    at first others (suc i) = others i

pub no_property : (name : List ℕ) → is_utf8 name ≡ false → is_system_name name ≡ false
unfolding is_system_name
no_property name e = elim (cases_Bool (is_property_name name)) [ inl is ↦ let u = property_utf8 name is in absurd (let z : ⊥ = cc in z) | inr is_not ↦ ap (λ b. b && leb (length name) 1022) is_not ]
