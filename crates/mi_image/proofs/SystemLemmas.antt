-- The names of the system's properties are the last.
use Rattle.std.proofs.Common.{◌≡◌, ℕ, ◌≤◌, Bool, true, false, cond, ◌||◌, List, [], ◌∷◌, ◌++◌, map, drop, get_or, Option, Some, None, refl, sym, ap, subst, ◌∙◌, arith}
use Rattle.std.specs.Prelude.{codes, find, option_map, string_bytes}
use Rattle.std.specs.Str.{bytes_eq}
use Rattle.std.proofs.lemmas.Slice.Eq.{bytes_eq-Decides}
use Rattle.std.specs.List.{list_any, AllByRecursion}
use Rattle.std.specs.List.Sorted.{IsStrictlySortedBy}
use Rattle.std.proofs.lemmas.Map.Keys.{sorted_head, sorted_tail}
use Rattle.std.specs.Ordering.{nat_cmp, ordering_then}
use Rattle.std.specs.declared.cmp.Ordering.{Ordering}
use Rattle.std.specs.declared.cmp.Ordering.TheVariants.{Less, Equal, Greater}
use Rattle.std.specs.FinMap.{keys, entries, nat_cmp-IsAntisymmetric}
use Rattle.std.specs.BTreeMap.{BTreeMap}
use Rattle.std.specs.BTreeMap as tree
use Rattle.mi_text.specs.Maps.{Name, Map, name_cmp}
use Rattle.mi_text.proofs.MapLemmas.{keys-map_values}
use Rattle.mi_base.specs.declared.entry.Entry.TheVariants as entry
use Rattle.mi_base.specs.Names.{file_name, folder_name, key_name, value_name, shortcut_name, variable_name, client_name, product_name, system_name}
use Rattle.mi_base.specs.Machine.{system_at}
use Rattle.mi_base.specs.System.{is_system_property, has_system, default_system, value_named, system_read}
use Rattle.mi_image.specs.declared.item.Item.{Item}
use Rattle.mi_image.specs.declared.item.Item.TheVariants.{Head, Whole}
use Rattle.mi_image.specs.Items.{Items, Boxed, unboxed, items_of, item_name, entry_over, machine_over, MayStand, AreRight}
use Rattle.mi_image.proofs.ItemLemmas.{Key, key_cmp, pair_of, entries-items}
use Rattle.mi_image.proofs.ListLemmas.{each_right}
use Rattle.mi_image.proofs.LookupLemmas.{letter, first_letter}
use Rattle.mi_image.proofs.PrefixLemmas.{starts_is}
use Rattle.mi_image.proofs.RankLemmas.{less_is}

second_byte : (i : Item) → get_or (item_name i) 1 0 ≡ 47
unfolding file_name folder_name key_name value_name shortcut_name variable_name client_name product_name system_name
second_byte (Head h content) = refl
second_byte (Whole (entry.File f)) = refl
second_byte (Whole (entry.Folder t)) = refl
second_byte (Whole (entry.Value k v)) = refl
second_byte (Whole (entry.Key r t)) = refl
second_byte (Whole (entry.Shortcut s)) = refl
second_byte (Whole (entry.Variable v)) = refl
second_byte (Whole (entry.Client c)) = refl
second_byte (Whole (entry.Product p)) = refl
second_byte (Whole (entry.System p t)) = refl

last_letter : (i : Item) → letter i ≤ 121
last_letter (Head h content) = omega arith
last_letter (Whole (entry.File f)) = omega arith
last_letter (Whole (entry.Folder t)) = omega arith
last_letter (Whole (entry.Value k v)) = omega arith
last_letter (Whole (entry.Key r t)) = omega arith
last_letter (Whole (entry.Shortcut s)) = omega arith
last_letter (Whole (entry.Variable v)) = omega arith
last_letter (Whole (entry.Client c)) = omega arith
last_letter (Whole (entry.Product p)) = omega arith
last_letter (Whole (entry.System p t)) = omega arith

-- what begins as every name does
record HasKind (q : Name) : Type 0 where
  first : get_or q 0 0 ≤ 121
  second : get_or q 1 0 ≡ 47

has_kind : (q : Name) (i : Item) → MayStand q i → HasKind q
has_kind q i may = record {
  first = subst (λ (n : ℕ). n ≤ 121) (sym (first_letter i) ∙ ap (λ (n : Name). get_or n 0 0) may.named) (last_letter i);
  second = sym (ap (λ (n : Name). get_or n 1 0) may.named) ∙ second_byte i;
}

-- behind a property of the system stand only such
is_last : (r l : Name) → name_cmp (121 ∷ 47 ∷ r) l ≡ Less → HasKind l → is_system_property l ≡ true
is_last r [] less kind = absurd cc
is_last r (a ∷ []) less kind = absurd (let e = kind.second in omega arith)
is_last r (a ∷ b ∷ s) less kind = by_first (nat_cmp 121 a) refl less
  where
    by_first : (o : Ordering) → nat_cmp 121 a ≡ o → ordering_then o (name_cmp (47 ∷ r) (b ∷ s)) ≡ Less → is_system_property (a ∷ b ∷ s) ≡ true
    by_first Less is less = absurd (let up = less_is 121 a is in let low = kind.first in omega arith)
    by_first Equal is less =
        let first : 121 ≡ a = nat_cmp-IsAntisymmetric 121 a is in
        subst (λ (n : ℕ). is_system_property (n ∷ b ∷ s) ≡ true) first (subst (λ (n : ℕ). is_system_property (121 ∷ n ∷ s) ≡ true) (sym kind.second) refl)
    by_first Greater is less = absurd cc

of_last : {X : Type 0} → (P : X → Type 0) (xs : List X) (x : X) → AllByRecursion P (xs ++ x ∷ []) → P x
of_last P [] x all = all.0
of_last P (y ∷ xs) x all = of_last P xs x all.1

abbrev holds_system : Key → Bool
holds_system k = is_system_property (string_bytes k)

-- of names in order the last tells
any_last : (ks : List Key) (l : Key) → IsStrictlySortedBy key_cmp (ks ++ l ∷ []) → HasKind (string_bytes l) → list_any holds_system (ks ++ l ∷ []) ≡ holds_system l
any_last [] l sorted kind = either (holds_system l)
  where
    either : (b : Bool) → (b || false) ≡ b
    either true = refl
    either false = refl
any_last (k ∷ ks) l sorted kind =
    elim (holds_system k) as (λ b. holds_system k ≡ b → (b || list_any holds_system (ks ++ l ∷ [])) ≡ holds_system l) [
      | true ↦ λ b. sym (is_last (drop 2 (string_bytes k)) (string_bytes l) (ap (λ (n : Name). name_cmp n (string_bytes l)) (sym (starts_is (string_bytes k) (codes "y/") b)) ∙ of_last (λ y. key_cmp k y ≡ Less) ks l (sorted_head key_cmp k (ks ++ l ∷ []) sorted)) kind)
      | false ↦ λ b. any_last ks l (sorted_tail key_cmp k (ks ++ l ∷ []) sorted) kind
    ] refl

abbrev keys_of : List (Key × Boxed) → List Key
keys_of es = map (λ e. e.0) es

any_names : (es : List (Key × Boxed)) → list_any is_system_property (map (λ e. e.0) (map pair_of es)) ≡ list_any holds_system (keys_of es)
any_names [] = refl
any_names (e ∷ es) = ap (λ b. holds_system e.0 || b) (any_names es)

each_kind : (es : List (Key × Boxed)) → AllByRecursion (λ (e : Name × Item). MayStand e.0 e.1) (map pair_of es) → AllByRecursion (λ k. HasKind (string_bytes k)) (keys_of es)
each_kind [] all = tt
each_kind (e ∷ es) all = (has_kind (string_bytes e.0) (unboxed e.1) all.0, each_kind es all.1)

any_held : (m : BTreeMap Key Boxed) (image : Items) → items_of m.entries ≡ image → tree.IsOrdered key_cmp m → list_any is_system_property (keys image) ≡ list_any holds_system (keys_of m.entries)
any_held m image is ordered = ap (λ (items : Items). list_any is_system_property (keys items)) (sym is) ∙ ap (λ (es : List (Name × Item)). list_any is_system_property (map (λ e. e.0) es)) (entries-items m ordered) ∙ any_names m.entries

-- a property of the system is held where the last name is of one
pub held_at_last : (m : BTreeMap Key Boxed) (image : Items) (front : List Key) (l : Key) → items_of m.entries ≡ image → AreRight image → tree.IsOrdered key_cmp m → keys_of m.entries ≡ front ++ l ∷ [] → is_system_property (string_bytes l) ≡ list_any is_system_property (keys image)
held_at_last m image front l is right ordered at =
    let kinds : AllByRecursion (λ (k : Key). HasKind (string_bytes k)) (keys_of m.entries) =
    each_kind m.entries (subst (λ (es : List (Name × Item)). AllByRecursion (λ e. MayStand e.0 e.1) es) (ap entries (sym is) ∙ entries-items m ordered) (each_right image right)) in
    let kind : HasKind (string_bytes l) = of_last (λ (k : Key). HasKind (string_bytes k)) front l (subst (λ (ks : List Key). AllByRecursion (λ k. HasKind (string_bytes k)) ks) at kinds) in
    sym (any_held m image is ordered ∙ ap (list_any holds_system) at ∙ any_last front l (subst (IsStrictlySortedBy key_cmp) at ordered) kind)

-- none is where there is no name
pub none_held : (m : BTreeMap Key Boxed) (image : Items) → items_of m.entries ≡ image → tree.IsOrdered key_cmp m → keys_of m.entries ≡ [] → false ≡ list_any is_system_property (keys image)
none_held m image is ordered none = sym (any_held m image is ordered ∙ ap (list_any holds_system) none)

-- ---- what is read

-- a name that none of the properties has
pub none_named : (name : List ℕ) (properties : List (List ℕ × List ℕ)) → AllByRecursion (λ (p : List ℕ × List ℕ). name ≡ p.0 → ⊥) properties → None ≡ value_named name properties
none_named name [] all = refl
none_named name (p ∷ properties) all =
    elim (bytes_eq p.0 name) as (λ b. bytes_eq p.0 name ≡ b → None ≡ option_map (λ (e : List ℕ × List ℕ). e.1) (cond b (Some p) (find (λ e. bytes_eq e.0 name) properties))) [
      | true ↦ λ b. absurd (all.0 (sym ((bytes_eq-Decides p.0 name).0 b)))
      | false ↦ λ b. none_named name properties all.1
    ] refl

has_over : (held files : Map (List ℕ)) (items : Items) → has_system (machine_over held files items) ≡ list_any is_system_property (keys items)
unfolding machine_over
has_over held files items = ap (list_any is_system_property) (keys-map_values (entry_over held files) items)

-- where none is held, the default value is read
pub read_default : (held files : Map (List ℕ)) (items : Items) (property : List ℕ) (o : Option (List ℕ)) → list_any is_system_property (keys items) ≡ false → o ≡ value_named property default_system → o ≡ system_read (machine_over held files items) property
unfolding system_read
read_default held files items property o none is =
    is ∙ sym (ap (λ b. cond b (system_at (machine_over held files items) property) (value_named property default_system)) (has_over held files items ∙ none))

-- else what is held
pub read_held : (held files : Map (List ℕ)) (items : Items) (property : List ℕ) (o : Option (List ℕ)) → list_any is_system_property (keys items) ≡ true → o ≡ system_at (machine_over held files items) property → o ≡ system_read (machine_over held files items) property
unfolding system_read
read_held held files items property o some is =
    is ∙ sym (ap (λ b. cond b (system_at (machine_over held files items) property) (value_named property default_system)) (has_over held files items ∙ some))
