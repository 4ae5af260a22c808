-- Two machines with one print are one.
use Rattle.std.proofs.Common.{◌≡◌, ℕ, ◌+◌, ◌≤◌, Bool, true, cond, List, ◌++◌, length, Option, Some, None, refl, sym, ap, subst, ◌∙◌, arith}
use Rattle.std.specs.Prelude.{nat_eq, is_some, is_none}
use Rattle.std.specs.List.{starts_with, AllByRecursion}
use Rattle.std.specs.FinMap.{get, keys}
use Rattle.mi_text.specs.Fold.{folded}
use Rattle.mi_text.specs.Maps.{Name, is_among}
use Rattle.mi_text.proofs.MapLemmas.{among-keys}
use Rattle.mi_text.proofs.ByteLemmas.{both}
use Rattle.mi_base.specs.declared.entry.RegValue.{RegValue}
use Rattle.mi_base.specs.declared.entry.ValueKey.{ValueKey}
use Rattle.mi_base.specs.declared.entry.Entry.{Entry}
use Rattle.mi_base.specs.declared.entry.Entry.TheVariants as entry
use Rattle.mi_base.specs.Names.{key_name, value_name}
use Rattle.mi_base.specs.Limits.{fits}
use Rattle.mi_base.specs.Spelling.{name_of}
use Rattle.mi_base.specs.Machine.{Machine, IsMachine, as_file, as_key, key_at}
use Rattle.mi_base.proofs.FoldLemmas.{length-folded}
use Rattle.mi_base.proofs.NameLemmas.{key_short}
use Rattle.mi_image.proofs.ListLemmas.{value_short}
use Rattle.mi_image.proofs.PrefixLemmas.{starts_append}
use Rattle.mi_image.specs.Fronts.{value_front}
use Rattle.mi_show.specs.Prints.{files_in}
use Rattle.mi_print.specs.Laws.{letter}
use Rattle.mi_show.specs.Laws.{PrintsAreExact}
use Rattle.mi_print.proofs.CodeLemmas.{heads}
use Rattle.mi_print.proofs.LineLemmas.{tails}
use Rattle.mi_print.proofs.RegistryLemmas.{Named}
use Rattle.mi_show.proofs.MachineLemmas.{Among, of_all, given_among, starts, starts_so, stand_so, is_listed, entries_at, one_machine}
use Rattle.mi_show.proofs.KeyLemmas.{Item, in_key, values, named_value, key_item, key_items, stray_item, strays}
use Rattle.mi_show.proofs.PrintLemmas.{SameParts, each_value, each_item, each_stray, each_file, value_folded, of_key, is_machine, same_parts}

-- this entry stands at its name
abbrev Stands : Machine → Entry → Type 0
Stands m e = get m (name_of e) ≡ Some e

abbrev valued : ℕ → List ℕ → Named → Entry
valued r s n = entry.Value (record { root = r; key = folded s; shown = n.0 }) n.1

key_size : (r : ℕ) (s : List ℕ) → fits (entry.Key r s) ≡ true → length (folded s) ≤ 500
unfolding fits
key_size r s fit = let size : length s ≤ 500 = key_short s (both _ _ fit).1 in let same : length (folded s) ≡ length s = length-folded s in omega (arith, size, same)

module _ (m : Machine) (im : IsMachine m) where
  at_name : (q : Name) (e : Entry) → get m q ≡ Some e → Stands m e
  at_name q e at = ap (λ (k : Name). get m k) (im q e at).0 ∙ at

  held : (e : Entry) → Stands m e → is_among (name_of e) (keys m) ≡ true
  held e at = sym (among-keys m (name_of e)) ∙ ap is_some at

  values_stand : (r : ℕ) (s : List ℕ) → length (folded s) ≤ 500 → AllByRecursion (λ n. Stands m (valued r s n)) (values m r s)
  values_stand r s small = each_value m r s (λ n. Stands m (valued r s n)) (λ q k v at passes.
      let right = im q (entry.Value k v) at in
      let own = of_key k v r s right.1.1 (value_short k v right.1.1) small (ap (in_key r s) right.0 ∙ passes) in
      let same : entry.Value k v ≡ valued r s (k.shown, v) = λ i. entry.Value (record { root = own.0 i; key = own.1 i; shown = k.shown }) v in
      subst (Stands m) same (at_name q (entry.Value k v) at))

  -- a key stands, with all its values
  abbrev IsKept : Item → Type 0
  IsKept i = Stands m (entry.Key i.0.0 i.0.1) × (i.1 ≡ values m i.0.0 i.0.1) × (length (folded i.0.1) ≤ 500)

  items_kept : AllByRecursion IsKept (key_items m)
  items_kept = each_item m IsKept (λ q r s at. (at_name q (entry.Key r s) at, refl, key_size r s (im q (entry.Key r s) at).1.1))

  lone_stand : AllByRecursion (λ l. Stands m (entry.Value l.0 l.1)) (strays m)
  lone_stand = each_stray m (λ l. Stands m (entry.Value l.0 l.1)) (λ q k v at. at_name q (entry.Value k v) at)

  files_stand : AllByRecursion (λ f. Stands m (entry.File f)) (files_in m)
  files_stand = each_file m (λ f. Stands m (entry.File f)) (λ q f at. at_name q (entry.File f) at)

-- the name of a value begins as those of the values of its key
begins_so : (k : ValueKey) (v : RegValue) (r : ℕ) (s : List ℕ) → k.root ≡ r → folded k.key ≡ folded s → in_key r s (name_of (entry.Value k v)) ≡ true
unfolding value_name
begins_so k v r s root key =
    let front = value_front r (length (folded s)) (folded s) in
    let is : value_name k.root k.key k.shown ≡ front ++ folded k.shown = λ i. value_front (root i) (length (key i)) (key i ++ folded k.shown) in
    ap (λ (q : Name). starts_with nat_eq q front) is ∙ starts_append front (folded k.shown)

-- the key of a value, by its name
key_of : (k : ValueKey) (r : ℕ) (s : List ℕ) → key_name r s ≡ key_name k.root k.key → (k.root ≡ r) × (folded k.key ≡ folded s)
unfolding key_name
key_of k r s e =
    let root : 48 + r ≡ 48 + k.root = heads _ _ _ _ (tails _ _ _ _ (tails _ _ _ _ e)) in
    (omega (arith, root), sym (tails _ _ _ _ (tails _ _ _ _ (tails _ _ _ _ e))))

-- what stands in the one machine stands in the other
module _ (m n : Machine) (im : IsMachine m) (is : IsMachine n) (parts : SameParts m n) where
  plain : (e : Entry) → entries_at (letter e) m ≡ entries_at (letter e) n → Stands m e → Stands n e
  plain e same at = of_all (λ x. get n (name_of x) ≡ Some x) e (entries_at (letter e) n) (stand_so (letter e) n is) (subst (Among e) same (is_listed m e at))

  kept_key : (r : ℕ) (s : List ℕ) → Stands m (entry.Key r s) → IsKept n is ((r, s), values m r s)
  kept_key r s at =
      of_all (IsKept n is) ((r, s), values m r s) (key_items n) (items_kept n is)
      (subst (Among ((r, s), values m r s)) parts.keys (given_among (λ q. key_item m (get m q)) (starts 107) (name_of (entry.Key r s)) ((r, s), values m r s) (keys m) (held m im (entry.Key r s) at) (starts_so (entry.Key r s)) (ap (key_item m) at)))

  lone_value : (k : ValueKey) (v : RegValue) → Stands m (entry.Value k v) → is_none (key_at m k.root k.key) ≡ true → Stands n (entry.Value k v)
  lone_value k v at none =
      of_all (λ l. Stands n (entry.Value l.0 l.1)) (k, v) (strays n) (lone_stand n is)
      (subst (Among (k, v)) parts.lone (given_among (λ q. stray_item m (get m q)) (starts 118) (name_of (entry.Value k v)) (k, v) (keys m) (held m im (entry.Value k v) at) (starts_so (entry.Value k v)) (ap (stray_item m) at ∙ ap (λ (t : Bool). cond t (Some (k, v)) None) none)))

  keyed_value : (k : ValueKey) (v : RegValue) (r : ℕ) (s : List ℕ) → Stands m (entry.Value k v) → get m (key_name k.root k.key) ≡ Some (entry.Key r s) → Stands n (entry.Value k v)
  keyed_value k v r s at key =
      let own = key_of k r s (im _ (entry.Key r s) key).0 in
      let kept = kept_key r s (at_name m im _ (entry.Key r s) key) in
      let there = given_among (λ q. named_value (get m q)) (in_key r s) (name_of (entry.Value k v)) (k.shown, v) (keys m) (held m im (entry.Value k v) at) (begins_so k v r s own.0 own.1) (ap named_value at) in
      let stands = of_all (λ x. Stands n (valued r s x)) (k.shown, v) (values n r s) (values_stand n is r s kept.2) (subst (Among (k.shown, v)) kept.1 there) in
      let fold = value_folded k v (im _ (entry.Value k v) at).1.1 in
      let same : valued r s (k.shown, v) ≡ entry.Value k v = λ i. entry.Value (record { root = sym own.0 i; key = (sym own.1 ∙ fold) i; shown = k.shown }) v in
      subst (Stands n) same stands

  value_there : (k : ValueKey) (v : RegValue) → Stands m (entry.Value k v) → Stands n (entry.Value k v)
  value_there k v at = by (get m (key_name k.root k.key)) refl
    where
      by : (o : Option Entry) → get m (key_name k.root k.key) ≡ o → Stands n (entry.Value k v)
      by None key = lone_value k v at (ap (λ (o : Option Entry). is_none (as_key o)) key)
      by (Some (entry.Key r s)) key = keyed_value k v r s at key
      by (Some e) key = lone_value k v at (ap (λ (o : Option Entry). is_none (as_key o)) key)

  there : (e : Entry) → Stands m e → Stands n e
  unfolding files_in
  there (entry.File f) at =
      of_all (λ g. Stands n (entry.File g)) f (files_in n) (files_stand n is)
      (subst (Among f) parts.files (given_among (λ q. as_file (get m q)) (starts 102) (name_of (entry.File f)) f (keys m) (held m im (entry.File f) at) (starts_so (entry.File f)) (ap as_file at)))
  there (entry.Folder t) at = plain (entry.Folder t) parts.folders at
  there (entry.Value k v) at = value_there k v at
  there (entry.Key r s) at = (kept_key r s at).0
  there (entry.Shortcut s) at = plain (entry.Shortcut s) parts.shortcuts at
  there (entry.Variable v) at = plain (entry.Variable v) parts.variables at
  there (entry.Client c) at = plain (entry.Client c) parts.clients at
  there (entry.Product p) at = plain (entry.Product p) parts.products at
  there (entry.System p t) at = plain (entry.System p t) parts.systems at

other_way : (m n : Machine) → SameParts m n → SameParts n m
other_way m n parts = record { products = sym parts.products; files = sym parts.files; folders = sym parts.folders; keys = sym parts.keys; lone = sym parts.lone; shortcuts = sym parts.shortcuts; variables = sym parts.variables; clients = sym parts.clients; systems = sym parts.systems }

pub prints_exact : PrintsAreExact
prints_exact m n shown_m shown_n told e =
    let im = is_machine m shown_m in
    let is = is_machine n shown_n in
    let parts = same_parts m n shown_m shown_n told e in
    one_machine m n im is (there m n im is parts) (there n m is im (other_way m n parts))
