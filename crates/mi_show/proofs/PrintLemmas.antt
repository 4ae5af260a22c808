-- The parts of a machine are read back from its print.
use Rattle.std.proofs.Common.{◌≡◌, ℕ, ◌+◌, ◌/◌, ◌%◌, ◌<◌, ◌≤◌, Bool, true, false, cond, eqb, List, [], ◌∷◌, ◌++◌, length, drop, Option, Some, None, refl, sym, ap, subst, ◌∙◌, arith, append_assoc, codes}
use Rattle.std.specs.Prelude.{is_none}
use Rattle.std.specs.List.{AllByRecursion}
use Rattle.std.specs.FinMap.{get, keys}
use Rattle.std.proofs.lemmas.List.{append_cancel_left}
use Rattle.std.proofs.lemmas.Slice.Eq.{bytes_eq-Decides}
use Rattle.mi_text.proofs.ByteLemmas.{both}
use Rattle.mi_text.specs.Fold.{folded}
use Rattle.mi_text.specs.Maps.{Name}
use Rattle.mi_base.specs.declared.entry.FileEntry.{FileEntry}
use Rattle.mi_base.specs.declared.entry.RegValue.{RegValue}
use Rattle.mi_base.specs.declared.entry.ValueKey.{ValueKey}
use Rattle.mi_base.specs.declared.entry.Entry.{Entry}
use Rattle.mi_base.specs.declared.entry.Entry.TheVariants as entry
use Rattle.mi_base.specs.Names.{four_digits, file_name, value_name}
use Rattle.mi_base.specs.Limits.{fits, IsEntry}
use Rattle.mi_base.specs.Spelling.{name_of}
use Rattle.mi_base.specs.Machine.{Machine, IsMachine, key_at, as_file}
use Rattle.mi_image.proofs.PrefixLemmas.{starts_is}
use Rattle.mi_image.specs.Fronts.{value_front}
use Rattle.mi_print.specs.Trees.{tree}
use Rattle.mi_show.specs.Prints.{lines, files_in, registry, section, others, shown}
use Rattle.mi_print.specs.Laws.{letter, IsFile, IsSmallFile}
use Rattle.mi_show.specs.Laws.{IsShown, ToldByHash}
use Rattle.mi_print.proofs.CodeLemmas.{AreApart, NeverBegins, all_apart, long_apart, heads}
use Rattle.mi_print.proofs.LineLemmas.{spread, tails}
use Rattle.mi_print.proofs.RegistryLemmas.{differ, Named, NamedFits}
use Rattle.mi_print.proofs.TreeLemmas.{tree_apart}
use Rattle.mi_print.proofs.LawLemmas.{entry_apart, head_is, apart, small_value, key_root, value_root}
use Rattle.mi_show.proofs.MachineLemmas.{starts, all_given, IsOf, are_of, entries_at, line, lines_text, front_of}
use Rattle.mi_show.proofs.KeyLemmas.{Item, Lone, in_key, values, named_value, key_item, key_items, stray_item, strays, item_text, stray_text, header, registry_spread, rest_apart, IsItem, item_apart, IsLone, lone_apart, lone_never, no_item}

some_back : {X : Type 0} → (a b : X) → Some a ≡ Some b → a ≡ b
some_back a b e = cc

-- ---- what holds of each part, where it holds of what stands in the machine

module _ (m : Machine) where
  pub each_value : (r : ℕ) (s : List ℕ) (R : Named → Type 0) → ((q : Name) (k : ValueKey) (v : RegValue) → get m q ≡ Some (entry.Value k v) → in_key r s q ≡ true → R (k.shown, v)) → AllByRecursion R (values m r s)
  each_value r s R each = all_given (λ q. named_value (get m q)) (in_key r s) R (λ q y passes at. by q (get m q) y refl passes at) (keys m)
    where
      by : (q : Name) (o : Option Entry) (y : Named) → get m q ≡ o → in_key r s q ≡ true → named_value o ≡ Some y → R y
      by q None y at passes is = absurd cc
      by q (Some (entry.Value k v)) y at passes is = subst R (some_back (k.shown, v) y is) (each q k v at passes)
      by q (Some e) y at passes is = absurd cc

  pub each_item : (R : Item → Type 0) → ((q : Name) (r : ℕ) (s : List ℕ) → get m q ≡ Some (entry.Key r s) → R ((r, s), values m r s)) → AllByRecursion R (key_items m)
  each_item R each = all_given (λ q. key_item m (get m q)) (starts 107) R (λ q y passes at. by q (get m q) y refl at) (keys m)
    where
      by : (q : Name) (o : Option Entry) (y : Item) → get m q ≡ o → key_item m o ≡ Some y → R y
      by q None y at is = absurd cc
      by q (Some (entry.Key r s)) y at is = subst R (some_back ((r, s), values m r s) y is) (each q r s at)
      by q (Some e) y at is = absurd cc

  pub each_stray : (R : Lone → Type 0) → ((q : Name) (k : ValueKey) (v : RegValue) → get m q ≡ Some (entry.Value k v) → R (k, v)) → AllByRecursion R (strays m)
  each_stray R each = all_given (λ q. stray_item m (get m q)) (starts 118) R (λ q y passes at. by q (get m q) y refl at) (keys m)
    where
      lone : (q : Name) (k : ValueKey) (v : RegValue) (y : Lone) (t : Bool) → get m q ≡ Some (entry.Value k v) → cond t (Some (k, v)) None ≡ Some y → R y
      lone q k v y true at is = subst R (some_back (k, v) y is) (each q k v at)
      lone q k v y false at is = absurd cc

      by : (q : Name) (o : Option Entry) (y : Lone) → get m q ≡ o → stray_item m o ≡ Some y → R y
      by q None y at is = absurd cc
      by q (Some (entry.Value k v)) y at is = lone q k v y (is_none (key_at m k.root k.key)) at is
      by q (Some e) y at is = absurd cc

  pub each_file : (R : FileEntry → Type 0) → ((q : Name) (f : FileEntry) → get m q ≡ Some (entry.File f) → R f) → AllByRecursion R (files_in m)
  unfolding files_in
  each_file R each = all_given (λ q. as_file (get m q)) (starts 102) R (λ q y passes at. by q (get m q) y refl at) (keys m)
    where
      by : (q : Name) (o : Option Entry) (y : FileEntry) → get m q ≡ o → as_file o ≡ Some y → R y
      by q None y at is = absurd cc
      by q (Some (entry.File f)) y at is = subst R (some_back f y is) (each q f at)
      by q (Some e) y at is = absurd cc

-- ---- values of one key

pub value_folded : (k : ValueKey) (v : RegValue) → fits (entry.Value k v) ≡ true → folded k.key ≡ k.key
unfolding fits
value_folded k v fit = (bytes_eq-Decides (folded k.key) k.key).0 (both _ _ (both _ _ (both _ _ fit).0).0).1

digits_back : (n m : ℕ) (x y : List ℕ) → n < 10000 → m < 10000 → four_digits n ++ x ≡ four_digits m ++ y → (n ≡ m) × (x ≡ y)
digits_back n m x y small low e =
    let a : 48 + n / 1000 % 10 ≡ 48 + m / 1000 % 10 = heads _ _ _ _ e in
    let e1 = tails _ _ _ _ e in
    let b : 48 + n / 100 % 10 ≡ 48 + m / 100 % 10 = heads _ _ _ _ e1 in
    let e2 = tails _ _ _ _ e1 in
    let c : 48 + n / 10 % 10 ≡ 48 + m / 10 % 10 = heads _ _ _ _ e2 in
    let e3 = tails _ _ _ _ e2 in
    let d : 48 + n % 10 ≡ 48 + m % 10 = heads _ _ _ _ e3 in
    (omega (arith, small, low, a, b, c, d), tails _ _ _ _ e3)

-- a value at a name that begins so is one of this key
pub of_key : (k : ValueKey) (v : RegValue) (r : ℕ) (s : List ℕ) → fits (entry.Value k v) ≡ true → length k.key ≤ 500 → length (folded s) ≤ 500 → in_key r s (name_of (entry.Value k v)) ≡ true → (k.root ≡ r) × (k.key ≡ folded s)
unfolding value_name
of_key k v r s fit short small begins =
    let front = value_front r (length (folded s)) (folded s) in
    let rest : List ℕ = drop (length front) (name_of (entry.Value k v)) in
    let is : value_front k.root (length k.key) (k.key ++ folded k.shown) ≡ front ++ rest = sym (ap (λ (key : List ℕ). value_front k.root (length key) (key ++ folded k.shown)) (value_folded k v fit)) ∙ starts_is (name_of (entry.Value k v)) front begins in
    let root : 48 + k.root ≡ 48 + r = heads _ _ _ _ (tails _ _ _ _ (tails _ _ _ _ is)) in
    let sized = digits_back (length k.key) (length (folded s)) (k.key ++ folded k.shown) (folded s ++ rest) (omega (arith, short)) (omega (arith, small)) (tails _ _ _ _ (tails _ _ _ _ (tails _ _ _ _ is))) in
    (omega (arith, root), (long_apart k.key (folded s) (folded k.shown) rest sized.0 sized.1).0)

-- ---- sections

section_apart : (t x y r s : List ℕ) → section t x ++ r ≡ section t y ++ s → x ++ 10 ∷ r ≡ y ++ 10 ∷ s
section_apart t x y r s e = tails 10 10 _ _ (append_cancel_left t _ _ (sym (spread_out x r) ∙ e ∙ spread_out y s))
  where
    spread_out : (z q : List ℕ) → section t z ++ q ≡ t ++ (10 ∷ (z ++ 10 ∷ q))
    spread_out z q = spread t ((10 ∷ z) ∷ (10 ∷ []) ∷ []) q

others_spread : (m : Machine) → others m ++ [] ≡ section (codes "Folders") (lines (codes "d/") m) ++ (section (codes "Registry") (registry m) ++ (section (codes "Shortcuts") (lines (codes "s/") m)
    ++ (section (codes "Environment") (lines (codes "n/") m) ++ (section (codes "Clients") (lines (codes "c/") m) ++ (section (codes "System") (lines (codes "y/") m) ++ [])))))
unfolding others
others_spread m =
    spread (section (codes "Folders") (lines (codes "d/") m))
    (section (codes "Registry") (registry m) ∷ section (codes "Shortcuts") (lines (codes "s/") m) ∷ section (codes "Environment") (lines (codes "n/") m) ∷ section (codes "Clients") (lines (codes "c/") m) ∷ section (codes "System") (lines (codes "y/") m) ∷ []) []

shown_spread : (m : Machine) → shown m ≡ section (codes "Products") (lines (codes "p/") m) ++ (section (codes "Files") (tree [] (files_in m)) ++ others m)
unfolding shown
shown_spread m = append_assoc (section (codes "Products") (lines (codes "p/") m)) (section (codes "Files") (tree [] (files_in m))) (others m)

line_apart : (c : ℕ) → eqb c 102 ≡ false → AreApart (IsOf c) line
line_apart c plain a b x y pa pb e = entry_apart a b x y pa.1 pb.1 (no_file a pa.0) (pa.0 ∙ sym pb.0) (tails 32 32 _ _ (tails 32 32 _ _ e))
  where
    no_file : (a : Entry) → letter a ≡ c → ¬ IsFile a
    no_file (entry.File f) is file = apart c 102 plain (sym is)
    no_file other is file = file

line_never : (c : ℕ) → NeverBegins (IsOf c) line 10
line_never c a x y pa e = differ 32 10 _ _ refl e

-- ---- the parts

pub record SameParts (m n : Machine) : Type 0 where
  pub products : entries_at 112 m ≡ entries_at 112 n
  pub files : files_in m ≡ files_in n
  pub folders : entries_at 100 m ≡ entries_at 100 n
  pub keys : key_items m ≡ key_items n
  pub lone : strays m ≡ strays n
  pub shortcuts : entries_at 115 m ≡ entries_at 115 n
  pub variables : entries_at 110 m ≡ entries_at 110 n
  pub clients : entries_at 99 m ≡ entries_at 99 n
  pub systems : entries_at 121 m ≡ entries_at 121 n

are_items : (c : Machine) → IsMachine c → AllByRecursion IsItem (key_items c)
unfolding IsEntry
are_items c ic = each_item c IsItem (λ q r s at. (key_root r s (ic q (entry.Key r s) at).1, each_value c r s NamedFits (λ p k v held passes. small_value v (ic p (entry.Value k v) held).1.0.2)))

are_lone : (c : Machine) → IsMachine c → AllByRecursion IsLone (strays c)
unfolding IsEntry
are_lone c ic = each_stray c IsLone (λ q k v at. let fit = (ic q (entry.Value k v) at).1 in (value_root k v fit, small_value v fit.0.2))

module _ (m n : Machine) (im : IsMachine m) (is : IsMachine n) where
  kind_apart : (c : ℕ) (r s : List ℕ) → eqb c 102 ≡ false → lines (front_of c) m ++ 10 ∷ r ≡ lines (front_of c) n ++ 10 ∷ s → (entries_at c m ≡ entries_at c n) × (r ≡ s)
  kind_apart c r s plain e =
      all_apart (IsOf c) line (line_apart c plain) 10 (line_never c) (entries_at c m) (entries_at c n) r s (are_of c m im) (are_of c n is)
      (ap (λ (l : List ℕ). l ++ 10 ∷ r) (sym (lines_text c m)) ∙ e ∙ ap (λ (l : List ℕ). l ++ 10 ∷ s) (lines_text c n))

  registry_apart : (r s : List ℕ) → registry m ++ 10 ∷ r ≡ registry n ++ 10 ∷ s → (key_items m ≡ key_items n) × (strays m ≡ strays n) × (r ≡ s)
  registry_apart r s e =
      let body = append_cancel_left header _ _ (sym (registry_spread m (10 ∷ r)) ∙ e ∙ registry_spread n (10 ∷ s)) in
      let items = rest_apart IsItem item_text item_apart (key_items m) (key_items n) _ _ (are_items m im) (are_items n is) (λ a z pa. no_item (strays m) r a z) (λ a z pa. no_item (strays n) s a z) body in
      let lone = all_apart IsLone stray_text lone_apart 10 (λ a x y pa. lone_never a x y) (strays m) (strays n) r s (are_lone m im) (are_lone n is) items.1 in
      (items.0, lone.0, lone.1)

-- a file of the machine, and one of another
abbrev OfMachine : Machine → FileEntry → Type 0
OfMachine m f = IsSmallFile f × (get m (file_name f.shown) ≡ Some (entry.File f))

are_files : (m : Machine) → IsShown m → AllByRecursion (OfMachine m) (files_in m)
are_files m is = each_file m (OfMachine m) (λ q f at. let known = is q (entry.File f) at in ((known.1, known.2), ap (λ (k : Name). get m k) known.0 ∙ at))

pub is_machine : (m : Machine) → IsShown m → IsMachine m
is_machine m is q e at = let known = is q e at in (known.0, known.1)

pub same_parts : (m n : Machine) → IsShown m → IsShown n → ToldByHash m n → shown m ≡ shown n → SameParts m n
same_parts m n im is told e =
    let mm = is_machine m im in
    let nn = is_machine n is in
    let products = kind_apart m n mm nn 112 _ _ refl (section_apart (codes "Products") (lines (codes "p/") m) (lines (codes "p/") n) _ _ (sym (shown_spread m) ∙ e ∙ shown_spread n)) in
    let files = tree_apart (OfMachine m) (OfMachine n) (λ f p. head_is f p.0) (λ g q. head_is g q.0) (λ f g p q path long hash. told (file_name f.shown) f g p.1 (ap (λ (s : List ℕ). get n (file_name s)) path ∙ q.1) long hash) [] (files_in m) (files_in n) _ _ (are_files m im) (are_files n is) (section_apart (codes "Files") (tree [] (files_in m)) (tree [] (files_in n)) _ _ products.1) in
    let folders = kind_apart m n mm nn 100 _ _ refl (section_apart (codes "Folders") (lines (codes "d/") m) (lines (codes "d/") n) _ _ (sym (others_spread m) ∙ ap (λ (l : List ℕ). l ++ []) files.1 ∙ others_spread n)) in
    let keys = registry_apart m n mm nn _ _ (section_apart (codes "Registry") (registry m) (registry n) _ _ folders.1) in
    let shortcuts = kind_apart m n mm nn 115 _ _ refl (section_apart (codes "Shortcuts") (lines (codes "s/") m) (lines (codes "s/") n) _ _ keys.2) in
    let variables = kind_apart m n mm nn 110 _ _ refl (section_apart (codes "Environment") (lines (codes "n/") m) (lines (codes "n/") n) _ _ shortcuts.1) in
    let clients = kind_apart m n mm nn 99 _ _ refl (section_apart (codes "Clients") (lines (codes "c/") m) (lines (codes "c/") n) _ _ variables.1) in
    let systems = kind_apart m n mm nn 121 _ _ refl (section_apart (codes "System") (lines (codes "y/") m) (lines (codes "y/") n) [] [] clients.1) in
    record { products = products.0; files = files.0; folders = folders.0; keys = keys.0; lone = keys.1; shortcuts = shortcuts.0; variables = variables.0; clients = clients.0; systems = systems.0 }
