-- Two entries with one line are one, and two lists of files with one tree.
use Rattle.std.proofs.Common.{◌≡◌, ℕ, ◌<◌, true, false, eqb, List, [], ◌∷◌, ◌++◌, refl, sym, ap, ◌∙◌, eq-eqb, ltb-true, append_assoc}
use Rattle.std.specs.List.{AllByRecursion}
use Rattle.mi_text.proofs.ByteLemmas.{both}
use Rattle.mi_base.specs.declared.entry.FileEntry.{FileEntry}
use Rattle.mi_base.specs.declared.entry.RegValue.{RegValue}
use Rattle.mi_base.specs.declared.entry.RegValue.TheVariants as value
use Rattle.mi_base.specs.declared.entry.ValueKey.{ValueKey}
use Rattle.mi_base.specs.declared.entry.Entry.{Entry}
use Rattle.mi_base.specs.declared.entry.Entry.TheVariants as entry
use Rattle.mi_base.specs.Limits.{fits, IsEntry, IsRegValue}
use Rattle.mi_base.specs.Spelling.{head_of}
use Rattle.mi_base.specs.Machine.{Fits}
use Rattle.mi_print.specs.Registry.{key_text, value_line}
use Rattle.mi_print.specs.Entries.{other_line}
use Rattle.mi_print.specs.Laws.{letter, IsFile, LinesAreExact, IsSmallFile, IsToldByHash, TreesAreExact}
use Rattle.mi_print.proofs.LineLemmas.{IsHead, product_apart, folder_apart, client_apart, variable_apart, system_apart, tails}
use Rattle.mi_print.proofs.RegistryLemmas.{Fits32, shortcut_apart, key_apart, key_line_apart, value_apart}
use Rattle.mi_print.proofs.TreeLemmas.{tree_apart}

pub apart : (a b : ℕ) → eqb a b ≡ false → ¬ (a ≡ b)
apart a b other e = let z : true ≡ false = sym (eq-eqb a b e) ∙ other in cc

behind : (a b : List ℕ) → a ≡ b → a ++ 10 ∷ [] ≡ b ++ 10 ∷ []
behind a b e = ap (λ (l : List ℕ). l ++ 10 ∷ []) e

pub small_value : (v : RegValue) → IsRegValue v → Fits32 v
small_value (value.Text t) is = tt
small_value (value.Expand t) is = tt
small_value (value.Int n) is = is
small_value (value.Binary b) is = tt
small_value (value.List ts) is = tt

pub key_root : (r : ℕ) (t : List ℕ) → Fits (entry.Key r t) → r < 4
unfolding fits
key_root r t fit = ltb-true r 4 (both _ _ fit.1).0

pub value_root : (k : ValueKey) (v : RegValue) → Fits (entry.Value k v) → k.root < 4
unfolding fits
value_root k v fit = ltb-true k.root 4 (both _ _ (both _ _ (both _ _ (both _ _ fit.1).0).0).0).0

-- entries of one kind with one line, and what stands behind
pub entry_apart : (e f : Entry) (x y : List ℕ) → Fits e → Fits f → ¬ IsFile e → letter e ≡ letter f → other_line e ++ x ≡ other_line f ++ y → (e ≡ f) × (x ≡ y)
unfolding other_line IsEntry
entry_apart (entry.File f) (entry.File g) x y ie jf plain same e = absurd (plain tt)
entry_apart (entry.Folder s) (entry.Folder t) x y ie jf plain same e = let all = folder_apart s t x y tt tt e in (ap (λ (p : List ℕ). entry.Folder p) all.0, all.1)
entry_apart (entry.Value k v) (entry.Value l w) x y ie jf plain same e =
    let key = key_apart k.root l.root k.key l.key _ _ (value_root k v ie) (value_root l w jf) (sym (append_assoc (key_text k.root k.key) (32 ∷ value_line k.shown v) x) ∙ e ∙ append_assoc (key_text l.root l.key) (32 ∷ value_line l.shown w) y) in
    let held = value_apart k.shown l.shown v w x y (small_value v ie.0.2) (small_value w jf.0.2) (tails 32 32 _ _ key.1) in
    (λ i. entry.Value (record { root = key.0.0 i; key = key.0.1 i; shown = held.0.0 i }) (held.0.1 i), held.1)
entry_apart (entry.Key r s) (entry.Key q t) x y ie jf plain same e =
    let key = key_line_apart r q s t x y (key_root r s ie) (key_root q t jf) e in
    (λ i. entry.Key (key.0.0 i) (key.0.1 i), key.1)
entry_apart (entry.Shortcut s) (entry.Shortcut t) x y ie jf plain same e =
    let all = shortcut_apart s t x y (record { hotkey = ie.0.4; icon_index = ie.0.6; show = ie.0.7 }) (record { hotkey = jf.0.4; icon_index = jf.0.6; show = jf.0.7 }) e in
    (ap entry.Shortcut all.0, all.1)
entry_apart (entry.Variable v) (entry.Variable w) x y ie jf plain same e = let all = variable_apart v w x y tt tt e in (ap entry.Variable all.0, all.1)
entry_apart (entry.Client c) (entry.Client d) x y ie jf plain same e =
    let all = client_apart c d x y (record { component = ie.0.0; product = ie.0.1 }) (record { component = jf.0.0; product = jf.0.1 }) e in
    (ap entry.Client all.0, all.1)
entry_apart (entry.Product p) (entry.Product q) x y ie jf plain same e =
    let all = product_apart p q x y (record { code = ie.0.0; version = ie.0.2; language = ie.0.3 }) (record { code = jf.0.0; version = jf.0.2; language = jf.0.3 }) e in
    (ap entry.Product all.0, all.1)
entry_apart (entry.System p s) (entry.System q t) x y ie jf plain same e = let all = system_apart p q s t x y e in (λ i. entry.System (all.0.0 i) (all.0.1 i), all.1)
entry_apart e f x y ie jf plain same is = absurd (apart (letter e) (letter f) refl same)

pub lines_exact : LinesAreExact
lines_exact e f ie jf plain same is = (entry_apart e f (10 ∷ []) (10 ∷ []) ie jf plain same (behind _ _ is)).0

pub head_is : (f : FileEntry) → IsSmallFile f → IsHead (head_of f)
unfolding fits IsEntry
head_is f small = record {
  version = small.0.0.1;
  languages = small.0.0.2;
  attributes = ltb-true f.attributes 8 (both _ _ small.0.1).1;
  created = small.0.0.3;
  modified = small.0.0.4;
  length = small.1;
}

-- a file of the one list, and one of the other
abbrev OfOne : List FileEntry → FileEntry → Type 0
OfOne gs f = IsSmallFile f × AllByRecursion (λ g. IsToldByHash f g) gs

abbrev OfOther : List FileEntry → FileEntry → Type 0
OfOther gs g = IsSmallFile g × ((f : FileEntry) → AllByRecursion (λ h. IsToldByHash f h) gs → IsToldByHash f g)

ones : (gs fs : List FileEntry) → AllByRecursion IsSmallFile fs → AllByRecursion (λ f. AllByRecursion (λ g. IsToldByHash f g) gs) fs → AllByRecursion (OfOne gs) fs
ones gs [] small told = tt
ones gs (f ∷ fs) small told = ((small.0, told.0), ones gs fs small.1 told.1)

others : (gs hs : List FileEntry) → AllByRecursion IsSmallFile hs → ((f : FileEntry) → AllByRecursion (λ h. IsToldByHash f h) gs → AllByRecursion (λ h. IsToldByHash f h) hs) → AllByRecursion (OfOther gs) hs
others gs [] small into = tt
others gs (h ∷ hs) small into = ((small.0, λ f all. (into f all).0), others gs hs small.1 (λ f all. (into f all).1))

pub trees_exact : TreesAreExact
trees_exact fs gs small other told e =
    (tree_apart (OfOne gs) (OfOther gs) (λ f p. head_is f p.0) (λ g q. head_is g q.0) (λ f g p q path long hash. q.1 f p.1 long hash) [] fs gs [] [] (ones gs fs small told) (others gs gs other (λ f all. all)) (ap (λ (l : List ℕ). l ++ 10 ∷ []) e)).0
