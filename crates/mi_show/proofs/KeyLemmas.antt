-- The registry of a machine is read back from its print.
use Rattle.std.proofs.Common.{◌≡◌, ℕ, ◌<◌, Bool, true, false, cond, List, [], ◌∷◌, ◌++◌, length, Option, Some, None, refl, sym, ap, ◌∙◌, append_assoc, codes}
use Rattle.std.specs.Prelude.{nat_eq, is_none}
use Rattle.std.specs.List.{flat_map, starts_with, AllByRecursion}
use Rattle.std.specs.FinMap.{get, keys}
use Rattle.std.proofs.lemmas.List.{append_cancel_left}
use Rattle.mi_text.specs.Fold.{folded}
use Rattle.mi_text.specs.Maps.{Name}
use Rattle.mi_base.specs.declared.entry.RegValue.{RegValue}
use Rattle.mi_base.specs.declared.entry.ValueKey.{ValueKey}
use Rattle.mi_base.specs.declared.entry.Entry.{Entry}
use Rattle.mi_base.specs.declared.entry.Entry.TheVariants as entry
use Rattle.mi_base.specs.Machine.{Machine, key_at}
use Rattle.mi_image.specs.Fronts.{value_front}
use Rattle.mi_print.specs.Registry.{key_line, exported, stray}
use Rattle.mi_print_looks.specs.Sets.{names_of}
use Rattle.mi_print_looks.specs.Strays.{stray_at}
use Rattle.mi_show.specs.Prints.{exported_at, values_of, key_with_values, registry}
use Rattle.mi_print.proofs.CodeLemmas.{AreApart, all_apart}
use Rattle.mi_print.proofs.LineLemmas.{spread, tails}
use Rattle.mi_print.proofs.RegistryLemmas.{differ, Fits32, key_line_apart, Named, NamedFits, exported_named, exported_apart, exported_never}
use Rattle.mi_show.proofs.MachineLemmas.{starts, given, given_text, text_or_none}

-- items, and a rest that no item begins
module _ {X : Type 0} (P : X → Type 0) (text : X → List ℕ) (apart : AreApart P text) where
  abbrev NoItem : List ℕ → Type 0
  NoItem r = (a : X) (z : List ℕ) → P a → ¬ (text a ++ z ≡ r)

  pub rest_apart : (us vs : List X) (r s : List ℕ) → AllByRecursion P us → AllByRecursion P vs → NoItem r → NoItem s → flat_map text us ++ r ≡ flat_map text vs ++ s → (us ≡ vs) × (r ≡ s)
  rest_apart [] [] r s pu pv nr ns e = (refl, e)
  rest_apart [] (v ∷ vs) r s pu pv nr ns e = absurd (nr v _ pv.0 (sym (append_assoc (text v) (flat_map text vs) s) ∙ sym e))
  rest_apart (u ∷ us) [] r s pu pv nr ns e = absurd (ns u _ pu.0 (sym (append_assoc (text u) (flat_map text us) r) ∙ e))
  rest_apart (u ∷ us) (v ∷ vs) r s pu pv nr ns e =
      let first = apart u v _ _ pu.0 pv.0 (sym (append_assoc (text u) (flat_map text us) r) ∙ e ∙ append_assoc (text v) (flat_map text vs) s) in
      let rest = rest_apart us vs r s pu.1 pv.1 nr ns first.1 in
      (λ i. first.0 i ∷ rest.0 i, rest.1)

-- ---- keys with their values

abbrev pub named_value : Option Entry → Option Named
named_value (Some (entry.Value k v)) = Some (k.shown, v)
named_value other = None

abbrev pub Item : Type 0
Item = (ℕ × List ℕ) × List Named

abbrev pub in_key : ℕ → List ℕ → Name → Bool
in_key r s q = starts_with nat_eq q (value_front r (length (folded s)) (folded s))

abbrev pub values : Machine → ℕ → List ℕ → List Named
values m r s = given (λ q. named_value (get m q)) (in_key r s) (keys m)

abbrev pub key_item : Machine → Option Entry → Option Item
key_item m (Some (entry.Key r s)) = Some ((r, s), values m r s)
key_item m other = None

abbrev pub item_text : Item → List ℕ
item_text i = key_line i.0.0 i.0.1 ++ flat_map exported_named i.1 ++ 10 ∷ []

abbrev pub key_items : Machine → List Item
key_items m = given (λ q. key_item m (get m q)) (starts 107) (keys m)

value_text : (m : Machine) (r : ℕ) (s : List ℕ) (o : Option Entry) → exported_at o ≡ text_or_none (λ q. named_value (get m q)) (in_key r s) exported_named (named_value o)
value_text m r s None = refl
value_text m r s (Some (entry.File f)) = refl
value_text m r s (Some (entry.Folder t)) = refl
value_text m r s (Some (entry.Value k v)) = refl
value_text m r s (Some (entry.Key q t)) = refl
value_text m r s (Some (entry.Shortcut t)) = refl
value_text m r s (Some (entry.Variable t)) = refl
value_text m r s (Some (entry.Client t)) = refl
value_text m r s (Some (entry.Product t)) = refl
value_text m r s (Some (entry.System p t)) = refl

values_text : (m : Machine) (r : ℕ) (s : List ℕ) → flat_map (λ q. exported_at (get m q)) (values_of r s m) ≡ flat_map exported_named (values m r s)
values_text m r s = given_text (λ q. named_value (get m q)) (in_key r s) exported_named (λ q. exported_at (get m q)) (keys m) (λ q there passes. value_text m r s (get m q))

key_text : (m : Machine) (o : Option Entry) → key_with_values m o ≡ text_or_none (λ q. key_item m (get m q)) (starts 107) item_text (key_item m o)
key_text m None = refl
key_text m (Some (entry.File f)) = refl
key_text m (Some (entry.Folder t)) = refl
key_text m (Some (entry.Value k v)) = refl
key_text m (Some (entry.Key r s)) = ap (λ (l : List ℕ). key_line r s ++ l ++ 10 ∷ []) (values_text m r s)
key_text m (Some (entry.Shortcut t)) = refl
key_text m (Some (entry.Variable t)) = refl
key_text m (Some (entry.Client t)) = refl
key_text m (Some (entry.Product t)) = refl
key_text m (Some (entry.System p t)) = refl

-- ---- values whose keys aren't recorded

abbrev pub Lone : Type 0
Lone = ValueKey × RegValue

abbrev pub stray_item : Machine → Option Entry → Option Lone
stray_item m (Some (entry.Value k v)) = cond (is_none (key_at m k.root k.key)) (Some (k, v)) None
stray_item m other = None

abbrev pub stray_text : Lone → List ℕ
stray_text s = stray s.0.root s.0.key s.0.shown s.1

abbrev pub strays : Machine → List Lone
strays m = given (λ q. stray_item m (get m q)) (starts 118) (keys m)

lone_text : (m : Machine) (o : Option Entry) → stray_at m o ≡ text_or_none (λ q. stray_item m (get m q)) (starts 118) stray_text (stray_item m o)
lone_text m None = refl
lone_text m (Some (entry.File f)) = refl
lone_text m (Some (entry.Folder t)) = refl
lone_text m (Some (entry.Value k v)) = by_test (is_none (key_at m k.root k.key))
  where
    by_test : (t : Bool) → cond t (stray k.root k.key k.shown v) [] ≡ text_or_none (λ q. stray_item m (get m q)) (starts 118) stray_text (cond t (Some (k, v)) None)
    by_test true = refl
    by_test false = refl
lone_text m (Some (entry.Key q t)) = refl
lone_text m (Some (entry.Shortcut t)) = refl
lone_text m (Some (entry.Variable t)) = refl
lone_text m (Some (entry.Client t)) = refl
lone_text m (Some (entry.Product t)) = refl
lone_text m (Some (entry.System p t)) = refl

abbrev pub header : List ℕ
header = codes "Windows Registry Editor Version 5.00\n\n"

pub registry_spread : (m : Machine) (x : List ℕ) → registry m ++ x ≡ header ++ (flat_map item_text (key_items m) ++ (flat_map stray_text (strays m) ++ x))
unfolding registry
registry_spread m x =
    spread header (flat_map (λ q. key_with_values m (get m q)) (names_of (codes "k/") m) ∷ flat_map (λ q. stray_at m (get m q)) (names_of (codes "v/") m) ∷ []) x
    ∙ (λ i. header ++ (given_text (λ q. key_item m (get m q)) (starts 107) item_text (λ q. key_with_values m (get m q)) (keys m) (λ q there passes. key_text m (get m q)) i
    ++ (given_text (λ q. stray_item m (get m q)) (starts 118) stray_text (λ q. stray_at m (get m q)) (keys m) (λ q there passes. lone_text m (get m q)) i ++ x)))

-- ---- apart

abbrev pub IsItem : Item → Type 0
IsItem i = (i.0.0 < 4) × AllByRecursion NamedFits i.1

item_spread : (i : Item) (x : List ℕ) → item_text i ++ x ≡ key_line i.0.0 i.0.1 ++ (flat_map exported_named i.1 ++ 10 ∷ x)
item_spread i x = spread (key_line i.0.0 i.0.1) (flat_map exported_named i.1 ∷ (10 ∷ []) ∷ []) x

pub item_apart : AreApart IsItem item_text
item_apart a b x y pa pb e =
    let key = key_line_apart a.0.0 b.0.0 a.0.1 b.0.1 _ _ pa.0 pb.0 (sym (item_spread a x) ∙ e ∙ item_spread b y) in
    let held = all_apart NamedFits exported_named exported_apart 10 (exported_never 10 refl refl refl) a.1 b.1 x y pa.1 pb.1 key.1 in
    (λ i. ((key.0.0 i, key.0.1 i), held.0 i), held.1)

abbrev pub IsLone : Lone → Type 0
IsLone s = (s.0.root < 4) × Fits32 s.1

lone_spread : (s : Lone) (x : List ℕ) → stray_text s ++ x ≡ codes "; not recorded:\n" ++ (key_line s.0.root s.0.key ++ (exported_named (s.0.shown, s.1) ++ 10 ∷ x))
unfolding stray
lone_spread s x = spread (codes "; not recorded:\n") (key_line s.0.root s.0.key ∷ exported s.0.shown s.1 ∷ (10 ∷ []) ∷ []) x

pub lone_apart : AreApart IsLone stray_text
lone_apart a b x y pa pb e =
    let key = key_line_apart a.0.root b.0.root a.0.key b.0.key _ _ pa.0 pb.0 (append_cancel_left (codes "; not recorded:\n") _ _ (sym (lone_spread a x) ∙ e ∙ lone_spread b y)) in
    let held = exported_apart (a.0.shown, a.1) (b.0.shown, b.1) _ _ pa.1 pb.1 key.1 in
    (λ i. (record { root = key.0.0 i; key = key.0.1 i; shown = (held.0 i).0 }, (held.0 i).1), tails 10 10 x y held.1)

pub lone_never : (s : Lone) (x y : List ℕ) → ¬ (stray_text s ++ x ≡ 10 ∷ y)
lone_never s x y e = differ 59 10 _ _ refl (sym (lone_spread s x) ∙ e)

item_head : (i : Item) (x : List ℕ) → (z : List ℕ) × (item_text i ++ x ≡ 91 ∷ z)
unfolding key_line Rattle.mi_print.specs.Registry.key_text
item_head i x = (_, refl)

pub no_item : (ss : List Lone) (x : List ℕ) (a : Item) (z : List ℕ) → ¬ (item_text a ++ z ≡ flat_map stray_text ss ++ 10 ∷ x)
no_item [] x a z e = differ 91 10 _ _ refl (sym (item_head a z).1 ∙ e)
no_item (s ∷ ss) x a z e = differ 91 59 _ _ refl (sym (item_head a z).1 ∙ e ∙ append_assoc (stray_text s) (flat_map stray_text ss) (10 ∷ x) ∙ lone_spread s (flat_map stray_text ss ++ 10 ∷ x))
