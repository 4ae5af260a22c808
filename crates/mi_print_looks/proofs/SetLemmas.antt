-- Sets of names, and the trees that mean them.
use Rattle.std.proofs.Common.{◌≡◌, ℕ, ◌+◌, ◌<◌, true, false, cond, List, [], ◌∷◌, ◌++◌, map, take, length, get_or, Option, Some, Bor, refl, sym, ap, ◌∙◌, append_assoc}
use Rattle.std.specs.FinMap.{keys, insert, find, get-insert, get-from_entries}
use Rattle.std.proofs.lemmas.List.{map-append, take_more}
use Rattle.std.specs.Prelude.{String, string_bytes}
use Rattle.std.specs.declared.alloc.Global.{Global}
use Rattle.std.specs.Ordering.{nat_cmp}
use Rattle.std.specs.Cmp.Lexicographic.{slice_cmp}
use Rattle.std.specs.BTreeMap.{BTreeMap}
use Rattle.std.specs.BTreeMap as tree
use Rattle.mi_text.specs.Maps.{Name, Map, name_cmp, same_name}
use Rattle.mi_text.proofs.MapLemmas.{same, names_total}
use Rattle.mi_text.proofs.TreeLemmas.{entries-map_as}
use Rattle.mi_print_looks.specs.Sets.{name_set, set_of}

-- ---- sets of names

abbrev pub member : Name → Name × Unit {0}
member q = (q, tt)

there : Option (Unit {0})
there = Some tt

found_more : (names : List Name) (q p : Name) → find name_cmp p (map member (names ++ q ∷ [])) ≡ cond (same_name p q) (Some tt) (find name_cmp p (map member names))
unfolding there
found_more [] q p = refl
found_more (n ∷ names) q p =
    elim (same_name p n) as (λ b. cond b there (find name_cmp p (map member (names ++ q ∷ []))) ≡ cond (same_name p q) there (cond b there (find name_cmp p (map member names)))) [
      | true ↦ elim (same_name p q) as (λ c. there ≡ cond c there there) [ true ↦ refl | false ↦ refl ]
      | false ↦ found_more names q p
    ]

set_more : (names : List Name) (q : Name) → insert (name_set names) q tt ≡ name_set (names ++ q ∷ [])
set_more names q = same (insert (name_set names) q tt) (name_set (names ++ q ∷ [])) (λ p.
    get-insert names_total (name_set names) q tt p
    ∙ ap (cond (same_name p q) (Some tt)) (get-from_entries names_total (map member names) p)
    ∙ sym (get-from_entries names_total (map member (names ++ q ∷ [])) p ∙ found_more names q p))

abbrev pub now_of : Bor (List ℕ) → List ℕ
now_of n = n.now

pub set_step : (had : List Name) (names : List (Bor (List ℕ))) (i : ℕ) (d : Bor (List ℕ)) (s new : Map (Unit {0})) → i < length names
    → s ≡ name_set (had ++ map now_of (take i names)) → new ≡ insert s (get_or names i d).now tt → new ≡ name_set (had ++ map now_of (take (i + 1) names))
set_step had names i d s new lt so adds =
    adds
    ∙ ap (λ (m : Map (Unit {0})). insert m (get_or names i d).now tt) so
    ∙ set_more (had ++ map now_of (take i names)) (get_or names i d).now
    ∙ ap name_set (append_assoc had (map now_of (take i names)) ((get_or names i d).now ∷ []) ∙ ap (λ (l : List Name). had ++ l) (sym (ap (map now_of) (take_more names i d lt) ∙ map-append now_of (take i names) (get_or names i d ∷ []))))

-- ---- the tree of a set

firsts : (es : List (String Global × Unit {0})) → map (λ (e : Name × Unit {0}). e.0) (map (λ (e : String Global × Unit {0}). (string_bytes e.0, e.1)) es) ≡ map (λ (e : String Global × Unit {0}). string_bytes e.0) es
firsts [] = refl
firsts (e ∷ es) = ap (λ (l : List Name). string_bytes e.0 ∷ l) (firsts es)

-- the names of a tree, in order
pub tree_names : (m : BTreeMap (String Global) (Unit {0})) (s : Map (Unit {0})) → set_of m.entries ≡ s → tree.IsOrdered (λ a b. slice_cmp nat_cmp (string_bytes a) (string_bytes b)) m → map (λ (e : String Global × Unit {0}). string_bytes e.0) m.entries ≡ keys s
tree_names m s is ordered = sym (ap (map (λ (e : Name × Unit {0}). e.0)) (entries-map_as (λ (k : String Global). string_bytes k) m ordered) ∙ firsts m.entries) ∙ ap (λ (t : Map (Unit {0})). keys t) is

pub list_more : (list more : List (Bor (List ℕ))) (iter rest : List (String Global × Unit {0})) (k : String Global) (x : Unit {0}) (n : Bor (List ℕ)) (all : List Name)
    → iter ≡ (k, x) ∷ rest → n.now ≡ string_bytes k → more ≡ list ++ n ∷ []
    → map now_of list ++ map (λ (e : String Global × Unit {0}). string_bytes e.0) iter ≡ all → map now_of more ++ map (λ (e : String Global × Unit {0}). string_bytes e.0) rest ≡ all
list_more list more iter rest k x n all is named adds so =
    let seen : String Global × Unit {0} → Name = λ e. string_bytes e.0 in
    ap (λ (l : List (Bor (List ℕ))). map now_of l ++ map seen rest) adds
    ∙ ap (λ (l : List Name). l ++ map seen rest) (map-append now_of list (n ∷ []))
    ∙ append_assoc (map now_of list) (n.now ∷ []) (map seen rest)
    ∙ ap (λ (v : Name). map now_of list ++ v ∷ map seen rest) named
    ∙ sym (ap (λ (es : List (String Global × Unit {0})). map now_of list ++ map seen es) is)
    ∙ so
