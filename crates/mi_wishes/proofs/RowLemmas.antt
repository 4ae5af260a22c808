-- Rows of a package by their keys.
use Rattle.std.proofs.Common.{◌≡◌, suc, ◌||◌, Bool, true, false, cond, List, [], ◌∷◌, Option, Some, refl, sym, ap, ◌∙◌, arith, ◌++◌, map, append_assoc}
use Rattle.std.specs.Prelude.{All, nat_eq}
use Rattle.std.specs.List.{list_any}
use Rattle.std.specs.Map.{lookup, keys_of, update}
use Rattle.std.specs.Str.{bytes_eq}
use Rattle.std.specs.Cmp.Lexicographic.{pointwise}
use Rattle.std.specs.Ordering.{is_eq, ordering_reverse}
use Rattle.std.specs.declared.cmp.Ordering.{Ordering}
use Rattle.std.specs.declared.cmp.Ordering.TheVariants.{Less, Equal, Greater}
use Rattle.std.proofs.lemmas.Map.Text.{is_eq-slice_cmp}
use Rattle.mi_text.specs.Maps.{Name, name_cmp, same_name, is_among}
use Rattle.mi_text.proofs.MapLemmas.{names_total}
use Rattle.mi_schema.specs.RowsOf.{behind}
use Rattle.mi_schema.specs.TableRows.{row_of}
use Rattle.mi_schema.proofs.CheckLemmas.{same_is}
use Rattle.mi_model.specs.FeatureLists.{is_all}
use Rattle.mi_wishes.specs.Lists.{names_feature}

-- what a table has at a key is the row of the key
pub lookup-row : {R : Type 0} (key : R → Name) (entries : List (Name × R)) → All (λ e. e.0 ≡ key e.1) entries → (q : Name) → lookup (pointwise nat_eq q) entries ≡ row_of key (behind entries) q
lookup-row key [] own q = refl
lookup-row key (e ∷ es) own q =
    ap (λ b. cond b (Some e.1) (lookup (pointwise nat_eq q) es)) (same_is q e.0 ∙ ap (same_name q) (own 0 e (omega arith)))
    ∙ ap (cond (same_name q (key e.1)) (Some e.1)) (lookup-row key es (λ n d lt. own (suc n) d (omega arith)) q)

turned : (o : Ordering) → is_eq (ordering_reverse o) ≡ is_eq o
turned Less = refl
turned Equal = refl
turned Greater = refl

pub same_both_ways : (a b : Name) → same_name a b ≡ same_name b a
same_both_ways a b = ap is_eq (names_total.antisymm a b) ∙ turned (name_cmp b a)

-- a list names a feature where an item names all, or the feature is among the items
pub names-among : (items : List Name) (q : Name) → list_any (names_feature q) items ≡ (list_any is_all items || is_among q items)
names-among [] q = refl
names-among (x ∷ xs) q = ap (λ b. (is_all x || b) || list_any (names_feature q) xs) (same_both_ways x q) ∙ ap (λ b. (is_all x || same_name q x) || b) (names-among xs q) ∙ shuffled (is_all x) (same_name q x) (list_any is_all xs) (is_among q xs)
  where
    shuffled : (a b c d : Bool) → ((a || b) || (c || d)) ≡ ((a || c) || (b || d))
    shuffled true b c d = refl
    shuffled false true true d = refl
    shuffled false true false d = refl
    shuffled false false c d = refl

-- ---- what a loop over rows makes of each

pub mapped_none : {R A : Type 0} (f : R → A) (made : List A) (s all : List R) → made ≡ [] → s ≡ all → made ++ map f s ≡ map f all
mapped_none f made s all none is = ap (λ (l : List _). l ++ map f s) none ∙ ap (map f) is

pub mapped_more : {R A : Type 0} (f : R → A) (made next : List A) (all s t : List R) (r : R) (a : A) → made ++ map f s ≡ map f all → s ≡ r ∷ t → next ≡ made ++ a ∷ [] → a ≡ f r → next ++ map f t ≡ map f all
mapped_more f made next all s t r a so is at here =
    ap (λ (l : List _). l ++ map f t) at ∙ append_assoc made (a ∷ []) (map f t) ∙ ap (λ (x : _). made ++ x ∷ map f t) here ∙ sym (ap (λ (l : List _). made ++ map f l) is) ∙ so

pub keys-own : {R : Type 0} (key : R → Name) (entries : List (Name × R)) → All (λ e. e.0 ≡ key e.1) entries → keys_of entries ≡ map key (behind entries)
keys-own key [] own = refl
keys-own key (e ∷ es) own = ap (λ k. k ∷ keys_of es) (own 0 e (omega arith)) ∙ ap (λ ks. key e.1 ∷ ks) (keys-own key es (λ n d lt. own (suc n) d (omega arith)))

-- an update at a name, as names are compared
pub updated_at : {X : Type 0} (f : Name → Option X) (q n : Name) (w : Option X) → update bytes_eq f n w q ≡ cond (same_name q n) w (f q)
updated_at f q n w = ap (λ b. cond b w (f q)) (sym (is_eq-slice_cmp n q) ∙ same_both_ways n q)
