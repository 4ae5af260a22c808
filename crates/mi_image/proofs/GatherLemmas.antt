-- What a scan gathers: of pairs in the order in which they came, the last one of a name stands.
use Rattle.std.proofs.Common.{◌≡◌, Bool, true, false, cond, List, [], ◌∷◌, ◌++◌, Option, Some, None, refl, sym, ap, subst, ◌∙◌}
use Rattle.std.specs.Prelude.{reverse, string_bytes}
use Rattle.std.specs.Option.{option_map, option_or}
use Rattle.std.specs.Cmp.{eq_by_cmp_equiv}
use Rattle.std.specs.Cmp.Lexicographic.{nat_list_cmp_total}
use Rattle.std.specs.Ordering.{eq_by_cmp}
use Rattle.std.specs.FinMap.{insert}
use Rattle.std.specs.BTreeMap.{BTreeMap, IsFromIterResult}
use Rattle.std.specs.Map.{lookup, update, update_all}
use Rattle.std.proofs.lemmas.List.{reverse-append}
use Rattle.mi_text.specs.Maps.{Name, same_name}
use Rattle.mi_text.proofs.MapLemmas.{same, from_same, get-set_to}
use Rattle.mi_text.proofs.TreeLemmas.{at_as, cmp_as}
use Rattle.mi_image.specs.Items.{Boxed, unboxed, items_of}
use Rattle.mi_image.proofs.ItemLemmas.{Key, key_cmp, get-items}

-- ---- look-ups

lookup_push : {K X : Type 0} (test : K → Bool) (es : List (K × X)) (p : K × X) → lookup test (es ++ p ∷ []) ≡ option_or (lookup test es) (cond (test p.0) (Some p.1) None)
lookup_push test [] p = refl
lookup_push test (e ∷ es) p =
    elim (test e.0) as (λ b. cond b (Some e.1) (lookup test (es ++ p ∷ [])) ≡ option_or (cond b (Some e.1) (lookup test es)) (cond (test p.0) (Some p.1) None)) [
      | true ↦ refl
      | false ↦ lookup_push test es p
    ]

regroup : {X : Type 0} (o : Option X) (b : Bool) (x : X) (d : Option X) → option_or o (cond b (Some x) d) ≡ option_or (option_or o (cond b (Some x) None)) d
regroup (Some y) b x d = refl
regroup None true x d = refl
regroup None false x d = refl

-- pairs that are inserted in turn, the last ones first
in_turn : {K X : Type 0} (seen : K → Name) (f : K → Option X) (xs : List (K × X)) (k : K) → update_all (eq_by_cmp (cmp_as seen)) f xs k ≡ option_or (lookup (at_as seen (seen k)) (reverse xs)) (f k)
in_turn seen f [] k = refl
in_turn seen f (p ∷ xs) k =
    in_turn seen (update (eq_by_cmp (cmp_as seen)) f p.0 (Some p.1)) xs k
    ∙ ap (λ b. option_or (lookup (at_as seen (seen k)) (reverse xs)) (cond b (Some p.1) (f k))) ((eq_by_cmp_equiv nat_list_cmp_total).symm (seen p.0) (seen k))
    ∙ regroup (lookup (at_as seen (seen k)) (reverse xs)) (at_as seen (seen k) p.0) p.1 (f k)
    ∙ sym (ap (λ o. option_or o (f k)) (ap (lookup (at_as seen (seen k))) (reverse-append (p ∷ []) xs) ∙ lookup_push (at_as seen (seen k)) (reverse xs) p))

or_none : {X : Type 0} (o : Option X) → option_or o None ≡ o
or_none None = refl
or_none (Some x) = refl

-- a key that is found at a name is seen as it
found_key : {K X : Type 0} (seen : K → Name) (q : Name) (es : List (K × X)) (x : X) → lookup (at_as seen q) es ≡ Some x → (k : K) × (q ≡ seen k)
found_key seen q [] x is = absurd cc
found_key {K} {X} seen q (e ∷ es) x is =
    elim (at_as seen q e.0) as (λ b. at_as seen q e.0 ≡ b → cond b (Some e.1) (lookup (at_as seen q) es) ≡ Some x → (k : K) × (q ≡ seen k)) [
      | true ↦ λ b h. (e.0, from_same q (seen e.0) b)
      | false ↦ λ b h. found_key seen q es x h
    ] refl is

-- the tree of these pairs has at each name what its last one has
made_at : {K X : Type 0} (seen : K → Name) (xs : List (K × X)) (n : BTreeMap K X) → IsFromIterResult (cmp_as seen) xs n → (q : Name) → lookup (at_as seen q) n.entries ≡ lookup (at_as seen q) (reverse xs)
made_at {K} {X} seen xs n made q = by_found (lookup (at_as seen q) n.entries) (lookup (at_as seen q) (reverse xs)) refl refl
  where
    at_key : (k : K) → q ≡ seen k → lookup (at_as seen q) n.entries ≡ lookup (at_as seen q) (reverse xs)
    at_key k is = subst (λ (m : Name). lookup (at_as seen m) n.entries ≡ lookup (at_as seen m) (reverse xs)) (sym is) (made.0 k ∙ in_turn seen (λ _. None) xs k ∙ or_none (lookup (at_as seen (seen k)) (reverse xs)))

    by_found : (a b : Option X) → lookup (at_as seen q) n.entries ≡ a → lookup (at_as seen q) (reverse xs) ≡ b → a ≡ b
    by_found None None at_a at_b = refl
    by_found (Some x) b at_a at_b = let k = found_key seen q n.entries x at_a in sym at_a ∙ at_key k.0 k.1 ∙ at_b
    by_found None (Some x) at_a at_b = let k = found_key seen q (reverse xs) x at_b in sym at_a ∙ at_key k.0 k.1 ∙ at_b

-- ---- items

-- the items of the tree of these pairs
pub made_of : (xs : List (Key × Boxed)) (n : BTreeMap Key Boxed) → IsFromIterResult key_cmp xs n → items_of n.entries ≡ items_of (reverse xs)
made_of xs n made = same _ _ (λ q. get-items n.entries q ∙ ap (option_map unboxed) (made_at (λ (k : Key). string_bytes k) xs n made q) ∙ sym (get-items (reverse xs) q))

-- one pair more
pub put_last : (xs : List (Key × Boxed)) (p : Key × Boxed) → items_of (reverse (xs ++ p ∷ [])) ≡ insert (items_of (reverse xs)) (string_bytes p.0) (unboxed p.1)
put_last xs p =
    ap items_of (reverse-append xs (p ∷ []))
    ∙ same _ _ (λ q.
    get-items (p ∷ reverse xs) q
    ∙ either (same_name q (string_bytes p.0)) (lookup (at_as (λ (k : Key). string_bytes k) q) (reverse xs))
    ∙ sym (get-set_to (items_of (reverse xs)) (string_bytes p.0) (Some (unboxed p.1)) q ∙ ap (cond (same_name q (string_bytes p.0)) (Some (unboxed p.1))) (get-items (reverse xs) q)))
  where
    either : (b : Bool) (o : Option Boxed) → option_map unboxed (cond b (Some p.1) o) ≡ cond b (Some (unboxed p.1)) (option_map unboxed o)
    either true o = refl
    either false o = refl
