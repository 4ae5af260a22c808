-- The properties that the program's map means.
use Rattle.std.proofs.Common.{◌≡◌, Bool, true, false, cond, List, [], ◌∷◌, ◌++◌, reverse, Option, Some, None, refl, sym, ap, ◌∙◌}
use Rattle.std.specs.Prelude.{string_bytes, String}
use Rattle.std.specs.Option.{option_or}
use Rattle.std.specs.declared.alloc.Global.{Global}
use Rattle.std.specs.Ordering.{nat_cmp}
use Rattle.std.specs.Cmp.Lexicographic.{slice_cmp}
use Rattle.std.specs.FinMap.{get, insert, empty, find, get-from_entries, get-insert, get-empty}
use Rattle.std.specs.BTreeMap.{BTreeMap}
use Rattle.std.specs.BTreeMap as tree
use Rattle.std.specs.Map.{lookup}
use Rattle.std.specs.String.{string_cmp}
use Rattle.std.proofs.lemmas.List.{reverse-append}
use Rattle.mi_text.specs.Maps.{Name, name_cmp, same_name}
use Rattle.mi_text.proofs.MapLemmas.{names_total, same}
use Rattle.mi_text.proofs.TreeLemmas.{at_as, get-map_as, stored_as}
use Rattle.mi_props.specs.Props.{Value, Values, values_of, given, first_value, started}

-- what stands at a name
pub get-values_of : (es : List (String Global × Value)) (q : Name) → get (values_of es) q ≡ lookup (at_as string_bytes q) es
get-values_of es q = get-map_as string_bytes es q

-- maps of the program that differ at one name mean maps that differ there
pub one_put : (m n : BTreeMap (String Global) Value) (k : Name) (v : Value) → tree.UpdatesBy string_cmp (λ s. slice_cmp nat_cmp k (string_bytes s)) m n (Some v)
    → values_of n.entries ≡ insert (values_of m.entries) k v
one_put m n k v u = stored_as string_bytes m n k (Some v) u

-- one more pair of a list
given-push : (xs : List (Name × Value)) (k q : Name) (v : Value) → given (xs ++ (k, v) ∷ []) q ≡ cond (same_name q k) (Some v) (given xs q)
given-push xs k q v = ap (find name_cmp q) (reverse-append xs ((k, v) ∷ []))

chosen : (b : Bool) (v : Value) (o p : Option Value) → cond b (Some v) (option_or o p) ≡ option_or (cond b (Some v) o) p
chosen true v o p = refl
chosen false v o p = refl

pub one_more : (before m n : Values) (xs : List (Name × Value)) (k : Name) (v : Value) → n ≡ insert m k v
    → ((q : Name) → get m q ≡ option_or (given xs q) (get before q))
    → (q : Name) → get n q ≡ option_or (given (xs ++ (k, v) ∷ []) q) (get before q)
one_more before m n xs k v is h q =
    ap (λ (x : Values). get x q) is ∙ get-insert names_total m k v q
    ∙ ap (cond (same_name q k) (Some v)) (h q)
    ∙ chosen (same_name q k) v (given xs q) (get before q)
    ∙ ap (λ o. option_or o (get before q)) (sym (given-push xs k q v))

-- lists one behind the other: the first that has the name
find-joined : (xs ys : List (Name × Value)) (q : Name) → find name_cmp q (xs ++ ys) ≡ option_or (find name_cmp q xs) (find name_cmp q ys)
find-joined [] ys q = refl
find-joined (x ∷ xs) ys q = ap (cond (same_name q x.0) (Some x.1)) (find-joined xs ys q) ∙ chosen (same_name q x.0) x.1 (find name_cmp q xs) (find name_cmp q ys)

pub get-started : (system words table : List (Name × Value)) (q : Name) → get (started system words table) q ≡ first_value system words table q
get-started system words table q =
    get-from_entries names_total _ q
    ∙ find-joined (reverse system ++ reverse words) (reverse table) q
    ∙ ap (λ o. option_or o (given table q)) (find-joined (reverse system) (reverse words) q)
    ∙ option_or-assoc (given system q) (given words q) (given table q)
  where
    option_or-assoc : (o p r : Option Value) → option_or (option_or o p) r ≡ option_or o (option_or p r)
    option_or-assoc None p r = refl
    option_or-assoc (Some v) p r = refl

none_else : (o : Option Value) → option_or o None ≡ o
none_else None = refl
none_else (Some v) = refl

-- the table's values, the words' over them and the system's over these
pub three_layers : (system words table : List (Name × Value)) (none low middle high : Values)
    → none ≡ empty
    → ((q : Name) → get low q ≡ option_or (given table q) (get none q))
    → ((q : Name) → get middle q ≡ option_or (given words q) (get low q))
    → ((q : Name) → get high q ≡ option_or (given system q) (get middle q))
    → (q : Name) → get high q ≡ first_value system words table q
three_layers system words table none low middle high is first second third q =
    let nothing : get none q ≡ None = ap (λ (m : Values). get m q) is ∙ get-empty name_cmp q in
    let lowest : get low q ≡ given table q = first q ∙ ap (option_or (given table q)) nothing ∙ none_else (given table q) in
    third q ∙ ap (option_or (given system q)) (second q ∙ ap (option_or (given words q)) lowest)

pub is_started : (system words table : List (Name × Value)) (m : Values) → ((q : Name) → get m q ≡ first_value system words table q) → m ≡ started system words table
is_started system words table m h = same m (started system words table) (λ q. h q ∙ sym (get-started system words table q))
