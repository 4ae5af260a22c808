-- What is counted over the entries of the program's tree.
use Rattle.std.proofs.Common.{◌≡◌, ℕ, ◌+◌, ◌*◌, ◌<◌, Bool, true, false, List, [], ◌∷◌, length, map, refl, sym, ap, ◌∙◌, arith, sum_by, IsTrue, zero, suc}
use Rattle.std.specs.Prelude.{String, string_bytes}
use Rattle.std.specs.declared.alloc.Global.{Global}
use Rattle.std.specs.BTreeMap as tree
use Rattle.std.specs.BTreeMap.{BTreeMap}
use Rattle.std.specs.FinMap.{entries}
use Rattle.mi_text.specs.Maps.{name_cmp}
use Rattle.mi_text.proofs.MapLemmas.{entries-from_entries}
use Rattle.mi_text.proofs.TreeLemmas.{entries-map_as}
use Rattle.mi_image.specs.Items.{Items}
use Rattle.mi_cost.specs.Tallies.{Sizes, counted, counted_all, pair_of, sizes_of}

-- nothing is counted over no names
pub none_counted : (items : Items) (n : ℕ) (es : List (String Global × ℕ)) (sizes : Sizes) → sizes_of es ≡ sizes → length es ≡ 0 → 0 ≡ counted_all items n (entries sizes)
none_counted items n [] sizes is none = ap (counted_all items n) (sym (entries-from_entries [] tt) ∙ ap entries is)
none_counted items n (e ∷ es) sizes is none = absurd (omega arith)

some_counted : (items : Items) (n : ℕ) (es : List (String Global × ℕ)) → 0 < length es → counted_all items n (map pair_of es) ≡ 4 + 25 * n + sum_by (counted items) (map pair_of es)
some_counted items n [] some = absurd (omega arith)
some_counted items n (e ∷ es) some = refl

-- a tree that isn't empty has names
pub some_names : (b : Bool) (n : ℕ) → (n ≡ 0 → IsTrue b) → b ≡ false → 0 < n
some_names true n f e = absurd cc
some_names false zero f e = let clash : false ≡ true = f refl in absurd cc
some_names false (suc n) f e = omega arith

-- what is counted over the entries of a tree
pub counted_over : (items : Items) (n : ℕ) (m : BTreeMap (String Global) ℕ) (sizes : Sizes) → sizes_of m.entries ≡ sizes → tree.IsOrdered (λ a b. name_cmp (string_bytes a) (string_bytes b)) m → 0 < length m.entries
    → 4 + 25 * n + sum_by (counted items) (map pair_of m.entries) ≡ counted_all items n (entries sizes)
counted_over items n m sizes is ordered some =
    sym (some_counted items n m.entries some)
    ∙ ap (counted_all items n) (sym (entries-map_as (λ (k : String Global). string_bytes k) m ordered) ∙ ap entries is)
