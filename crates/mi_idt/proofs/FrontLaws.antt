-- Keys that stand in the first fields of their rows: which row repeats one.
use Rattle.std.proofs.Common.{◌≡◌, ℕ, ◌+◌, ◌<◌, ◌≤◌, Bool, true, false, ◌||◌, ◌&&◌, cond, List, [], ◌∷◌, ◌++◌, length, map, take, drop, get_or, nat_eq, suc, refl, sym, ap, ◌∙◌, arith, inl, inr, Bor}
use Rattle.std.specs.Bool.{Decides}
use Rattle.std.specs.Cmp.Lexicographic.{pointwise}
use Rattle.std.specs.HashSet.{HashSet, contains_by, UpdatesBy}
use Rattle.std.specs.List.{list_any, join_with_byte, All, AllByRecursion}
use Rattle.std.specs.Str.{bytes_eq}
use Rattle.std.proofs.lemmas.Bool.{cases_Bool}
use Rattle.std.proofs.lemmas.List.{map_more, map_push, drop_more, length-map, length-take}
use Rattle.std.proofs.lemmas.List.Elements.{recursion_from_All}
use Rattle.std.proofs.lemmas.List.Folds.{list_any-append}
use Rattle.std.proofs.lemmas.Slice.Eq.{bytes_eq-Decides, slice_eq-Decides}
use Rattle.mi_idt.specs.declared.table.Column.{Column}
use Rattle.mi_idt.specs.declared.table.Row.{Row}
use Rattle.mi_idt.specs.Cells.{Cell, Nothing, ColumnValue, key_of}
use Rattle.mi_idt.specs.Means.{column_value, raw_row}
use Rattle.mi_idt.specs.RowKey.{row_cells, row_key, row_front, IsSpelledRow, KeyStands}
use Rattle.mi_idt.specs.Spells.{SpellsFields}
use Rattle.mi_idt.specs.Texts.{repeat_by, repeat_of, same_fields}
use Rattle.mi_idt.specs.Written.{written_cell}
use Rattle.mi_idt.proofs.Basics.{shown}
use Rattle.mi_idt.proofs.Joins.{swapped}
use Rattle.mi_idt.proofs.KeyLaws.{same_bool, key_text_Decides}

-- ---- two tests that agree find the same first repeat

module _ {Z X Y : Type 0} (P : Z → Type 0) (same : X → X → Bool) (other : Y → Y → Bool) (f : Z → X) (g : Z → Y) (agree : (a b : Z) → P a → P b → same (f a) (f b) ≡ other (g a) (g b)) where
  any_agrees : (z : Z) (zs : List Z) → P z → AllByRecursion P zs → list_any (same (f z)) (map f zs) ≡ list_any (other (g z)) (map g zs)
  any_agrees z [] one all = refl
  any_agrees z (y ∷ zs) one all = (λ i. agree z y one all.0 i || any_agrees z zs one all.1 i)

  all_push : (zs : List Z) (z : Z) → AllByRecursion P zs → P z → AllByRecursion P (zs ++ z ∷ [])
  all_push [] z all one = (one, tt)
  all_push (y ∷ zs) z all one = (all.0, all_push zs z all.1 one)

  repeats_agree : (seen zs : List Z) (row : ℕ) → AllByRecursion P seen → AllByRecursion P zs → repeat_by same (map f seen) row (map f zs) ≡ repeat_by other (map g seen) row (map g zs)
  repeats_agree seen [] row known all = refl
  repeats_agree seen (z ∷ zs) row known all =
      let agrees : list_any (same (f z)) (map f seen) ≡ list_any (other (g z)) (map g seen) = any_agrees z seen all.0 known in
      elim (cases_Bool (list_any (other (g z)) (map g seen))) [
        | inl t ↦
            let first : list_any (same (f z)) (map f seen) ≡ true = agrees ∙ t in
            rw (t, first) refl
        | inr n ↦
            let first : list_any (same (f z)) (map f seen) ≡ false = agrees ∙ n in
            rw (n, first) (ap (λ (l : List X). repeat_by same l (row + 1) (map f zs)) (sym (map_push f seen z)) ∙ repeats_agree (seen ++ z ∷ []) zs (row + 1) (all_push seen z known all.0) all.1 ∙ ap (λ (l : List Y). repeat_by other l (row + 1) (map g zs)) (map_push g seen z))
      ]

-- ---- the fields of keys tell what their written forms do

abbrev IsPlain : List Column → List ℕ → Row → Type 0
IsPlain columns keys r = IsSpelledRow columns r × KeyStands columns keys r

keys_agree : (columns : List Column) (keys : List ℕ) (a b : Row) → IsPlain columns keys a → IsPlain columns keys b → same_fields (row_front (length keys) a) (row_front (length keys) b) ≡ bytes_eq (row_key columns keys a) (row_key columns keys b)
keys_agree columns keys a b p q =
    let count : ℕ = length keys in
    let told : Decides (bytes_eq (row_key columns keys a) (row_key columns keys b)) (key_of keys (row_cells columns a) ≡ key_of keys (row_cells columns b)) = key_text_Decides (map column_value columns) keys (key_of keys (row_cells columns a)) (key_of keys (row_cells columns b)) (raw_row a, row_cells columns a, p.0, refl) (raw_row b, row_cells columns b, q.0, refl) in
    same_bool _ _ (row_front count a ≡ row_front count b)
    (slice_eq-Decides bytes_eq-Decides (row_front count a) (row_front count b) _ refl) (
      λ t. p.1 ∙ ap (map written_cell) (told.0 t) ∙ sym q.1,
      λ e. (bytes_eq-Decides _ _).1 (ap (join_with_byte 9) (sym p.1 ∙ e ∙ q.1)),
    )

both : {X : Type 0} (P Q : X → Type 0) (xs : List X) → All P xs → All Q xs → AllByRecursion (λ x. P x × Q x) xs
both P Q xs p q = recursion_from_All (λ x. P x × Q x) xs (λ k d h. (p k d h, q k d h))

pub first_by_fronts : (columns : List Column) (keys : List ℕ) (rows : List Row) → All (IsSpelledRow columns) rows → All (KeyStands columns keys) rows → repeat_by same_fields [] 1 (map (row_front (length keys)) rows) ≡ repeat_of [] 1 (map (row_key columns keys) rows)
first_by_fronts columns keys rows spelled stand =
    repeats_agree (IsPlain columns keys) same_fields bytes_eq (row_front (length keys)) (row_key columns keys) (keys_agree columns keys) [] rows 1 tt (both (IsSpelledRow columns) (KeyStands columns keys) rows spelled stand)

-- a key that stands at the front of a row is no longer than the row
pub long_enough : (columns : List Column) (keys : List ℕ) (r : Row) → KeyStands columns keys r → length keys ≤ length (raw_row r)
long_enough columns keys r stands =
    let parts : length (map written_cell (key_of keys (row_cells columns r))) ≡ length keys = length-map (key_of keys (row_cells columns r)) written_cell ∙ length-map keys (λ (i : ℕ). get_or (row_cells columns r) i Nothing) in
    omega (arith, sym (length-take (length keys) (raw_row r)) ∙ ap length stands ∙ parts)

-- ---- the key columns are the first ones

pub keys_front : (p : ℕ) (keys : List ℕ) (cells : List Cell) → ((k : ℕ) → k < length keys → get_or keys k 0 ≡ p + k) → p + length keys ≤ length cells → key_of keys cells ≡ take (length keys) (drop p cells)
keys_front p [] cells are within = refl
keys_front p (k ∷ keys) cells are within =
    let here : k ≡ p = omega (arith, are 0 (omega arith)) in
    let rest = keys_front (p + 1) keys cells (λ j h. omega (arith, are (suc j) (omega arith))) (omega arith) in
    (λ i. get_or cells (here i) Nothing ∷ rest i) ∙ ap (take (length (k ∷ keys))) (sym (drop_more cells p Nothing (omega arith)))

cells_long : (cs : List ColumnValue) (fs : List (List ℕ)) (xs : List Cell) → SpellsFields cs fs xs → length xs ≡ length cs
cells_long [] [] [] s = refl
cells_long [] [] (x ∷ xs) s = absurd s
cells_long [] (f ∷ fs) xs s = absurd s
cells_long (c ∷ cs) [] xs s = absurd s
cells_long (c ∷ cs) (f ∷ fs) [] s = absurd s
cells_long (c ∷ cs) (f ∷ fs) (x ∷ xs) s = let rest = cells_long cs fs xs s.1 in omega arith

pub key_stands : (columns : List Column) (keys : List ℕ) (r : Row) → IsSpelledRow columns r → length keys ≤ length columns → ((k : ℕ) → k < length keys → get_or keys k 0 ≡ k)
    → row_front (length keys) r ≡ map written_cell (take (length keys) (row_cells columns r)) → KeyStands columns keys r
key_stands columns keys r spelled within are same =
    let long = cells_long (map column_value columns) (raw_row r) (row_cells columns r) spelled in
    same ∙ ap (map written_cell) (sym (keys_front 0 keys (row_cells columns r) (λ k h. omega (arith, are k h)) (omega (arith, long, length-map columns column_value))))

-- ---- the set of keys so far

-- equal slices of texts
abbrev pub same_slices : Bor (List (Bor (List ℕ))) → Bor (List (Bor (List ℕ))) → Bool
same_slices x y = pointwise (λ a b. pointwise nat_eq a.now b.now) x.now y.now

slices_shown : (xs ys : List (Bor (List ℕ))) → pointwise (λ a b. pointwise nat_eq a.now b.now) xs ys ≡ same_fields (shown xs) (shown ys)
slices_shown [] [] = refl
slices_shown [] (y ∷ ys) = refl
slices_shown (x ∷ xs) [] = refl
slices_shown (x ∷ xs) (y ∷ ys) = ap (λ (b : Bool). bytes_eq x.now y.now && b) (slices_shown xs ys)

same_either_way : (xs ys : List (List ℕ)) → same_fields xs ys ≡ same_fields ys xs
same_either_way xs ys =
    let one = slice_eq-Decides bytes_eq-Decides xs ys _ refl in
    let two = slice_eq-Decides bytes_eq-Decides ys xs _ refl in
    same_bool _ _ (xs ≡ ys) one (λ t. sym (two.0 t), λ e. two.1 (sym e))

pub slice_next : {S : Type 0} (count : ℕ) (rows : List Row) (i : ℕ) (d : Row) (key : Bor (List (Bor (List ℕ)))) (seen after : HashSet (Bor (List (Bor (List ℕ)))) S) → i < length rows → shown key.now ≡ row_front count (get_or rows i d)
    → ((q : Bor (List (Bor (List ℕ)))) → contains_by (same_slices q) seen ≡ list_any (same_fields (shown q.now)) (map (row_front count) (take i rows)))
    → UpdatesBy same_slices (same_slices key) seen after true
    → (q : Bor (List (Bor (List ℕ)))) → contains_by (same_slices q) after ≡ list_any (same_fields (shown q.now)) (map (row_front count) (take (i + 1) rows))
slice_next count rows i d key seen after in_range is held updates q =
    let x : List (List ℕ) = row_front count (get_or rows i d) in
    let fronts : List (List (List ℕ)) = map (row_front count) (take i rows) in
    let whole : list_any (same_fields (shown q.now)) (map (row_front count) (take (i + 1) rows)) ≡ (list_any (same_fields (shown q.now)) fronts || (same_fields (shown q.now) x || false)) = ap (list_any (same_fields (shown q.now))) (map_more (row_front count) rows i d in_range) ∙ list_any-append (same_fields (shown q.now)) fronts (x ∷ []) in
    let now : contains_by (same_slices q) after ≡ cond (same_fields x (shown q.now)) true (list_any (same_fields (shown q.now)) fronts) = updates.0 q ∙ ap (λ (b : Bool). cond b true (contains_by (same_slices q) seen)) (slices_shown key.now q.now ∙ ap (λ (l : List (List ℕ)). same_fields l (shown q.now)) is) ∙ ap (λ (b : Bool). cond (same_fields x (shown q.now)) true b) (held q) in
    now ∙ swapped (same_fields x (shown q.now)) (same_fields (shown q.now) x) (list_any (same_fields (shown q.now)) fronts) (same_either_way x (shown q.now)) ∙ sym whole
