-- Keys are equal exactly where their written forms are, and which rows have equal keys.
use Rattle.std.proofs.Common.{◌≡◌, ◌≢◌, ℕ, zero, suc, ◌+◌, ◌<◌, ◌≤◌, eqb, Bool, true, false, ◌||◌, cond, List, [], ◌∷◌, ◌++◌, length, map, get_or, Some, None, option_map, ℤ, pos, negsuc, refl, sym, ap, subst, ◌∙◌, arith, inl, inr}
use Rattle.std.specs.Bool.{Decides}
use Rattle.std.specs.List.{list_any, list_all, All, AllPairs}
use Rattle.std.specs.Str.{bytes_eq}
use Rattle.std.proofs.lemmas.Bool.{cases_Bool, cases_lt, eqb-true}
use Rattle.std.proofs.lemmas.Bool.Decides.{nat_tests}
use Rattle.std.proofs.lemmas.List.Elements.{All-nil, All-cons, All-head, All-tail}
use Rattle.std.proofs.lemmas.List.Folds.{list_any-append}
use Rattle.std.proofs.lemmas.Slice.Eq.{bytes_eq-Decides, slice_eq-Decides}
use Rattle.mi_text.specs.declared.answers.IdtFault.TheVariants.{TwoKeys}
use Rattle.mi_idt.specs.Cells.{Cell, Nothing, Text, Number, ColumnValue, key_of, same_number, same_cell, same_key}
use Rattle.mi_idt.specs.Rows.{repeat_fault}
use Rattle.mi_idt.specs.Spells.{SpellsField, SpellsFields}
use Rattle.mi_idt.specs.Texts.{repeat_of}
use Rattle.mi_idt.specs.Written.{written_cell, written_row}
use Rattle.mi_idt.proofs.Basics.{or_false, true_false}
use Rattle.mi_idt.proofs.FieldLaws.{same_field, round_cell, clean_cell, is_clean}
use Rattle.mi_idt.proofs.Pairs.{AllPairs-nil, AllPairs-cons, AllPairs-head, AllPairs-tail}
use Rattle.mi_idt.proofs.Splits.{Clean, join_injective}

-- ---- equal cells

eqb_same : (m : ℕ) → eqb m m ≡ true
eqb_same m = grind (arith, nat_tests)

number_Decides : (m n : ℤ) → Decides (same_number m n) (m ≡ n)
number_Decides (pos m) (pos n) = (λ t. ap pos (eqb-true m n t), λ e. let k : m ≡ n = cc in subst (λ (x : ℕ). eqb m x ≡ true) k (eqb_same m))
number_Decides (negsuc m) (negsuc n) = (λ t. ap negsuc (eqb-true m n t), λ e. let k : m ≡ n = cc in subst (λ (x : ℕ). eqb m x ≡ true) k (eqb_same m))
number_Decides (pos m) (negsuc n) = (λ t. absurd cc, λ e. absurd cc)
number_Decides (negsuc m) (pos n) = (λ t. absurd cc, λ e. absurd cc)

cell_Decides : (x y : Cell) → Decides (same_cell x y) (x ≡ y)
cell_Decides Nothing Nothing = (λ t. refl, λ e. refl)
cell_Decides (Text a) (Text b) = (λ t. ap Text ((bytes_eq-Decides a b).0 t), λ e. let k : a ≡ b = cc in (bytes_eq-Decides a b).1 k)
cell_Decides (Number m) (Number n) = (λ t. ap Number ((number_Decides m n).0 t), λ e. let k : m ≡ n = cc in (number_Decides m n).1 k)
cell_Decides Nothing (Text b) = (λ t. absurd cc, λ e. absurd cc)
cell_Decides Nothing (Number n) = (λ t. absurd cc, λ e. absurd cc)
cell_Decides (Text a) Nothing = (λ t. absurd cc, λ e. absurd cc)
cell_Decides (Text a) (Number n) = (λ t. absurd cc, λ e. absurd cc)
cell_Decides (Number m) Nothing = (λ t. absurd cc, λ e. absurd cc)
cell_Decides (Number m) (Text b) = (λ t. absurd cc, λ e. absurd cc)

pub key_Decides : (a b : List Cell) → Decides (same_key a b) (a ≡ b)
key_Decides a b = slice_eq-Decides cell_Decides a b (same_key a b) refl

pub same_bool : (a b : Bool) (P : Type 0) → Decides a P → Decides b P → a ≡ b
same_bool true b P d e = sym (e.1 (d.0 refl))
same_bool false true P d e = d.1 (e.0 refl)
same_bool false false P d e = refl

-- ---- the keys of spelled rows

-- a key that some row of the columns has
abbrev pub IsKey : List ColumnValue → List ℕ → List Cell → Type 0
IsKey cs keys key = (fs : List (List ℕ)) × (xs : List Cell) × SpellsFields cs fs xs × (key ≡ key_of keys xs)

-- the cell of a place: null past the end, else one that a field of the column spells
cell_spelled : (cs : List ColumnValue) (fs : List (List ℕ)) (xs : List Cell) (i : ℕ) (d : ColumnValue) → SpellsFields cs fs xs → i < length cs → (f : List ℕ) × SpellsField (get_or cs i d) f (get_or xs i Nothing)
cell_spelled [] fs xs i d s h = absurd (omega arith)
cell_spelled (c ∷ cs) [] xs i d s h = absurd s
cell_spelled (c ∷ cs) (f ∷ fs) [] i d s h = absurd s
cell_spelled (c ∷ cs) (f ∷ fs) (x ∷ xs) zero d s h = (f, s.0)
cell_spelled (c ∷ cs) (f ∷ fs) (x ∷ xs) (suc i) d s h = cell_spelled cs fs xs i d s.1 (omega arith)

cell_past : (cs : List ColumnValue) (fs : List (List ℕ)) (xs : List Cell) (i : ℕ) → SpellsFields cs fs xs → length cs ≤ i → get_or xs i Nothing ≡ Nothing
cell_past [] [] [] i s h = refl
cell_past [] [] (x ∷ xs) i s h = absurd s
cell_past [] (f ∷ fs) xs i s h = absurd s
cell_past (c ∷ cs) [] xs i s h = absurd s
cell_past (c ∷ cs) (f ∷ fs) [] i s h = absurd s
cell_past (c ∷ cs) (f ∷ fs) (x ∷ xs) zero s h = absurd (omega arith)
cell_past (c ∷ cs) (f ∷ fs) (x ∷ xs) (suc i) s h = cell_past cs fs xs i s.1 (omega arith)

no_column : ColumnValue
no_column = record { name = []; letter = 0; width = 0 }

clean_at : (cs : List ColumnValue) (fs : List (List ℕ)) (xs : List Cell) (i : ℕ) → SpellsFields cs fs xs → list_all is_clean (written_cell (get_or xs i Nothing)) ≡ true
clean_at cs fs xs i s = elim (cases_lt i (length cs)) [
  | inl h ↦ let p = cell_spelled cs fs xs i no_column s h in clean_cell (get_or cs i no_column) p.0 (get_or xs i Nothing) p.1
  | inr h ↦ ap (λ (x : Cell). list_all is_clean (written_cell x)) (cell_past cs fs xs i s h)
]

same_at : (cs : List ColumnValue) (fs gs : List (List ℕ)) (xs ys : List Cell) (i : ℕ) → SpellsFields cs fs xs → SpellsFields cs gs ys → written_cell (get_or xs i Nothing) ≡ written_cell (get_or ys i Nothing) → get_or xs i Nothing ≡ get_or ys i Nothing
same_at cs fs gs xs ys i s t e = elim (cases_lt i (length cs)) [
  | inl h ↦
      let p = cell_spelled cs fs xs i no_column s h in
      let q = cell_spelled cs gs ys i no_column t h in
      let c : ColumnValue = get_or cs i no_column in
      let first = round_cell c p.0 (get_or xs i Nothing) p.1 in
      let second = subst (λ (w : List ℕ). SpellsField c w (get_or ys i Nothing)) (sym e) (round_cell c q.0 (get_or ys i Nothing) q.1) in
      same_field c (written_cell (get_or xs i Nothing)) (get_or xs i Nothing) (get_or ys i Nothing) first second
  | inr h ↦ cell_past cs fs xs i s h ∙ sym (cell_past cs gs ys i t h)
]

clean_key : (cs : List ColumnValue) (fs : List (List ℕ)) (xs : List Cell) (keys : List ℕ) → SpellsFields cs fs xs → Clean (map written_cell (key_of keys xs))
clean_key cs fs xs [] s = tt
clean_key cs fs xs (k ∷ ks) s = (clean_at cs fs xs k s, clean_key cs fs xs ks s)

same_parts : (cs : List ColumnValue) (fs gs : List (List ℕ)) (xs ys : List Cell) (keys : List ℕ) → SpellsFields cs fs xs → SpellsFields cs gs ys → map written_cell (key_of keys xs) ≡ map written_cell (key_of keys ys) → key_of keys xs ≡ key_of keys ys
same_parts cs fs gs xs ys [] s t e = refl
same_parts cs fs gs xs ys (k ∷ ks) s t e =
    let here : written_cell (get_or xs k Nothing) ≡ written_cell (get_or ys k Nothing) = cc in
    let rest : map written_cell (key_of ks xs) ≡ map written_cell (key_of ks ys) = cc in
    (λ i. same_at cs fs gs xs ys k s t here i ∷ same_parts cs fs gs xs ys ks s t rest i)

parts_length : (xs ys : List Cell) (keys : List ℕ) → length (map written_cell (key_of keys xs)) ≡ length (map written_cell (key_of keys ys))
parts_length xs ys [] = refl
parts_length xs ys (k ∷ ks) = let rest = parts_length xs ys ks in omega arith

pub key_text_Decides : (cs : List ColumnValue) (keys : List ℕ) (a b : List Cell) → IsKey cs keys a → IsKey cs keys b → Decides (bytes_eq (written_row a) (written_row b)) (a ≡ b)
key_text_Decides cs keys a b p q = (forth, λ e. (bytes_eq-Decides (written_row a) (written_row b)).1 (ap written_row e))
  where
    forth : bytes_eq (written_row a) (written_row b) ≡ true → a ≡ b
    forth t =
        let texts : written_row (key_of keys p.1) ≡ written_row (key_of keys q.1) = ap written_row (sym p.3) ∙ (bytes_eq-Decides (written_row a) (written_row b)).0 t ∙ ap written_row q.3 in
        let parts = join_injective _ _ (parts_length p.1 q.1 keys) (clean_key cs p.0 p.1 keys p.2) (clean_key cs q.0 q.1 keys q.2) texts in
        p.3 ∙ same_parts cs p.0 q.0 p.1 q.1 keys p.2 q.2 parts ∙ sym q.3

pub same_tests : (cs : List ColumnValue) (keys : List ℕ) (a b : List Cell) → IsKey cs keys a → IsKey cs keys b → same_key a b ≡ bytes_eq (written_row a) (written_row b)
same_tests cs keys a b p q = same_bool _ _ (a ≡ b) (key_Decides a b) (key_text_Decides cs keys a b p q)

-- each of the keys is one that a row has
abbrev pub AreKeys : List ColumnValue → List ℕ → List (List Cell) → Type 0
AreKeys cs keys [] = Unit {0}
AreKeys cs keys (k ∷ ks) = IsKey cs keys k × AreKeys cs keys ks

keys_push : (cs : List ColumnValue) (keys : List ℕ) (ks : List (List Cell)) (k : List Cell) → AreKeys cs keys ks → IsKey cs keys k → AreKeys cs keys (ks ++ k ∷ [])
keys_push cs keys [] k all one = (one, tt)
keys_push cs keys (x ∷ ks) k all one = (all.0, keys_push cs keys ks k all.1 one)

any_same : (cs : List ColumnValue) (keys : List ℕ) (k : List Cell) (seen : List (List Cell)) → IsKey cs keys k → AreKeys cs keys seen → list_any (same_key k) seen ≡ list_any (bytes_eq (written_row k)) (map written_row seen)
any_same cs keys k [] one all = refl
any_same cs keys k (x ∷ seen) one all = (λ i. same_tests cs keys k x one all.0 i || any_same cs keys k seen one all.1 i)

map_push : (seen : List (List Cell)) (k : List Cell) → map written_row (seen ++ k ∷ []) ≡ map written_row seen ++ written_row k ∷ []
map_push [] k = refl
map_push (x ∷ seen) k = ap (λ (l : List (List ℕ)). written_row x ∷ l) (map_push seen k)

-- the first row that repeats a key is the first that repeats a written key
pub repeats_are : (cs : List ColumnValue) (keys : List ℕ) (seen ks : List (List Cell)) (row : ℕ) → AreKeys cs keys seen → AreKeys cs keys ks → repeat_fault seen row ks ≡ option_map TwoKeys (repeat_of (map written_row seen) row (map written_row ks))
repeats_are cs keys seen [] row known all = refl
repeats_are cs keys seen (k ∷ ks) row known all =
    elim (cases_Bool (list_any (same_key k) seen)) [
      | inl t ↦
          let texts : list_any (bytes_eq (written_row k)) (map written_row seen) ≡ true = sym (any_same cs keys k seen all.0 known) ∙ t in
          rw (t, texts) refl
      | inr f ↦
          let texts : list_any (bytes_eq (written_row k)) (map written_row seen) ≡ false = sym (any_same cs keys k seen all.0 known) ∙ f in
          rw (f, texts) (repeats_are cs keys (seen ++ k ∷ []) ks (row + 1) (keys_push cs keys seen k known all.0) all.1 ∙ ap (λ (l : List (List ℕ)). option_map TwoKeys (repeat_of l (row + 1) (map written_row ks))) (map_push seen k))
    ]

-- ---- no row repeats a key exactly where all keys differ

any_none : (k : List Cell) (seen : List (List Cell)) → list_any (same_key k) seen ≡ false → All (λ j. j ≢ k) seen
any_none k [] e = All-nil (λ j. j ≢ k)
any_none k (x ∷ seen) e =
    let p = or_false (same_key k x) (list_any (same_key k) seen) e in
    All-cons (λ j. j ≢ k) x seen (λ same. true_false (same_key k x) ((key_Decides k x).1 (sym same)) p.0) (any_none k seen p.1)

none_any : (k : List Cell) (seen : List (List Cell)) → All (λ j. j ≢ k) seen → list_any (same_key k) seen ≡ false
none_any k [] all = refl
none_any k (x ∷ seen) all = elim (cases_Bool (same_key k x)) [
  | inl t ↦ absurd (All-head (λ j. j ≢ k) x seen all (sym ((key_Decides k x).0 t)))
  | inr f ↦ rw f (none_any k seen (All-tail (λ j. j ≢ k) x seen all))
]

-- each key differs from all that are seen
abbrev pub Apart : List (List Cell) → List (List Cell) → Type 0
Apart seen [] = Unit {0}
Apart seen (k ∷ ks) = (list_any (same_key k) seen ≡ false) × Apart seen ks

apart_push : (seen : List (List Cell)) (k : List Cell) (ks : List (List Cell)) → Apart (seen ++ k ∷ []) ks → Apart seen ks × All (λ j. k ≢ j) ks
apart_push seen k [] a = (tt, All-nil (λ j. k ≢ j))
apart_push seen k (x ∷ ks) a =
    let whole : (list_any (same_key x) seen || (same_key x k || false)) ≡ false = sym (list_any-append (same_key x) seen (k ∷ [])) ∙ a.0 in
    let p = or_false (list_any (same_key x) seen) (same_key x k || false) whole in
    let q = or_false (same_key x k) false p.1 in
    let rest = apart_push seen k ks a.1 in
    ((p.0, rest.0), All-cons (λ j. k ≢ j) x ks (λ same. true_false (same_key x k) ((key_Decides x k).1 (sym same)) q.0) rest.1)

push_apart : (seen : List (List Cell)) (k : List Cell) (ks : List (List Cell)) → Apart seen ks → All (λ j. k ≢ j) ks → Apart (seen ++ k ∷ []) ks
push_apart seen k [] a all = tt
push_apart seen k (x ∷ ks) a all =
    let other : same_key x k ≡ false = elim (cases_Bool (same_key x k)) [ inl t ↦ absurd (All-head (λ j. k ≢ j) x ks all (sym ((key_Decides x k).0 t))) | inr f ↦ f ] in
    (list_any-append (same_key x) seen (k ∷ []) ∙ rw (a.0, other) refl, push_apart seen k ks a.1 (All-tail (λ j. k ≢ j) x ks all))

repeat_is : (seen ks : List (List Cell)) (row : ℕ) → repeat_fault seen row ks ≡ None → Apart seen ks × AllPairs (λ j k. j ≢ k) ks
repeat_is seen [] row e = (tt, AllPairs-nil (λ j k. j ≢ k))
repeat_is seen (k ∷ ks) row e = elim (cases_Bool (list_any (same_key k) seen)) [
  | inl t ↦ let some : repeat_fault seen row (k ∷ ks) ≡ Some (TwoKeys row) = rw t refl in absurd cc
  | inr f ↦
      let next : repeat_fault (seen ++ k ∷ []) (row + 1) ks ≡ None = sym (ap (λ (b : Bool). cond b (Some (TwoKeys row)) (repeat_fault (seen ++ k ∷ []) (row + 1) ks)) f) ∙ e in
      let h = repeat_is (seen ++ k ∷ []) ks (row + 1) next in
      let p = apart_push seen k ks h.0 in
      ((f, p.0), AllPairs-cons (λ j k. j ≢ k) k ks p.1 h.1)
]

pub keys_differ : (ks : List (List Cell)) → repeat_fault [] 1 ks ≡ None → AllPairs (λ j k. j ≢ k) ks
keys_differ ks e = (repeat_is [] ks 1 e).1

is_repeat : (seen ks : List (List Cell)) (row : ℕ) → Apart seen ks → AllPairs (λ j k. j ≢ k) ks → repeat_fault seen row ks ≡ None
is_repeat seen [] row a pairs = refl
is_repeat seen (k ∷ ks) row a pairs = rw a.0 (is_repeat (seen ++ k ∷ []) ks (row + 1) (push_apart seen k ks a.1 (AllPairs-head (λ j k. j ≢ k) k ks pairs)) (AllPairs-tail (λ j k. j ≢ k) k ks pairs))

no_seen : (ks : List (List Cell)) → Apart [] ks
no_seen [] = tt
no_seen (k ∷ ks) = (refl, no_seen ks)

pub differ_keys : (ks : List (List Cell)) → AllPairs (λ j k. j ≢ k) ks → repeat_fault [] 1 ks ≡ None
differ_keys ks pairs = is_repeat [] ks 1 (no_seen ks) pairs
