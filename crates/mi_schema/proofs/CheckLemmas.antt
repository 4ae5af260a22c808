-- The checks over the rows of a package, row by row.
use Rattle.std.proofs.Common.{◌||◌, ◌≡◌, ℕ, zero, suc, ◌+◌, ◌*◌, ◌-◌, ◌/◌, ◌%◌, ◌<◌, Bool, true, false, not, cond, List, [], ◌∷◌, ◌++◌, length, map, drop, get_or, refl, sym, ap, ◌∙◌, arith, append_assoc, Option, Some, None, add-one, inl, inr}
use Rattle.std.proofs.Math.Seq.{drop-cons}
use Rattle.std.specs.Prelude.{option_map, option_and_then, slice_get, find, is_some, unwrap_or, position, nat_lt, nat_eq}
use Rattle.std.specs.Map.{keys_of, lookup}
use Rattle.std.specs.Option.{option_flatten}
use Rattle.std.specs.List.{list_any, position_or_len}
use Rattle.std.specs.Cmp.Lexicographic.{pointwise, bytes_decides}
use Rattle.std.proofs.lemmas.Bool.{cases_Bool}
use Rattle.std.proofs.lemmas.Bool.Decides.{nat_tests}
use Rattle.std.proofs.lemmas.List.{length-map}
use Rattle.mi_text.specs.Maps.{Name, same_name}
use Rattle.mi_text.proofs.MapLemmas.{from_same, same_itself}
use Rattle.mi_base.specs.declared.answers.Fault.{Fault}
use Rattle.mi_base.specs.declared.answers.Fault.TheVariants.{Reference, Compressed, MissingProperty}
use Rattle.mi_idt.specs.Fields.{number_on}
use Rattle.mi_dirs.specs.Chains.{ends_in}
use Rattle.mi_dirs.specs.Order.{parent_in, AreRows, IsFirstEndless}
use Rattle.mi_dirs.specs.Places.{first_row}
use Rattle.mi_dirs.proofs.FaultLemmas.{find_none, find_at}
use Rattle.mi_schema.specs.declared.typed_rows.FileRow.{FileRow}
use Rattle.mi_schema.specs.declared.typed_rows.PropertyRow.{PropertyRow}
use Rattle.mi_schema.specs.declared.typed_rows.SummaryInformationRow.{SummaryInformationRow}
use Rattle.mi_schema.specs.Checks.{row_with, parents_of, ends_at, endless_row, first_fault, missing_property, references_fault}
use Rattle.mi_schema.specs.declared.known.Known.{Known}
use Rattle.mi_schema.specs.declared.known.Listed.{Listed as InCode}
use Rattle.mi_schema.specs.declared.known.Listed.TheVariants as code
use Rattle.mi_schema.specs.Tables.{listed, listed_as}
use Rattle.mi_schema.specs.TableRows.{Rows}
use Rattle.mi_schema.specs.References.{first_dangling, rows_dangling, table_dangling}
use Rattle.mi_rows.specs.Rows.{◌or_else◌}
use Rattle.mi_schema.specs.Source.{is_word_count, number_or_zero, word_count, is_compressed, file_fault}
use Rattle.mi_rows.specs.Values.{is_key_in}

-- ---- keys

-- a key is found among the entries exactly where it is one of the keys
pub key_found : {K R : Type 0} (test : K → Bool) (entries : List (K × R)) → is_some (lookup test entries) ≡ list_any test (keys_of entries)
key_found test [] = refl
key_found test (e ∷ es) = elim (test e.0) as (λ b. is_some (cond b (Some e.1) (lookup test es)) ≡ (b || list_any test (keys_of es))) [ true ↦ refl | false ↦ key_found test es ]

lt_suc : (n m : ℕ) → nat_lt (suc n) (suc m) ≡ nat_lt n m
lt_suc n m = elim (cases_Bool (nat_lt n m)) [
  | inl on ↦ let h : nat_lt (suc n) (suc m) ≡ true = grind (arith, nat_tests, on) in h ∙ sym on
  | inr off ↦ let h : nat_lt (suc n) (suc m) ≡ false = grind (arith, nat_tests, off) in h ∙ sym off
]

one_on : (n m : ℕ) → cond {A = Option ℕ} (nat_lt (1 + n) (suc m)) (Some (1 + n)) None ≡ option_map suc (cond (nat_lt n m) (Some n) None)
one_on n m =
    let e : 1 + n ≡ suc n = omega arith in
    ap (λ k. cond {A = Option ℕ} (nat_lt k (suc m)) (Some k) None) e ∙ ap (λ b. cond {A = Option ℕ} b (Some (suc n)) None) (lt_suc n m)
    ∙ elim (nat_lt n m) as (λ b. cond {A = Option ℕ} b (Some (suc n)) None ≡ option_map suc (cond b (Some n) None)) [ true ↦ refl | false ↦ refl ]

here_on : (m : ℕ) → cond {A = Option ℕ} (nat_lt 0 (suc m)) (Some 0) None ≡ Some 0
here_on m = by (nat_lt 0 (suc m)) (grind (arith, nat_tests))
  where
    by : (b : Bool) → b ≡ true → cond {A = Option ℕ} b (Some 0) None ≡ Some 0
    by true e = refl
    by false e = cc

-- and its place is that of the first row of the key
pub place_found : {K : Type 0} (test : K → Bool) (keys : List K) → position test keys ≡ first_row test keys
place_found test [] = refl
place_found test (k ∷ ks) = elim (cases_Bool (test k)) [
  | inl on ↦ rw on (here_on (length ks))
  | inr off ↦ rw off (one_on (position_or_len test ks) (length ks) ∙ ap (option_map suc) (place_found test ks))
]

-- the two ways to compare names
pub same_is : (q k : Name) → pointwise nat_eq q k ≡ same_name q k
same_is q k = elim (cases_Bool (pointwise nat_eq q k)) [
  | inl on ↦ on ∙ sym (ap (λ n. same_name q n) (sym ((bytes_decides q k).0 on)) ∙ same_itself q)
  | inr off ↦ off ∙ sym (other (same_name q k) refl off)
]
  where
    other : (b : Bool) → same_name q k ≡ b → pointwise nat_eq q k ≡ false → b ≡ false
    other true on off = let wrong : true ≡ false = sym ((bytes_decides q k).1 (from_same q k on)) ∙ off in cc
    other false on off = refl

pub same_all : (q : Name) → pointwise nat_eq q ≡ same_name q
same_all q = λ i k. same_is q k i

-- a key is there exactly where it is one of the keys
pub has_key : {R : Type 0} (key : Name) (entries : List (Name × R)) (keys : List Name) → keys_of entries ≡ keys → is_some (lookup (pointwise nat_eq key) entries) ≡ is_key_in keys key
has_key key entries keys is = key_found (pointwise nat_eq key) entries ∙ ap (λ (test : Name → Bool). list_any test (keys_of entries)) (same_all key) ∙ ap (λ (ks : List Name). is_key_in ks key) is

pub place_of_key : (key : Name) (keys : List Name) → position (pointwise nat_eq key) keys ≡ row_with keys key
place_of_key key keys = ap (λ (test : Name → Bool). position test keys) (same_all key) ∙ place_found (same_name key) keys

-- ---- references

module _ {R : Type 0} (table : Name) (f : R → Option ℕ) (all s t : List R) (number : ℕ) (r : R) (so : first_dangling table f number s ≡ first_dangling table f 1 all) (next : s ≡ r ∷ t) where
  abbrev later : Option Fault
  later = first_dangling table f (number + 1) t

  here : first_dangling table f 1 all ≡ option_map (Reference table number) (f r) or_else later
  here = sym so ∙ ap (first_dangling table f number) next

  pub dangles_on : f r ≡ None → later ≡ first_dangling table f 1 all
  dangles_on none = sym (here ∙ ap (λ (o : Option ℕ). option_map (Reference table number) o or_else later) none)

  pub dangles_not : (column : ℕ) → f r ≡ Some column → first_dangling table f 1 all ≡ Some (Reference table number column)
  dangles_not column some = here ∙ ap (λ (o : Option ℕ). option_map (Reference table number) o or_else later) some

-- ---- chains of parents

first_below : {A : Type 0} (test : A → Bool) (xs : List A) (p : ℕ) → first_row test xs ≡ Some p → p < length xs
first_below test [] p e = cc
first_below test (x ∷ xs) p e =
    elim (test x) as (λ b. cond b (Some 0) (option_map suc (first_row test xs)) ≡ Some p → p < suc (length xs)) [
      | true ↦ λ f. let z : 0 ≡ p = cc in omega (arith, z)
      | false ↦ λ f. behind (first_row test xs) f (λ q h. first_below test xs q h)
    ] e
  where
    behind : (o : Option ℕ) → option_map suc o ≡ Some p → ((q : ℕ) → o ≡ Some q → q < length xs) → p < suc (length xs)
    behind None f h = cc
    behind (Some q) f h = let z : suc q ≡ p = cc in let lt = h q refl in omega (arith, z, lt)

flat_below : {R : Type 0} (f : R → Option ℕ) (n : ℕ) → ((r : R) (p : ℕ) → f r ≡ Some p → p < n) → (rows : List R) (i p : ℕ) → option_flatten (slice_get (map f rows) i) ≡ Some p → p < n
flat_below f n h [] i p e = cc
flat_below f n h (r ∷ rows) zero p e = h r p e
flat_below f n h (r ∷ rows) (suc i) p e = flat_below f n h rows i p e

-- each parent is a row
pub are_rows : {R : Type 0} (key : R → Name) (parent : R → Option Name) (rows : List R) (ps : List (Option ℕ)) → ps ≡ parents_of key parent rows → AreRows (parent_in ps) (length ps)
are_rows key parent rows ps is = λ row p e.
    let f = λ (r : _). option_and_then (row_with (map key rows)) (parent r) in
    let at : option_flatten (slice_get (parents_of key parent rows) row) ≡ Some p = ap (λ (l : List (Option ℕ)). parent_in l row) (sym is) ∙ e in
    let lt = flat_below f (length rows) (λ r q h. below (parent r) q h) rows row p at in
    let long = ap length is ∙ length-map rows f in
    omega (arith, lt, long)
  where
    below : (o : Option Name) (p : ℕ) → option_and_then (row_with (map key rows)) o ≡ Some p → p < length rows
    below None p e = cc
    below (Some q) p e = let lt = first_below (same_name q) (map key rows) p e in let long = length-map rows key in omega (arith, lt, long)

pub parents_none : {R : Type 0} (f : R → Option ℕ) (ps : List (Option ℕ)) (s all : List R) → ps ≡ [] → s ≡ all → ps ++ map f s ≡ map f all
parents_none f ps s all none is = ap (λ (l : List (Option ℕ)). l ++ map f s) none ∙ ap (map f) is

pub parents_long : {R : Type 0} (key : R → Name) (parent : R → Option Name) (rows : List R) (ps : List (Option ℕ)) → ps ≡ parents_of key parent rows → length ps ≡ length rows
parents_long key parent rows ps is = ap length is ∙ length-map rows (λ r. option_and_then (row_with (map key rows)) (parent r))

pub parents_more : {R : Type 0} (f : R → Option ℕ) (ps next : List (Option ℕ)) (all s t : List R) (r : R) (p : Option ℕ) → ps ++ map f s ≡ map f all → s ≡ r ∷ t → next ≡ ps ++ p ∷ [] → p ≡ f r → next ++ map f t ≡ map f all
parents_more f ps next all s t r p so is at parent =
    ap (λ (l : List (Option ℕ)). l ++ map f t) at ∙ append_assoc ps (p ∷ []) (map f t) ∙ ap (λ (o : Option ℕ). ps ++ o ∷ map f t) parent ∙ sym (ap (λ (l : List _). ps ++ map f l) is) ∙ so

pub none_endless : (ps : List (Option ℕ)) → ((row : ℕ) → row < length ps → ends_in (parent_in ps) (suc (length ps)) row ≡ true) → endless_row ps ≡ None
none_endless ps ends = find_none (λ row. not (ends_at ps row)) ps 0 (λ k lt. ap (λ row. not (ends_at ps row)) (let e : 0 + k ≡ k = omega arith in e) ∙ ap not (ends k lt))

pub first_endless : (ps : List (Option ℕ)) (row : ℕ) → IsFirstEndless (parent_in ps) (length ps) row → endless_row ps ≡ Some row
first_endless ps row h =
    let here : 0 + row ≡ row = omega arith in
    find_at (λ k. not (ends_at ps k)) ps 0 row h.is_row (ap (λ (k : ℕ). not (ends_at ps k)) here ∙ ap not h.endless)
    (λ k lt. ap (λ (j : ℕ). not (ends_at ps j)) (let e : 0 + k ≡ k = omega arith in e) ∙ ap not (h.first k lt)) ∙ ap Some here

-- ---- the form of the source files

module _ (source : Bool) (all s t : List FileRow) (r : FileRow) (so : file_fault source s ≡ file_fault source all) (next : s ≡ r ∷ t) where
  file_here : file_fault source all ≡ option_map (λ (f : FileRow). Compressed f.file) (cond (is_compressed source r) (Some r) (find (is_compressed source) t))
  file_here = sym so ∙ ap (file_fault source) next

  pub file_on : is_compressed source r ≡ false → file_fault source t ≡ file_fault source all
  file_on off = sym (file_here ∙ ap (λ b. option_map (λ (f : FileRow). Compressed f.file) (cond b (Some r) (find (is_compressed source) t))) off)

  pub file_not : is_compressed source r ≡ true → file_fault source all ≡ Some (Compressed r.file)
  file_not on = file_here ∙ ap (λ b. option_map (λ (f : FileRow). Compressed f.file) (cond b (Some r) (find (is_compressed source) t))) on

module _ (all s t : List SummaryInformationRow) (r : SummaryInformationRow) (so : word_count s ≡ word_count all) (next : s ≡ r ∷ t) where
  count_here : word_count all ≡ number_or_zero (cond (is_word_count r) (Some r) (find is_word_count t))
  count_here = sym so ∙ ap word_count next

  pub count_on : is_word_count r ≡ false → word_count t ≡ word_count all
  count_on off = sym (count_here ∙ ap (λ b. number_or_zero (cond b (Some r) (find is_word_count t))) off)

  pub count_found : is_word_count r ≡ true → word_count all ≡ number_on 0 (unwrap_or r.value [])
  count_found on = count_here ∙ ap (λ b. number_or_zero (cond b (Some r) (find is_word_count t))) on

pub number_mod : (n m : ℕ) (ds : List ℕ) → n % 4 ≡ m % 4 → number_on n ds % 4 ≡ number_on m ds % 4
number_mod n m [] e = e
number_mod n m (d ∷ ds) e = number_mod (n * 10 + (d - 48)) (m * 10 + (d - 48)) ds (step (d - 48))
  where
    step : (k : ℕ) → (n * 10 + k) % 4 ≡ (m * 10 + k) % 4
    step k = omega (arith, e)

pub odd_bit : (n w : ℕ) → n ≡ w % 4 → n % 2 ≡ w % 2
odd_bit n w e = omega (arith, e)

pub next_bit : (n w : ℕ) → n ≡ w % 4 → n / 2 ≡ (w / 2) % 2
next_bit n w e = omega (arith, e)

pub low_step : (digits : List ℕ) (i bits k n : ℕ) → i < length digits → k ≡ get_or digits i 0 - 48 → number_on bits (drop i digits) % 4 ≡ n → number_on ((bits * 10 + k) % 4) (drop (i + 1) digits) % 4 ≡ n
low_step digits i bits k n lt is so =
    number_mod ((bits * 10 + k) % 4) (bits * 10 + (get_or digits i 0 - 48)) (drop (i + 1) digits) (omega (arith, is))
    ∙ sym (ap (λ ds. number_on bits ds % 4) (drop-cons digits i 0 lt ∙ ap (λ m. get_or digits i 0 ∷ drop m digits) (sym (add-one i)))) ∙ so

-- ---- properties

module _ (rows : List PropertyRow) (names : List Name) (i : ℕ) (name : Name) (next : drop i names ≡ name ∷ drop (i + 1) names) (so : first_fault (missing_property rows) (drop i names) ≡ first_fault (missing_property rows) names) where
  name_here : first_fault (missing_property rows) names ≡ missing_property rows name or_else first_fault (missing_property rows) (drop (i + 1) names)
  name_here = sym so ∙ ap (first_fault (missing_property rows)) next

  pub name_on : is_key_in (map (λ (r : PropertyRow). r.property) rows) name ≡ true → first_fault (missing_property rows) (drop (i + 1) names) ≡ first_fault (missing_property rows) names
  name_on on = sym (name_here ∙ ap (λ b. cond b None (Some (MissingProperty name)) or_else first_fault (missing_property rows) (drop (i + 1) names)) on)

  pub name_not : is_key_in (map (λ (r : PropertyRow). r.property) rows) name ≡ false → first_fault (missing_property rows) names ≡ Some (MissingProperty name)
  name_not off = name_here ∙ ap (λ b. cond b None (Some (MissingProperty name)) or_else first_fault (missing_property rows) (drop (i + 1) names)) off

drops : {A B : Type 0} (f : A → B) (xs : List A) (i : ℕ) → map f (drop i xs) ≡ drop i (map f xs)
drops f xs zero = refl
drops f [] (suc i) = refl
drops f (x ∷ xs) (suc i) = drops f xs i

pub drop_map : {A : Type 0} (rows : List PropertyRow) (f : A → Name) (xs : List A) (i : ℕ) → first_fault (missing_property rows) (map f (drop i xs)) ≡ first_fault (missing_property rows) (map f xs) → first_fault (missing_property rows) (drop i (map f xs)) ≡ first_fault (missing_property rows) (map f xs)
drop_map rows f xs i e = ap (first_fault (missing_property rows)) (sym (drops f xs i)) ∙ e

pub map_drop : {A : Type 0} (rows : List PropertyRow) (f : A → Name) (xs : List A) (i : ℕ) → first_fault (missing_property rows) (drop i (map f xs)) ≡ first_fault (missing_property rows) (map f xs) → first_fault (missing_property rows) (map f (drop i xs)) ≡ first_fault (missing_property rows) (map f xs)
map_drop rows f xs i e = ap (first_fault (missing_property rows)) (drops f xs i) ∙ e

-- ---- the tables of the list

listed_next : (items : List InCode) (i : ℕ) (d : InCode) → i < length items → map listed_as (drop i items) ≡ listed_as (get_or items i d) ∷ map listed_as (drop (suc i) items)
listed_next [] i d lt = absurd (omega arith)
listed_next (x ∷ xs) zero d lt = refl
listed_next (x ∷ xs) (suc i) d lt = listed_next xs i d (omega arith)

-- a known table of which a row dangles
pub listed_fails : (rows : Rows) (items : List InCode) (i : ℕ) (d : InCode) (k : Known) → i < length items → get_or items i d ≡ code.Known k → map listed_as items ≡ listed
    → first_fault (table_dangling rows) (map listed_as (drop i items)) ≡ first_fault (table_dangling rows) (map listed_as items) → (f : Fault) → rows_dangling rows k ≡ Some f → references_fault rows ≡ Some f
listed_fails rows items i d k lt at is so f some =
    ap (first_fault (table_dangling rows)) (sym is) ∙ sym so ∙ ap (first_fault (table_dangling rows)) (listed_next items i d lt)
    ∙ ap (λ (x : InCode). table_dangling rows (listed_as x) or_else first_fault (table_dangling rows) (map listed_as (drop (suc i) items))) at
    ∙ ap (λ (o : Option Fault). o or_else first_fault (table_dangling rows) (map listed_as (drop (suc i) items))) some
