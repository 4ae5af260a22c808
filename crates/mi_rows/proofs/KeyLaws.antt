-- Keys of rows that compare equal have the same values in the key columns.
use Rattle.std.proofs.Common.{◌≡◌, ◌&&◌, ℕ, ℤ, Bool, true, false, List, [], ◌∷◌, Option, Some, None, refl, sym, ap, ◌∙◌, cond}
use Rattle.std.specs.Prelude.{not, option_map, unwrap_or, nat_eq}
use Rattle.std.specs.Option.{option_eq}
use Rattle.std.specs.Ordering.{int_eq}
use Rattle.std.specs.Cmp.Lexicographic.{pointwise, bytes_decides}
use Rattle.std.proofs.lemmas.Bool.Decides.{Decides-int_eq}
use Rattle.mi_rows.specs.Cells.{Cell}
use Rattle.mi_rows.specs.Cells.{Text, Integer, Code, Condition}
use Rattle.mi_rows.specs.declared.column.Kind.{Kind}
use Rattle.mi_rows.specs.declared.column.Kind.TheVariants as kind
use Rattle.mi_rows.proofs.Words.{has_text}
use Rattle.mi_rows.specs.Values.{suits, suits_kind, all_suit, key_cell, key_cells, KeysTell, Row, cell_at, text_in, text_at, number_in}
use Rattle.mi_rows.specs.Columns.{Column}
use Rattle.mi_rows.specs.Typed.{text_key, number_key, texts_key, text_number_key, upgrade_key}

both : (a b : Bool) → (a && b) ≡ true → (a ≡ true) × (b ≡ true)
both true b e = (refl, e)
both false b e = cc

-- ---- the value of a key column

-- how a key shows a value: as a text, as a text or null, as a number
pub data Part : Type 0 where
  a_text : Part
  text_or_null : Part
  a_number : Part

abbrev pub is_number : Kind → Bool
is_number kind.Integer = true
is_number other = false

abbrev pub is_part : Part → Column → Bool
is_part a_text c = has_text c.kind && not c.nullable
is_part text_or_null c = has_text c.kind
is_part a_number c = is_number c.kind && not c.nullable

abbrev pub part_of : Part → Option Cell → Option Cell
part_of a_text x = Some (Text (unwrap_or (text_in x) []))
part_of text_or_null x = option_map Text (text_in x)
part_of a_number x = Some (Integer (number_in x))

text_of : (k : Kind) (cell : Cell) → has_text k ≡ true → suits_kind k cell ≡ true → (text : List ℕ) × ((text_in (Some cell) ≡ Some text) × (key_cell (Some cell) ≡ Some (Text text)))
text_of k (Text text) is so = (text, (refl, refl))
text_of k (Condition text tree) is so = (text, (refl, refl))
text_of kind.Integer (Integer z) is so = cc
text_of other (Integer z) is so = cc
text_of kind.Code (Code code) is so = cc
text_of other (Code code) is so = cc

number_of : (k : Kind) (cell : Cell) → is_number k ≡ true → suits_kind k cell ≡ true → key_cell (Some cell) ≡ Some (Integer (number_in (Some cell)))
number_of k (Integer z) is so = refl
number_of kind.Integer (Text text) is so = cc
number_of other (Text text) is so = cc
number_of kind.Integer (Condition text tree) is so = cc
number_of other (Condition text tree) is so = cc
number_of kind.Integer (Code code) is so = cc
number_of other (Code code) is so = cc

never_null : (b : Bool) → not b ≡ true → b ≡ true → ⊥
never_null true n h = cc
never_null false n h = cc

part : (p : Part) (c : Column) (x : Option Cell) → is_part p c ≡ true → suits c x ≡ true → key_cell x ≡ part_of p x
part a_text c None is so = absurd (never_null c.nullable (both (has_text c.kind) (not c.nullable) is).1 so)
part a_text c (Some cell) is so = let t = text_of c.kind cell (both (has_text c.kind) (not c.nullable) is).0 so in t.1.1 ∙ ap (λ (o : Option (List ℕ)). Some (Text (unwrap_or o []))) (sym t.1.0)
part text_or_null c None is so = refl
part text_or_null c (Some cell) is so = let t = text_of c.kind cell is so in t.1.1 ∙ ap (λ (o : Option (List ℕ)). option_map Text o) (sym t.1.0)
part a_number c None is so = absurd (never_null c.nullable (both (is_number c.kind) (not c.nullable) is).1 so)
part a_number c (Some cell) is so = number_of c.kind cell (both (is_number c.kind) (not c.nullable) is).0 so

-- ---- the values of the key columns, which come first

abbrev pub are_parts : List Part → List Column → Bool
are_parts [] [] = true
are_parts [] (c ∷ cs) = not c.key && are_parts [] cs
are_parts (p ∷ ps) [] = false
are_parts (p ∷ ps) (c ∷ cs) = c.key && (is_part p c && are_parts ps cs)

abbrev pub parts_of : List Part → Row → Row
parts_of [] row = []
parts_of (p ∷ ps) [] = part_of p None ∷ parts_of ps []
parts_of (p ∷ ps) (x ∷ xs) = part_of p x ∷ parts_of ps xs

in_key : (b : Bool) (x : Option Cell) (more : Row) → b ≡ true → cond b (x ∷ more) more ≡ x ∷ more
in_key true x more e = refl
in_key false x more e = cc

not_in_key : (b : Bool) (x : Option Cell) (more : Row) → not b ≡ true → cond b (x ∷ more) more ≡ more
not_in_key true x more e = cc
not_in_key false x more e = refl

parts : (ps : List Part) (cs : List Column) → are_parts ps cs ≡ true → (row : Row) → all_suit cs row ≡ true → key_cells cs row ≡ parts_of ps row
parts [] [] is row so = refl
parts [] (c ∷ cs) is [] so = refl
parts [] (c ∷ cs) is (x ∷ xs) so =
    let here = both (not c.key) (are_parts [] cs) is in
    not_in_key c.key (key_cell x) (key_cells cs xs) here.0 ∙ parts [] cs here.1 xs (both (suits c x) (all_suit cs xs) so).1
parts (p ∷ ps) [] is row so = cc
parts (p ∷ ps) (c ∷ cs) is [] so = cc
parts (p ∷ ps) (c ∷ cs) is (x ∷ xs) so =
    let here = both c.key (is_part p c && are_parts ps cs) is in
    let more = both (is_part p c) (are_parts ps cs) here.1 in
    let fits = both (suits c x) (all_suit cs xs) so in
    in_key c.key (key_cell x) (key_cells cs xs) here.0
    ∙ ap (λ (y : Option Cell). y ∷ key_cells cs xs) (part p c x more.0 fits.0)
    ∙ ap (λ (ys : Row). part_of p x ∷ ys) (parts ps cs more.1 xs fits.1)

-- ---- the five shapes of keys, and the values in the key columns; a condition stands as its text

abbrev pub text_cells : List ℕ → Row
text_cells text = Some (Text text) ∷ []

abbrev pub number_cells : ℤ → Row
number_cells z = Some (Integer z) ∷ []

abbrev pub texts_cells : List ℕ × List ℕ → Row
texts_cells key = Some (Text key.0) ∷ Some (Text key.1) ∷ []

abbrev pub text_number_cells : List ℕ × ℤ → Row
text_number_cells key = Some (Text key.0) ∷ Some (Integer key.1) ∷ []

-- of Upgrade: the code, the two versions and the languages, the attributes
abbrev pub UpgradeKey : Type 0
UpgradeKey = List ℕ × Option (List ℕ) × Option (List ℕ) × Option (List ℕ) × ℤ

abbrev pub upgrade_cells : UpgradeKey → Row
upgrade_cells key = Some (Text key.0) ∷ option_map Text key.1 ∷ option_map Text key.2 ∷ option_map Text key.3 ∷ Some (Integer key.4) ∷ []

one : (p : Part) (row : Row) → parts_of (p ∷ []) row ≡ part_of p (cell_at row 0) ∷ []
one p [] = refl
one p (x ∷ xs) = refl

two : (p q : Part) (row : Row) → parts_of (p ∷ q ∷ []) row ≡ part_of p (cell_at row 0) ∷ part_of q (cell_at row 1) ∷ []
two p q [] = refl
two p q (x ∷ []) = refl
two p q (x ∷ y ∷ xs) = refl

five : (p q r s t : Part) (row : Row) → parts_of (p ∷ q ∷ r ∷ s ∷ t ∷ []) row
    ≡ part_of p (cell_at row 0) ∷ part_of q (cell_at row 1) ∷ part_of r (cell_at row 2) ∷ part_of s (cell_at row 3) ∷ part_of t (cell_at row 4) ∷ []
five p q r s t [] = refl
five p q r s t (a ∷ []) = refl
five p q r s t (a ∷ b ∷ []) = refl
five p q r s t (a ∷ b ∷ c ∷ []) = refl
five p q r s t (a ∷ b ∷ c ∷ d ∷ []) = refl
five p q r s t (a ∷ b ∷ c ∷ d ∷ e ∷ xs) = refl

module _ (cs : List Column) where
  pub text_tells : are_parts (a_text ∷ []) cs ≡ true → (row : Row) → all_suit cs row ≡ true → key_cells cs row ≡ text_cells (text_at row 0)
  text_tells is row so = parts (a_text ∷ []) cs is row so ∙ one a_text row

  pub number_tells : are_parts (a_number ∷ []) cs ≡ true → (row : Row) → all_suit cs row ≡ true → key_cells cs row ≡ number_cells (number_in (cell_at row 0))
  number_tells is row so = parts (a_number ∷ []) cs is row so ∙ one a_number row

  pub texts_tell : are_parts (a_text ∷ a_text ∷ []) cs ≡ true → (row : Row) → all_suit cs row ≡ true → key_cells cs row ≡ texts_cells (text_at row 0, text_at row 1)
  texts_tell is row so = parts (a_text ∷ a_text ∷ []) cs is row so ∙ two a_text a_text row

  pub text_number_tell : are_parts (a_text ∷ a_number ∷ []) cs ≡ true → (row : Row) → all_suit cs row ≡ true → key_cells cs row ≡ text_number_cells (text_at row 0, number_in (cell_at row 1))
  text_number_tell is row so = parts (a_text ∷ a_number ∷ []) cs is row so ∙ two a_text a_number row

  pub upgrade_tells : are_parts (a_text ∷ text_or_null ∷ text_or_null ∷ text_or_null ∷ a_number ∷ []) cs ≡ true → (row : Row) → all_suit cs row ≡ true
      → key_cells cs row ≡ upgrade_cells (text_at row 0, text_in (cell_at row 1), text_in (cell_at row 2), text_in (cell_at row 3), number_in (cell_at row 4))
  upgrade_tells is row so =
      parts (a_text ∷ text_or_null ∷ text_or_null ∷ text_or_null ∷ a_number ∷ []) cs is row so ∙ five a_text text_or_null text_or_null text_or_null a_number row

-- ---- keys that compare equal are one

text_exact : (a b : List ℕ) → pointwise nat_eq a b ≡ true → a ≡ b
text_exact a b = (bytes_decides a b).0

number_exact : (a b : ℤ) → int_eq a b ≡ true → a ≡ b
number_exact a b = (Decides-int_eq a b).0

some_exact : (a b : Option (List ℕ)) → option_eq (pointwise nat_eq) a b ≡ true → a ≡ b
some_exact None None e = refl
some_exact None (Some y) e = cc
some_exact (Some x) None e = cc
some_exact (Some x) (Some y) e = ap Some (text_exact x y e)

texts_exact : (a b : List ℕ × List ℕ) → (pointwise nat_eq a.0 b.0 && pointwise nat_eq a.1 b.1) ≡ true → a ≡ b
texts_exact a b e =
    let h = both (pointwise nat_eq a.0 b.0) (pointwise nat_eq a.1 b.1) e in
    ap (λ (x : List ℕ). (x, a.1)) (text_exact a.0 b.0 h.0) ∙ ap (λ (y : List ℕ). (b.0, y)) (text_exact a.1 b.1 h.1)

text_number_exact : (a b : List ℕ × ℤ) → (pointwise nat_eq a.0 b.0 && int_eq a.1 b.1) ≡ true → a ≡ b
text_number_exact a b e =
    let h = both (pointwise nat_eq a.0 b.0) (int_eq a.1 b.1) e in
    ap (λ (x : List ℕ). (x, a.1)) (text_exact a.0 b.0 h.0) ∙ ap (λ (y : ℤ). (b.0, y)) (number_exact a.1 b.1 h.1)

upgrade_exact : (a b : UpgradeKey) → ((((pointwise nat_eq a.0 b.0 && option_eq (pointwise nat_eq) a.1 b.1) && option_eq (pointwise nat_eq) a.2 b.2) && option_eq (pointwise nat_eq) a.3 b.3) && int_eq a.4 b.4) ≡ true → a ≡ b
upgrade_exact a b e =
    let h = both (((pointwise nat_eq a.0 b.0 && option_eq (pointwise nat_eq) a.1 b.1) && option_eq (pointwise nat_eq) a.2 b.2) && option_eq (pointwise nat_eq) a.3 b.3) (int_eq a.4 b.4) e in
    let i = both ((pointwise nat_eq a.0 b.0 && option_eq (pointwise nat_eq) a.1 b.1) && option_eq (pointwise nat_eq) a.2 b.2) (option_eq (pointwise nat_eq) a.3 b.3) h.0 in
    let j = both (pointwise nat_eq a.0 b.0 && option_eq (pointwise nat_eq) a.1 b.1) (option_eq (pointwise nat_eq) a.2 b.2) i.0 in
    let k = both (pointwise nat_eq a.0 b.0) (option_eq (pointwise nat_eq) a.1 b.1) j.0 in
    ap (λ (x : List ℕ). (x, a.1, a.2, a.3, a.4)) (text_exact a.0 b.0 k.0)
    ∙ ap (λ (x : Option (List ℕ)). (b.0, x, a.2, a.3, a.4)) (some_exact a.1 b.1 k.1)
    ∙ ap (λ (x : Option (List ℕ)). (b.0, b.1, x, a.3, a.4)) (some_exact a.2 b.2 j.1)
    ∙ ap (λ (x : Option (List ℕ)). (b.0, b.1, b.2, x, a.4)) (some_exact a.3 b.3 i.1)
    ∙ ap (λ (x : ℤ). (b.0, b.1, b.2, b.3, x)) (number_exact a.4 b.4 h.1)

-- ---- and so they have the same values in the key columns

told : {K : Type 0} (eq : K → K → Bool) (key : Row → K) (cells : K → Row) (cs : List Column) → ((a b : K) → eq a b ≡ true → a ≡ b) → ((row : Row) → all_suit cs row ≡ true → key_cells cs row ≡ cells (key row)) → KeysTell eq key cs
told eq key cells cs exact tells = λ a b suits also e. tells a suits ∙ ap cells (exact (key a) (key b) e) ∙ sym (tells b also)

pub text_told : (cs : List Column) → are_parts (a_text ∷ []) cs ≡ true → KeysTell (pointwise nat_eq) text_key cs
text_told cs is = told (pointwise nat_eq) text_key text_cells cs text_exact (text_tells cs is)

pub number_told : (cs : List Column) → are_parts (a_number ∷ []) cs ≡ true → KeysTell int_eq number_key cs
number_told cs is = told int_eq number_key number_cells cs number_exact (number_tells cs is)

pub texts_told : (cs : List Column) → are_parts (a_text ∷ a_text ∷ []) cs ≡ true → KeysTell (λ (a b : List ℕ × List ℕ). pointwise nat_eq a.0 b.0 && pointwise nat_eq a.1 b.1) texts_key cs
texts_told cs is = told (λ (a b : List ℕ × List ℕ). pointwise nat_eq a.0 b.0 && pointwise nat_eq a.1 b.1) texts_key texts_cells cs texts_exact (texts_tell cs is)

pub text_number_told : (cs : List Column) → are_parts (a_text ∷ a_number ∷ []) cs ≡ true → KeysTell (λ (a b : List ℕ × ℤ). pointwise nat_eq a.0 b.0 && int_eq a.1 b.1) text_number_key cs
text_number_told cs is = told (λ (a b : List ℕ × ℤ). pointwise nat_eq a.0 b.0 && int_eq a.1 b.1) text_number_key text_number_cells cs text_number_exact (text_number_tell cs is)

abbrev pub same_upgrade : UpgradeKey → UpgradeKey → Bool
same_upgrade a b = (((pointwise nat_eq a.0 b.0 && option_eq (pointwise nat_eq) a.1 b.1) && option_eq (pointwise nat_eq) a.2 b.2) && option_eq (pointwise nat_eq) a.3 b.3) && int_eq a.4 b.4

pub upgrade_told : (cs : List Column) → are_parts (a_text ∷ text_or_null ∷ text_or_null ∷ text_or_null ∷ a_number ∷ []) cs ≡ true → KeysTell same_upgrade upgrade_key cs
upgrade_told cs is = told same_upgrade upgrade_key upgrade_cells cs upgrade_exact (upgrade_tells cs is)
