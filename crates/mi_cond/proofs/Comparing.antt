-- Texts that are compared in either case, and integers that texts spell.
use Rattle.std.proofs.Common.{◌≡◌, ℕ, zero, suc, ◌+◌, ◌*◌, ◌-◌, ◌<◌, ◌≤◌, leb, Bool, true, false, cond, ◌||◌, ◌&&◌, List, [], ◌∷◌, ◌++◌, map, length, get_or, take, drop, Option, Some, None, refl, sym, ap, ◌∙◌, arith, inl, inr, ◌⊎◌}
use Rattle.std.specs.Prelude.{nat_eq, fold, option_and_then, ℤ}
use Rattle.std.specs.Char.{to_ascii_lowercase}
use Rattle.std.specs.Ordering.{nat_cmp, ordering_then, is_ne}
use Rattle.std.specs.declared.cmp.Ordering.{Ordering}
use Rattle.std.specs.declared.cmp.Ordering.TheVariants.{Less, Equal, Greater}
use Rattle.std.specs.Cmp.{nat_cmp_is}
use Rattle.std.specs.Cmp.Lexicographic.{slice_cmp, pointwise}
use Rattle.std.specs.List.{starts_with, ends_with}
use Rattle.std.proofs.lemmas.Bool.{le-leb, lt-leb}
use Rattle.std.proofs.lemmas.Bool.Decides.{nat_tests}
use Rattle.std.proofs.lemmas.List.{length-map, length-drop, drop-map, drop_more, take_more, take-append-drop, take_rest}
use Rattle.std.proofs.Math.ListN.{drop_of_length-le}
use Rattle.mi_cond.specs.Integer.{is_digit, are_digits, is_empty, decimal_of, signed, digits_of, is_small}
use Rattle.mi_cond.specs.Value.{cased, contains}
use Rattle.mi_cond.proofs.ByteSteps.{nat_abs-signed}

abbrev pub letter_of : Bool → ℕ → ℕ
letter_of folds b = cond folds (to_ascii_lowercase b) b

cased-cons : (folds : Bool) (b : ℕ) (bs : List ℕ) → cased folds (b ∷ bs) ≡ letter_of folds b ∷ cased folds bs
cased-cons true b bs = refl
cased-cons false b bs = refl

cased-nil : (folds : Bool) → cased folds [] ≡ []
cased-nil true = refl
cased-nil false = refl

length-cased : (folds : Bool) (text : List ℕ) → length (cased folds text) ≡ length text
length-cased true text = length-map text to_ascii_lowercase
length-cased false text = refl

map_take : (f : ℕ → ℕ) (n : ℕ) (xs : List ℕ) → map f (take n xs) ≡ take n (map f xs)
map_take f zero xs = refl
map_take f (suc n) [] = refl
map_take f (suc n) (x ∷ xs) = ap (λ (ys : List ℕ). f x ∷ ys) (map_take f n xs)

cased-take : (folds : Bool) (n : ℕ) (text : List ℕ) → cased folds (take n text) ≡ take n (cased folds text)
cased-take true n text = map_take to_ascii_lowercase n text
cased-take false n text = refl

cased-drop : (folds : Bool) (n : ℕ) (text : List ℕ) → cased folds (drop n text) ≡ drop n (cased folds text)
cased-drop true n text = sym (drop-map to_ascii_lowercase n text)
cased-drop false n text = refl

-- ---- fronts and ends

pub begins_so : (folds : Bool) (text part : List ℕ) (n : ℕ) → n ≡ length part → pointwise nat_eq (cased folds part) (cased folds (take n text)) ≡ starts_with nat_eq (cased folds text) (cased folds part)
begins_so folds text part n e =
    ap (pointwise nat_eq (cased folds part)) (cased-take folds n text ∙ ap (λ (k : ℕ). take k (cased folds text)) (e ∙ sym (length-cased folds part)))

pub ends_so : (folds : Bool) (text part : List ℕ) (n : ℕ) → n ≡ length text - length part → pointwise nat_eq (cased folds part) (cased folds (take (length text - n) (drop n text))) ≡ ends_with nat_eq (cased folds text) (cased folds part)
ends_so folds text part n e =
    let places : n ≡ length (cased folds text) - length (cased folds part) = omega (arith, length-cased folds text, length-cased folds part) in
    ap (pointwise nat_eq (cased folds part)) (ap (cased folds) (take_rest text n) ∙ cased-drop folds n text ∙ ap (λ (k : ℕ). drop k (cased folds text)) places)

-- ---- a text within another

pub contains_more : (folds : Bool) (text part : List ℕ) (i : ℕ) → i < length text → contains (cased folds (drop i text)) part ≡ (starts_with nat_eq (cased folds (drop i text)) part || contains (cased folds (drop (i + 1) text)) part)
contains_more folds text part i lt =
    let step : cased folds (drop i text) ≡ letter_of folds (get_or text i 0) ∷ cased folds (drop (i + 1) text) = ap (cased folds) (drop_more text i 0 lt) ∙ cased-cons folds (get_or text i 0) (drop (i + 1) text) in
    ap (λ (xs : List ℕ). contains xs part) step ∙ sym (ap (λ (xs : List ℕ). starts_with nat_eq xs part || contains (cased folds (drop (i + 1) text)) part) step)

is_empty-length : (xs : List ℕ) → nat_eq (length xs) 0 ≡ is_empty xs
is_empty-length [] = refl
is_empty-length (x ∷ xs) = grind (arith, nat_tests)

is_empty-cased : (folds : Bool) (xs : List ℕ) → is_empty (cased folds xs) ≡ is_empty xs
is_empty-cased true [] = refl
is_empty-cased true (x ∷ xs) = refl
is_empty-cased false xs = refl

pub contains_end : (folds : Bool) (text part : List ℕ) (i : ℕ) → length text ≤ i → contains (cased folds (drop i text)) (cased folds part) ≡ nat_eq (length part) 0
contains_end folds text part i le =
    ap (λ (xs : List ℕ). contains (cased folds xs) (cased folds part)) (drop_of_length-le text le) ∙ ap (λ (xs : List ℕ). contains xs (cased folds part)) (cased-nil folds)
    ∙ is_empty-cased folds part ∙ sym (is_empty-length part)

-- ---- the order of texts

pub order_more : (folds : Bool) (left right : List ℕ) (i : ℕ) → i < length left → i < length right
    → slice_cmp nat_cmp (cased folds (drop i left)) (cased folds (drop i right))
    ≡ ordering_then (nat_cmp (letter_of folds (get_or left i 0)) (letter_of folds (get_or right i 0))) (slice_cmp nat_cmp (cased folds (drop (i + 1) left)) (cased folds (drop (i + 1) right)))
order_more folds left right i l r =
    let one : cased folds (drop i left) ≡ letter_of folds (get_or left i 0) ∷ cased folds (drop (i + 1) left) = ap (cased folds) (drop_more left i 0 l) ∙ cased-cons folds (get_or left i 0) (drop (i + 1) left) in
    let two : cased folds (drop i right) ≡ letter_of folds (get_or right i 0) ∷ cased folds (drop (i + 1) right) = ap (cased folds) (drop_more right i 0 r) ∙ cased-cons folds (get_or right i 0) (drop (i + 1) right) in
    ap (λ (xs : List ℕ). slice_cmp nat_cmp xs (cased folds (drop i right))) one ∙ ap (slice_cmp nat_cmp (letter_of folds (get_or left i 0) ∷ cased folds (drop (i + 1) left))) two

pub letters_cmp : (o : Ordering) (x y a b : ℕ) → o ≡ nat_cmp x y → x ≡ a → y ≡ b → o ≡ nat_cmp a b
letters_cmp o x y a b e left right = e ∙ ap (λ (k : ℕ). nat_cmp k y) left ∙ ap (nat_cmp a) right

pub then_first : (o : Ordering) (p : Ordering) → is_ne o ≡ true → ordering_then o p ≡ o
then_first Less p e = refl
then_first Equal p e = absurd cc
then_first Greater p e = refl

pub then_second : (o : Ordering) (p : Ordering) → is_ne o ≡ false → ordering_then o p ≡ p
then_second Less p e = absurd cc
then_second Equal p e = refl
then_second Greater p e = absurd cc

left_ends : (right : List ℕ) (m n : ℕ) → n ≡ m + length right → slice_cmp nat_cmp [] right ≡ nat_cmp m n
left_ends [] m n e = nat_cmp_is m n Equal (omega arith)
left_ends (y ∷ ys) m n e = nat_cmp_is m n Less (omega arith)

right_ends : (left : List ℕ) (m n : ℕ) → m ≡ n + length left → slice_cmp nat_cmp left [] ≡ nat_cmp m n
right_ends [] m n e = nat_cmp_is m n Equal (omega arith)
right_ends (x ∷ xs) m n e = nat_cmp_is m n Greater (omega arith)

-- where the shorter text ends, the lengths decide
pub order_end : (folds : Bool) (left right : List ℕ) (i : ℕ) → i ≤ length left → i ≤ length right → (length left ≤ i) ⊎ (length right ≤ i) → slice_cmp nat_cmp (cased folds (drop i left)) (cased folds (drop i right)) ≡ nat_cmp (length left) (length right)
order_end folds left right i l r (inl le) =
    ap (λ (xs : List ℕ). slice_cmp nat_cmp (cased folds xs) (cased folds (drop i right))) (drop_of_length-le left le) ∙ ap (λ (xs : List ℕ). slice_cmp nat_cmp xs (cased folds (drop i right))) (cased-nil folds)
    ∙ left_ends (cased folds (drop i right)) (length left) (length right) (omega (arith, length-cased folds (drop i right), length-drop i right))
order_end folds left right i l r (inr le) =
    ap (λ (xs : List ℕ). slice_cmp nat_cmp (cased folds (drop i left)) (cased folds xs)) (drop_of_length-le right le) ∙ ap (slice_cmp nat_cmp (cased folds (drop i left))) (cased-nil folds)
    ∙ right_ends (cased folds (drop i left)) (length left) (length right) (omega (arith, length-cased folds (drop i left), length-drop i left))

-- ---- integers

abbrev digit_step : ℕ → ℕ → ℕ
digit_step n b = 10 * n + (b - 48)

fold-grows : (n : ℕ) (ds : List ℕ) → n ≤ fold (λ k b. 10 * k + (b - 48)) n ds
fold-grows n [] = omega arith
fold-grows n (d ∷ ds) = omega (arith, fold-grows (10 * n + (d - 48)) ds)

fold-append : (n : ℕ) (xs ys : List ℕ) → fold (λ k b. 10 * k + (b - 48)) n (xs ++ ys) ≡ fold (λ k b. 10 * k + (b - 48)) (fold (λ k b. 10 * k + (b - 48)) n xs) ys
fold-append n [] ys = refl
fold-append n (x ∷ xs) ys = fold-append (10 * n + (x - 48)) xs ys

pub decimal-more : (ds : List ℕ) (i : ℕ) → i < length ds → decimal_of (take (i + 1) ds) ≡ 10 * decimal_of (take i ds) + (get_or ds i 0 - 48)
decimal-more ds i lt = ap decimal_of (take_more ds i 0 lt) ∙ fold-append 0 (take i ds) (get_or ds i 0 ∷ [])

decimal-grows : (ds : List ℕ) (i : ℕ) → decimal_of (take i ds) ≤ decimal_of ds
decimal-grows ds i =
    let split : decimal_of ds ≡ fold (λ k b. 10 * k + (b - 48)) (decimal_of (take i ds)) (drop i ds) = ap decimal_of (sym (take-append-drop i ds)) ∙ fold-append 0 (take i ds) (drop i ds) in
    omega (arith, fold-grows (decimal_of (take i ds)) (drop i ds), split)

and_regroup : (a b c d : Bool) → b ≡ (c && d) → (a && b) ≡ ((a && c) && d)
and_regroup true b c d e = e
and_regroup false b c d e = refl

digits-append : (xs ys : List ℕ) → are_digits (xs ++ ys) ≡ (are_digits xs && are_digits ys)
digits-append [] ys = refl
digits-append (x ∷ xs) ys = and_regroup (is_digit x) (are_digits (xs ++ ys)) (are_digits xs) (are_digits ys) (digits-append xs ys)

pub digits-more : (ds : List ℕ) (i : ℕ) → i < length ds → are_digits (take i ds) ≡ true → is_digit (get_or ds i 0) ≡ true → are_digits (take (i + 1) ds) ≡ true
digits-more ds i lt e is =
    ap are_digits (take_more ds i 0 lt) ∙ digits-append (take i ds) (get_or ds i 0 ∷ []) ∙ rw (e, is) refl

no_digits : (ds : List ℕ) (i : ℕ) → i < length ds → is_digit (get_or ds i 0) ≡ false → are_digits ds ≡ false
no_digits ds i lt no_digit =
    let split : take i ds ++ drop i ds ≡ ds = take-append-drop i ds in
    let rest : are_digits (drop i ds) ≡ false = ap are_digits (drop_more ds i 0 lt) ∙ ap (λ (b : Bool). b && are_digits (drop (i + 1) ds)) no_digit in
    sym (ap are_digits split) ∙ digits-append (take i ds) (drop i ds) ∙ by (are_digits (take i ds)) (are_digits (drop i ds)) rest
  where
    by : (a b : Bool) → b ≡ false → (a && b) ≡ false
    by true b e = e
    by false b e = refl

abbrev pub small_of : Bool → List ℕ → Option ℤ
small_of negative ds = option_and_then (λ z. cond (is_small z) (Some z) None) (digits_of negative ds)

not_digits : (negative : Bool) (ds : List ℕ) → are_digits ds ≡ false → small_of negative ds ≡ None
not_digits negative [] e = refl
not_digits negative (d ∷ ds) e = ap (λ (b : Bool). option_and_then (λ z. cond (is_small z) (Some z) None) (cond b (Some (signed negative (decimal_of (d ∷ ds)))) None)) e

pub no_integer : (negative : Bool) (ds : List ℕ) (i : ℕ) → i < length ds → is_digit (get_or ds i 0) ≡ false → small_of negative ds ≡ None
no_integer negative ds i lt e = not_digits negative ds (no_digits ds i lt e)

pub is_integer : (negative : Bool) (ds : List ℕ) → 0 < length ds → are_digits ds ≡ true → decimal_of ds ≤ 2147483647 → small_of negative ds ≡ Some (signed negative (decimal_of ds))
is_integer negative [] lt e le = absurd (omega arith)
is_integer negative (d ∷ ds) lt e le =
    let n : ℕ = decimal_of (d ∷ ds) in
    let small : is_small (signed negative n) ≡ true = ap (λ (k : ℕ). leb k 2147483647) (nat_abs-signed negative n) ∙ le-leb _ _ le in
    ap (λ (b : Bool). option_and_then (λ z. cond (is_small z) (Some z) None) (cond b (Some (signed negative n)) None)) e ∙ ap (λ (b : Bool). cond b (Some (signed negative n)) None) small

too_large : (negative : Bool) (ds : List ℕ) → 2147483647 < decimal_of ds → small_of negative ds ≡ None
too_large negative [] lt = refl
too_large negative (d ∷ ds) lt =
    let n : ℕ = decimal_of (d ∷ ds) in
    let large : is_small (signed negative n) ≡ false = ap (λ (k : ℕ). leb k 2147483647) (nat_abs-signed negative n) ∙ lt-leb _ _ lt in
    by (are_digits (d ∷ ds)) (signed negative n) large
  where
    by : (b : Bool) (z : ℤ) → is_small z ≡ false → option_and_then (λ y. cond (is_small y) (Some y) None) (cond b (Some z) None) ≡ None
    by true z large = ap (λ (t : Bool). cond t (Some z) None) large
    by false z large = refl

pub larger : (negative : Bool) (ds : List ℕ) (i : ℕ) → 2147483647 < decimal_of (take i ds) → small_of negative ds ≡ None
larger negative ds i lt = too_large negative ds (omega (arith, decimal-grows ds i))
