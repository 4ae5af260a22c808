-- Items that are taken out of a list, each once.
use Rattle.std.proofs.Common.{◌≡◌, ℕ, ◌+◌, ◌-◌, ◌<◌, Bool, true, false, cond, ◌&&◌, List, [], ◌∷◌, ◌++◌, length, take, drop, get_or, suc, Option, Some, refl, sym, ap, ◌∙◌, arith, add-one, append_assoc}
use Rattle.std.specs.Prelude.{nat_lt, count_by, unwrap_or}
use Rattle.std.specs.Map.{update}
use Rattle.std.specs.Str.{bytes_eq}
use Rattle.std.proofs.Math.Seq.{drop-cons}
use Rattle.std.proofs.lemmas.Map.Text.{is_eq-slice_cmp}
use Rattle.std.proofs.lemmas.Bool.Decides.{nat_tests}
use Rattle.std.proofs.lemmas.List.Sums.{sum_by-cons, count_by_more_yes, count_by_more_no}
use Rattle.mi_text.specs.Maps.{Name, same_name}
use Rattle.mi_text.proofs.MapLemmas.{from_same, same_itself}
use Rattle.mi_model.specs.ListItems.{without_first, without_items}

-- the items that are left where each is taken out so often
abbrev pub once_less : (Name → ℕ) → Name → Name → ℕ
once_less counts x q = cond (same_name q x) (counts q - 1) (counts q)

abbrev pub left : (Name → ℕ) → List Name → List Name
left counts [] = []
left counts (x ∷ xs) = cond (nat_lt 0 (counts x)) (left (once_less counts x) xs) (x ∷ left counts xs)

-- by the counts alone
pub left_alike : (a b : Name → ℕ) → ((q : Name) → a q ≡ b q) → (xs : List Name) → left a xs ≡ left b xs
left_alike a b same [] = refl
left_alike a b same (x ∷ xs) =
    ap (λ (n : ℕ). cond (nat_lt 0 n) (left (once_less a x) xs) (x ∷ left a xs)) (same x)
    ∙ ap (λ (l : List Name). cond (nat_lt 0 (b x)) l (x ∷ left a xs)) (left_alike (once_less a x) (once_less b x) (λ q. ap (λ (n : ℕ). cond (same_name q x) (n - 1) n) (same q)) xs)
    ∙ ap (λ (l : List Name). cond (nat_lt 0 (b x)) (left (once_less b x) xs) (x ∷ l)) (left_alike a b same xs)

none_left : (xs : List Name) → left (λ q. 0) xs ≡ xs
none_left [] = refl
none_left (x ∷ xs) = ap (λ (l : List Name). x ∷ l) (none_left xs)

pub turned : (a b : Name) (t : Bool) → same_name a b ≡ t → same_name b a ≡ t
turned a b true is = ap (λ (k : Name). same_name k a) (sym (from_same a b is)) ∙ same_itself a
turned a b false is = elim (same_name b a) as (λ t. same_name b a ≡ t → t ≡ false) [
  | true ↦ λ at. let clash : true ≡ false = sym (same_itself a) ∙ ap (same_name a) (sym (from_same b a at)) ∙ is in cc
  | false ↦ λ other. refl
] refl

some_more : (n m : ℕ) → n ≡ 1 + m → nat_lt 0 n ≡ true
some_more n m is = grind (arith, nat_tests)

less_more : (n m : ℕ) → n ≡ 1 + m → n - 1 ≡ m
less_more n m is = omega arith

no_more : (n m : ℕ) → n ≡ 0 + m → n ≡ m
no_more n m is = omega arith

abbrev Once : Name → (Name → ℕ) → (Name → ℕ) → Type 0
Once x a b = (q : Name) → a q ≡ cond (same_name q x) 1 0 + b q

counted : (a b : Name → ℕ) (x : Name) → Once x a b → (t : Bool) (q : Name) → same_name q x ≡ t → a q ≡ cond t 1 0 + b q
counted a b x more t q is = more q ∙ ap (λ t. cond t 1 0 + b q) is

-- where the item is the next one
taken_first : (a b : Name → ℕ) (x y : Name) → Once x a b → same_name y x ≡ true → (q : Name) → once_less a y q ≡ b q
taken_first a b x y more yx q = by_name (same_name q y) refl
  where
    by_name : (t : Bool) → same_name q y ≡ t → cond t (a q - 1) (a q) ≡ b q
    by_name true is = less_more (a q) (b q) (counted a b x more true q (ap (λ (k : Name). same_name k x) (from_same q y is) ∙ yx))
    by_name false is = no_more (a q) (b q) (counted a b x more false q (ap (same_name q) (sym (from_same y x yx)) ∙ is))

-- and where it isn't
taken_later : (a b : Name → ℕ) (x y : Name) → Once x a b → same_name y x ≡ false → Once x (once_less a y) (once_less b y)
taken_later a b x y more yx q = by_name (same_name q y) refl
  where
    by_name : (t : Bool) → same_name q y ≡ t → cond t (a q - 1) (a q) ≡ cond (same_name q x) 1 0 + cond t (b q - 1) (b q)
    by_name true is =
        let apart : same_name q x ≡ false = ap (λ (k : Name). same_name k x) (from_same q y is) ∙ yx in
        let same : a q ≡ b q = no_more (a q) (b q) (counted a b x more false q apart) in
        ap (λ (n : ℕ). n - 1) same ∙ (let zero_more : b q - 1 ≡ 0 + (b q - 1) = omega arith in zero_more) ∙ ap (λ t. cond t 1 0 + (b q - 1)) (sym apart)
    by_name false is = more q

-- an item that is taken out once more is taken out first
once_more : (a b : Name → ℕ) (x : Name) → Once x a b → (xs : List Name) → left a xs ≡ left b (without_first x xs)
once_more a b x more [] = refl
once_more a b x more (y ∷ ys) = elim (same_name x y) as (λ t. same_name x y ≡ t → left a (y ∷ ys) ≡ left b (cond t ys (y ∷ without_first x ys))) [
  | true ↦ λ is.
      let yx = turned x y true is in
      ap (λ t. cond t (left (once_less a y) ys) (y ∷ left a ys)) (some_more (a y) (b y) (counted a b x more true y yx))
      ∙ left_alike (once_less a y) b (taken_first a b x y more yx) ys
  | false ↦ λ is.
      let yx = turned x y false is in
      let same : a y ≡ b y = no_more (a y) (b y) (counted a b x more false y yx) in
      ap (λ (n : ℕ). cond (nat_lt 0 n) (left (once_less a y) ys) (y ∷ left a ys)) same
      ∙ ap (λ (l : List Name). cond (nat_lt 0 (b y)) l (y ∷ left a ys)) (once_more (once_less a y) (once_less b y) x (taken_later a b x y more yx) ys)
      ∙ ap (λ (l : List Name). cond (nat_lt 0 (b y)) (left (once_less b y) (without_first x ys)) (y ∷ l)) (once_more a b x more ys)
] refl

-- items that are taken out as often as they stand among others are taken out one after the other
pub left_without : (items list : List Name) → left (λ q. count_by (same_name q) items) list ≡ without_items items list
left_without [] list = none_left list
left_without (x ∷ items) list =
    once_more (λ q. count_by (same_name q) (x ∷ items)) (λ q. count_by (same_name q) items) x (λ q. sum_by-cons (λ y. cond (same_name q y) 1 0) x items) list
    ∙ left_without items (without_first x list)

-- ---- loops over items

pub updated_at : {X : Type 0} (f : Name → Option X) (q n : Name) (w : Option X) → update bytes_eq f n w q ≡ cond (same_name q n) w (f q)
updated_at f q n w = ap (λ b. cond b w (f q)) (sym (is_eq-slice_cmp n q) ∙ sym (turned n q (same_name n q) refl))

pub count_put : (b : Bool) (n : ℕ) (o : Option ℕ) → unwrap_or (cond b (Some n) o) 0 ≡ cond b n (unwrap_or o 0)
count_put true n o = refl
count_put false n o = refl

pub less_there : (old : Name → ℕ) (q x : Name) (n : ℕ) → n ≡ old x → cond (same_name q x) (n - 1) (old q) ≡ once_less old x q
less_there old q x n is = elim (same_name q x) as (λ t. same_name q x ≡ t → cond t (n - 1) (old q) ≡ cond t (old q - 1) (old q)) [
  | true ↦ λ at. ap (λ (m : ℕ). m - 1) (is ∙ ap old (sym (from_same q x at)))
  | false ↦ λ at. refl
] refl

-- one item more is counted
pub counted_more : (items : List Name) (i : ℕ) (x q : Name) (old : Name → ℕ) (n new : ℕ) → i < length items → x ≡ get_or items i x → ((p : Name) → old p ≡ count_by (same_name p) (take i items)) → n ≡ old x
    → new ≡ cond (same_name q x) (n + 1) (old q) → new ≡ count_by (same_name q) (take (i + 1) items)
counted_more items i x q old n new within is so_far count then = elim (same_name q x) as (λ t. same_name q x ≡ t → new ≡ cond t (n + 1) (old q) → new ≡ count_by (same_name q) (take (i + 1) items)) [
  | true ↦ λ at now. now ∙ ap (λ (m : ℕ). m + 1) (count ∙ ap old (sym (from_same q x at)) ∙ so_far q) ∙ sym (count_by_more_yes (same_name q) items i x within (ap (same_name q) (sym is) ∙ at))
  | false ↦ λ at now. now ∙ so_far q ∙ sym (count_by_more_no (same_name q) items i x within (ap (same_name q) (sym is) ∙ at))
] refl then

-- one item more is taken out, or left
pub left_step : (all list : List Name) (i : ℕ) (x : Name) (rest new_rest : List Name) (old new : Name → ℕ) (taken : Bool) → i < length list → x ≡ get_or list i x → taken ≡ nat_lt 0 (old x)
    → ((q : Name) → new q ≡ cond (taken && same_name q x) (old q - 1) (old q)) → new_rest ≡ cond taken rest (rest ++ x ∷ []) → rest ++ left old (drop i list) ≡ all → new_rest ++ left new (drop (i + 1) list) ≡ all
left_step all list i x rest new_rest old new taken within is test counts grown so_far =
    ap (λ (l : List Name). l ++ left new (drop (i + 1) list)) grown
    ∙ by_test taken test counts
    ∙ ap (λ (l : List Name). rest ++ left old l) (sym next)
    ∙ so_far
  where
    next : drop i list ≡ x ∷ drop (i + 1) list
    next = drop-cons list i x within ∙ ap (λ (y : Name). y ∷ drop (suc i) list) (sym is) ∙ ap (λ (n : ℕ). x ∷ drop n list) (sym (add-one i))

    by_test : (b : Bool) → b ≡ nat_lt 0 (old x) → ((q : Name) → new q ≡ cond (b && same_name q x) (old q - 1) (old q)) → cond b rest (rest ++ x ∷ []) ++ left new (drop (i + 1) list) ≡ rest ++ left old (x ∷ drop (i + 1) list)
    by_test true at counts = ap (λ (l : List Name). rest ++ l) (left_alike new (once_less old x) counts (drop (i + 1) list) ∙ ap (λ b. cond b (left (once_less old x) (drop (i + 1) list)) (x ∷ left old (drop (i + 1) list))) at)
    by_test false at counts =
        append_assoc rest (x ∷ []) (left new (drop (i + 1) list))
        ∙ ap (λ (l : List Name). rest ++ l) (ap (λ (l : List Name). x ∷ l) (left_alike new old counts (drop (i + 1) list)) ∙ ap (λ b. cond b (left (once_less old x) (drop (i + 1) list)) (x ∷ left old (drop (i + 1) list))) at)
