-- Items beside an old list, and when they leave it as it is.
use Rattle.std.proofs.Common.{◌≡◌, ℕ, ◌-◌, Bool, true, false, cond, List, [], ◌∷◌, ◌++◌, length, take, drop, Some, refl, sym, ap, subst, ◌∙◌, length-append, arith, inl, inr, ◌&&◌, ◌||◌}
use Rattle.std.specs.Prelude.{not, Result, IfOk, Option, None}
use Rattle.std.specs.List.{list_all, list_any}
use Rattle.std.proofs.lemmas.Bool.{cases_Bool}
use Rattle.std.proofs.lemmas.Cmp.{eq_by_cmp_equiv}
use Rattle.std.proofs.lemmas.List.{append-nil, take-append-drop, append_cancel_left, append_cancel_right}
use Rattle.std.proofs.lemmas.List.Elements.{filter-append}
use Rattle.std.proofs.Math.Seq.{drop-append_seam, take-append_seam}
use lib.Pointwise.{pointwise_decides, bytes_decides}
use Rattle.mi_text.specs.Maps.{Name, same_name, is_among}
use Rattle.mi_text.proofs.MapLemmas.{names_total}
use Rattle.mi_regval.specs.declared.lists.Side.{Side}
use Rattle.mi_regval.specs.declared.lists.Side.TheVariants.{Instead, Behind, Before}
use Rattle.mi_regval.specs.declared.lists.ListText.{ListText}
use Rattle.mi_regval.specs.Lists.{is_zero, others, same_items}
use Rattle.mi_regval.specs.ListTexts.{list_in, list_text_of, joined}

-- ---- tests

same_tests : (a b : Bool) → (a ≡ true → b ≡ true) → (b ≡ true → a ≡ true) → a ≡ b
same_tests true b f g = sym (f refl)
same_tests false true f g = g refl
same_tests false false f g = refl

never : (b : Bool) → (b ≡ true → ⊥) → false ≡ b
never true h = absurd (h refl)
never false h = refl

or_true : (a b : Bool) → b ≡ true → (a || b) ≡ true
or_true true b e = refl
or_true false b e = e

pub items_decide : (xs ys : List Name) → (same_items xs ys ≡ true → xs ≡ ys) × (xs ≡ ys → same_items xs ys ≡ true)
items_decide = pointwise_decides bytes_decides

-- ---- what a list keeps beside added items

abbrev pub keeps : List Name → Name → Bool
keeps added item = not (is_among item added)

same_itself : (x : Name) → same_name x x ≡ true
same_itself x = (eq_by_cmp_equiv names_total).refl x

among_behind : (front xs : List Name) (x : Name) → is_among x (front ++ x ∷ xs) ≡ true
among_behind [] xs x = ap (λ (b : Bool). b || is_among x xs) (same_itself x)
among_behind (y ∷ front) xs x = or_true (same_name x y) (is_among x (front ++ x ∷ xs)) (among_behind front xs x)

goes : (added xs : List Name) (x : Name) (b : Bool) → keeps added x ≡ b → b ≡ false → others added (x ∷ xs) ≡ others added xs
goes added xs x b is none = rw (is, none) refl

stays_first : (added xs : List Name) (x : Name) → keeps added x ≡ true → others added (x ∷ xs) ≡ x ∷ others added xs
stays_first added xs x is = rw is refl

none_of_their_own : (added front xs : List Name) → added ≡ front ++ xs → others added xs ≡ []
none_of_their_own added front [] e = refl
none_of_their_own added front (x ∷ xs) e =
    let among : is_among x added ≡ true = ap (is_among x) e ∙ among_behind front xs x in
    let again : added ≡ (front ++ x ∷ []) ++ xs = e ∙ regroup front xs x in
    goes added xs x (keeps added x) refl (ap not among) ∙ none_of_their_own added (front ++ x ∷ []) xs again
  where
    regroup : (us vs : List Name) (y : Name) → us ++ y ∷ vs ≡ (us ++ y ∷ []) ++ vs
    regroup [] vs y = refl
    regroup (u ∷ us) vs y = ap (λ (l : List Name). u ∷ l) (regroup us vs y)

others_all : (added xs : List Name) → list_all (keeps added) xs ≡ true → others added xs ≡ xs
others_all added [] e = refl
others_all added (x ∷ xs) e =
    elim (cases_Bool (keeps added x)) [
      | inl kept ↦ stays_first added xs x kept ∙ ap (λ (l : List Name). x ∷ l) (others_all added xs (sym (ap (λ (b : Bool). b && list_all (keeps added) xs) kept) ∙ e))
      | inr gone ↦ let h : false ≡ true = sym (ap (λ (b : Bool). b && list_all (keeps added) xs) gone) ∙ e in absurd cc
    ]

others_keep : (added xs : List Name) → list_all (keeps added) (others added xs) ≡ true
others_keep added [] = refl
others_keep added (x ∷ xs) =
    elim (cases_Bool (keeps added x)) [
      | inl kept ↦ ap (list_all (keeps added)) (stays_first added xs x kept) ∙ ap (λ (b : Bool). b && list_all (keeps added) (others added xs)) kept ∙ others_keep added xs
      | inr gone ↦ ap (list_all (keeps added)) (goes added xs x (keeps added x) refl gone) ∙ others_keep added xs
    ]

-- none of the items equals one of the others, exactly where all others are kept
all_kept : (items xs : List Name) → others items xs ≡ xs → list_all (keeps items) xs ≡ true
all_kept items xs e = sym (ap (list_all (keeps items)) e) ∙ others_keep items xs

-- ---- behind an old list

others_behind : (items xs : List Name) → others items (xs ++ items) ≡ others items xs
others_behind items xs =
    filter-append (keeps items) xs items ∙ ap (λ (l : List Name). others items xs ++ l) (none_of_their_own items [] items refl) ∙ append-nil (others items xs)

pub stays_behind : (items old xs : List Name) → old ≡ xs ++ items → list_all (keeps items) xs ≡ same_items (others items old ++ items) old
stays_behind items old xs is =
    same_tests (list_all (keeps items) xs) (same_items (others items (xs ++ items) ++ items) (xs ++ items))
    (λ e. (items_decide (others items (xs ++ items) ++ items) (xs ++ items)).1 (ap (λ (l : List Name). l ++ items) (others_behind items xs ∙ others_all items xs e)))
    (λ e.
    let whole : others items (xs ++ items) ++ items ≡ xs ++ items = (items_decide (others items (xs ++ items) ++ items) (xs ++ items)).0 e in
    all_kept items xs (append_cancel_right (others items xs) xs items (ap (λ (l : List Name). l ++ items) (sym (others_behind items xs)) ∙ whole)))
    ∙ ap (λ (l : List Name). same_items (others items l ++ items) l) (sym is)

pub not_behind : (items old : List Name) → same_items (drop (length old - length items) old) items ≡ false → false ≡ same_items (others items old ++ items) old
not_behind items old e =
    never (same_items (others items old ++ items) old) (λ same.
    let is : others items old ++ items ≡ old = (items_decide (others items old ++ items) old).0 same in
    let size : length old - length items ≡ length (others items old) = omega (arith, ap length is, length-append (others items old) items) in
    let tail : drop (length old - length items) old ≡ items =
    ap (λ (n : ℕ). drop n old) size ∙ ap (drop (length (others items old))) (sym is) ∙ drop-append_seam (others items old) items in
    let there : same_items (drop (length old - length items) old) items ≡ true = (items_decide (drop (length old - length items) old) items).1 tail in
    (let z : ⊥ = cc in z))

-- ---- before an old list

others_before : (items xs : List Name) → others items (items ++ xs) ≡ others items xs
others_before items xs = filter-append (keeps items) items xs ∙ ap (λ (l : List Name). l ++ others items xs) (none_of_their_own items [] items refl)

pub stays_before : (items old xs : List Name) → old ≡ items ++ xs → list_all (keeps items) xs ≡ same_items (items ++ others items old) old
stays_before items old xs is =
    same_tests (list_all (keeps items) xs) (same_items (items ++ others items (items ++ xs)) (items ++ xs))
    (λ e. (items_decide (items ++ others items (items ++ xs)) (items ++ xs)).1 (ap (λ (l : List Name). items ++ l) (others_before items xs ∙ others_all items xs e)))
    (λ e.
    let whole : items ++ others items (items ++ xs) ≡ items ++ xs = (items_decide (items ++ others items (items ++ xs)) (items ++ xs)).0 e in
    all_kept items xs (append_cancel_left items (others items xs) xs (ap (λ (l : List Name). items ++ l) (sym (others_before items xs)) ∙ whole)))
    ∙ ap (λ (l : List Name). same_items (items ++ others items l) l) (sym is)

pub not_before : (items old : List Name) → same_items (take (length items) old) items ≡ false → false ≡ same_items (items ++ others items old) old
not_before items old e =
    never (same_items (items ++ others items old) old) (λ same.
    let is : items ++ others items old ≡ old = (items_decide (items ++ others items old) old).0 same in
    let head : take (length items) old ≡ items = ap (take (length items)) (sym is) ∙ take-append_seam items (others items old) in
    let there : same_items (take (length items) old) items ≡ true = (items_decide (take (length items) old) items).1 head in
    (let z : ⊥ = cc in z))

-- ---- a text that is a list, or none

pub joined_alone : (side : Side) (items : List Name) → items ≡ joined side items None
joined_alone Instead items = refl
joined_alone Behind items = refl
joined_alone Before items = refl

abbrev by_test : List ℕ → Bool → Option ListText
by_test text b = cond b (Some (list_in text)) None

pub none_text : (text : List ℕ) → None ≡ list_text_of text → list_any is_zero text ≡ false
none_text text e =
    elim (cases_Bool (list_any is_zero text)) [
      | inl zero ↦ let h : list_text_of text ≡ Some (list_in text) = ap (by_test text) zero in absurd cc
      | inr none ↦ none
    ]

pub some_text : (text : List ℕ) (list : ListText) → Some list ≡ list_text_of text → (list_any is_zero text ≡ true) × (list ≡ list_in text)
some_text text list e =
    elim (cases_Bool (list_any is_zero text)) [
      | inl zero ↦ let h : list_text_of text ≡ Some (list_in text) = ap (by_test text) zero in (zero, cc)
      | inr none ↦ let h : list_text_of text ≡ None = ap (by_test text) none in absurd cc
    ]

-- ---- from what is cut off an old list

pub if_ok_along : {E : Type 0} (r : Result Bool E) (a b : Bool) → a ≡ b → IfOk r (λ x. x ≡ a) → IfOk r (λ x. x ≡ b)
if_ok_along r a b e h = subst (λ (v : Bool). IfOk r (λ x. x ≡ v)) e h

pub cut_behind : (items old xs : List Name) → same_items (drop (length old - length items) old) items ≡ true → xs ≡ take (length old - length items) old → old ≡ xs ++ items
cut_behind items old xs e is =
    let n = length old - length items in
    sym (take-append-drop n old) ∙ ap (λ (l : List Name). l ++ drop n old) (sym is) ∙ ap (λ (l : List Name). xs ++ l) ((items_decide (drop n old) items).0 e)

pub cut_before : (items old xs : List Name) → same_items (take (length items) old) items ≡ true → xs ≡ drop (length items) old → old ≡ items ++ xs
cut_before items old xs e is =
    let n = length items in
    sym (take-append-drop n old) ∙ ap (λ (l : List Name). l ++ drop n old) ((items_decide (take n old) items).0 e) ∙ ap (λ (l : List Name). items ++ l) (sym is)
