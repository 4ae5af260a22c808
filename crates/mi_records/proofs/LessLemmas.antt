-- What a leaving row takes of the value that it wrote.
use Rattle.std.proofs.Common.{◌≡◌, ℕ, ◌≤◌, Bool, true, false, cond, ◌&&◌, List, [], ◌∷◌, length, Option, Some, None, refl, sym, ap, subst, ◌∙◌, arith}
use Rattle.std.specs.Prelude.{◌==◌, is_some, option_map}
use Rattle.std.specs.FinMap.{get}
use Rattle.std.specs.List.{list_all}
use Rattle.std.proofs.lemmas.Bool.{eqb-true}
use Rattle.std.proofs.lemmas.Bool.Decides.{nat_tests}
use Rattle.mi_text.specs.Maps.{Name, Map, same_name}
use Rattle.mi_text.proofs.ByteLemmas.{both, and_true}
use Rattle.mi_base.specs.declared.entry.Entry.{Entry}
use Rattle.mi_base.specs.declared.entry.Entry.TheVariants as entry
use Rattle.mi_base.specs.declared.entry.RegValue.TheVariants as value
use Rattle.mi_base.specs.declared.entry.ValueKey.{ValueKey}
use Rattle.mi_base.specs.Limits.{fits, are_few, is_short}
use Rattle.mi_base.specs.Spelling.{name_of}
use Rattle.mi_base.specs.Names.{value_name}
use Rattle.mi_model.specs.RegistryRows.{RegistryPlace, name_of_value}
use Rattle.mi_model.specs.ListItems.{without_first, without_items}
use Rattle.mi_model.specs.RemoveRegistryValues.{of_items, less_items}
use Rattle.mi_source.specs.Paths.{Files}
use Rattle.mi_base.specs.Machine.{Machine}
use Rattle.mi_base.specs.declared.entry.FileHead.{FileHead}
use Rattle.mi_changes.specs.Touches.{Set}
use Rattle.mi_image.specs.declared.item.Content.{Content}
use Rattle.mi_image.specs.declared.item.Item.TheVariants.{Head, Whole}
use Rattle.mi_image.specs.Items.{Items, entry_over, machine_over}
use Rattle.mi_script.specs.declared.rec.Rec.{Rec}
use Rattle.mi_script.specs.Spelled.{is_file_name}
use Rattle.mi_steps.specs.Follows.{Follows, put_touch}
use Rattle.mi_steps.proofs.FollowLemmas.{no_step, same_touch}
use Rattle.mi_steps.proofs.StepLemmas.{get-over}
use Rattle.mi_records.specs.Removing.{MayBeLeft, MayBeLeftAt}
use Rattle.mi_records.specs.declared.less.Rest.{Rest}
use Rattle.mi_records.specs.declared.less.Rest.TheVariants as rest

pub none_of : (key : ValueKey) (items : List Name) → (length items == 0) ≡ true → None ≡ of_items key items
none_of key [] is = refl
none_of key (x ∷ items) is = absurd (let none = eqb-true (length (x ∷ items)) 0 is in omega arith)

pub some_of : (key : ValueKey) (items : List Name) → (length items == 0) ≡ false → Some (entry.Value key (value.List items)) ≡ of_items key items
some_of key [] is = cc
some_of key (x ∷ items) is = refl

-- ---- a list with less items

first_shorter : (x : Name) (xs : List Name) → length (without_first x xs) ≤ length xs
first_shorter x [] = omega arith
first_shorter x (y ∷ xs) = elim (same_name x y) as (λ b. length (cond b xs (y ∷ without_first x xs)) ≤ length (y ∷ xs)) [
  | true ↦ omega arith
  | false ↦ let rest = first_shorter x xs in omega arith
]

shorter : (items list : List Name) → length (without_items items list) ≤ length list
shorter [] list = omega arith
shorter (x ∷ items) list = let rest = shorter items (without_first x list) in let one = first_shorter x list in omega arith

first_all : (test : Name → Bool) (x : Name) (xs : List Name) → list_all test xs ≡ true → list_all test (without_first x xs) ≡ true
first_all test x [] all = refl
first_all test x (y ∷ xs) all =
    let parts = both (test y) (list_all test xs) all in
    elim (same_name x y) as (λ b. list_all test (cond b xs (y ∷ without_first x xs)) ≡ true) [
      | true ↦ parts.1
      | false ↦ and_true (test y) (list_all test (without_first x xs)) parts.0 (first_all test x xs parts.1)
    ]

all_less : (test : Name → Bool) (items list : List Name) → list_all test list ≡ true → list_all test (without_items items list) ≡ true
all_less test [] list all = all
all_less test (x ∷ items) list all = all_less test items (without_first x list) (first_all test x list all)

few_less : (xs ys : List Name) → length xs ≤ length ys → are_few ys ≡ true → are_few xs ≡ true
few_less xs ys less few = grind (arith, nat_tests)

less_fits : (key : ValueKey) (items list : List Name) → fits (entry.Value key (value.List list)) ≡ true → fits (entry.Value key (value.List (without_items items list))) ≡ true
unfolding fits
less_fits key items list fit =
    let parts = both _ _ fit in
    let own = both (are_few list) (list_all is_short list) parts.1 in
    and_true _ _ parts.0 (and_true _ _ (few_less (without_items items list) list (shorter items list) own.0) (all_less is_short items list own.1))

pub may_be_left : (key : ValueKey) (items list : List Name) → fits (entry.Value key (value.List list)) ≡ true → MayBeLeft (entry.Value key (value.List list)) (rest.Left key (without_items items list))
may_be_left key items list fit = (refl, less_fits key items list fit)

-- ---- what stands at a name

module _ (held files : Map (List ℕ)) (items : Items) (q : Name) where
  pub whole_over : (e : Entry) → get items q ≡ Some (Whole e) → get (machine_over held files items) q ≡ Some e
  whole_over e is = get-over held files items q ∙ ap (option_map (entry_over held files)) is

  pub head_over : (h : FileHead) (content : Content) (taken : List Name) → get items q ≡ Some (Head h content) → get (machine_over held files items) q ≡ less_items taken (get (machine_over held files items) q)
  head_over h content taken is =
      let at : get (machine_over held files items) q ≡ Some (entry_over held files (Head h content)) = get-over held files items q ∙ ap (option_map (entry_over held files)) is in
      at ∙ sym (ap (less_items taken) at)

  pub none_over : (taken : List Name) → get items q ≡ None → get (machine_over held files items) q ≡ less_items taken (get (machine_over held files items) q)
  none_over taken is =
      let at : get (machine_over held files items) q ≡ None = get-over held files items q ∙ ap (option_map (entry_over held files)) is in
      at ∙ sym (ap (less_items taken) at)

pub left_named : (e : Entry) (q : Name) (r : Rest) → name_of e ≡ q → MayBeLeft e r → MayBeLeftAt q r
left_named e q rest.Same named may = tt
left_named e q rest.Gone named may = tt
left_named e q (rest.Left key items) named may = (may.0 ∙ named, may.1)

-- ---- a touch that takes items out

pub less_same : (files : Files) (m : Machine) (h : List Rec) (q : Name) (taken : List Name) → is_file_name q ≡ false → get m q ≡ less_items taken (get m q) → Follows files m m h h (Set q (less_items taken) ∷ [])
less_same files m h q taken plain same = no_step files m h q (less_items taken) (ap (λ b. b && is_some (less_items taken (get m q))) plain) (sym same)

pub less_put : (files : Files) (m n : Machine) (h i : List Rec) (q : Name) (e : Entry) (f : Option Entry → Option Entry) → name_of e ≡ q → Some e ≡ f (get m q) → Follows files m n h i (put_touch (name_of e) e ∷ []) → Follows files m n h i (Set q f ∷ [])
less_put files m n h i q e f named is made = same_touch files m n h i q (λ old. Some e) f is (subst (λ (p : Name). Follows files m n h i (put_touch p e ∷ [])) named made)

-- the name of a value is no file's
pub plain_value : (p : RegistryPlace) → is_file_name (name_of_value p) ≡ false
unfolding value_name
plain_value p = refl
