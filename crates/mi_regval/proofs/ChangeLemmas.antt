-- What a text makes of an old value, by its kind.
use Rattle.std.proofs.Common.{◌≡◌, ℕ, Bool, true, false, cond, List, [], ◌∷◌, Option, Some, None, Result, Ok, Err, refl, sym, ap, ◌∙◌, inl, inr}
use Rattle.std.specs.Prelude.{◌==◌}
use Rattle.std.specs.Result.{result_ok}
use Rattle.std.specs.List.{list_any}
use Rattle.std.proofs.lemmas.Bool.{cases_Bool}
use Rattle.hex.specs.Hex.{decode_of}
use Rattle.hex.specs.declared.FromHexError.{FromHexError}
use Rattle.mi_base.specs.declared.entry.RegValue.{RegValue}
use Rattle.mi_base.specs.declared.entry.RegValue.TheVariants as value
use Rattle.mi_regval.specs.declared.change.Change.{Change}
use Rattle.mi_regval.specs.declared.change.Change.TheVariants as change
use Rattle.mi_regval.specs.declared.error.ValueFault.{ValueFault}
use Rattle.mi_regval.specs.Lists.{is_zero, same_items}
use Rattle.mi_regval.specs.declared.lists.ListText.{ListText}
use Rattle.mi_regval.specs.ListTexts.{list_of, list_text_of, joined}
use Rattle.mi_regval.specs.Numbers.{int_of}
use Rattle.mi_regval.specs.Values.{int_value, binary_value, typed_value, plain_value, old_items, value_of}
use Rattle.mi_regval.specs.declared.error.ValueError.{ValueError}
use Rattle.mi_regval.specs.declared.error.ValueError.TheVariants as error
use Rattle.mi_regval.specs.Reads.{ValueReads, ChangeReads}
use Rattle.mi_regval.specs.Changes.{list_change, changed, change_in, change_of}
use Rattle.mi_regval.proofs.ListLemmas.{items_decide, some_text}

-- ---- a text that is no list

abbrev alone : Result RegValue ValueFault → Result Change ValueFault
alone (Ok v) = Ok (change.Value v)
alone (Err f) = Err f

abbrev IsAlone : Option (List (List ℕ)) → Result RegValue ValueFault → Type 0
IsAlone old r = change_in old r ≡ alone r

int_alone : (old : Option (List (List ℕ))) (n : Option ℕ) → IsAlone old (int_value n)
int_alone old None = refl
int_alone old (Some n) = refl

binary_alone : (old : Option (List (List ℕ))) (bytes : Result (List ℕ) FromHexError) → IsAlone old (binary_value bytes)
binary_alone old (Ok bytes) = refl
binary_alone old (Err e) = refl

either_alone : (old : Option (List (List ℕ))) (b : Bool) (r s : Result RegValue ValueFault) → IsAlone old r → IsAlone old s → IsAlone old (cond b r s)
either_alone old true r s h k = h
either_alone old false r s h k = k

typed_alone : (old : Option (List (List ℕ))) (text : List ℕ) → IsAlone old (typed_value text)
typed_alone old [] = refl
typed_alone old (b ∷ rest) =
    either_alone old (b == 35) _ _ refl
    (either_alone old (b == 37) _ _ refl
    (either_alone old (b == 120) _ _ (binary_alone old (decode_of rest)) (int_alone old (int_of (b ∷ rest)))))

plain_alone : (old : Option (List (List ℕ))) (text : List ℕ) → IsAlone old (plain_value text)
plain_alone old [] = refl
plain_alone old (b ∷ rest) = either_alone old (b == 35) _ _ (typed_alone old rest) refl

abbrev by_kind : List ℕ → Option RegValue → Bool → Result RegValue ValueFault
by_kind text old b = cond b (Ok (value.List (list_of text (old_items old)))) (plain_value text)

no_list : (text : List ℕ) (old : Option RegValue) → list_any is_zero text ≡ false → change_of text old ≡ alone (plain_value text)
no_list text old e = ap (λ (b : Bool). change_in (old_items old) (by_kind text old b)) e ∙ plain_alone (old_items old) text

pub plain_is : (text : List ℕ) (old : Option RegValue) (v : RegValue) → list_any is_zero text ≡ false → plain_value text ≡ Ok v → change_of text old ≡ Ok (change.Value v)
plain_is text old v e is = no_list text old e ∙ ap alone is

pub plain_fault : (text : List ℕ) (old : Option RegValue) (f : ValueFault) → list_any is_zero text ≡ false → plain_value text ≡ Err f → change_of text old ≡ Err f
plain_fault text old f e is = no_list text old e ∙ ap alone is

pub fault_read : (text : List ℕ) (old : Option RegValue) (e : ValueError) → list_any is_zero text ≡ false → ValueReads (Err e) (plain_value text) → ChangeReads (Err e) (change_of text old)
fault_read text old error.NoMemory e h = tt
fault_read text old (error.Fault f) e h = plain_fault text old f e h

-- ---- a text that is a list

pub list_is : (text : List ℕ) (old : Option RegValue) → list_any is_zero text ≡ true → change_of text old ≡ Ok (list_change (list_of text (old_items old)) (old_items old))
list_is text old e = ap (λ (b : Bool). change_in (old_items old) (by_kind text old b)) e

pub list_result : (text : List ℕ) (old : Option RegValue) (list : ListText) (items : Option (List (List ℕ))) (c : Change) → Some list ≡ list_text_of text → items ≡ old_items old
    → c ≡ list_change (joined list.side list.items items) items → change_of text old ≡ Ok c
list_result text old list items c some is made =
    let found = some_text text list some in
    list_is text old found.0
    ∙ ap (λ (o : Option (List (List ℕ))). let r : Result Change ValueFault = Ok (list_change (list_of text o) o) in r) (sym is)
    ∙ ap (λ (l : ListText). let r : Result Change ValueFault = Ok (list_change (joined l.side l.items items) items) in r) (sym found.1)
    ∙ ap (λ (x : Change). let r : Result Change ValueFault = Ok x in r) (sym made)

-- ---- a change gives the value

unchanged_list : (items : List (List ℕ)) (old : Option RegValue) → list_change items (old_items old) ≡ change.Unchanged → Some (value.List items) ≡ old
unchanged_list items None e = absurd cc
unchanged_list items (Some (value.Text t)) e = absurd cc
unchanged_list items (Some (value.Expand t)) e = absurd cc
unchanged_list items (Some (value.Int n)) e = absurd cc
unchanged_list items (Some (value.Binary b)) e = absurd cc
unchanged_list items (Some (value.List olds)) e =
    elim (cases_Bool (same_items items olds)) [
      | inl same ↦ ap (λ (l : List (List ℕ)). let o : Option RegValue = Some (value.List l) in o) ((items_decide items olds).0 same)
      | inr differ ↦
          let h : list_change items (Some olds) ≡ change.Value (value.List items) = ap (λ (b : Bool). let c : Change = cond b change.Unchanged (change.Value (value.List items)) in c) differ in
          absurd cc
    ]

new_list : (items : List (List ℕ)) (old : Option (List (List ℕ))) (v : RegValue) → list_change items old ≡ change.Value v → value.List items ≡ v
new_list items None v e = cc
new_list items (Some olds) v e =
    elim (cases_Bool (same_items items olds)) [
      | inl same ↦
          let h : list_change items (Some olds) ≡ change.Unchanged = ap (λ (b : Bool). let c : Change = cond b change.Unchanged (change.Value (value.List items)) in c) same in
          absurd cc
      | inr differ ↦
          let h : list_change items (Some olds) ≡ change.Value (value.List items) = ap (λ (b : Bool). let c : Change = cond b change.Unchanged (change.Value (value.List items)) in c) differ in
          cc
    ]

changed_same : (old : Option RegValue) (v : RegValue) → changed (old_items old) v ≡ change.Unchanged → Some v ≡ old
changed_same old (value.Text t) e = absurd cc
changed_same old (value.Expand t) e = absurd cc
changed_same old (value.Int n) e = absurd cc
changed_same old (value.Binary b) e = absurd cc
changed_same old (value.List items) e = unchanged_list items old e

changed_new : (old : Option (List (List ℕ))) (v w : RegValue) → changed old v ≡ change.Value w → v ≡ w
changed_new old (value.Text t) w e = cc
changed_new old (value.Expand t) w e = cc
changed_new old (value.Int n) w e = cc
changed_new old (value.Binary b) w e = cc
changed_new old (value.List items) w e = new_list items old w e

in_same : (old : Option RegValue) (r : Result RegValue ValueFault) → change_in (old_items old) r ≡ Ok change.Unchanged → result_ok r ≡ old
in_same old (Ok v) e = let h : changed (old_items old) v ≡ change.Unchanged = cc in changed_same old v h
in_same old (Err f) e = absurd cc

in_new : (old : Option (List (List ℕ))) (r : Result RegValue ValueFault) (w : RegValue) → change_in old r ≡ Ok (change.Value w) → r ≡ Ok w
in_new old (Ok v) w e = let h : changed old v ≡ change.Value w = cc in ap (λ (x : RegValue). let o : Result RegValue ValueFault = Ok x in o) (changed_new old v w h)
in_new old (Err f) w e = absurd cc

in_fault : (old : Option (List (List ℕ))) (r : Result RegValue ValueFault) (f : ValueFault) → change_in old r ≡ Err f → r ≡ Err f
in_fault old (Ok v) f e = absurd cc
in_fault old (Err g) f e = cc

pub same_is : (text : List ℕ) (old : Option RegValue) → change_of text old ≡ Ok change.Unchanged → result_ok (value_of text old) ≡ old
same_is text old e = in_same old (value_of text old) e

pub new_is : (text : List ℕ) (old : Option RegValue) (v : RegValue) → change_of text old ≡ Ok (change.Value v) → value_of text old ≡ Ok v
new_is text old v e = in_new (old_items old) (value_of text old) v e

pub fault_is : (text : List ℕ) (old : Option RegValue) (f : ValueFault) → change_of text old ≡ Err f → value_of text old ≡ Err f
fault_is text old f e = in_fault (old_items old) (value_of text old) f e
