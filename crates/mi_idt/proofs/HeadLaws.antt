-- Line 3 has no fault exactly where it spells a page, a name and key columns.
use Rattle.std.proofs.Common.{◌≡◌, ◌≢◌, ℕ, zero, suc, ◌+◌, min, eqb, Bool, true, false, not, ◌||◌, cond, List, [], ◌∷◌, ◌++◌, length, Option, Some, None, option_map, unwrap_or, refl, sym, ap, subst, ◌∙◌, arith, inl, inr}
use Rattle.std.specs.List.{All, AllZip, AllPairs, list_all, slice_get}
use Rattle.std.specs.Str.{bytes_eq}
use Rattle.std.proofs.lemmas.Bool.{cases_Bool, eqb-true}
use Rattle.std.proofs.lemmas.Bool.Decides.{nat_tests}
use Rattle.std.proofs.lemmas.List.Elements.{All-nil, All-cons, All-head, All-tail}
use Rattle.std.proofs.lemmas.List.Folds.{list_any-append}
use Rattle.std.proofs.lemmas.Slice.Eq.{bytes_eq-Decides}
use Rattle.mi_text.specs.declared.answers.IdtFault.TheVariants.{CodePage, KeyColumn}
use Rattle.mi_idt.specs.Columns.{place_of}
use Rattle.mi_idt.specs.Fields.{is_digit, number_on}
use Rattle.mi_idt.specs.Head.{is_numeral, page_of, after_page, name_in, keys_in, is_known_page, page_fault, is_seen, keys_fault, named_fault, head_fault, places_of}
use Rattle.mi_idt.specs.Spells.{IsNumeral, IsKnownPage, SpellsHead, SpellsKeys}
use Rattle.mi_idt.proofs.Basics.{and_true, or_false, true_false, cons_not, option_cases, map_some}
use Rattle.mi_idt.proofs.Faults.{or-none, or-past}
use Rattle.mi_idt.proofs.Pairs.{AllPairs-nil, AllPairs-cons, AllPairs-head, AllPairs-tail}

-- ---- numerals

numeral_is : (field : List ℕ) → is_numeral field ≡ true → IsNumeral field (number_on 0 field)
numeral_is [] e = absurd cc
numeral_is (d ∷ ds) e = ((λ same. absurd cc), (and_true (not (eqb (length (d ∷ ds)) 0)) (list_all is_digit (d ∷ ds)) e).1, refl)

is_numeral_of : (field : List ℕ) (n : ℕ) → IsNumeral field n → is_numeral field ≡ true
is_numeral_of [] n h = absurd (h.0 refl)
is_numeral_of (d ∷ ds) n h = let full : eqb (length (d ∷ ds)) 0 ≡ false = grind (arith, nat_tests) in rw full h.1

page_known : (n : ℕ) → is_known_page n ≡ true → IsKnownPage n
page_known n e = elim (cases_Bool (eqb n 0)) [
  | inl t ↦ inl (eqb-true n 0 t)
  | inr f ↦ elim (cases_Bool (eqb n 1252)) [
    | inl t ↦ inr (inl (eqb-true n 1252 t))
    | inr g ↦ elim (cases_Bool (eqb n 65001)) [
      | inl t ↦ inr (inr (eqb-true n 65001 t))
      | inr h ↦ let none : is_known_page n ≡ false = rw (f, g, h) refl in absurd (true_false (is_known_page n) e none)
    ]
  ]
]

known_page : (n : ℕ) → IsKnownPage n → is_known_page n ≡ true
known_page n (inl e) = ap is_known_page e
known_page n (inr (inl e)) = ap is_known_page e
known_page n (inr (inr e)) = ap is_known_page e

page_none : (n : ℕ) → page_fault (Some n) ≡ None → is_known_page n ≡ true
page_none n e = elim (cases_Bool (is_known_page n)) [
  | inl t ↦ t
  | inr f ↦ let some : page_fault (Some n) ≡ Some (CodePage (min n 4294967295)) = rw f refl in absurd cc
]

-- ---- places

-- a place is that of the name, and the other way where names differ
placed : (names : List (List ℕ)) (key : List ℕ) (i : ℕ) → place_of names key ≡ Some i → slice_get names i ≡ Some key
placed [] key i e = absurd cc
placed (n ∷ ns) key i e = elim (cases_Bool (bytes_eq key n)) [
  | inl t ↦
      let is : 0 ≡ i = let s : Some 0 ≡ Some i = sym (ap (λ (b : Bool). cond b (Some 0) (option_map (λ j. j + 1) (place_of ns key))) t) ∙ e in cc in
      subst (λ (j : ℕ). slice_get (n ∷ ns) j ≡ Some key) is (ap Some (sym ((bytes_eq-Decides key n).0 t)))
  | inr f ↦
      let m = map_some (λ (j : ℕ). j + 1) (place_of ns key) i (sym (ap (λ (b : Bool). cond b (Some 0) (option_map (λ j. j + 1) (place_of ns key))) f) ∙ e) in
      let next : suc m.0 ≡ i = omega (arith, m.2) in
      subst (λ (j : ℕ). slice_get (n ∷ ns) j ≡ Some key) next (placed ns key m.0 m.1)
]

held : (names : List (List ℕ)) (key : List ℕ) (i : ℕ) (P : List ℕ → Type 0) → All P names → slice_get names i ≡ Some key → P key
held [] key i P all e = absurd cc
held (n ∷ ns) key zero P all e = let is : n ≡ key = cc in subst P is (All-head P n ns all)
held (n ∷ ns) key (suc i) P all e = held ns key i P (All-tail P n ns all) e

place_is : (names : List (List ℕ)) (key : List ℕ) (i : ℕ) → AllPairs (λ m n. m ≢ n) names → slice_get names i ≡ Some key → place_of names key ≡ Some i
place_is [] key i pairs e = absurd cc
place_is (n ∷ ns) key zero pairs e =
    let is : n ≡ key = cc in
    let t : bytes_eq key n ≡ true = (bytes_eq-Decides key n).1 (sym is) in
    rw t refl
place_is (n ∷ ns) key (suc i) pairs e =
    let other : n ≢ key = held ns key i (λ m. n ≢ m) (AllPairs-head (λ m n. m ≢ n) n ns pairs) e in
    let f : bytes_eq key n ≡ false = elim (cases_Bool (bytes_eq key n)) [ inl t ↦ absurd (other (sym ((bytes_eq-Decides key n).0 t))) | inr g ↦ g ] in
    let next : i + 1 ≡ suc i = omega arith in
    rw (f, place_is ns key i (AllPairs-tail (λ m n. m ≢ n) n ns pairs) e) (ap Some next)

-- ---- key columns

abbrev pub IsAt : List (List ℕ) → List ℕ → ℕ → Type 0
IsAt names key i = slice_get names i ≡ Some key

-- each place is new beside those that are seen
abbrev pub New : List ℕ → List ℕ → Type 0
New seen [] = Unit {0}
New seen (i ∷ is) = (is_seen i seen ≡ false) × New seen is

new_push : (seen : List ℕ) (i : ℕ) (js : List ℕ) → New (seen ++ i ∷ []) js → New seen js × All (λ j. i ≢ j) js
new_push seen i [] h = (tt, All-nil (λ j. i ≢ j))
new_push seen i (j ∷ js) h =
    let whole : (is_seen j seen || (eqb i j || false)) ≡ false = sym (list_any-append (λ k. eqb k j) seen (i ∷ [])) ∙ h.0 in
    let p = or_false (is_seen j seen) (eqb i j || false) whole in
    let q = or_false (eqb i j) false p.1 in
    let rest = new_push seen i js h.1 in
    ((p.0, rest.0), All-cons (λ k. i ≢ k) j js (λ same. true_false (eqb i j) (grind (arith, nat_tests)) q.0) rest.1)

push_new : (seen : List ℕ) (i : ℕ) (js : List ℕ) → New seen js → All (λ j. i ≢ j) js → New (seen ++ i ∷ []) js
push_new seen i [] h all = tt
push_new seen i (j ∷ js) h all =
    let other : eqb i j ≡ false = elim (cases_Bool (eqb i j)) [ inl t ↦ absurd (All-head (λ k. i ≢ k) j js all (eqb-true i j t)) | inr f ↦ f ] in
    (list_any-append (λ k. eqb k j) seen (i ∷ []) ∙ rw (h.0, other) refl, push_new seen i js h.1 (All-tail (λ k. i ≢ k) j js all))

keys_are : (names : List (List ℕ)) (seen : List ℕ) (ks : List (List ℕ)) → keys_fault names seen ks ≡ None → AllZip (IsAt names) ks (places_of names ks) × AllPairs (λ i j. i ≢ j) (places_of names ks) × New seen (places_of names ks)
keys_are names seen [] e = (tt, AllPairs-nil (λ i j. i ≢ j), tt)
keys_are names seen (k ∷ ks) e = elim (option_cases (place_of names k)) [
  | inl none ↦ let some : keys_fault names seen (k ∷ ks) ≡ Some (KeyColumn k) = rw none refl in absurd cc
  | inr found ↦ elim (cases_Bool (is_seen found.0 seen)) [
    | inl t ↦ let some : keys_fault names seen (k ∷ ks) ≡ Some (KeyColumn k) = rw (found.1, t) refl in absurd cc
    | inr f ↦
        let step : keys_fault names seen (k ∷ ks) ≡ keys_fault names (seen ++ found.0 ∷ []) ks = rw (found.1, f) refl in
        let h = keys_are names (seen ++ found.0 ∷ []) ks (sym step ∙ e) in
        let p = new_push seen found.0 (places_of names ks) h.2 in
        let is : places_of names (k ∷ ks) ≡ found.0 ∷ places_of names ks = ap (λ (x : Option ℕ). unwrap_or x 0 ∷ places_of names ks) found.1 in
        subst (λ (places : List ℕ). AllZip (IsAt names) (k ∷ ks) places × AllPairs (λ i j. i ≢ j) places × New seen places) (sym is)
        ((placed names k found.0 found.1, h.0), AllPairs-cons (λ i j. i ≢ j) found.0 (places_of names ks) p.1 h.1, (f, p.0))
  ]
]

are_keys : (names : List (List ℕ)) (seen : List ℕ) (ks : List (List ℕ)) (places : List ℕ) → AllPairs (λ m n. m ≢ n) names → AllZip (IsAt names) ks places → AllPairs (λ i j. i ≢ j) places → New seen places → (keys_fault names seen ks ≡ None) × (places ≡ places_of names ks)
are_keys names seen [] [] differ zip pairs new = (refl, refl)
are_keys names seen [] (i ∷ places) differ zip pairs new = absurd zip
are_keys names seen (k ∷ ks) [] differ zip pairs new = absurd zip
are_keys names seen (k ∷ ks) (i ∷ places) differ zip pairs new =
    let at : place_of names k ≡ Some i = place_is names k i differ zip.0 in
    let rest = are_keys names (seen ++ i ∷ []) ks places differ zip.1 (AllPairs-tail (λ i j. i ≢ j) i places pairs) (push_new seen i places new.1 (AllPairs-head (λ i j. i ≢ j) i places pairs)) in
    let none : keys_fault names seen (k ∷ ks) ≡ None = rw (at, new.0) rest.0 in
    (none, ap (λ (l : List ℕ). i ∷ l) rest.1 ∙ sym (ap (λ (x : Option ℕ). unwrap_or x 0 ∷ places_of names ks) at))

all_new : (places : List ℕ) → New [] places
all_new [] = tt
all_new (i ∷ places) = (refl, all_new places)

named_is : (names : List (List ℕ)) (fields : List (List ℕ)) → named_fault names fields ≡ None → (fields ≡ name_in fields ∷ keys_in fields) × SpellsKeys names (keys_in fields) (places_of names (keys_in fields))
named_is names [] e = absurd cc
named_is names (name ∷ []) e = absurd cc
named_is names (name ∷ k ∷ ks) e = let h = keys_are names [] (k ∷ ks) e in (refl, (cons_not k ks, h.0, h.1))

is_named : (names : List (List ℕ)) (name : List ℕ) (keys : List (List ℕ)) (places : List ℕ) → AllPairs (λ m n. m ≢ n) names → SpellsKeys names keys places → (named_fault names (name ∷ keys) ≡ None) × (places ≡ places_of names keys)
is_named names name [] places differ s = absurd (s.0 refl)
is_named names name (k ∷ ks) places differ s = are_keys names [] (k ∷ ks) places differ s.1 s.2 (all_new places)

-- ---- the line

pub head_is : (names fields : List (List ℕ)) → head_fault names fields ≡ None → SpellsHead (page_of fields) fields (name_in (after_page fields)) (keys_in (after_page fields)) × SpellsKeys names (keys_in (after_page fields)) (places_of names (keys_in (after_page fields)))
head_is names [] e = absurd cc
head_is names (f ∷ fs) e =
    let o = or-none (page_fault (page_of (f ∷ fs))) (named_fault names (after_page (f ∷ fs))) e in
    let named = named_is names (after_page (f ∷ fs)) o.1 in
    elim (cases_Bool (is_numeral f)) [
      | inl t ↦
          let page : page_of (f ∷ fs) ≡ Some (number_on 0 f) = rw t refl in
          let rest : after_page (f ∷ fs) ≡ fs = rw t refl in
          let known : is_known_page (number_on 0 f) ≡ true = page_none (number_on 0 f) (ap page_fault (sym page) ∙ o.0) in
          let whole : f ∷ fs ≡ f ∷ name_in (after_page (f ∷ fs)) ∷ keys_in (after_page (f ∷ fs)) = ap (λ (l : List (List ℕ)). f ∷ l) (sym rest ∙ named.0) in
          (subst (λ (p : Option ℕ). SpellsHead p (f ∷ fs) (name_in (after_page (f ∷ fs))) (keys_in (after_page (f ∷ fs)))) (sym page) (f, whole, numeral_is f t, page_known (number_on 0 f) known), named.1)
      | inr g ↦
          let page : page_of (f ∷ fs) ≡ None = rw g refl in
          let rest : after_page (f ∷ fs) ≡ f ∷ fs = rw g refl in
          let first : name_in (after_page (f ∷ fs)) ≡ f = ap name_in rest in
          let plain : (n : ℕ) → ¬ (IsNumeral (name_in (after_page (f ∷ fs))) n) = λ n h. true_false (is_numeral f) (is_numeral_of f n (subst (λ (l : List ℕ). IsNumeral l n) first h)) g in
          (subst (λ (p : Option ℕ). SpellsHead p (f ∷ fs) (name_in (after_page (f ∷ fs))) (keys_in (after_page (f ∷ fs)))) (sym page) (sym rest ∙ named.0, plain), named.1)
    ]

-- what the line says is what stands there
pub record SaysHead (names fields : List (List ℕ)) (page : Option ℕ) (name : List ℕ) (keys : List (List ℕ)) (places : List ℕ) : Type 0 where
  pub no_fault : head_fault names fields ≡ None
  pub page_is : page ≡ page_of fields
  pub name_is : name ≡ name_in (after_page fields)
  pub places_are : places ≡ places_of names (keys_in (after_page fields))

says : (names : List (List ℕ)) (page : Option ℕ) (name : List ℕ) (keys : List (List ℕ)) (places : List ℕ) (fields : List (List ℕ)) → AllPairs (λ m n. m ≢ n) names → SpellsKeys names keys places → page ≡ page_of fields → after_page fields ≡ name ∷ keys → page_fault page ≡ None → SaysHead names fields page name keys places
says names page name keys places fields differ s p rest known =
    let h = is_named names name keys places differ s in
    record {
      no_fault = or-past (page_fault (page_of fields)) (named_fault names (after_page fields)) (ap page_fault (sym p) ∙ known) ∙ ap (named_fault names) rest ∙ h.0;
      page_is = p;
      name_is = sym (ap name_in rest);
      places_are = h.1 ∙ ap (places_of names) (sym (ap keys_in rest));
    }

pub is_head : (names fields : List (List ℕ)) (page : Option ℕ) (name : List ℕ) (keys : List (List ℕ)) (places : List ℕ) → AllPairs (λ m n. m ≢ n) names → SpellsHead page fields name keys → SpellsKeys names keys places → SaysHead names fields page name keys places
is_head names fields None name keys places differ h s =
    let plain : is_numeral name ≡ false = elim (cases_Bool (is_numeral name)) [ inl t ↦ absurd (h.1 (number_on 0 name) (numeral_is name t)) | inr f ↦ f ] in
    let page : None ≡ page_of fields = sym (ap page_of h.0 ∙ rw plain refl) in
    let rest : after_page fields ≡ name ∷ keys = ap after_page h.0 ∙ rw plain refl in
    says names None name keys places fields differ s page rest refl
is_head names fields (Some n) name keys places differ h s =
    let digits : is_numeral h.0 ≡ true = is_numeral_of h.0 n h.2 in
    let page : Some n ≡ page_of fields = sym (ap page_of h.1 ∙ rw digits (ap Some (sym h.2.2))) in
    let rest : after_page fields ≡ name ∷ keys = ap after_page h.1 ∙ rw digits refl in
    says names (Some n) name keys places fields differ s page rest (rw (known_page n h.3) refl)
