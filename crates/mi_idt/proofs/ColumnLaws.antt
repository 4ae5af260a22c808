-- Lines 1 and 2 have no fault exactly where they spell columns.
use Rattle.std.proofs.Common.{◌≡◌, ◌≢◌, ◌⊎◌, ℕ, ◌+◌, eqb, Bool, true, false, ◌||◌, cond, List, [], ◌∷◌, ◌++◌, length, Option, Some, None, is_some, is_none, unwrap_or, codes, refl, sym, ap, subst, ◌∙◌, arith, inl, inr}
use Rattle.std.specs.List.{All, AllZip, AllPairs}
use Rattle.std.specs.Str.{bytes_eq}
use Rattle.std.proofs.lemmas.Bool.{cases_Bool, eqb-true}
use Rattle.std.proofs.lemmas.Bool.Decides.{nat_tests}
use Rattle.std.proofs.lemmas.List.Elements.{All-nil, All-cons, All-head, All-tail}
use Rattle.std.proofs.lemmas.Slice.Eq.{bytes_eq-Decides}
use Rattle.mi_text.specs.declared.answers.IdtFault.TheVariants.{ColumnName, ColumnCount, Definition}
use Rattle.mi_idt.specs.Cells.{ColumnValue, names_of}
use Rattle.mi_idt.specs.Columns.{is_text, is_int, is_stream, width_of, column_of, place_of, names_fault, definitions_fault, second_fault, columns_in}
use Rattle.mi_idt.specs.Fields.{number_within}
use Rattle.mi_idt.specs.Spells.{IsWidth, SpellsDefinition}
use Rattle.mi_idt.proofs.Basics.{or_false, true_false, option_cases, map_some, none_from}
use Rattle.mi_idt.proofs.NameLemmas.{or_last, place_push}
use Rattle.mi_idt.proofs.Numbers.{number_is, is_number}
use Rattle.mi_idt.proofs.Pairs.{AllPairs-nil, AllPairs-cons, AllPairs-head, AllPairs-tail}

-- ---- names

abbrev pub Named : List (List ℕ) → Type 0
Named ns = All (λ n. n ≢ []) ns × AllPairs (λ m n. m ≢ n) ns

-- each name is new beside those that are seen
abbrev pub Fresh : List (List ℕ) → List (List ℕ) → Type 0
Fresh seen [] = Unit {0}
Fresh seen (n ∷ ns) = (place_of seen n ≡ None) × Fresh seen ns

or_last_none : (r : Option ℕ) (b : Bool) (i : ℕ) → or_last r b i ≡ None → (r ≡ None) × (b ≡ false)
or_last_none None true i e = absurd cc
or_last_none None false i e = (refl, refl)
or_last_none (Some x) b i e = absurd cc

fresh_push : (seen : List (List ℕ)) (n : List ℕ) (ns : List (List ℕ)) → Fresh (seen ++ n ∷ []) ns → Fresh seen ns × All (λ m. n ≢ m) ns
fresh_push seen n [] f = (tt, All-nil (λ m. n ≢ m))
fresh_push seen n (m ∷ ns) f =
    let p = or_last_none (place_of seen m) (bytes_eq m n) (length seen) (sym (place_push seen n m) ∙ f.0) in
    let rest = fresh_push seen n ns f.1 in
    ((p.0, rest.0), All-cons (λ m. n ≢ m) m ns (λ same. true_false (bytes_eq m n) ((bytes_eq-Decides m n).1 (sym same)) p.1) rest.1)

push_fresh : (seen : List (List ℕ)) (n : List ℕ) (ns : List (List ℕ)) → Fresh seen ns → All (λ m. n ≢ m) ns → Fresh (seen ++ n ∷ []) ns
push_fresh seen n [] f all = tt
push_fresh seen n (m ∷ ns) f all =
    let other : bytes_eq m n ≡ false = elim (cases_Bool (bytes_eq m n)) [ inl t ↦ absurd (All-head (λ m. n ≢ m) m ns all (sym ((bytes_eq-Decides m n).0 t))) | inr e ↦ e ] in
    (place_push seen n m ∙ rw (f.0, other) refl, push_fresh seen n ns f.1 (All-tail (λ m. n ≢ m) m ns all))

not_empty : (n : List ℕ) → eqb (length n) 0 ≡ false → n ≢ []
not_empty n e same = let z : eqb (length n) 0 ≡ true = ap (λ (l : List ℕ). eqb (length l) 0) same in absurd cc

long_name : (n : List ℕ) → n ≢ [] → eqb (length n) 0 ≡ false
long_name [] ne = absurd (ne refl)
long_name (x ∷ n) ne = grind (arith, nat_tests)

names_are : (seen : List (List ℕ)) (place : ℕ) (ns : List (List ℕ)) → names_fault seen place ns ≡ None → Named ns × Fresh seen ns
names_are seen place [] e = ((All-nil (λ n. n ≢ []), AllPairs-nil (λ m n. m ≢ n)), tt)
names_are seen place (n ∷ ns) e = elim (cases_Bool (eqb (length n) 0 || is_some (place_of seen n))) [
  | inl t ↦ let some : names_fault seen place (n ∷ ns) ≡ Some (ColumnName place) = rw t refl in absurd cc
  | inr f ↦
      let next : names_fault (seen ++ n ∷ []) (place + 1) ns ≡ None = sym (ap (λ (b : Bool). cond b (Some (ColumnName place)) (names_fault (seen ++ n ∷ []) (place + 1) ns)) f) ∙ e in
      let p = or_false (eqb (length n) 0) (is_some (place_of seen n)) f in
      let h = names_are (seen ++ n ∷ []) (place + 1) ns next in
      let q = fresh_push seen n ns h.1 in
      ((All-cons (λ n. n ≢ []) n ns (not_empty n p.0) h.0.0, AllPairs-cons (λ m n. m ≢ n) n ns q.1 h.0.1), (none_from (place_of seen n) p.1, q.0))
]

pub names_named : (ns : List (List ℕ)) → names_fault [] 1 ns ≡ None → Named ns
names_named ns e = (names_are [] 1 ns e).0

are_names : (seen : List (List ℕ)) (place : ℕ) (ns : List (List ℕ)) → Named ns → Fresh seen ns → names_fault seen place ns ≡ None
are_names seen place [] h f = refl
are_names seen place (n ∷ ns) h f =
    let full : eqb (length n) 0 ≡ false = long_name n (All-head (λ n. n ≢ []) n ns h.0) in
    let rest = are_names (seen ++ n ∷ []) (place + 1) ns (All-tail (λ n. n ≢ []) n ns h.0, AllPairs-tail (λ m n. m ≢ n) n ns h.1) (push_fresh seen n ns f.1 (AllPairs-head (λ m n. m ≢ n) n ns h.1)) in
    rw (full, f.0) rest

all_fresh : (ns : List (List ℕ)) → Fresh [] ns
all_fresh [] = tt
all_fresh (n ∷ ns) = (refl, all_fresh ns)

pub named_names : (ns : List (List ℕ)) → Named ns → names_fault [] 1 ns ≡ None
named_names ns h = are_names [] 1 ns h (all_fresh ns)

-- ---- one definition

int_no_text : (letter : ℕ) → is_int letter ≡ true → is_text letter ≡ false
int_no_text letter e = grind (arith, nat_tests)

stream_no_text : (letter : ℕ) → is_stream letter ≡ true → is_text letter ≡ false
stream_no_text letter e = grind (arith, nat_tests)

stream_no_int : (letter : ℕ) → is_stream letter ≡ true → is_int letter ≡ false
stream_no_int letter e = grind (arith, nat_tests)

int_width : (digits : List ℕ) (w : ℕ) → cond (bytes_eq digits (codes "2")) (Some 2) (cond (bytes_eq digits (codes "4")) (Some 4) None) ≡ Some w → (digits ≡ (48 + w) ∷ []) × ((w ≡ 2) ⊎ (w ≡ 4))
int_width digits w e = elim (cases_Bool (bytes_eq digits (codes "2"))) [
  | inl t ↦
      let is : w ≡ 2 = let s : Some 2 ≡ Some w = sym (ap (λ (b : Bool). cond b (Some 2) (cond (bytes_eq digits (codes "4")) (Some 4) None)) t) ∙ e in cc in
      ((bytes_eq-Decides digits (codes "2")).0 t ∙ ap (λ (k : ℕ). (48 + k) ∷ []) (sym is), inl is)
  | inr f ↦ elim (cases_Bool (bytes_eq digits (codes "4"))) [
    | inl t ↦
        let is : w ≡ 4 = let s : Some 4 ≡ Some w = sym (ap (λ (b : Bool). cond b (Some 4) None) t) ∙ sym (ap (λ (b : Bool). cond b (Some 2) (cond (bytes_eq digits (codes "4")) (Some 4) None)) f) ∙ e in cc in
        ((bytes_eq-Decides digits (codes "4")).0 t ∙ ap (λ (k : ℕ). (48 + k) ∷ []) (sym is), inr is)
    | inr g ↦ let s : None ≡ Some w = sym (ap (λ (b : Bool). cond b (Some 4) None) g) ∙ sym (ap (λ (b : Bool). cond b (Some 2) (cond (bytes_eq digits (codes "4")) (Some 4) None)) f) ∙ e in absurd cc
  ]
]

stream_width : (digits : List ℕ) (w : ℕ) → cond (bytes_eq digits (codes "0")) (Some 0) None ≡ Some w → (digits ≡ 48 ∷ []) × (w ≡ 0)
stream_width digits w e = elim (cases_Bool (bytes_eq digits (codes "0"))) [
  | inl t ↦ let s : Some 0 ≡ Some w = sym (ap (λ (b : Bool). cond b (Some 0) None) t) ∙ e in ((bytes_eq-Decides digits (codes "0")).0 t, cc)
  | inr f ↦ let s : None ≡ Some w = sym (ap (λ (b : Bool). cond b (Some 0) None) f) ∙ e in absurd cc
]

width_is : (letter : ℕ) (digits : List ℕ) (w : ℕ) → width_of letter digits ≡ Some w → IsWidth letter digits w
width_is letter digits w e = elim (cases_Bool (is_text letter)) [
  | inl t ↦ let r = number_is 255 w digits (sym (ap (λ (b : Bool). cond b (number_within 255 digits) (cond (is_int letter) (cond (bytes_eq digits (codes "2")) (Some 2) (cond (bytes_eq digits (codes "4")) (Some 4) None)) (cond (is_stream letter) (cond (bytes_eq digits (codes "0")) (Some 0) None) None))) t) ∙ e) in inl (t, r.0, r.1)
  | inr f ↦
      let past : cond (is_int letter) (cond (bytes_eq digits (codes "2")) (Some 2) (cond (bytes_eq digits (codes "4")) (Some 4) None)) (cond (is_stream letter) (cond (bytes_eq digits (codes "0")) (Some 0) None) None) ≡ Some w = sym (ap (λ (b : Bool). cond b (number_within 255 digits) (cond (is_int letter) (cond (bytes_eq digits (codes "2")) (Some 2) (cond (bytes_eq digits (codes "4")) (Some 4) None)) (cond (is_stream letter) (cond (bytes_eq digits (codes "0")) (Some 0) None) None))) f) ∙ e in
      elim (cases_Bool (is_int letter)) [
        | inl t ↦ let r = int_width digits w (sym (ap (λ (b : Bool). cond b (cond (bytes_eq digits (codes "2")) (Some 2) (cond (bytes_eq digits (codes "4")) (Some 4) None)) (cond (is_stream letter) (cond (bytes_eq digits (codes "0")) (Some 0) None) None)) t) ∙ past) in inr (inl (t, r.0, r.1))
        | inr g ↦
            let last : cond (is_stream letter) (cond (bytes_eq digits (codes "0")) (Some 0) None) None ≡ Some w = sym (ap (λ (b : Bool). cond b (cond (bytes_eq digits (codes "2")) (Some 2) (cond (bytes_eq digits (codes "4")) (Some 4) None)) (cond (is_stream letter) (cond (bytes_eq digits (codes "0")) (Some 0) None) None)) g) ∙ past in
            elim (cases_Bool (is_stream letter)) [
              | inl t ↦ let r = stream_width digits w (sym (ap (λ (b : Bool). cond b (cond (bytes_eq digits (codes "0")) (Some 0) None) None) t) ∙ last) in inr (inr (t, r.0, r.1))
              | inr h ↦ let s : None ≡ Some w = sym (ap (λ (b : Bool). cond b (cond (bytes_eq digits (codes "0")) (Some 0) None) None) h) ∙ last in absurd cc
            ]
      ]
]

is_width : (letter : ℕ) (digits : List ℕ) (w : ℕ) → IsWidth letter digits w → width_of letter digits ≡ Some w
is_width letter digits w (inl h) = rw h.0 (is_number 255 w digits h.1 h.2)
is_width letter digits w (inr (inl h)) = rw (int_no_text letter h.0, h.0) (of_int digits w h.1 h.2)
  where
    of_int : (digits : List ℕ) (w : ℕ) → digits ≡ (48 + w) ∷ [] → (w ≡ 2) ⊎ (w ≡ 4) → cond (bytes_eq digits (codes "2")) (Some 2) (cond (bytes_eq digits (codes "4")) (Some 4) None) ≡ Some w
    of_int digits w e (inl two) = ap (λ (ds : List ℕ). cond (bytes_eq ds (codes "2")) (Some 2) (cond (bytes_eq ds (codes "4")) (Some 4) None)) (e ∙ ap (λ (k : ℕ). (48 + k) ∷ []) two) ∙ ap Some (sym two)
    of_int digits w e (inr four) = ap (λ (ds : List ℕ). cond (bytes_eq ds (codes "2")) (Some 2) (cond (bytes_eq ds (codes "4")) (Some 4) None)) (e ∙ ap (λ (k : ℕ). (48 + k) ∷ []) four) ∙ ap Some (sym four)
is_width letter digits w (inr (inr h)) = rw (stream_no_text letter h.0, stream_no_int letter h.0, h.0, h.1, h.2) refl

column_is : (n d : List ℕ) (c : ColumnValue) → column_of n d ≡ Some c → SpellsDefinition d c × (c.name ≡ n)
column_is n [] c e = absurd cc
column_is n (letter ∷ digits) c e =
    let m = map_some (λ (w : ℕ). made letter w) (width_of letter digits) c e in
    (subst (SpellsDefinition (letter ∷ digits)) (sym m.2) (digits, refl, width_is letter digits m.0 m.1), ap (λ (x : ColumnValue). x.name) m.2)
  where
    made : ℕ → ℕ → ColumnValue
    made letter w = record { name = n; letter = letter; width = w }

is_column : (n d : List ℕ) (c : ColumnValue) → SpellsDefinition d c → c.name ≡ n → column_of n d ≡ Some c
is_column n d c s named =
    let width : width_of c.letter s.0 ≡ Some c.width = is_width c.letter s.0 c.width s.2 in
    ap (column_of n) s.1 ∙ rw width (λ i. Some (record { name = sym named i; letter = c.letter; width = c.width }))

-- ---- the columns

definitions_are : (place : ℕ) (ns ds : List (List ℕ)) → length ds ≡ length ns → definitions_fault place ns ds ≡ None → AllZip SpellsDefinition ds (columns_in ns ds) × (names_of (columns_in ns ds) ≡ ns)
definitions_are place [] [] l e = (tt, refl)
definitions_are place [] (d ∷ ds) l e = absurd (omega arith)
definitions_are place (n ∷ ns) [] l e = absurd (omega arith)
definitions_are place (n ∷ ns) (d ∷ ds) l e = elim (option_cases (column_of n d)) [
  | inl none ↦ let some : definitions_fault place (n ∷ ns) (d ∷ ds) ≡ Some (Definition place) = rw none refl in absurd cc
  | inr found ↦
      let next : definitions_fault (place + 1) ns ds ≡ None = sym (ap (λ (x : Option ColumnValue). cond (is_none x) (Some (Definition place)) (definitions_fault (place + 1) ns ds)) found.1) ∙ e in
      let rest = definitions_are (place + 1) ns ds (omega arith) next in
      let here = column_is n d found.0 found.1 in
      let is : columns_in (n ∷ ns) (d ∷ ds) ≡ found.0 ∷ columns_in ns ds = ap (λ (x : Option ColumnValue). unwrap_or x (record { name = n; letter = 0; width = 0 }) ∷ columns_in ns ds) found.1 in
      subst (λ (cs : List ColumnValue). AllZip SpellsDefinition (d ∷ ds) cs × (names_of cs ≡ n ∷ ns)) (sym is) ((here.0, rest.0), (λ i. here.1 i ∷ rest.1 i))
]

are_definitions : (place : ℕ) (ns ds : List (List ℕ)) (cs : List ColumnValue) → AllZip SpellsDefinition ds cs → names_of cs ≡ ns → (definitions_fault place ns ds ≡ None) × (cs ≡ columns_in ns ds) × (length ds ≡ length ns)
are_definitions place [] [] [] s e = (refl, refl, refl)
are_definitions place (n ∷ ns) [] [] s e = absurd cc
are_definitions place ns [] (c ∷ cs) s e = absurd s
are_definitions place ns (d ∷ ds) [] s e = absurd s
are_definitions place [] (d ∷ ds) (c ∷ cs) s e = absurd cc
are_definitions place (n ∷ ns) (d ∷ ds) (c ∷ cs) s e =
    let named : c.name ≡ n = cc in
    let more : names_of cs ≡ ns = cc in
    let column : column_of n d ≡ Some c = is_column n d c s.0 named in
    let rest = are_definitions (place + 1) ns ds cs s.1 more in
    let none : definitions_fault place (n ∷ ns) (d ∷ ds) ≡ None = rw column rest.0 in
    let is : columns_in (n ∷ ns) (d ∷ ds) ≡ c ∷ columns_in ns ds = rw column refl in
    (none, ap (λ (l : List ColumnValue). c ∷ l) rest.1 ∙ sym is, omega (arith, rest.2))

pub columns_are : (ns ds : List (List ℕ)) → second_fault ns ds ≡ None → AllZip SpellsDefinition ds (columns_in ns ds) × (names_of (columns_in ns ds) ≡ ns)
columns_are ns ds e = elim (cases_Bool (eqb (length ds) (length ns))) [
  | inl t ↦ definitions_are 1 ns ds (eqb-true _ _ t) (sym (ap (λ (b : Bool). cond b (definitions_fault 1 ns ds) (Some (ColumnCount 2))) t) ∙ e)
  | inr f ↦ let some : second_fault ns ds ≡ Some (ColumnCount 2) = rw f refl in absurd cc
]

pub are_columns : (ns ds : List (List ℕ)) (cs : List ColumnValue) → AllZip SpellsDefinition ds cs → names_of cs ≡ ns → (second_fault ns ds ≡ None) × (cs ≡ columns_in ns ds)
are_columns ns ds cs s e =
    let h = are_definitions 1 ns ds cs s e in
    let same : eqb (length ds) (length ns) ≡ true = grind (arith, nat_tests, h.2) in
    (ap (λ (b : Bool). cond b (definitions_fault 1 ns ds) (Some (ColumnCount 2))) same ∙ h.0, h.1)
