-- What keys, values and shortcuts print can be read back.
use Rattle.std.proofs.Common.{◌≡◌, ℕ, ℤ, pos, negsuc, zero, suc, ◌^◌, ◌<◌, true, false, eqb, List, [], ◌∷◌, ◌++◌, refl, sym, ap, ◌∙◌, arith, append_assoc, eq-eqb, codes}
use Rattle.std.specs.Prelude.{FitsSigned}
use Rattle.std.specs.List.{flat_map}
use Rattle.std.specs.Int.{w16, w32, to_be_bytes, from_be_bytes}
use Rattle.std.specs.Fmt.{decimal, signed_decimal}
use Rattle.std.proofs.lemmas.List.{append_cancel_left}
use Rattle.std.proofs.lemmas.Nat.{from_be_bytes-to_be_bytes_4}
use Rattle.mi_base.specs.declared.entry.RegValue.{RegValue}
use Rattle.mi_base.specs.declared.entry.RegValue.TheVariants as value
use Rattle.mi_base.specs.declared.entry.Shortcut.{Shortcut}
use Rattle.mi_print.specs.Texts.{escaped_byte, is_escaped_in_key, two_digits, field, quoted, bytes_text, wide}
use Rattle.mi_print.specs.Lines.{shortcut_front, shortcut_icon, shortcut_line}
use Rattle.mi_print.specs.Registry.{root_name, key_text, key_line, value_name, int_text, data_text, value_line, exported}
use Rattle.mi_print.proofs.CodeLemmas.{AreApart, NeverBegins, Any, all_any, all_apart, heads, digits_apart, digits_never, escapes_apart, field_tab, quoted_apart, blanked_line, decimal_apart, tab_ends, line_ends}
use Rattle.mi_print.proofs.LineLemmas.{before, spread, tails, below16, decimal_never, dash_ends}

-- two different bytes in front
pub differ : (a b : ℕ) (x y : List ℕ) → eqb a b ≡ false → ¬ (a ∷ x ≡ b ∷ y)
differ a b x y other e = let z : true ≡ false = sym (eq-eqb a b (heads a b x y e)) ∙ other in cc

-- ---- keys

sign : ℕ → ℕ
sign zero = 76
sign (suc zero) = 85
sign (suc (suc zero)) = 79
sign (suc (suc (suc n))) = 83

-- the seventh letter of a root's name
seventh : List ℕ → ℕ
seventh (a ∷ b ∷ c ∷ d ∷ e ∷ f ∷ g ∷ rest) = g
seventh other = 0

seventh_is : (root : ℕ) (x : List ℕ) → seventh (root_name root ++ x) ≡ sign root
unfolding seventh sign
seventh_is zero x = refl
seventh_is (suc zero) x = refl
seventh_is (suc (suc zero)) x = refl
seventh_is (suc (suc (suc n))) x = refl

sign_back : (r s : ℕ) → r < 4 → s < 4 → sign r ≡ sign s → r ≡ s
unfolding sign
sign_back zero zero lr ls e = refl
sign_back zero (suc zero) lr ls e = absurd (let z : ⊥ = omega (arith, e) in z)
sign_back zero (suc (suc zero)) lr ls e = absurd (let z : ⊥ = omega (arith, e) in z)
sign_back zero (suc (suc (suc n))) lr ls e = absurd (let z : ⊥ = omega (arith, e) in z)
sign_back (suc zero) zero lr ls e = absurd (let z : ⊥ = omega (arith, e) in z)
sign_back (suc zero) (suc zero) lr ls e = refl
sign_back (suc zero) (suc (suc zero)) lr ls e = absurd (let z : ⊥ = omega (arith, e) in z)
sign_back (suc zero) (suc (suc (suc n))) lr ls e = absurd (let z : ⊥ = omega (arith, e) in z)
sign_back (suc (suc zero)) zero lr ls e = absurd (let z : ⊥ = omega (arith, e) in z)
sign_back (suc (suc zero)) (suc zero) lr ls e = absurd (let z : ⊥ = omega (arith, e) in z)
sign_back (suc (suc zero)) (suc (suc zero)) lr ls e = refl
sign_back (suc (suc zero)) (suc (suc (suc n))) lr ls e = absurd (let z : ⊥ = omega (arith, e) in z)
sign_back (suc (suc (suc m))) zero lr ls e = absurd (let z : ⊥ = omega (arith, e) in z)
sign_back (suc (suc (suc m))) (suc zero) lr ls e = absurd (let z : ⊥ = omega (arith, e) in z)
sign_back (suc (suc (suc m))) (suc (suc zero)) lr ls e = absurd (let z : ⊥ = omega (arith, e) in z)
sign_back (suc (suc (suc m))) (suc (suc (suc n))) lr ls e = omega (arith, lr, ls)

root_apart : (r s : ℕ) (x y : List ℕ) → r < 4 → s < 4 → root_name r ++ x ≡ root_name s ++ y → (r ≡ s) × (x ≡ y)
root_apart r s x y lr ls e =
    let same : r ≡ s = sign_back r s lr ls (sym (seventh_is r x) ∙ ap seventh e ∙ seventh_is s y) in
    (same, append_cancel_left (root_name s) x y (sym (ap (λ (k : ℕ). root_name k ++ x) same) ∙ e))

key_spread : (root : ℕ) (key x : List ℕ) → key_text root key ++ x ≡ 91 ∷ (root_name root ++ 92 ∷ (flat_map (escaped_byte is_escaped_in_key) key ++ 93 ∷ x))
unfolding key_text
key_spread root key x = spread (91 ∷ root_name root) ((92 ∷ flat_map (escaped_byte is_escaped_in_key) key) ∷ (93 ∷ []) ∷ []) x

not_60_93 : ¬ (◌≡◌ {A = ℕ} 60 93)
not_60_93 e = let z : ⊥ = omega (arith, e) in z

pub key_apart : (r s : ℕ) (k l x y : List ℕ) → r < 4 → s < 4 → key_text r k ++ x ≡ key_text s l ++ y → ((r ≡ s) × (k ≡ l)) × (x ≡ y)
key_apart r s k l x y lr ls e =
    let root = root_apart r s _ _ lr ls (tails 91 91 _ _ (sym (key_spread r k x) ∙ e ∙ key_spread s l y)) in
    let key = escapes_apart is_escaped_in_key refl 93 refl not_60_93 k l x y (tails 92 92 _ _ root.1) in
    ((root.0, key.0), key.1)

pub key_line_apart : (r s : ℕ) (k l x y : List ℕ) → r < 4 → s < 4 → key_line r k ++ x ≡ key_line s l ++ y → ((r ≡ s) × (k ≡ l)) × (x ≡ y)
unfolding key_line
key_line_apart r s k l x y lr ls e =
    let both = key_apart r s k l (10 ∷ x) (10 ∷ y) lr ls (sym (append_assoc (key_text r k) (10 ∷ []) x) ∙ e ∙ append_assoc (key_text s l) (10 ∷ []) y) in
    (both.0, tails 10 10 x y both.1)

-- ---- values

abbrev pub Fits32 : RegValue → Type 0
Fits32 (value.Int n) = n < 2 ^ 32
Fits32 other = Unit {0}

pub name_apart : (a b x y : List ℕ) → value_name a ++ x ≡ value_name b ++ y → (a ≡ b) × (x ≡ y)
unfolding quoted
name_apart [] [] x y e = (refl, append_cancel_left (codes "@=") x y e)
name_apart [] (b ∷ bs) x y e = absurd (differ 64 34 _ _ refl e)
name_apart (a ∷ us) [] x y e = absurd (differ 34 64 _ _ refl e)
name_apart (a ∷ us) (b ∷ vs) x y e =
    let text = quoted_apart (a ∷ us) (b ∷ vs) (61 ∷ x) (61 ∷ y) tt tt (sym (append_assoc (quoted (a ∷ us)) (61 ∷ []) x) ∙ e ∙ append_assoc (quoted (b ∷ vs)) (61 ∷ []) y) in
    (text.0, tails 61 61 x y text.1)

abbrev comma : ℕ → List ℕ
comma c = 44 ∷ two_digits c

comma_apart : AreApart (Any {X = ℕ}) comma
comma_apart a b x y pa pb e = digits_apart a b x y tt tt (tails 44 44 _ _ e)

comma_never : NeverBegins (Any {X = ℕ}) comma 10
comma_never a x y pa e = differ 44 10 _ _ refl e

bytes_apart : (a b x y : List ℕ) → bytes_text a ++ 10 ∷ x ≡ bytes_text b ++ 10 ∷ y → (a ≡ b) × (x ≡ y)
unfolding bytes_text
bytes_apart [] [] x y e = (refl, tails 10 10 x y e)
bytes_apart [] (b ∷ bs) x y e = absurd (digits_never 10 (omega arith) b (flat_map comma bs ++ 10 ∷ y) x tt (sym (append_assoc (two_digits b) (flat_map comma bs) (10 ∷ y)) ∙ sym e))
bytes_apart (a ∷ us) [] x y e = absurd (digits_never 10 (omega arith) a (flat_map comma us ++ 10 ∷ x) y tt (sym (append_assoc (two_digits a) (flat_map comma us) (10 ∷ x)) ∙ e))
bytes_apart (a ∷ us) (b ∷ vs) x y e =
    let first = digits_apart a b (flat_map comma us ++ 10 ∷ x) (flat_map comma vs ++ 10 ∷ y) tt tt (sym (append_assoc (two_digits a) (flat_map comma us) (10 ∷ x)) ∙ e ∙ append_assoc (two_digits b) (flat_map comma vs) (10 ∷ y)) in
    let rest = all_apart (Any {X = ℕ}) comma comma_apart 10 comma_never us vs x y (all_any us) (all_any vs) first.1 in
    (λ i. first.0 i ∷ rest.0 i, rest.1)

number_apart : (m n : ℕ) (x y : List ℕ) → m < 2 ^ 32 → n < 2 ^ 32 → flat_map two_digits (to_be_bytes w32 m) ++ 10 ∷ x ≡ flat_map two_digits (to_be_bytes w32 n) ++ 10 ∷ y → (m ≡ n) × (x ≡ y)
number_apart m n x y lm ln e =
    let all = all_apart (Any {X = ℕ}) two_digits digits_apart 10 (digits_never 10 (omega arith)) (to_be_bytes w32 m) (to_be_bytes w32 n) x y (all_any (to_be_bytes w32 m)) (all_any (to_be_bytes w32 n)) e in
    (sym (from_be_bytes-to_be_bytes_4 m lm) ∙ ap (from_be_bytes w32) all.0 ∙ from_be_bytes-to_be_bytes_4 n ln, all.1)

pub data_apart : (v w : RegValue) (x y : List ℕ) → Fits32 v → Fits32 w → data_text v ++ 10 ∷ x ≡ data_text w ++ 10 ∷ y → (v ≡ w) × (x ≡ y)
unfolding quoted int_text
data_apart (value.Text t) (value.Text u) x y fv fw e = let both = quoted_apart t u (10 ∷ x) (10 ∷ y) tt tt e in (ap (λ (s : List ℕ). value.Text s) both.0, tails 10 10 x y both.1)
data_apart (value.Text t) (value.Expand u) x y fv fw e = absurd (differ 34 101 _ _ refl e)
data_apart (value.Text t) (value.Int u) x y fv fw e = absurd (differ 34 100 _ _ refl e)
data_apart (value.Text t) (value.Binary u) x y fv fw e = absurd (differ 34 104 _ _ refl e)
data_apart (value.Text t) (value.List u) x y fv fw e = absurd (differ 34 108 _ _ refl e)
data_apart (value.Expand t) (value.Text u) x y fv fw e = absurd (differ 101 34 _ _ refl e)
data_apart (value.Expand t) (value.Expand u) x y fv fw e = let both = quoted_apart t u (10 ∷ x) (10 ∷ y) tt tt (append_cancel_left (codes "expand:") _ _ e) in (ap (λ (s : List ℕ). value.Expand s) both.0, tails 10 10 x y both.1)
data_apart (value.Expand t) (value.Int u) x y fv fw e = absurd (differ 101 100 _ _ refl e)
data_apart (value.Expand t) (value.Binary u) x y fv fw e = absurd (differ 101 104 _ _ refl e)
data_apart (value.Expand t) (value.List u) x y fv fw e = absurd (differ 101 108 _ _ refl e)
data_apart (value.Int t) (value.Text u) x y fv fw e = absurd (differ 100 34 _ _ refl e)
data_apart (value.Int t) (value.Expand u) x y fv fw e = absurd (differ 100 101 _ _ refl e)
data_apart (value.Int t) (value.Int u) x y fv fw e = let both = number_apart t u x y fv fw (append_cancel_left (codes "dword:") _ _ e) in (ap (λ (s : ℕ). value.Int s) both.0, both.1)
data_apart (value.Int t) (value.Binary u) x y fv fw e = absurd (differ 100 104 _ _ refl e)
data_apart (value.Int t) (value.List u) x y fv fw e = absurd (differ 100 108 _ _ refl e)
data_apart (value.Binary t) (value.Text u) x y fv fw e = absurd (differ 104 34 _ _ refl e)
data_apart (value.Binary t) (value.Expand u) x y fv fw e = absurd (differ 104 101 _ _ refl e)
data_apart (value.Binary t) (value.Int u) x y fv fw e = absurd (differ 104 100 _ _ refl e)
data_apart (value.Binary t) (value.Binary u) x y fv fw e = let both = bytes_apart t u x y (append_cancel_left (codes "hex:") _ _ e) in (ap (λ (s : List ℕ). value.Binary s) both.0, both.1)
data_apart (value.Binary t) (value.List u) x y fv fw e = absurd (differ 104 108 _ _ refl e)
data_apart (value.List t) (value.Text u) x y fv fw e = absurd (differ 108 34 _ _ refl e)
data_apart (value.List t) (value.Expand u) x y fv fw e = absurd (differ 108 101 _ _ refl e)
data_apart (value.List t) (value.Int u) x y fv fw e = absurd (differ 108 100 _ _ refl e)
data_apart (value.List t) (value.Binary u) x y fv fw e = absurd (differ 108 104 _ _ refl e)
data_apart (value.List t) (value.List u) x y fv fw e = let both = blanked_line t u x y (append_cancel_left (codes "list:") _ _ e) in (ap (λ (s : List (List ℕ)). value.List s) both.0, both.1)

value_spread : (shown : List ℕ) (v : RegValue) (x : List ℕ) → value_line shown v ++ x ≡ value_name shown ++ (data_text v ++ 10 ∷ x)
unfolding value_line
value_spread shown v x = spread (value_name shown) (data_text v ∷ (10 ∷ []) ∷ []) x

pub value_apart : (s t : List ℕ) (v w : RegValue) (x y : List ℕ) → Fits32 v → Fits32 w → value_line s v ++ x ≡ value_line t w ++ y → ((s ≡ t) × (v ≡ w)) × (x ≡ y)
value_apart s t v w x y fv fw e =
    let name = name_apart s t _ _ (sym (value_spread s v x) ∙ e ∙ value_spread t w y) in
    let held = data_apart v w x y fv fw name.1 in
    ((name.0, held.0), held.1)

-- ---- values in an exported file

-- a value of a key: its name as it is shown, and what it holds
abbrev pub Named : Type 0
Named = List ℕ × RegValue

abbrev pub NamedFits : Named → Type 0
NamedFits n = Fits32 n.1

abbrev pub exported_named : Named → List ℕ
exported_named n = exported n.0 n.1

-- what stands behind the comment
after : Named → List ℕ
after (shown, value.Expand t) = value_name shown ++ (codes "hex(2):" ++ (bytes_text (wide t) ++ 10 ∷ []))
after (shown, value.List ts) = value_name shown ++ (codes "hex(7):" ++ (bytes_text (flat_map wide ts ++ 0 ∷ 0 ∷ []) ++ 10 ∷ []))
after (shown, v) = []

data Form (n : Named) : Type 0 where
  Plain : ((x : List ℕ) → exported_named n ++ x ≡ value_line n.0 n.1 ++ x) → Form n
  Noted : ((x : List ℕ) → exported_named n ++ x ≡ 59 ∷ 32 ∷ (value_line n.0 n.1 ++ (after n ++ x))) → Form n

form_of : (n : Named) → Form n
unfolding exported after
form_of (shown, value.Text t) = Plain (λ x. refl)
form_of (shown, value.Int t) = Plain (λ x. refl)
form_of (shown, value.Binary t) = Plain (λ x. refl)
form_of (shown, value.Expand t) = Noted (λ x.
    spread (codes "; ") (value_line shown (value.Expand t) ∷ value_name shown ∷ codes "hex(2):" ∷ bytes_text (wide t) ∷ (10 ∷ []) ∷ []) x
    ∙ ap (λ (l : List ℕ). 59 ∷ 32 ∷ (value_line shown (value.Expand t) ++ l)) (sym (four (value_name shown) (codes "hex(2):") (bytes_text (wide t)) (10 ∷ []) x)))
  where
    four : (a b c d x : List ℕ) → (a ++ (b ++ (c ++ d))) ++ x ≡ a ++ (b ++ (c ++ (d ++ x)))
    four a b c d x = append_assoc a (b ++ (c ++ d)) x ∙ ap (λ (l : List ℕ). a ++ l) (append_assoc b (c ++ d) x ∙ ap (λ (l : List ℕ). b ++ l) (append_assoc c d x))
form_of (shown, value.List ts) = Noted (λ x.
    spread (codes "; ") (value_line shown (value.List ts) ∷ value_name shown ∷ codes "hex(7):" ∷ bytes_text (flat_map wide ts ++ 0 ∷ 0 ∷ []) ∷ (10 ∷ []) ∷ []) x
    ∙ ap (λ (l : List ℕ). 59 ∷ 32 ∷ (value_line shown (value.List ts) ++ l)) (sym (four (value_name shown) (codes "hex(7):") (bytes_text (flat_map wide ts ++ 0 ∷ 0 ∷ [])) (10 ∷ []) x)))
  where
    four : (a b c d x : List ℕ) → (a ++ (b ++ (c ++ d))) ++ x ≡ a ++ (b ++ (c ++ (d ++ x)))
    four a b c d x = append_assoc a (b ++ (c ++ d)) x ∙ ap (λ (l : List ℕ). a ++ l) (append_assoc b (c ++ d) x ∙ ap (λ (l : List ℕ). b ++ l) (append_assoc c d x))

-- the line of a value begins with a name
value_never : (shown : List ℕ) (v : RegValue) (stop : ℕ) (x y : List ℕ) → eqb 64 stop ≡ false → eqb 34 stop ≡ false → ¬ (value_line shown v ++ x ≡ stop ∷ y)
unfolding quoted
value_never [] v stop x y one two e = differ 64 stop _ _ one (sym (value_spread [] v x) ∙ e)
value_never (b ∷ shown) v stop x y one two e = differ 34 stop _ _ two (sym (value_spread (b ∷ shown) v x) ∙ e)

pub exported_apart : AreApart NamedFits exported_named
exported_apart a b x y fa fb e = by_form (form_of a) (form_of b)
  where
    by_form : Form a → Form b → (a ≡ b) × (x ≡ y)
    by_form (Plain i) (Plain j) = let both = value_apart a.0 b.0 a.1 b.1 x y fa fb (sym (i x) ∙ e ∙ j y) in (λ k. (both.0.0 k, both.0.1 k), both.1)
    by_form (Plain i) (Noted j) = absurd (value_never a.0 a.1 59 x _ refl refl (sym (i x) ∙ e ∙ j y))
    by_form (Noted i) (Plain j) = absurd (value_never b.0 b.1 59 y _ refl refl (sym (j y) ∙ sym e ∙ i x))
    by_form (Noted i) (Noted j) =
        let inner = tails 32 32 _ _ (tails 59 59 _ _ (sym (i x) ∙ e ∙ j y)) in
        let both = value_apart a.0 b.0 a.1 b.1 (after a ++ x) (after b ++ y) fa fb inner in
        let same : a ≡ b = λ k. (both.0.0 k, both.0.1 k) in
        (same, append_cancel_left (after b) x y (sym (ap (λ (n : Named). after n ++ x) same) ∙ both.1))

pub exported_never : (stop : ℕ) → eqb 64 stop ≡ false → eqb 34 stop ≡ false → eqb 59 stop ≡ false → NeverBegins NamedFits exported_named stop
exported_never stop one two three a x y fa e = by_form (form_of a)
  where
    by_form : Form a → ⊥
    by_form (Plain i) = value_never a.0 a.1 stop x y one two (sym (i x) ∙ e)
    by_form (Noted i) = differ 59 stop _ _ three (sym (i x) ∙ e)

-- ---- shortcuts

pub record IsShortcut (s : Shortcut) : Type 0 where
  pub hotkey : s.hotkey < 2 ^ 16
  pub icon_index : FitsSigned w16 s.icon_index
  pub show : s.show < 2 ^ 16

signed_apart : (a b : ℤ) (x y : List ℕ) → FitsSigned w16 a → FitsSigned w16 b → signed_decimal a ++ 9 ∷ x ≡ signed_decimal b ++ 9 ∷ y → (a ≡ b) × (x ≡ y)
signed_apart (pos m) (pos n) x y fa fb e = let both = decimal_apart m n 9 x y tab_ends (omega (arith, fa)) (omega (arith, fb)) e in (ap (λ (k : ℕ). pos k) both.0, both.1)
signed_apart (pos m) (negsuc n) x y fa fb e = absurd (decimal_never m 45 (9 ∷ x) (decimal (suc n) ++ 9 ∷ y) (omega (arith, fa)) dash_ends e)
signed_apart (negsuc m) (pos n) x y fa fb e = absurd (decimal_never n 45 (9 ∷ y) (decimal (suc m) ++ 9 ∷ x) (omega (arith, fb)) dash_ends (sym e))
signed_apart (negsuc m) (negsuc n) x y fa fb e =
    let both = decimal_apart (suc m) (suc n) 9 x y tab_ends (omega (arith, fa)) (omega (arith, fb)) (tails 45 45 _ _ e) in
    let same : m ≡ n = omega (arith, both.0) in
    (ap (λ (k : ℕ). negsuc k) same, both.1)

abbrev shortcut_parts : Shortcut → List (List ℕ)
shortcut_parts s =
    codes "\ttarget " ∷ field s.target ∷ codes "\targuments " ∷ field s.arguments ∷ codes "\tfolder " ∷ field s.folder
    ∷ codes "\tdescription " ∷ field s.description ∷ codes "\ticon " ∷ field s.icon ∷ (9 ∷ signed_decimal s.icon_index)
    ∷ codes "\tkey " ∷ decimal s.hotkey ∷ codes "\tshow " ∷ decimal s.show ∷ (10 ∷ []) ∷ []

shortcut_spread : (s : Shortcut) (x : List ℕ) → shortcut_line s ++ x ≡ field s.shown ++ before (shortcut_parts s) x
unfolding shortcut_line shortcut_front shortcut_icon
shortcut_spread s x =
    spread (shortcut_front s) (shortcut_icon s ∷ codes "\tkey " ∷ decimal s.hotkey ∷ codes "\tshow " ∷ decimal s.show ∷ (10 ∷ []) ∷ []) x
    ∙ spread (field s.shown) (codes "\ttarget " ∷ field s.target ∷ codes "\targuments " ∷ field s.arguments ∷ codes "\tfolder " ∷ field s.folder ∷ []) _
    ∙ ap (λ (l : List ℕ). before (field s.shown ∷ codes "\ttarget " ∷ field s.target ∷ codes "\targuments " ∷ field s.arguments ∷ codes "\tfolder " ∷ field s.folder ∷ []) l)
    (spread (codes "\tdescription ") (field s.description ∷ codes "\ticon " ∷ field s.icon ∷ (9 ∷ signed_decimal s.icon_index) ∷ []) _)

pub shortcut_apart : AreApart IsShortcut shortcut_line
shortcut_apart s t x y is it e =
    let shown = field_tab s.shown t.shown _ _ (sym (shortcut_spread s x) ∙ e ∙ shortcut_spread t y) in
    let target = field_tab s.target t.target _ _ (append_cancel_left (codes "target ") _ _ shown.1) in
    let arguments = field_tab s.arguments t.arguments _ _ (append_cancel_left (codes "arguments ") _ _ target.1) in
    let folder = field_tab s.folder t.folder _ _ (append_cancel_left (codes "folder ") _ _ arguments.1) in
    let description = field_tab s.description t.description _ _ (append_cancel_left (codes "description ") _ _ folder.1) in
    let icon = field_tab s.icon t.icon _ _ (append_cancel_left (codes "icon ") _ _ description.1) in
    let index = signed_apart s.icon_index t.icon_index _ _ is.icon_index it.icon_index icon.1 in
    let hotkey = decimal_apart s.hotkey t.hotkey 9 _ _ tab_ends (below16 s.hotkey is.hotkey) (below16 t.hotkey it.hotkey) (append_cancel_left (codes "key ") _ _ index.1) in
    let show = decimal_apart s.show t.show 10 _ _ line_ends (below16 s.show is.show) (below16 t.show it.show) (append_cancel_left (codes "show ") _ _ hotkey.1) in (
      λ i. record {
        shown = shown.0 i;
        target = target.0 i;
        arguments = arguments.0 i;
        description = description.0 i;
        hotkey = hotkey.0 i;
        icon = icon.0 i;
        icon_index = index.0 i;
        show = show.0 i;
        folder = folder.0 i;
      },
      show.1,
    )
