-- What is printed can be read back: from texts that are equal with what stands behind them, what they print is equal, and what stands behind.
use Rattle.std.proofs.Common.{◌≡◌, ℕ, ◌||◌, ◌⊎◌, inl, inr, ◌+◌, ◌/◌, ◌%◌, ◌^◌, ◌<◌, ◌≤◌, Bool, true, false, cond, nat_lt, eqb, List, [], ◌∷◌, ◌++◌, length, Some, refl, sym, ap, subst, ◌∙◌, arith, append_assoc, ltb-true, ltb-false, eqb-true}
use Rattle.std.specs.List.{flat_map, AllByRecursion}
use Rattle.std.specs.Fmt.{decimal}
use Rattle.std.specs.Str.Parse.{AllDigits}
use Rattle.std.specs.Char.{digit_value}
use Rattle.std.proofs.lemmas.Fmt.{decimal_is_IsNumeral, decimal_injective}
use Rattle.mi_text.specs.Guid.{guid_text, guid_of}
use Rattle.mi_text.proofs.GuidLemmas.{length-guid_text, guid_of-guid_text}
use Rattle.mi_print.specs.Texts.{digit, two_digits, is_control, is_escaped, escaped_byte, field, is_sign, quoted_byte, quoted}

-- ---- items and lists

module _ {X : Type 0} (P : X → Type 0) (text : X → List ℕ) where
  -- what such items print is read back
  abbrev pub AreApart : Type 0
  AreApart = (a b : X) (x y : List ℕ) → P a → P b → text a ++ x ≡ text b ++ y → (a ≡ b) × (x ≡ y)

  -- no such item's text begins with this byte
  abbrev pub NeverBegins : ℕ → Type 0
  NeverBegins stop = (a : X) (x y : List ℕ) → P a → ¬ (text a ++ x ≡ stop ∷ y)

  pub all_apart : AreApart → (stop : ℕ) → NeverBegins stop → (us vs : List X) (x y : List ℕ) → AllByRecursion P us → AllByRecursion P vs
      → flat_map text us ++ stop ∷ x ≡ flat_map text vs ++ stop ∷ y → (us ≡ vs) × (x ≡ y)
  all_apart apart stop never [] [] x y pa pb e = (refl, cc)
  all_apart apart stop never [] (b ∷ vs) x y pa pb e = absurd (never b (flat_map text vs ++ stop ∷ y) x pb.0 (sym (append_assoc (text b) (flat_map text vs) (stop ∷ y)) ∙ sym e))
  all_apart apart stop never (a ∷ us) [] x y pa pb e = absurd (never a (flat_map text us ++ stop ∷ x) y pa.0 (sym (append_assoc (text a) (flat_map text us) (stop ∷ x)) ∙ e))
  all_apart apart stop never (a ∷ us) (b ∷ vs) x y pa pb e =
      let first = apart a b (flat_map text us ++ stop ∷ x) (flat_map text vs ++ stop ∷ y) pa.0 pb.0 (sym (append_assoc (text a) (flat_map text us) (stop ∷ x)) ∙ e ∙ append_assoc (text b) (flat_map text vs) (stop ∷ y)) in
      let rest = all_apart apart stop never us vs x y pa.1 pb.1 first.1 in
      (λ i. first.0 i ∷ rest.0 i, rest.1)

abbrev pub Any : {X : Type 0} → X → Type 0
Any x = Unit {0}

pub all_any : {X : Type 0} → (xs : List X) → AllByRecursion (Any {X = X}) xs
all_any [] = tt
all_any (x ∷ xs) = (tt, all_any xs)

-- texts of one length
pub long_apart : (us vs x y : List ℕ) → length us ≡ length vs → us ++ x ≡ vs ++ y → (us ≡ vs) × (x ≡ y)
long_apart [] [] x y long e = (refl, e)
long_apart [] (b ∷ vs) x y long e = absurd (let z : ⊥ = omega (arith, long) in z)
long_apart (a ∷ us) [] x y long e = absurd (let z : ⊥ = omega (arith, long) in z)
long_apart (a ∷ us) (b ∷ vs) x y long e =
    let head : a ≡ b = cc in
    let tail : us ++ x ≡ vs ++ y = cc in
    let rest = long_apart us vs x y (omega (arith, long)) tail in
    (λ i. head i ∷ rest.0 i, rest.1)

pub heads : (a b : ℕ) (x y : List ℕ) → a ∷ x ≡ b ∷ y → a ≡ b
heads a b x y e = cc

-- ---- bytes

pub digit_back : (v w : ℕ) → digit v ≡ digit w → v ≡ w
digit_back v w e = elim (nat_lt v 10) as (λ a. nat_lt v 10 ≡ a → cond a (48 + v) (87 + v) ≡ digit w → v ≡ w) [
  | true ↦ λ a. elim (nat_lt w 10) as (λ b. nat_lt w 10 ≡ b → 48 + v ≡ cond b (48 + w) (87 + w) → v ≡ w) [
    | true ↦ λ b same. omega (arith, same)
    | false ↦ λ b same. omega (arith, same, ltb-true v 10 a, ltb-false w 10 b)
  ] refl
  | false ↦ λ a. elim (nat_lt w 10) as (λ b. nat_lt w 10 ≡ b → 87 + v ≡ cond b (48 + w) (87 + w) → v ≡ w) [
    | true ↦ λ b same. omega (arith, same, ltb-true w 10 b, ltb-false v 10 a)
    | false ↦ λ b same. omega (arith, same)
  ] refl
] refl e

pub digit_from : (v : ℕ) → 48 ≤ digit v
digit_from v = elim (nat_lt v 10) as (λ a. 48 ≤ cond a (48 + v) (87 + v)) [ true ↦ omega arith | false ↦ omega arith ]

-- no digit is a backslash
pub digit_plain : (v : ℕ) → ¬ (digit v ≡ 92)
digit_plain v = elim (nat_lt v 10) as (λ a. nat_lt v 10 ≡ a → ¬ (cond a (48 + v) (87 + v) ≡ 92)) [
  | true ↦ λ a e. let z : ⊥ = omega (arith, e, ltb-true v 10 a) in z
  | false ↦ λ a e. let z : ⊥ = omega (arith, e, ltb-false v 10 a) in z
] refl

from_digits : (a b : ℕ) → a / 16 ≡ b / 16 → a % 16 ≡ b % 16 → a ≡ b
from_digits a b high low = omega arith

pub digits_apart : AreApart (Any {X = ℕ}) two_digits
digits_apart a b x y pa pb e =
    let high : digit (a / 16) ≡ digit (b / 16) = cc in
    let low : digit (a % 16) ≡ digit (b % 16) = cc in
    let rest : x ≡ y = cc in
    (from_digits a b (digit_back (a / 16) (b / 16) high) (digit_back (a % 16) (b % 16) low), rest)

pub digits_never : (stop : ℕ) → stop < 48 → NeverBegins (Any {X = ℕ}) two_digits stop
digits_never stop small a x y pa e = let is : digit (a / 16) ≡ stop = cc in let z : ⊥ = omega (arith, is, digit_from (a / 16)) in z

module _ (special : ℕ → Bool) (mark : special 60 ≡ true) where
  pub escaped_apart : AreApart (Any {X = ℕ}) (escaped_byte special)
  escaped_apart a b x y pa pb e =
      elim (special a) as (λ s. special a ≡ s → cond s (60 ∷ two_digits a ++ 62 ∷ []) (a ∷ []) ++ x ≡ escaped_byte special b ++ y → (a ≡ b) × (x ≡ y)) [
        | true ↦ λ s. elim (special b) as (λ t. special b ≡ t → 60 ∷ digit (a / 16) ∷ digit (a % 16) ∷ 62 ∷ x ≡ cond t (60 ∷ two_digits b ++ 62 ∷ []) (b ∷ []) ++ y → (a ≡ b) × (x ≡ y)) [
          | true ↦ λ t same.
              let inner : two_digits a ++ 62 ∷ x ≡ two_digits b ++ 62 ∷ y = cc in
              let both = digits_apart a b (62 ∷ x) (62 ∷ y) tt tt inner in
              let rest = both.1 in
              (both.0, cc)
          | false ↦ λ t same. let is : 60 ≡ b = cc in absurd (let z : true ≡ false = sym mark ∙ ap special is ∙ t in cc)
        ] refl
        | false ↦ λ s. elim (special b) as (λ t. special b ≡ t → a ∷ x ≡ cond t (60 ∷ two_digits b ++ 62 ∷ []) (b ∷ []) ++ y → (a ≡ b) × (x ≡ y)) [
          | true ↦ λ t same. let is : a ≡ 60 = cc in absurd (let z : true ≡ false = sym mark ∙ ap special (sym is) ∙ s in cc)
          | false ↦ λ t same. (cc, cc)
        ] refl
      ] refl e

  pub escaped_never : (stop : ℕ) → special stop ≡ true → ¬ (60 ≡ stop) → NeverBegins (Any {X = ℕ}) (escaped_byte special) stop
  escaped_never stop is other a x y pa e = elim (special a) as (λ s. special a ≡ s → ¬ (cond s (60 ∷ two_digits a ++ 62 ∷ []) (a ∷ []) ++ x ≡ stop ∷ y)) [
    | true ↦ λ s same. let first : 60 ≡ stop = cc in other first
    | false ↦ λ s same. let first : a ≡ stop = cc in let z : true ≡ false = sym is ∙ ap special (sym first) ∙ s in cc
  ] refl e

  pub escapes_apart : (stop : ℕ) → special stop ≡ true → ¬ (60 ≡ stop) → (us vs x y : List ℕ) → flat_map (escaped_byte special) us ++ stop ∷ x ≡ flat_map (escaped_byte special) vs ++ stop ∷ y → (us ≡ vs) × (x ≡ y)
  escapes_apart stop is other us vs x y e = all_apart (Any {X = ℕ}) (escaped_byte special) escaped_apart stop (escaped_never stop is other) us vs x y (all_any us) (all_any vs) e

not_60_9 : ¬ (◌≡◌ {A = ℕ} 60 9)
not_60_9 e = let z : ⊥ = omega (arith, e) in z

not_60_10 : ¬ (◌≡◌ {A = ℕ} 60 10)
not_60_10 e = let z : ⊥ = omega (arith, e) in z

pub field_tab : (a b x y : List ℕ) → field a ++ 9 ∷ x ≡ field b ++ 9 ∷ y → (a ≡ b) × (x ≡ y)
field_tab a b x y e = escapes_apart is_escaped refl 9 refl not_60_9 a b x y e

pub field_line : (a b x y : List ℕ) → field a ++ 10 ∷ x ≡ field b ++ 10 ∷ y → (a ≡ b) × (x ≡ y)
field_line a b x y e = escapes_apart is_escaped refl 10 refl not_60_10 a b x y e

-- ---- texts in quotes

-- what a byte in quotes is: a sign behind a backslash, a number behind one, or itself
data Kind (b : ℕ) : Type 0 where
  Sign : quoted_byte b ≡ 92 ∷ b ∷ [] → (b ≡ 92) ⊎ (b ≡ 34) → Kind b
  Number : quoted_byte b ≡ 92 ∷ digit (b / 16) ∷ digit (b % 16) ∷ [] → Kind b
  Itself : quoted_byte b ≡ b ∷ [] → ¬ (b ≡ 92) → ¬ (b ≡ 34) → Kind b

sign_is : (b : ℕ) → is_sign b ≡ true → (b ≡ 92) ⊎ (b ≡ 34)
sign_is b is = elim (eqb b 92) as (λ k. eqb b 92 ≡ k → (k || eqb b 34) ≡ true → (b ≡ 92) ⊎ (b ≡ 34)) [ true ↦ λ k e. inl (eqb-true b 92 k) | false ↦ λ k e. inr (eqb-true b 34 e) ] refl is

is_backslash : (b : ℕ) → b ≡ 92 → is_sign b ≡ true
is_backslash b e = ap is_sign e

is_quote : (b : ℕ) → b ≡ 34 → is_sign b ≡ true
is_quote b e = ap is_sign e

kind_of : (b : ℕ) → Kind b
kind_of b = elim (is_sign b) as (λ k. is_sign b ≡ k → Kind b) [
  | true ↦ λ k. Sign (ap (λ (t : Bool). cond t (92 ∷ b ∷ []) (cond (is_control b) (92 ∷ two_digits b) (b ∷ []))) k) (sign_is b k)
  | false ↦ λ k. elim (is_control b) as (λ c. is_control b ≡ c → Kind b) [
    | true ↦ λ c. Number (ap (λ (t : Bool). cond t (92 ∷ b ∷ []) (cond (is_control b) (92 ∷ two_digits b) (b ∷ []))) k ∙ ap (λ (t : Bool). cond t (92 ∷ two_digits b) (b ∷ [])) c)
    | false ↦ λ c. Itself (ap (λ (t : Bool). cond t (92 ∷ b ∷ []) (cond (is_control b) (92 ∷ two_digits b) (b ∷ []))) k ∙ ap (λ (t : Bool). cond t (92 ∷ two_digits b) (b ∷ [])) c) (λ e. let z : false ≡ true = sym k ∙ is_backslash b e in absurd cc) (λ e. let z : false ≡ true = sym k ∙ is_quote b e in absurd cc)
  ] refl
] refl

no_sign : (b v : ℕ) → (b ≡ 92) ⊎ (b ≡ 34) → ¬ (b ≡ digit v)
no_sign b v (inl is) e = digit_plain v (sym e ∙ is)
no_sign b v (inr is) e = let z : ⊥ = omega (arith, digit_from v, e, is) in z

quotes_apart : AreApart (Any {X = ℕ}) quoted_byte
quotes_apart a b x y pa pb e = by_kinds (kind_of a) (kind_of b)
  where
    by_kinds : Kind a → Kind b → (a ≡ b) × (x ≡ y)
    by_kinds (Sign i s) (Sign j t) = let same : 92 ∷ a ∷ x ≡ 92 ∷ b ∷ y = sym (ap (λ (l : List ℕ). l ++ x) i) ∙ e ∙ ap (λ (l : List ℕ). l ++ y) j in (cc, cc)
    by_kinds (Sign i s) (Number j) =
        let same : 92 ∷ a ∷ x ≡ 92 ∷ digit (b / 16) ∷ digit (b % 16) ∷ y = sym (ap (λ (l : List ℕ). l ++ x) i) ∙ e ∙ ap (λ (l : List ℕ). l ++ y) j in
        let is : a ≡ digit (b / 16) = cc in absurd (no_sign a (b / 16) s is)
    by_kinds (Sign i s) (Itself j t u) =
        let same : 92 ∷ a ∷ x ≡ b ∷ y = sym (ap (λ (l : List ℕ). l ++ x) i) ∙ e ∙ ap (λ (l : List ℕ). l ++ y) j in
        let is : b ≡ 92 = cc in absurd (t is)
    by_kinds (Number i) (Sign j t) =
        let same : 92 ∷ digit (a / 16) ∷ digit (a % 16) ∷ x ≡ 92 ∷ b ∷ y = sym (ap (λ (l : List ℕ). l ++ x) i) ∙ e ∙ ap (λ (l : List ℕ). l ++ y) j in
        let is : b ≡ digit (a / 16) = cc in absurd (no_sign b (a / 16) t is)
    by_kinds (Number i) (Number j) =
        let same : 92 ∷ digit (a / 16) ∷ digit (a % 16) ∷ x ≡ 92 ∷ digit (b / 16) ∷ digit (b % 16) ∷ y = sym (ap (λ (l : List ℕ). l ++ x) i) ∙ e ∙ ap (λ (l : List ℕ). l ++ y) j in
        let inner : two_digits a ++ x ≡ two_digits b ++ y = cc in
        digits_apart a b x y tt tt inner
    by_kinds (Number i) (Itself j t u) =
        let same : 92 ∷ digit (a / 16) ∷ digit (a % 16) ∷ x ≡ b ∷ y = sym (ap (λ (l : List ℕ). l ++ x) i) ∙ e ∙ ap (λ (l : List ℕ). l ++ y) j in
        let is : b ≡ 92 = cc in absurd (t is)
    by_kinds (Itself i s v) (Sign j t) =
        let same : a ∷ x ≡ 92 ∷ b ∷ y = sym (ap (λ (l : List ℕ). l ++ x) i) ∙ e ∙ ap (λ (l : List ℕ). l ++ y) j in
        let is : a ≡ 92 = cc in absurd (s is)
    by_kinds (Itself i s v) (Number j) =
        let same : a ∷ x ≡ 92 ∷ digit (b / 16) ∷ digit (b % 16) ∷ y = sym (ap (λ (l : List ℕ). l ++ x) i) ∙ e ∙ ap (λ (l : List ℕ). l ++ y) j in
        let is : a ≡ 92 = cc in absurd (s is)
    by_kinds (Itself i s v) (Itself j t u) = let same : a ∷ x ≡ b ∷ y = sym (ap (λ (l : List ℕ). l ++ x) i) ∙ e ∙ ap (λ (l : List ℕ). l ++ y) j in (cc, cc)

quotes_never : NeverBegins (Any {X = ℕ}) quoted_byte 34
quotes_never a x y pa e = by_kind (kind_of a)
  where
    by_kind : Kind a → ⊥
    by_kind (Sign i s) = let same : 92 ∷ a ∷ x ≡ 34 ∷ y = sym (ap (λ (l : List ℕ). l ++ x) i) ∙ e in let is = heads 92 34 (a ∷ x) y same in let z : ⊥ = omega (arith, is) in z
    by_kind (Number i) = let same : 92 ∷ digit (a / 16) ∷ digit (a % 16) ∷ x ≡ 34 ∷ y = sym (ap (λ (l : List ℕ). l ++ x) i) ∙ e in let is = heads 92 34 (digit (a / 16) ∷ digit (a % 16) ∷ x) y same in let z : ⊥ = omega (arith, is) in z
    by_kind (Itself i s t) = let same : a ∷ x ≡ 34 ∷ y = sym (ap (λ (l : List ℕ). l ++ x) i) ∙ e in let is : a ≡ 34 = cc in t is

quoted_behind : (t x : List ℕ) → quoted t ++ x ≡ 34 ∷ (flat_map quoted_byte t ++ 34 ∷ x)
unfolding quoted
quoted_behind t x = ap (λ (l : List ℕ). 34 ∷ l) (append_assoc (flat_map quoted_byte t) (34 ∷ []) x)

-- a text in quotes
pub quoted_apart : AreApart (Any {X = List ℕ}) quoted
quoted_apart a b x y pa pb e =
    let whole : 34 ∷ (flat_map quoted_byte a ++ 34 ∷ x) ≡ 34 ∷ (flat_map quoted_byte b ++ 34 ∷ y) = sym (quoted_behind a x) ∙ e ∙ quoted_behind b y in
    let inner : flat_map quoted_byte a ++ 34 ∷ x ≡ flat_map quoted_byte b ++ 34 ∷ y = cc in
    all_apart (Any {X = ℕ}) quoted_byte quotes_apart 34 quotes_never a b x y (all_any a) (all_any b) inner

-- texts in quotes, each behind a blank
abbrev pub blanked : List ℕ → List ℕ
blanked t = 32 ∷ quoted t

blanked_apart : AreApart (Any {X = List ℕ}) blanked
blanked_apart a b x y pa pb e = let inner : quoted a ++ x ≡ quoted b ++ y = cc in quoted_apart a b x y tt tt inner

blanked_never : NeverBegins (Any {X = List ℕ}) blanked 10
blanked_never a x y pa e = let is = heads 32 10 (quoted a ++ x) y e in let z : ⊥ = omega (arith, is) in z

pub blanked_line : (us vs : List (List ℕ)) (x y : List ℕ) → flat_map blanked us ++ 10 ∷ x ≡ flat_map blanked vs ++ 10 ∷ y → (us ≡ vs) × (x ≡ y)
blanked_line us vs x y e = all_apart (Any {X = List ℕ}) blanked blanked_apart 10 blanked_never us vs x y (all_any us) (all_any vs) e

-- ---- numbers

-- a byte that is no decimal digit
abbrev pub EndsNumber : ℕ → Type 0
EndsNumber stop = ¬ (digit_value stop < 10)

digits_end : (ds es : List ℕ) (stop : ℕ) (x y : List ℕ) → EndsNumber stop → AllDigits 10 ds → AllDigits 10 es → ds ++ stop ∷ x ≡ es ++ stop ∷ y → (ds ≡ es) × (x ≡ y)
digits_end [] [] stop x y end ds_are es_are e = (refl, cc)
digits_end [] (c ∷ es) stop x y end ds_are es_are e = let is : c ≡ stop = cc in absurd (end (subst (λ (b : ℕ). digit_value b < 10) is es_are.0))
digits_end (c ∷ ds) [] stop x y end ds_are es_are e = let is : c ≡ stop = cc in absurd (end (subst (λ (b : ℕ). digit_value b < 10) is ds_are.0))
digits_end (c ∷ ds) (d ∷ es) stop x y end ds_are es_are e =
    let head : c ≡ d = cc in
    let tail : ds ++ stop ∷ x ≡ es ++ stop ∷ y = cc in
    let rest = digits_end ds es stop x y end ds_are.1 es_are.1 tail in
    (λ i. head i ∷ rest.0 i, rest.1)

pub decimal_apart : (m n stop : ℕ) (x y : List ℕ) → EndsNumber stop → m < 2 ^ 64 → n < 2 ^ 64 → decimal m ++ stop ∷ x ≡ decimal n ++ stop ∷ y → (m ≡ n) × (x ≡ y)
decimal_apart m n stop x y end lm ln e =
    let split = digits_end (decimal m) (decimal n) stop x y end (decimal_is_IsNumeral m lm).0.1 (decimal_is_IsNumeral n ln).0.1 e in
    (decimal_injective m n lm ln split.0, split.1)

pub tab_ends : EndsNumber 9
tab_ends = λ (lt : digit_value 9 < 10). let z : ⊥ = omega arith in z

pub line_ends : EndsNumber 10
line_ends = λ (lt : digit_value 10 < 10). let z : ⊥ = omega arith in z

pub blank_ends : EndsNumber 32
blank_ends = λ (lt : digit_value 32 < 10). let z : ⊥ = omega arith in z

pub point_ends : EndsNumber 46
point_ends = λ (lt : digit_value 46 < 10). let z : ⊥ = omega arith in z

-- ---- codes

pub code_apart : (m n : ℕ) (x y : List ℕ) → m < 2 ^ 128 → n < 2 ^ 128 → guid_text m ++ x ≡ guid_text n ++ y → (m ≡ n) × (x ≡ y)
code_apart m n x y lm ln e =
    let split = long_apart (guid_text m) (guid_text n) x y (length-guid_text m ∙ sym (length-guid_text n)) e in
    let same : Some m ≡ Some n = sym (guid_of-guid_text m lm) ∙ ap guid_of split.0 ∙ guid_of-guid_text n ln in
    (cc, split.1)

-- ---- texts one behind the other

pub five : (o a b c d e : List ℕ) → o ++ a ++ b ++ c ++ d ++ e ≡ o ++ (a ++ b ++ c ++ d ++ e)
five o a b c d e =
    ap (λ (l : List ℕ). l ++ c ++ d ++ e) (append_assoc o a b)
    ∙ ap (λ (l : List ℕ). l ++ d ++ e) (append_assoc o (a ++ b) c)
    ∙ ap (λ (l : List ℕ). l ++ e) (append_assoc o (a ++ b ++ c) d)
    ∙ append_assoc o (a ++ b ++ c ++ d) e

pub six : (o a b c d e f : List ℕ) → o ++ a ++ b ++ c ++ d ++ e ++ f ≡ o ++ (a ++ b ++ c ++ d ++ e ++ f)
six o a b c d e f = ap (λ (l : List ℕ). l ++ f) (five o a b c d e) ∙ append_assoc o (a ++ b ++ c ++ d ++ e) f
