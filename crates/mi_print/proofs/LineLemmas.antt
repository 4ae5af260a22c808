-- What the line of an entry prints can be read back.
use Rattle.std.proofs.Common.{◌≡◌, ℕ, zero, suc, ◌/◌, ◌%◌, ◌^◌, ◌<◌, Bool, true, false, cond, eqb, List, [], ◌∷◌, ◌++◌, length, Option, Some, None, refl, sym, ap, subst, ◌∙◌, arith, append_assoc, eqb-true, codes}
use Rattle.std.specs.List.{flat_map, AllByRecursion}
use Rattle.std.specs.Fmt.{decimal}
use Rattle.std.specs.Char.{digit_value}
use Rattle.std.specs.Str.Parse.{AllDigits}
use Rattle.std.proofs.lemmas.List.{append_cancel_left}
use Rattle.std.proofs.lemmas.Fmt.{decimal_is_IsNumeral}
use Rattle.mi_text.specs.Guid.{guid_text}
use Rattle.mi_text.specs.declared.version.Version.{Version}
use Rattle.mi_base.specs.declared.entry.FileHead.{FileHead}
use Rattle.mi_base.specs.declared.entry.Variable.{Variable}
use Rattle.mi_base.specs.declared.entry.Client.{Client}
use Rattle.mi_base.specs.declared.entry.Product.{Product}
use Rattle.mi_base.specs.Limits.{IsVersion, IsVersionOrNone}
use Rattle.mi_print.specs.Texts.{two_digits, field, version_text}
use Rattle.mi_print.specs.Lines.{product_line, version_or_none, attributes_text, head_details, folder_line, variable_line, client_line, system_line}
use Rattle.mi_print.proofs.CodeLemmas.{AreApart, NeverBegins, Any, all_any, all_apart, heads, digits_apart, digits_never, field_tab, field_line, blanked, blanked_line, EndsNumber, decimal_apart, tab_ends, blank_ends, point_ends, code_apart}

-- ---- parts of a line

-- parts one behind the other, as a line is written
abbrev pub written : List ℕ → List (List ℕ) → List ℕ
written a [] = a
written a (b ∷ parts) = written (a ++ b) parts

-- and as it is read, before a rest
abbrev pub before : List (List ℕ) → List ℕ → List ℕ
before [] x = x
before (b ∷ parts) x = b ++ before parts x

pub spread : (a : List ℕ) (parts : List (List ℕ)) (x : List ℕ) → written a parts ++ x ≡ a ++ before parts x
spread a [] x = refl
spread a (b ∷ parts) x = spread (a ++ b) parts x ∙ append_assoc a b (before parts x)

pub tails : (a b : ℕ) (x y : List ℕ) → a ∷ x ≡ b ∷ y → x ≡ y
tails a b x y e = cc

-- ---- versions, languages, attributes

pub below16 : (n : ℕ) → n < 2 ^ 16 → n < 2 ^ 64
below16 n lt = omega (arith, lt)

pub version_apart : (v w : Version) (stop : ℕ) (x y : List ℕ) → EndsNumber stop → IsVersion v → IsVersion w → version_text v ++ stop ∷ x ≡ version_text w ++ stop ∷ y → (v ≡ w) × (x ≡ y)
unfolding version_text
version_apart v w stop x y end iv iw e =
    let spell : (u : Version) (z : List ℕ) → version_text u ++ stop ∷ z ≡ decimal u.major ++ 46 ∷ (decimal u.minor ++ 46 ∷ (decimal u.build ++ 46 ∷ (decimal u.revision ++ stop ∷ z))) =
    λ u z. spread (decimal u.major) ((46 ∷ decimal u.minor) ∷ (46 ∷ decimal u.build) ∷ (46 ∷ decimal u.revision) ∷ []) (stop ∷ z) in
    let one = decimal_apart v.major w.major 46 _ _ point_ends (below16 v.major iv.major) (below16 w.major iw.major) (sym (spell v x) ∙ e ∙ spell w y) in
    let two = decimal_apart v.minor w.minor 46 _ _ point_ends (below16 v.minor iv.minor) (below16 w.minor iw.minor) one.1 in
    let three = decimal_apart v.build w.build 46 _ _ point_ends (below16 v.build iv.build) (below16 w.build iw.build) two.1 in
    let four = decimal_apart v.revision w.revision stop _ _ end (below16 v.revision iv.revision) (below16 w.revision iw.revision) three.1 in
    (λ i. record { major = one.0 i; minor = two.0 i; build = three.0 i; revision = four.0 i }, four.1)

-- a number begins with a digit
pub decimal_never : (n stop : ℕ) (x y : List ℕ) → n < 2 ^ 64 → EndsNumber stop → ¬ (decimal n ++ x ≡ stop ∷ y)
decimal_never n stop x y small end e = by_digits (decimal n) (decimal_is_IsNumeral n small).0.0 (decimal_is_IsNumeral n small).0.1 e
  where
    by_digits : (ds : List ℕ) → 0 < length ds → AllDigits 10 ds → ¬ (ds ++ x ≡ stop ∷ y)
    by_digits [] some all is = let z : ⊥ = omega (arith, some) in z
    by_digits (d ∷ ds) some all is = end (subst (λ (b : ℕ). digit_value b < 10) (heads d stop (ds ++ x) y is) all.0)

pub dash_ends : EndsNumber 45
dash_ends = λ (lt : digit_value 45 < 10). let z : ⊥ = omega arith in z

version_never : (v : Version) (x y : List ℕ) → IsVersion v → ¬ (version_text v ++ x ≡ 45 ∷ y)
unfolding version_text
version_never v x y is e =
    decimal_never v.major 45 (46 ∷ (decimal v.minor ++ 46 ∷ (decimal v.build ++ 46 ∷ (decimal v.revision ++ x)))) y (below16 v.major is.major) dash_ends
    (sym (spread (decimal v.major) ((46 ∷ decimal v.minor) ∷ (46 ∷ decimal v.build) ∷ (46 ∷ decimal v.revision) ∷ []) x) ∙ e)

pub version_or_apart : (v w : Option Version) (x y : List ℕ) → IsVersionOrNone v → IsVersionOrNone w → version_or_none v ++ 9 ∷ x ≡ version_or_none w ++ 9 ∷ y → (v ≡ w) × (x ≡ y)
version_or_apart None None x y iv iw e = (refl, cc)
version_or_apart None (Some w) x y iv iw e = absurd (version_never w (9 ∷ y) (9 ∷ x) iw (sym e))
version_or_apart (Some v) None x y iv iw e = absurd (version_never v (9 ∷ x) (9 ∷ y) iv e)
version_or_apart (Some v) (Some w) x y iv iw e = let both = version_apart v w 9 x y tab_ends iv iw e in (ap (λ (u : Version). Some u) both.0, both.1)

abbrev pub Small : ℕ → Type 0
Small l = l < 2 ^ 16

abbrev pub language : ℕ → List ℕ
language l = decimal l ++ 32 ∷ []

language_apart : AreApart Small language
language_apart a b x y pa pb e = decimal_apart a b 32 x y blank_ends (below16 a pa) (below16 b pb) (sym (append_assoc (decimal a) (32 ∷ []) x) ∙ e ∙ append_assoc (decimal b) (32 ∷ []) y)

language_never : NeverBegins Small language 9
language_never a x y pa e = decimal_never a 9 (32 ∷ x) y (below16 a pa) tab_ends (sym (append_assoc (decimal a) (32 ∷ []) x) ∙ e)

pub languages_apart : (us vs x y : List ℕ) → AllByRecursion Small us → AllByRecursion Small vs → flat_map language us ++ 9 ∷ x ≡ flat_map language vs ++ 9 ∷ y → (us ≡ vs) × (x ≡ y)
languages_apart us vs x y pu pv e = all_apart Small language language_apart 9 language_never us vs x y pu pv e

-- a letter for a bit, or a dash
abbrev letter : Bool → ℕ → ℕ
letter b c = cond b c 45

letter_back : (a b : Bool) (c : ℕ) → 45 < c → letter a c ≡ letter b c → a ≡ b
letter_back true true c other e = refl
letter_back true false c other e = absurd (let z : ⊥ = omega (arith, other, e) in z)
letter_back false true c other e = absurd (let z : ⊥ = omega (arith, other, e) in z)
letter_back false false c other e = refl

bit_back : (m n : ℕ) → m < 2 → n < 2 → eqb m 1 ≡ eqb n 1 → m ≡ n
bit_back m n lm ln e = elim (eqb m 1) as (λ t. eqb m 1 ≡ t → t ≡ eqb n 1 → m ≡ n) [
  | true ↦ λ t same. eqb-true m 1 t ∙ sym (eqb-true n 1 (sym same))
  | false ↦ λ t same. let zm : m ≡ 0 = zero_of m lm t in let zn : n ≡ 0 = zero_of n ln (sym same) in zm ∙ sym zn
] refl e
  where
    zero_of : (k : ℕ) → k < 2 → eqb k 1 ≡ false → k ≡ 0
    zero_of zero lt f = refl
    zero_of (suc zero) lt f = absurd cc
    zero_of (suc (suc k)) lt f = absurd (let z : ⊥ = omega (arith, lt) in z)

pub attributes_apart : (a b : ℕ) (x y : List ℕ) → a < 8 → b < 8 → attributes_text a ++ x ≡ attributes_text b ++ y → (a ≡ b) × (x ≡ y)
unfolding attributes_text
attributes_apart a b x y la lb e =
    let one : letter (eqb (a % 2) 1) 114 ≡ letter (eqb (b % 2) 1) 114 = cc in
    let two : letter (eqb (a / 2 % 2) 1) 104 ≡ letter (eqb (b / 2 % 2) 1) 104 = cc in
    let three : letter (eqb (a / 4 % 2) 1) 115 ≡ letter (eqb (b / 4 % 2) 1) 115 = cc in
    let rest : x ≡ y = cc in
    let i = bit_back (a % 2) (b % 2) (omega arith) (omega arith) (letter_back (eqb (a % 2) 1) (eqb (b % 2) 1) 114 (omega arith) one) in
    let j = bit_back (a / 2 % 2) (b / 2 % 2) (omega arith) (omega arith) (letter_back (eqb (a / 2 % 2) 1) (eqb (b / 2 % 2) 1) 104 (omega arith) two) in
    let k = bit_back (a / 4 % 2) (b / 4 % 2) (omega arith) (omega arith) (letter_back (eqb (a / 4 % 2) 1) (eqb (b / 4 % 2) 1) 115 (omega arith) three) in
    (omega (arith, la, lb, i, j, k), rest)

-- ---- lines

pub record IsHead (h : FileHead) : Type 0 where
  pub version : IsVersionOrNone h.version
  pub languages : AllByRecursion Small h.languages
  pub attributes : h.attributes < 8
  pub created : h.created < 2 ^ 64
  pub modified : h.modified < 2 ^ 64
  pub length : h.length < 2 ^ 64

abbrev pub details_parts : FileHead → List ℕ → List (List ℕ)
details_parts h hash =
    codes " bytes\tversion " ∷ version_or_none h.version ∷ codes "\tlanguages " ∷ flat_map language h.languages
    ∷ (9 ∷ attributes_text h.attributes) ∷ codes "\tcreated " ∷ decimal h.created ∷ codes "\tmodified " ∷ decimal h.modified
    ∷ codes "\tmd5 " ∷ flat_map two_digits hash ∷ (10 ∷ []) ∷ []

pub details_spread : (h : FileHead) (hash x : List ℕ) → head_details h hash ++ x ≡ 9 ∷ (decimal h.length ++ before (details_parts h hash) x)
unfolding head_details
details_spread h hash x = spread (9 ∷ decimal h.length) (details_parts h hash) x

pub record SameDetails (h k : FileHead) (mine other x y : List ℕ) : Type 0 where
  pub version : h.version ≡ k.version
  pub languages : h.languages ≡ k.languages
  pub attributes : h.attributes ≡ k.attributes
  pub created : h.created ≡ k.created
  pub modified : h.modified ≡ k.modified
  pub length : h.length ≡ k.length
  pub hash : mine ≡ other
  pub rest : x ≡ y

pub details_apart : (h k : FileHead) (hash other x y : List ℕ) → IsHead h → IsHead k → head_details h hash ++ x ≡ head_details k other ++ y → SameDetails h k hash other x y
details_apart h k hash other x y ih ik e =
    let first = tails 9 9 _ _ (sym (details_spread h hash x) ∙ e ∙ details_spread k other y) in
    let size = decimal_apart h.length k.length 32 _ _ blank_ends ih.length ik.length first in
    let version = version_or_apart h.version k.version _ _ ih.version ik.version (append_cancel_left (codes "bytes\tversion ") _ _ size.1) in
    let languages = languages_apart h.languages k.languages _ _ ih.languages ik.languages (append_cancel_left (codes "languages ") _ _ version.1) in
    let attributes = attributes_apart h.attributes k.attributes _ _ ih.attributes ik.attributes languages.1 in
    let created = decimal_apart h.created k.created 9 _ _ tab_ends ih.created ik.created (append_cancel_left (codes "\tcreated ") _ _ attributes.1) in
    let modified = decimal_apart h.modified k.modified 9 _ _ tab_ends ih.modified ik.modified (append_cancel_left (codes "modified ") _ _ created.1) in
    let hashes = all_apart (Any {X = ℕ}) two_digits digits_apart 10 (digits_never 10 (omega arith)) hash other x y (all_any hash) (all_any other) (append_cancel_left (codes "md5 ") _ _ modified.1) in
    record {
      version = version.0;
      languages = languages.0;
      attributes = attributes.0;
      created = created.0;
      modified = modified.0;
      length = size.0;
      hash = hashes.0;
      rest = hashes.1;
    }

pub record IsProduct (p : Product) : Type 0 where
  pub code : p.code.number < 2 ^ 128
  pub version : IsVersion p.version
  pub language : p.language < 2 ^ 16

product_parts : Product → List (List ℕ)
product_parts p =
    (9 ∷ version_text p.version) ∷ codes "\tlanguage " ∷ decimal p.language ∷ (9 ∷ field p.name) ∷ codes "\tfeatures" ∷ flat_map blanked p.features ∷ (10 ∷ []) ∷ []

product_spread : (p : Product) (x : List ℕ) → product_line p ++ x ≡ guid_text p.code.number ++ before (product_parts p) x
unfolding product_line product_parts
product_spread p x = spread (guid_text p.code.number) (product_parts p) x

pub product_apart : AreApart IsProduct product_line
unfolding product_parts
product_apart p q x y ip iq e =
    let code = code_apart p.code.number q.code.number _ _ ip.code iq.code (sym (product_spread p x) ∙ e ∙ product_spread q y) in
    let version = version_apart p.version q.version 9 _ _ tab_ends ip.version iq.version (tails 9 9 _ _ code.1) in
    let language = decimal_apart p.language q.language 9 _ _ tab_ends (below16 p.language ip.language) (below16 q.language iq.language) (append_cancel_left (codes "language ") _ _ version.1) in
    let name = field_tab p.name q.name _ _ language.1 in
    let features = blanked_line p.features q.features _ _ (append_cancel_left (codes "features") _ _ name.1) in
    (λ i. record { code = record { number = code.0 i }; name = name.0 i; version = version.0 i; language = language.0 i; features = features.0 i }, features.1)

pub folder_apart : AreApart (Any {X = List ℕ}) folder_line
unfolding folder_line
folder_apart a b x y pa pb e = field_line a b x y (sym (append_assoc (field a) (10 ∷ []) x) ∙ e ∙ append_assoc (field b) (10 ∷ []) y)

pub record IsClient (c : Client) : Type 0 where
  pub component : c.component.number < 2 ^ 128
  pub product : c.product.number < 2 ^ 128

client_spread : (c : Client) (x : List ℕ) → client_line c ++ x ≡ guid_text c.component.number ++ 9 ∷ (guid_text c.product.number ++ 9 ∷ (field c.key_path ++ 10 ∷ x))
unfolding client_line
client_spread c x = spread (guid_text c.component.number) ((9 ∷ guid_text c.product.number) ∷ (9 ∷ field c.key_path) ∷ (10 ∷ []) ∷ []) x

pub client_apart : AreApart IsClient client_line
client_apart c d x y ic id e =
    let component = code_apart c.component.number d.component.number _ _ ic.component id.component (sym (client_spread c x) ∙ e ∙ client_spread d y) in
    let product = code_apart c.product.number d.product.number _ _ ic.product id.product (tails 9 9 _ _ component.1) in
    let path = field_line c.key_path d.key_path x y (tails 9 9 _ _ product.1) in
    (λ i. record { component = record { number = component.0 i }; product = record { number = product.0 i }; key_path = path.0 i }, path.1)

owner_text : Bool → List ℕ
owner_text system = cond system (codes "system\t") (codes "user\t")

variable_spread : (v : Variable) (x : List ℕ) → variable_line v ++ x ≡ owner_text v.system ++ (field v.name ++ 9 ∷ (field v.value ++ 10 ∷ x))
unfolding variable_line owner_text
variable_spread v x = spread (owner_text v.system) (field v.name ∷ (9 ∷ field v.value) ∷ (10 ∷ []) ∷ []) x

owner_apart : (a b : Bool) (x y : List ℕ) → owner_text a ++ x ≡ owner_text b ++ y → (a ≡ b) × (x ≡ y)
unfolding owner_text
owner_apart true true x y e = (refl, append_cancel_left (codes "system\t") x y e)
owner_apart true false x y e = absurd (let is = heads 115 117 _ _ e in let z : ⊥ = omega (arith, is) in z)
owner_apart false true x y e = absurd (let is = heads 117 115 _ _ e in let z : ⊥ = omega (arith, is) in z)
owner_apart false false x y e = (refl, append_cancel_left (codes "user\t") x y e)

pub variable_apart : AreApart (Any {X = Variable}) variable_line
variable_apart v w x y pv pw e =
    let owner = owner_apart v.system w.system _ _ (sym (variable_spread v x) ∙ e ∙ variable_spread w y) in
    let name = field_tab v.name w.name _ _ owner.1 in
    let value = field_line v.value w.value x y name.1 in
    (λ i. record { system = owner.0 i; name = name.0 i; value = value.0 i }, value.1)

pub system_apart : (a b s t x y : List ℕ) → system_line a s ++ x ≡ system_line b t ++ y → ((a ≡ b) × (s ≡ t)) × (x ≡ y)
unfolding system_line
system_apart a b s t x y e =
    let name = field_tab a b _ _ (sym (spread (field a) ((9 ∷ field s) ∷ (10 ∷ []) ∷ []) x) ∙ e ∙ spread (field b) ((9 ∷ field t) ∷ (10 ∷ []) ∷ []) y) in
    let value = field_line s t x y name.1 in
    ((name.0, value.0), value.1)
