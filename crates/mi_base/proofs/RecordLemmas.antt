-- Each kind of entry both ways: what is read is spelled so, and what is spelled is read.
use Rattle.std.proofs.Common.{◌≡◌, ℕ, ◌+◌, ◌-◌, ◌/◌, ◌%◌, ◌^◌, ◌<◌, ◌≤◌, true, false, cond, eqb, ◌&&◌, ◌||◌, List, [], ◌∷◌, ◌++◌, length, take, drop, Option, Some, None, Result, Ok, refl, sym, ap, subst, ◌∙◌, append_assoc, arith, inl, inr}
use Rattle.std.specs.Prelude.{nat_lt, nat_le, FitsSigned}
use Rattle.std.specs.Int.{w16, to_be_bytes, cast_signed, cast_unsigned}
use Rattle.std.specs.Str.{is_utf8, IsUtf8}
use Rattle.std.specs.Char.{is_ascii_digit}
use Rattle.std.proofs.lemmas.Bool.{cases_Bool, ltb-true, lt-ltb, leb-true, le-leb, eqb-true}
use Rattle.std.proofs.lemmas.Bool.Decides.{nat_tests}
use Rattle.std.proofs.lemmas.Int.{of_z-to_z, to_z-of_z, ints}
use Rattle.std.proofs.Math.Facts.{sfits_to_z}
use Rattle.mi_text.proofs.GuidLemmas.{length-guid_text}
use Rattle.mi_base.specs.declared.entry.Variable.{Variable}
use Rattle.mi_base.specs.declared.entry.Client.{Client}
use Rattle.std.proofs.lemmas.List.{take_at, drop_at, take-append-drop, length-take, length-append}
use Rattle.std.proofs.lemmas.Slice.Eq.{bytes_eq-Decides}
use Rattle.std.proofs.lemmas.Str.{IsUtf8-from_is_utf8}
use Rattle.mi_text.specs.Fold.{folded}
use Rattle.mi_text.specs.Guid.{guid_text}
use Rattle.mi_text.specs.Path.{is_file_path}
use Rattle.mi_base.specs.declared.rec_error.RecFault.{RecFault}
use Rattle.mi_base.specs.declared.rec_error.RecFault.TheVariants.{Field}
use Rattle.mi_base.specs.declared.reading.Order.TheVariants.{Rising}
use Rattle.mi_base.specs.declared.entry.FileEntry.{FileEntry}
use Rattle.mi_base.specs.declared.entry.RegValue.{RegValue}
use Rattle.mi_base.specs.declared.entry.ValueKey.{ValueKey}
use Rattle.mi_base.specs.declared.entry.Shortcut.{Shortcut}
use Rattle.mi_base.specs.declared.entry.Product.{Product}
use Rattle.mi_base.specs.declared.entry.Entry.{Entry}
use Rattle.mi_base.specs.declared.entry.Entry.TheVariants as entry
use Rattle.mi_base.specs.Fields.{string, strings, signed, four_numbers, payload}
use Rattle.mi_base.specs.Names.{digit, four_digits, file_name, folder_name, key_name, value_name, shortcut_name, variable_name, client_name, product_name, system_name}
use Rattle.mi_base.specs.Limits.{are_bytes, is_short, is_folded, is_key, is_value_name, is_variable_name, is_system_name, fits, IsEntry, IsVersion}
use Rattle.mi_base.specs.Spelling.{name_of, head_of, head_bytes, shortcut_bytes, product_bytes, record_of}
use Rattle.mi_base.specs.Reading.{◌>>=◌, number_at, text_at, shown_at, texts_at, four_numbers_at, value_at, ended}
use Rattle.mi_base.specs.Records.{is_inner_folder, names_file, names_folder, code_in, is_root, names_key, names_value, names_variable, head_at, with_bytes, file_of, folder_of, key_of, value_in, number_of, are_digits, value_of, shortcut_behind, shortcut_of, variable_of, client_in, client_of, product_in, product_of, system_of}
use Rattle.mi_base.proofs.ByteLemmas.{both, and_true}
use Rattle.mi_base.proofs.CodeLemmas.{code_is, code_again}
use Rattle.mi_base.proofs.FieldLemmas.{bind_ok, guard_passed, ok_is, refused, ended_ok, glue, glue_end, step, at_end, number16, FitsText, text_field, FitsShown, shown_field, FitsTexts, texts_field, texts_short, texts_utf8, join_texts, four_field, FitsValue, value_field}
use Rattle.mi_base.proofs.FoldLemmas.{is_folded-folded, is_utf8-folded, key-folded, value_name-folded, variable_name-folded, file_named, folder_named, file_short, folder_short}
use Rattle.mi_base.proofs.NameLemmas.{key_short, value_name_short, variable_name_short}
use Rattle.mi_base.proofs.HeadLemmas.{IsHead, head_takes, head_again}

-- the entry's name and record are these, and it has a record
pub record IsSpelled (name bytes : List ℕ) (e : Entry) : Type 0 where
  pub named : name_of e ≡ name
  pub spelled : record_of e ≡ bytes
  pub is : IsEntry e
  pub right : fits e ≡ true

abbrev pub behind : ℕ → List ℕ → List ℕ
behind kind rest = kind ∷ 47 ∷ rest

-- ---- files

pub file_spells : (path bytes : List ℕ) (e : Entry) → are_bytes bytes ≡ true → file_of path bytes ≡ Ok e → IsSpelled (behind 102 path) bytes e
unfolding file_of fits IsEntry file_name record_of head_bytes
file_spells path bytes e good is =
    let g = guard_passed (names_file path) Field (head_at 0 path bytes >>= λ h. Ok (entry.File (with_bytes h.0 h.1))) e is in
    let b = bind_ok (head_at 0 path bytes) (λ h. Ok (entry.File (with_bytes h.0 h.1))) e g.1 in
    let t = head_takes path bytes b.0 good b.1 in
    let h = t.is in
    subst (IsSpelled (behind 102 path) bytes) (ok_is (entry.File (with_bytes (b.0).0 (b.0).1)) e b.2) (record {
      named = ap (behind 102) h.shown.folds;
      spelled = sym t.parts;
      is = (h.shown.utf8, h.version, h.languages.1, h.created, h.modified, t.rest_fits);
      right = and_true _ _ (and_true _ _ (and_true _ _ h.shown.file h.languages.0) h.languages.2) h.attributes;
    })

pub file_head : (f : FileEntry) → IsEntry (entry.File f) → fits (entry.File f) ≡ true → IsHead (folded f.shown) (head_of f)
unfolding fits IsEntry
file_head f is e =
    let four = both _ _ e in
    let three = both _ _ four.0 in
    let two = both _ _ three.0 in
    record {
      shown = record { utf8 = is.0; folds = refl; file = two.0 };
      version = is.1;
      languages = (two.1, is.2, three.1);
      created = is.3;
      modified = is.4;
      attributes = four.1;
    }

pub file_reads : (f : FileEntry) → IsEntry (entry.File f) → fits (entry.File f) ≡ true → file_of (folded f.shown) (record_of (entry.File f)) ≡ Ok (entry.File f)
unfolding file_of record_of
file_reads f is e =
    let h = file_head f is e in
    let named = file_named f.shown h.shown.utf8 h.shown.file in
    rw (named, head_again (folded f.shown) (head_of f) f.bytes h) refl

-- ---- folders

pub folder_spells : (path bytes : List ℕ) (e : Entry) → are_bytes bytes ≡ true → folder_of path bytes ≡ Ok e → IsSpelled (behind 100 path) bytes e
unfolding folder_of fits IsEntry folder_name record_of
folder_spells path bytes e good is =
    let g = guard_passed (names_folder path) Field _ e is in
    let s = step (shown_at path) string (FitsShown path) (shown_field path) _ bytes e good g.1 in
    let h = guard_passed (is_inner_folder s.value) Field (ended (entry.Folder s.value, s.rest)) e s.more in
    let x = ended_ok (entry.Folder s.value) s.rest e h.1 in
    subst (IsSpelled (behind 100 path) bytes) x.1 (record {
      named = ap (behind 100) s.right.1;
      spelled = sym (glue_end bytes (string s.value) s.rest s.parts x.0);
      is = s.right.0.1;
      right = h.0;
    })

pub folder_reads : (p : List ℕ) → IsUtf8 p → is_inner_folder p ≡ true → folder_of (folded p) (string p) ≡ Ok (entry.Folder p)
unfolding folder_of
folder_reads p u inner =
    let n = folder_short p (both _ _ inner).0 in
    let short : is_short p ≡ true = lt-ltb _ _ (omega arith) in
    rw (folder_named p u inner, at_end (shown_at (folded p)) string (FitsShown (folded p)) (shown_field (folded p)) p ((short, u), refl), inner) refl

-- ---- keys

key_named : (key : List ℕ) → IsUtf8 key → is_key key ≡ true → (is_utf8 (folded key) ≡ true) × (is_folded (folded key) ≡ true) × (is_key (folded key) ≡ true)
key_named key u e = (is_utf8-folded key u, is_folded-folded key, key-folded key ∙ e)

root_back : (b : ℕ) → is_root b ≡ true → (digit (b - 48) ≡ b) × (nat_lt (b - 48) 4 ≡ true)
root_back b e =
    let two = both _ _ e in
    let low : 48 ≤ b = leb-true _ _ two.0 in
    let high : b ≤ 51 = leb-true _ _ two.1 in
    (omega arith, lt-ltb _ _ (omega arith))

root_again : (r : ℕ) → nat_lt r 4 ≡ true → (is_root (digit r) ≡ true) × (digit r - 48 ≡ r)
root_again r e = let n : r < 4 = ltb-true _ _ e in (and_true _ _ (le-leb 48 (48 + r) (omega arith)) (le-leb (48 + r) 51 (omega arith)), omega arith)

pub key_spells : (name bytes : List ℕ) (e : Entry) → are_bytes bytes ≡ true → key_of name bytes ≡ Ok e → IsSpelled (behind 107 name) bytes e
unfolding key_of fits IsEntry key_name record_of
key_spells [] bytes e good is = absurd (refused Field e is)
key_spells (root ∷ key) bytes e good is =
    let g = guard_passed (names_key root key) Field _ e is in
    let three = both _ _ g.0 in
    let one = both _ _ (both _ _ three.0).0 in
    let r = root_back root one.0 in
    let s = step (shown_at key) string (FitsShown key) (shown_field key) _ bytes e good g.1 in
    let x = ended_ok (entry.Key (root - 48) s.value) s.rest e s.more in
    let same = s.right.1 in
    subst (IsSpelled (behind 107 (root ∷ key)) bytes) x.1 (record {
      named = ap (λ b. 107 ∷ 47 ∷ b ∷ folded s.value) r.0 ∙ ap (λ (t : List ℕ). 107 ∷ 47 ∷ root ∷ t) same;
      spelled = sym (glue_end bytes (string s.value) s.rest s.parts x.0);
      is = s.right.0.1;
      right = and_true _ _ r.1 (sym (key-folded s.value) ∙ ap is_key same ∙ three.1);
    })

pub short_key : (key : List ℕ) → is_key key ≡ true → is_short key ≡ true
short_key key e = let n = key_short key e in lt-ltb _ _ (omega arith)

pub short_value_name : (name : List ℕ) → is_value_name name ≡ true → is_short name ≡ true
short_value_name name e = let n = value_name_short name e in lt-ltb _ _ (omega arith)

pub short_variable_name : (name : List ℕ) → is_variable_name name ≡ true → is_short name ≡ true
short_variable_name name e = let n = variable_name_short name e in lt-ltb _ _ (omega arith)

pub key_reads : (root : ℕ) (shown : List ℕ) → IsUtf8 shown → nat_lt root 4 ≡ true → is_key shown ≡ true → key_of (digit root ∷ folded shown) (string shown) ≡ Ok (entry.Key root shown)
unfolding key_of
key_reads root shown u low key =
    let r = root_again root low in
    let k = key_named shown u key in
    let named : names_key (digit root) (folded shown) ≡ true = and_true _ _ (and_true _ _ (and_true _ _ r.0 k.0) k.1) k.2 in
    rw (named, at_end (shown_at (folded shown)) string (FitsShown (folded shown)) (shown_field (folded shown)) shown ((short_key shown key, u), refl)) (ap (λ n. Ok (entry.Key n shown)) r.1)

-- ---- values

digit_range : (a : ℕ) → is_ascii_digit a ≡ true → (48 ≤ a) × (a ≤ 57)
digit_range a e = (grind (arith, nat_tests), grind (arith, nat_tests))

digit_is : (n : ℕ) → n < 10 → is_ascii_digit (digit n) ≡ true
digit_is n lt = grind (arith, nat_tests)

digits_back : (a b c d n : ℕ) → are_digits a b c d ≡ true → n ≡ number_of a b c d → four_digits n ≡ a ∷ b ∷ c ∷ d ∷ []
digits_back a b c d n e is =
    let three = both _ _ e in
    let two = both _ _ three.0 in
    let one = both _ _ two.0 in
    let ra = digit_range a one.0 in
    let rb = digit_range b one.1 in
    let rc = digit_range c two.1 in
    let rd = digit_range d three.1 in
    let ea : digit (n / 1000 % 10) ≡ a = omega arith in
    let eb : digit (n / 100 % 10) ≡ b = omega arith in
    let ec : digit (n / 10 % 10) ≡ c = omega arith in
    let ed : digit (n % 10) ≡ d = omega arith in
    cc

digits_again : (n : ℕ) → n < 10000 → (are_digits (digit (n / 1000 % 10)) (digit (n / 100 % 10)) (digit (n / 10 % 10)) (digit (n % 10)) ≡ true) × (number_of (digit (n / 1000 % 10)) (digit (n / 100 % 10)) (digit (n / 10 % 10)) (digit (n % 10)) ≡ n)
digits_again n lt = (
  and_true _ _ (and_true _ _ (and_true _ _ (digit_is (n / 1000 % 10) (omega arith)) (digit_is (n / 100 % 10) (omega arith))) (digit_is (n / 10 % 10) (omega arith))) (digit_is (n % 10) (omega arith)),
  omega arith,
)

pub value_spells : (name bytes : List ℕ) (e : Entry) → are_bytes bytes ≡ true → value_of name bytes ≡ Ok e → IsSpelled (behind 118 name) bytes e
unfolding value_of fits IsEntry value_name record_of
value_spells [] bytes e good is = absurd (refused Field e is)
value_spells (r ∷ []) bytes e good is = absurd (refused Field e is)
value_spells (r ∷ a ∷ []) bytes e good is = absurd (refused Field e is)
value_spells (r ∷ a ∷ b ∷ []) bytes e good is = absurd (refused Field e is)
value_spells (r ∷ a ∷ b ∷ c ∷ []) bytes e good is = absurd (refused Field e is)
value_spells (r ∷ a ∷ b ∷ c ∷ d ∷ rest) bytes e good is =
    let n = number_of a b c d in
    let key = take n rest in
    let name = drop n rest in
    let g = guard_passed (are_digits a b c d && nat_le n (length rest)) Field (value_in r key name bytes) e is in
    let digits = both _ _ g.0 in
    let long : n ≤ length rest = leb-true _ _ digits.1 in
    let len : length key ≡ n = omega (arith, length-take n rest) in
    let h = guard_passed (names_value r key name) Field _ e g.1 in
    let three = both _ _ h.0 in
    let two = both _ _ three.0 in
    let one = both _ _ two.0 in
    let k3 = both _ _ one.0 in
    let k2 = both _ _ k3.0 in
    let k1 = both _ _ k2.0 in
    let root = root_back r k1.0 in
    let s = step (shown_at name) string (FitsShown name) (shown_field name) _ bytes e good h.1 in
    let v = step value_at payload FitsValue value_field _ s.rest e s.rest_fits s.more in
    let made : ValueKey = record { root = r - 48; key = key; shown = s.value } in
    let x = ended_ok (entry.Value made v.value) v.rest e v.more in
    let same = s.right.1 in
    let key_folded : folded key ≡ key = (bytes_eq-Decides (folded key) key).0 k2.1 in
    let counted : four_digits (length (folded key)) ≡ a ∷ b ∷ c ∷ d ∷ [] = digits_back a b c d (length (folded key)) digits.0 (ap length key_folded ∙ len) in
    let texts : folded key ++ folded s.value ≡ rest = ap (λ (t : List ℕ). t ++ folded s.value) key_folded ∙ ap (λ (t : List ℕ). key ++ t) same ∙ take-append-drop n rest in
    let whole : value_name (r - 48) key s.value ≡ behind 118 (r ∷ a ∷ b ∷ c ∷ d ∷ rest) = name_parts r a b c d (r - 48) key s.value rest root.0 counted texts in
    subst (IsSpelled (behind 118 (r ∷ a ∷ b ∷ c ∷ d ∷ rest)) bytes) x.1 (record {
      named = whole;
      spelled = sym (glue_end bytes (string s.value ++ payload v.value) v.rest (glue bytes (string s.value) s.rest (payload v.value) v.rest s.parts v.parts) x.0);
      is = (IsUtf8-from_is_utf8 key k1.1, s.right.0.1, v.right.1);
      right = and_true _ _ (and_true _ _ (and_true _ _ (and_true _ _ root.1 k3.1) k2.1) (sym (value_name-folded s.value) ∙ ap is_value_name same ∙ three.1)) v.right.0;
    })
  where
    name_parts : (r a b c d root : ℕ) (key shown rest : List ℕ) → digit root ≡ r → four_digits (length (folded key)) ≡ a ∷ b ∷ c ∷ d ∷ [] → folded key ++ folded shown ≡ rest → value_name root key shown ≡ behind 118 (r ∷ a ∷ b ∷ c ∷ d ∷ rest)
    name_parts r a b c d root key shown rest er ed et =
        ap (λ k. 118 ∷ 47 ∷ k ∷ four_digits (length (folded key)) ++ folded key ++ folded shown) er
        ∙ ap (λ (t : List ℕ). 118 ∷ 47 ∷ r ∷ t ++ folded key ++ folded shown) ed
        ∙ ap (λ (t : List ℕ). 118 ∷ 47 ∷ r ∷ a ∷ b ∷ c ∷ d ∷ t) et

pub value_reads : (k : ValueKey) (v : RegValue) → IsEntry (entry.Value k v) → fits (entry.Value k v) ≡ true
    → value_of (digit k.root ∷ four_digits (length (folded k.key)) ++ folded k.key ++ folded k.shown) (record_of (entry.Value k v)) ≡ Ok (entry.Value k v)
unfolding value_of fits IsEntry record_of
value_reads k v is e =
    let four = both _ _ e in
    let three = both _ _ four.0 in
    let two = both _ _ three.0 in
    let one = both _ _ two.0 in
    let r = root_again k.root one.0 in
    let key_folded : folded k.key ≡ k.key = (bytes_eq-Decides (folded k.key) k.key).0 two.1 in
    let named_key = key_named k.key is.0 one.1 in
    let len : length (folded k.key) ≤ 500 = key_short (folded k.key) named_key.2 in
    let digits = digits_again (length (folded k.key)) (omega arith) in
    let long : nat_le (length (folded k.key)) (length (folded k.key ++ folded k.shown)) ≡ true = le-leb _ _ (omega (arith, length-append (folded k.key) (folded k.shown))) in
    let named : names_value (digit k.root) (folded k.key) (folded k.shown) ≡ true =
    and_true _ _ (and_true _ _ (and_true _ _ (and_true _ _ (and_true _ _ (and_true _ _ r.0 named_key.0) named_key.1) named_key.2) (is_utf8-folded k.shown is.1)) (is_folded-folded k.shown)) (value_name-folded k.shown ∙ three.1) in
    let front = take_at (folded k.key) (folded k.shown) (length (folded k.key)) refl in
    let back = drop_at (folded k.key) (folded k.shown) (length (folded k.key)) refl in
    let shown = (shown_field (folded k.shown)).again k.shown (payload v) ((short_value_name k.shown three.1, is.1), refl) in
    let value = at_end value_at payload FitsValue value_field v (four.1, is.2) in
    rw (digits.0, digits.1, long, front, back, named, shown, value, r.1) (ap (λ (t : List ℕ). Ok (entry.Value (record { root = k.root; key = t; shown = k.shown }) v)) key_folded)

-- ---- shortcuts

-- what a shortcut that was read, or may be read, has behind its path
pub record IsBehind (s : Shortcut) : Type 0 where
  pub target : FitsText s.target
  pub arguments : FitsText s.arguments
  pub description : FitsText s.description
  pub hotkey : s.hotkey < 2 ^ 16
  pub icon : FitsText s.icon
  pub icon_index : FitsSigned w16 s.icon_index
  pub show : s.show < 2 ^ 16
  pub folder : FitsText s.folder

abbrev behind_bytes : List ℕ → Shortcut → List ℕ
behind_bytes front s = front ++ string s.target ++ string s.arguments ++ string s.description ++ to_be_bytes w16 s.hotkey ++ string s.icon ++ signed s.icon_index ++ to_be_bytes w16 s.show ++ string s.folder

pub record TookBehind (shown front bytes : List ℕ) (e : Entry) : Type 0 where
  pub shortcut : Shortcut
  pub entry_is : entry.Shortcut shortcut ≡ e
  pub shown_is : shortcut.shown ≡ shown
  pub parts : bytes ≡ behind_bytes front shortcut
  pub is : IsBehind shortcut

-- the fields behind the hotkey
abbrev later_fields : List ℕ → List ℕ → List ℕ → List ℕ → ℕ → List ℕ → Result Entry RecFault
later_fields shown target arguments description hotkey rest = do
  icon ← text_at rest
  icon_index ← number_at w16 icon.1
  show ← number_at w16 icon_index.1
  folder ← text_at show.1
  ended (entry.Shortcut (record { shown = shown; target = target; arguments = arguments; description = description; hotkey = hotkey; icon = icon.0; icon_index = cast_signed w16 icon_index.0; show = show.0; folder = folder.0 }), folder.1)

-- four fields behind what was taken before
chain4 : (bytes front r0 a r1 b r2 c r3 d r4 : List ℕ) → bytes ≡ front ++ r0 → r0 ≡ a ++ r1 → r1 ≡ b ++ r2 → r2 ≡ c ++ r3 → r3 ≡ d ++ r4 → bytes ≡ front ++ a ++ b ++ c ++ d ++ r4
chain4 bytes front r0 a r1 b r2 c r3 d r4 p0 p1 p2 p3 p4 =
    let q1 = glue bytes front r0 a r1 p0 p1 in
    let q2 = glue bytes (front ++ a) r1 b r2 q1 p2 in
    let q3 = glue bytes (front ++ a ++ b) r2 c r3 q2 p3 in
    glue bytes (front ++ a ++ b ++ c) r3 d r4 q3 p4

record TookFirst (shown front bytes : List ℕ) (e : Entry) : Type 0 where
  pub target : List ℕ
  pub arguments : List ℕ
  pub description : List ℕ
  pub hotkey : ℕ
  pub rest : List ℕ
  pub parts : bytes ≡ front ++ string target ++ string arguments ++ string description ++ to_be_bytes w16 hotkey ++ rest
  pub rest_fits : are_bytes rest ≡ true
  pub fits_target : FitsText target
  pub fits_arguments : FitsText arguments
  pub fits_description : FitsText description
  pub fits_hotkey : hotkey < 2 ^ 16
  pub more : later_fields shown target arguments description hotkey rest ≡ Ok e

first_takes : (shown front bytes rest : List ℕ) (e : Entry) → are_bytes rest ≡ true → bytes ≡ front ++ rest → shortcut_behind (shown, rest) ≡ Ok e → TookFirst shown front bytes e
first_takes shown front bytes rest e good start is =
    let a = step text_at string FitsText text_field _ rest e good is in
    let b = step text_at string FitsText text_field _ a.rest e a.rest_fits a.more in
    let c = step text_at string FitsText text_field _ b.rest e b.rest_fits b.more in
    let d = step (number_at w16) (to_be_bytes w16) (λ n. n < 2 ^ 16) number16 _ c.rest e c.rest_fits c.more in
    record {
      target = a.value;
      arguments = b.value;
      description = c.value;
      hotkey = d.value;
      rest = d.rest;
      parts = chain4 bytes front rest (string a.value) a.rest (string b.value) b.rest (string c.value) c.rest (to_be_bytes w16 d.value) d.rest start a.parts b.parts c.parts d.parts;
      rest_fits = d.rest_fits;
      fits_target = a.right;
      fits_arguments = b.right;
      fits_description = c.right;
      fits_hotkey = d.right;
      more = d.more;
    }

record TookLater (shown target arguments description : List ℕ) (hotkey : ℕ) (front bytes : List ℕ) (e : Entry) : Type 0 where
  pub icon : List ℕ
  pub index : ℕ
  pub show : ℕ
  pub folder : List ℕ
  pub entry_is : entry.Shortcut (record { shown = shown; target = target; arguments = arguments; description = description; hotkey = hotkey; icon = icon; icon_index = cast_signed w16 index; show = show; folder = folder }) ≡ e
  pub parts : bytes ≡ front ++ string icon ++ to_be_bytes w16 index ++ to_be_bytes w16 show ++ string folder
  pub fits_icon : FitsText icon
  pub fits_index : index < 2 ^ 16
  pub fits_show : show < 2 ^ 16
  pub fits_folder : FitsText folder

later_takes : (shown target arguments description : List ℕ) (hotkey : ℕ) (front bytes rest : List ℕ) (e : Entry) → are_bytes rest ≡ true → bytes ≡ front ++ rest
    → later_fields shown target arguments description hotkey rest ≡ Ok e → TookLater shown target arguments description hotkey front bytes e
later_takes shown target arguments description hotkey front bytes rest e good start is =
    let a = step text_at string FitsText text_field _ rest e good is in
    let b = step (number_at w16) (to_be_bytes w16) (λ n. n < 2 ^ 16) number16 _ a.rest e a.rest_fits a.more in
    let c = step (number_at w16) (to_be_bytes w16) (λ n. n < 2 ^ 16) number16 _ b.rest e b.rest_fits b.more in
    let d = step text_at string FitsText text_field _ c.rest e c.rest_fits c.more in
    let x = ended_ok (entry.Shortcut (record { shown = shown; target = target; arguments = arguments; description = description; hotkey = hotkey; icon = a.value; icon_index = cast_signed w16 b.value; show = c.value; folder = d.value })) d.rest e d.more in
    let joined = chain4 bytes front rest (string a.value) a.rest (to_be_bytes w16 b.value) b.rest (to_be_bytes w16 c.value) c.rest (string d.value) d.rest start a.parts b.parts c.parts d.parts in
    record {
      icon = a.value;
      index = b.value;
      show = c.value;
      folder = d.value;
      entry_is = x.1;
      parts = glue_end bytes (front ++ string a.value ++ to_be_bytes w16 b.value ++ to_be_bytes w16 c.value ++ string d.value) d.rest joined x.0;
      fits_icon = a.right;
      fits_index = b.right;
      fits_show = c.right;
      fits_folder = d.right;
    }

index_spelled : (n : ℕ) → n < 2 ^ 16 → to_be_bytes w16 n ≡ signed (cast_signed w16 n)
index_spelled n lt = ap (to_be_bytes w16) (sym (of_z-to_z w16 n lt))

behind_takes : (shown front bytes rest : List ℕ) (e : Entry) → are_bytes rest ≡ true → bytes ≡ front ++ rest → shortcut_behind (shown, rest) ≡ Ok e → TookBehind shown front bytes e
behind_takes shown front bytes rest e good start is =
    let a = first_takes shown front bytes rest e good start is in
    let before : List ℕ = front ++ string a.target ++ string a.arguments ++ string a.description ++ to_be_bytes w16 a.hotkey in
    let b = later_takes shown a.target a.arguments a.description a.hotkey before bytes a.rest e a.rest_fits a.parts a.more in
    let index : FitsSigned w16 (cast_signed w16 b.index) = sfits_to_z (record { fits = b.fits_index }) in
    record {
      shortcut = record { shown = shown; target = a.target; arguments = a.arguments; description = a.description; hotkey = a.hotkey; icon = b.icon; icon_index = cast_signed w16 b.index; show = b.show; folder = b.folder };
      entry_is = b.entry_is;
      shown_is = refl;
      parts = b.parts ∙ ap (λ (t : List ℕ). before ++ string b.icon ++ t ++ to_be_bytes w16 b.show ++ string b.folder) (index_spelled b.index b.fits_index);
      is = record { target = a.fits_target; arguments = a.fits_arguments; description = a.fits_description; hotkey = a.fits_hotkey; icon = b.fits_icon; icon_index = index; show = b.fits_show; folder = b.fits_folder };
    }

pub shortcut_spells : (path bytes : List ℕ) (e : Entry) → are_bytes bytes ≡ true → shortcut_of path bytes ≡ Ok e → IsSpelled (behind 115 path) bytes e
unfolding shortcut_of fits IsEntry shortcut_name record_of shortcut_bytes
shortcut_spells path bytes e good is =
    let g = guard_passed (names_file path) Field _ e is in
    let s = step (shown_at path) string (FitsShown path) (shown_field path) _ bytes e good g.1 in
    let h = guard_passed (is_file_path s.value) Field (shortcut_behind (s.value, s.rest)) e s.more in
    let t = behind_takes s.value (string s.value) bytes s.rest e s.rest_fits s.parts h.1 in
    let b = t.is in
    subst (IsSpelled (behind 115 path) bytes) t.entry_is (record {
      named = ap (λ (p : List ℕ). behind 115 (folded p)) t.shown_is ∙ ap (behind 115) s.right.1;
      spelled = ap (λ (p : List ℕ). behind_bytes (string p) t.shortcut) t.shown_is ∙ sym t.parts;
      is = (subst IsUtf8 (sym t.shown_is) s.right.0.1, b.target.1, b.arguments.1, b.description.1, b.hotkey, b.icon.1, b.icon_index, b.show, b.folder.1);
      right = and_true _ _ (and_true _ _ (and_true _ _ (and_true _ _ (and_true _ _ (ap is_file_path t.shown_is ∙ h.0) b.target.0) b.arguments.0) b.description.0) b.icon.0) b.folder.0;
    })

pub shortcut_is : (s : Shortcut) → IsEntry (entry.Shortcut s) → fits (entry.Shortcut s) ≡ true → (is_file_path s.shown ≡ true) × IsUtf8 s.shown × IsBehind s
unfolding fits IsEntry
shortcut_is s is e =
    let six = both _ _ e in
    let five = both _ _ six.0 in
    let four = both _ _ five.0 in
    let three = both _ _ four.0 in
    let two = both _ _ three.0 in
    (two.0, is.0, record { target = (two.1, is.1); arguments = (three.1, is.2); description = (four.1, is.3); hotkey = is.4; icon = (five.1, is.5); icon_index = is.6; show = is.7; folder = (six.1, is.8) })

behind_again : (s : Shortcut) → IsBehind s → (rest : List ℕ)
    → rest ≡ string s.target ++ (string s.arguments ++ (string s.description ++ (to_be_bytes w16 s.hotkey ++ (string s.icon ++ (signed s.icon_index ++ (to_be_bytes w16 s.show ++ string s.folder))))))
    → shortcut_behind (s.shown, rest) ≡ Ok (entry.Shortcut s)
behind_again s b rest is =
    let r7 : List ℕ = string s.folder in
    let r6 : List ℕ = to_be_bytes w16 s.show ++ r7 in
    let r5 : List ℕ = signed s.icon_index ++ r6 in
    let r4 : List ℕ = string s.icon ++ r5 in
    let r3 : List ℕ = to_be_bytes w16 s.hotkey ++ r4 in
    let r2 : List ℕ = string s.description ++ r3 in
    let r1 : List ℕ = string s.arguments ++ r2 in
    let low : cast_unsigned w16 s.icon_index < 2 ^ 16 = omega (arith, ints) in
    let index : cast_signed w16 (cast_unsigned w16 s.icon_index) ≡ s.icon_index = to_z-of_z w16 s.icon_index b.icon_index in
    ap (λ (t : List ℕ). shortcut_behind (s.shown, t)) is
    ∙ rw (text_field.again s.target r1 b.target, text_field.again s.arguments r2 b.arguments, text_field.again s.description r3 b.description, number16.again s.hotkey r4 b.hotkey, text_field.again s.icon r5 b.icon, number16.again (cast_unsigned w16 s.icon_index) r6 low, number16.again s.show r7 b.show, at_end text_at string FitsText text_field s.folder b.folder, index) refl

pub shortcut_reads : (s : Shortcut) → IsEntry (entry.Shortcut s) → fits (entry.Shortcut s) ≡ true → shortcut_of (folded s.shown) (record_of (entry.Shortcut s)) ≡ Ok (entry.Shortcut s)
unfolding shortcut_of record_of shortcut_bytes
shortcut_reads s is e =
    let parts = shortcut_is s is e in
    let n = file_short s.shown parts.0 in
    let short : is_short s.shown ≡ true = lt-ltb _ _ (omega arith) in
    let rest : List ℕ = string s.target ++ (string s.arguments ++ (string s.description ++ (to_be_bytes w16 s.hotkey ++ (string s.icon ++ (signed s.icon_index ++ (to_be_bytes w16 s.show ++ string s.folder)))))) in
    let joined : shortcut_bytes s ≡ string s.shown ++ rest = nine (string s.shown) (string s.target) (string s.arguments) (string s.description) (to_be_bytes w16 s.hotkey) (string s.icon) (signed s.icon_index) (to_be_bytes w16 s.show) (string s.folder) in
    ap (shortcut_of (folded s.shown)) joined
    ∙ rw (file_named s.shown parts.1 parts.0, (shown_field (folded s.shown)).again s.shown rest ((short, parts.1), refl), parts.0) (behind_again s parts.2 rest refl)
  where
    nine : (a b c d f g h i j : List ℕ) → a ++ b ++ c ++ d ++ f ++ g ++ h ++ i ++ j ≡ a ++ (b ++ (c ++ (d ++ (f ++ (g ++ (h ++ (i ++ j)))))))
    nine a b c d f g h i j = simp append_assoc

-- ---- variables

owner_back : (b : ℕ) → (eqb b 48 || eqb b 49) ≡ true → cond (eqb b 49) 49 48 ≡ b
owner_back b e =
    elim (cases_Bool (eqb b 49)) [
      | inl is ↦ ap (λ t. cond t 49 48) is ∙ sym (eqb-true b 49 is)
      | inr other ↦ let low : eqb b 48 ≡ true = grind (arith, nat_tests) in ap (λ t. cond t 49 48) other ∙ sym (eqb-true b 48 low)
    ]

pub variable_spells : (name bytes : List ℕ) (e : Entry) → are_bytes bytes ≡ true → variable_of name bytes ≡ Ok e → IsSpelled (behind 110 name) bytes e
unfolding variable_of fits IsEntry variable_name record_of
variable_spells [] bytes e good is = absurd (refused Field e is)
variable_spells (owner ∷ name) bytes e good is =
    let g = guard_passed (names_variable owner name) Field _ e is in
    let three = both _ _ g.0 in
    let one = both _ _ (both _ _ three.0).0 in
    let s = step (shown_at name) string (FitsShown name) (shown_field name) _ bytes e good g.1 in
    let t = step text_at string FitsText text_field _ s.rest e s.rest_fits s.more in
    let x = ended_ok (entry.Variable (record { system = eqb owner 49; name = s.value; value = t.value })) t.rest e t.more in
    let same = s.right.1 in
    subst (IsSpelled (behind 110 (owner ∷ name)) bytes) x.1 (record {
      named = ap (λ b. 110 ∷ 47 ∷ b ∷ folded s.value) (owner_back owner one.0) ∙ ap (λ (u : List ℕ). 110 ∷ 47 ∷ owner ∷ u) same;
      spelled = sym (glue_end bytes (string s.value ++ string t.value) t.rest (glue bytes (string s.value) s.rest (string t.value) t.rest s.parts t.parts) x.0);
      is = (s.right.0.1, t.right.1);
      right = and_true _ _ (sym (variable_name-folded s.value) ∙ ap is_variable_name same ∙ three.1) t.right.0;
    })

pub variable_reads : (v : Variable) → IsEntry (entry.Variable v) → fits (entry.Variable v) ≡ true → variable_of (cond v.system 49 48 ∷ folded v.name) (string v.name ++ string v.value) ≡ Ok (entry.Variable v)
unfolding variable_of fits IsEntry
variable_reads v is e =
    let two = both _ _ e in
    let owner : (eqb (cond v.system 49 48) 48 || eqb (cond v.system 49 48) 49) ≡ true = elim v.system as (λ b. (eqb (cond b 49 48) 48 || eqb (cond b 49 48) 49) ≡ true) [ true ↦ refl | false ↦ refl ] in
    let system : eqb (cond v.system 49 48) 49 ≡ v.system = elim v.system as (λ b. eqb (cond b 49 48) 49 ≡ b) [ true ↦ refl | false ↦ refl ] in
    let named : names_variable (cond v.system 49 48) (folded v.name) ≡ true =
    and_true _ _ (and_true _ _ (and_true _ _ owner (is_utf8-folded v.name is.0)) (is_folded-folded v.name)) (variable_name-folded v.name ∙ two.0) in
    let shown = (shown_field (folded v.name)).again v.name (string v.value) ((short_variable_name v.name two.0, is.0), refl) in
    rw (named, shown, at_end text_at string FitsText text_field v.value (two.1, is.1), system) refl

-- ---- clients and products

pub client_spells : (codes bytes : List ℕ) (e : Entry) → are_bytes bytes ≡ true → client_of codes bytes ≡ Ok e → IsSpelled (behind 99 codes) bytes e
unfolding client_of fits IsEntry client_name record_of
client_spells codes bytes e good is = by (code_in (take 38 codes)) (code_in (drop 38 codes)) refl refl is
  where
    by : (a b : Option ℕ) → code_in (take 38 codes) ≡ a → code_in (drop 38 codes) ≡ b → client_in a b bytes ≡ Ok e → IsSpelled (behind 99 codes) bytes e
    by None b ea eb h = absurd (refused Field e h)
    by (Some c) None ea eb h = absurd (refused Field e h)
    by (Some c) (Some p) ea eb h =
        let component = code_is (take 38 codes) c ea in
        let product = code_is (drop 38 codes) p eb in
        let s = step text_at string FitsText text_field _ bytes e good h in
        let x = ended_ok (entry.Client (record { component = record { number = c }; product = record { number = p }; key_path = s.value })) s.rest e s.more in
        subst (IsSpelled (behind 99 codes) bytes) x.1 (record {
          named = ap (λ (t : List ℕ). behind 99 (t ++ guid_text p)) component.0 ∙ ap (λ (t : List ℕ). behind 99 (take 38 codes ++ t)) product.0 ∙ ap (behind 99) (take-append-drop 38 codes);
          spelled = sym (glue_end bytes (string s.value) s.rest s.parts x.0);
          is = (component.1, product.1, s.right.1);
          right = s.right.0;
        })

pub client_reads : (c : Client) → IsEntry (entry.Client c) → fits (entry.Client c) ≡ true → client_of (guid_text c.component.number ++ guid_text c.product.number) (string c.key_path) ≡ Ok (entry.Client c)
unfolding client_of fits IsEntry
client_reads c is e =
    let a = guid_text c.component.number in
    let b = guid_text c.product.number in
    let front = take_at a b 38 (length-guid_text c.component.number) in
    let back = drop_at a b 38 (length-guid_text c.component.number) in
    rw (front, back, code_again c.component.number is.0, code_again c.product.number is.1, at_end text_at string FitsText text_field c.key_path (e, is.2)) refl

pub product_spells : (code bytes : List ℕ) (e : Entry) → are_bytes bytes ≡ true → product_of code bytes ≡ Ok e → IsSpelled (behind 112 code) bytes e
unfolding product_of fits IsEntry product_name record_of product_bytes
product_spells code bytes e good is = by (code_in code) refl is
  where
    by : (a : Option ℕ) → code_in code ≡ a → product_in a bytes ≡ Ok e → IsSpelled (behind 112 code) bytes e
    by None ea h = absurd (refused Field e h)
    by (Some n) ea h =
        let number = code_is code n ea in
        let a = step text_at string FitsText text_field _ bytes e good h in
        let b = step four_numbers_at four_numbers IsVersion four_field _ a.rest e a.rest_fits a.more in
        let c = step (number_at w16) (to_be_bytes w16) (λ k. k < 2 ^ 16) number16 _ b.rest e b.rest_fits b.more in
        let d = step (texts_at Rising) strings (FitsTexts Rising) (texts_field Rising) _ c.rest e c.rest_fits c.more in
        let x = ended_ok (entry.Product (record { code = record { number = n }; name = a.value; version = b.value; language = c.value; features = d.value })) d.rest e d.more in
        let p1 = glue bytes (string a.value) a.rest (four_numbers b.value) b.rest a.parts b.parts in
        let p2 = glue bytes (string a.value ++ four_numbers b.value) b.rest (to_be_bytes w16 c.value) c.rest p1 c.parts in
        let p3 = glue bytes (string a.value ++ four_numbers b.value ++ to_be_bytes w16 c.value) c.rest (strings d.value) d.rest p2 d.parts in
        subst (IsSpelled (behind 112 code) bytes) x.1 (record {
          named = ap (behind 112) number.0;
          spelled = sym (glue_end bytes (string a.value ++ four_numbers b.value ++ to_be_bytes w16 c.value ++ strings d.value) d.rest p3 x.0);
          is = (number.1, a.right.1, b.right, c.right, texts_utf8 d.value d.right.1);
          right = and_true _ _ (and_true _ _ (and_true _ _ a.right.0 d.right.0) (texts_short d.value d.right.1)) d.right.2;
        })

pub product_reads : (p : Product) → IsEntry (entry.Product p) → fits (entry.Product p) ≡ true → product_of (guid_text p.code.number) (product_bytes p) ≡ Ok (entry.Product p)
unfolding product_of fits IsEntry product_bytes
product_reads p is e =
    let four = both _ _ e in
    let three = both _ _ four.0 in
    let two = both _ _ three.0 in
    let r3 : List ℕ = strings p.features in
    let r2 : List ℕ = to_be_bytes w16 p.language ++ r3 in
    let r1 : List ℕ = four_numbers p.version ++ r2 in
    let joined : product_bytes p ≡ string p.name ++ r1 = parts (string p.name) (four_numbers p.version) (to_be_bytes w16 p.language) (strings p.features) in
    ap (product_of (guid_text p.code.number)) joined
    ∙ rw (code_again p.code.number is.0, text_field.again p.name r1 (two.0, is.1), four_field.again p.version r2 is.2, number16.again p.language r3 is.3, at_end (texts_at Rising) strings (FitsTexts Rising) (texts_field Rising) p.features (two.1, join_texts p.features three.1 is.4, four.1)) refl
  where
    parts : (a b c d : List ℕ) → a ++ b ++ c ++ d ≡ a ++ (b ++ (c ++ d))
    parts a b c d = simp append_assoc

-- ---- properties of the system

pub system_spells : (property bytes : List ℕ) (e : Entry) → are_bytes bytes ≡ true → system_of property bytes ≡ Ok e → IsSpelled (behind 121 property) bytes e
unfolding system_of fits IsEntry system_name record_of
system_spells property bytes e good is =
    let g = guard_passed (is_system_name property) Field _ e is in
    let s = step text_at string FitsText text_field _ bytes e good g.1 in
    let x = ended_ok (entry.System property s.value) s.rest e s.more in
    subst (IsSpelled (behind 121 property) bytes) x.1 (record {
      named = refl;
      spelled = sym (glue_end bytes (string s.value) s.rest s.parts x.0);
      is = s.right.1;
      right = and_true _ _ g.0 s.right.0;
    })

pub system_reads : (property text : List ℕ) → IsEntry (entry.System property text) → fits (entry.System property text) ≡ true → system_of property (string text) ≡ Ok (entry.System property text)
unfolding system_of fits IsEntry
system_reads property text is e =
    let two = both (is_system_name property) (is_short text) e in
    rw (two.0, at_end text_at string FitsText text_field text (two.1, is)) refl

-- ---- the same of each kind's record

pub folder_again : (p : List ℕ) → IsEntry (entry.Folder p) → fits (entry.Folder p) ≡ true → folder_of (folded p) (record_of (entry.Folder p)) ≡ Ok (entry.Folder p)
unfolding fits IsEntry record_of
folder_again p is e = folder_reads p is e

pub key_again : (root : ℕ) (p : List ℕ) → IsEntry (entry.Key root p) → fits (entry.Key root p) ≡ true → key_of (digit root ∷ folded p) (record_of (entry.Key root p)) ≡ Ok (entry.Key root p)
unfolding fits IsEntry record_of
key_again root p is e = let two = both (nat_lt root 4) (is_key p) e in key_reads root p is two.0 two.1

pub variable_again : (v : Variable) → IsEntry (entry.Variable v) → fits (entry.Variable v) ≡ true → variable_of (cond v.system 49 48 ∷ folded v.name) (record_of (entry.Variable v)) ≡ Ok (entry.Variable v)
unfolding record_of
variable_again v is e = variable_reads v is e

pub client_again : (c : Client) → IsEntry (entry.Client c) → fits (entry.Client c) ≡ true → client_of (guid_text c.component.number ++ guid_text c.product.number) (record_of (entry.Client c)) ≡ Ok (entry.Client c)
unfolding record_of
client_again c is e = client_reads c is e

pub product_again : (p : Product) → IsEntry (entry.Product p) → fits (entry.Product p) ≡ true → product_of (guid_text p.code.number) (record_of (entry.Product p)) ≡ Ok (entry.Product p)
unfolding record_of
product_again p is e = product_reads p is e

pub system_again : (property text : List ℕ) → IsEntry (entry.System property text) → fits (entry.System property text) ≡ true → system_of property (record_of (entry.System property text)) ≡ Ok (entry.System property text)
unfolding record_of
system_again property text is e = system_reads property text is e
