-- Entries both ways, all kinds together.
use Rattle.std.proofs.Common.{◌≡◌, ℕ, true, false, cond, eqb, List, [], ◌∷◌, ◌++◌, Result, Ok, Err, refl, sym, ap, subst, ◌∙◌, inl, inr, arith}
use Rattle.std.specs.Int.{w16, to_be_bytes, cast_unsigned}
use Rattle.std.proofs.lemmas.Bool.{cases_Bool, eqb-true, lt-ltb}
use Rattle.mi_text.specs.Maps.{Name}
use Rattle.mi_text.specs.Fold.{folded}
use Rattle.mi_base.specs.declared.rec_error.RecFault.{RecFault}
use Rattle.mi_base.specs.declared.rec_error.RecFault.TheVariants.{Field}
use Rattle.mi_base.specs.declared.reading.Order.TheVariants.{Rising}
use Rattle.mi_base.specs.declared.entry.Entry.{Entry}
use Rattle.mi_base.specs.declared.entry.Entry.TheVariants as entry
use Rattle.mi_base.specs.Fields.{string, strings, signed, four_numbers, payload}
use Rattle.mi_base.specs.Names.{file_name, folder_name, key_name, value_name, shortcut_name, variable_name, client_name, product_name, system_name}
use Rattle.mi_base.specs.Limits.{are_bytes, fits, IsEntry}
use Rattle.mi_base.specs.Spelling.{name_of, head_of, head_bytes, shortcut_bytes, product_bytes, record_of}
use Rattle.mi_base.specs.SpelledMaps.{is_area}
use Rattle.mi_base.specs.Records.{kind_of, entry_in, entry_of}
use Rattle.mi_base.proofs.ByteLemmas.{both, bytes-append, number_bytes}
use Rattle.mi_base.proofs.FieldLemmas.{guard_passed, refused, text_field, texts_field, join_texts, four_field, value_field}
use Rattle.mi_base.proofs.FoldLemmas.{file_short, folder_short}
use Rattle.mi_base.proofs.HeadLemmas.{head_is_bytes}
use Rattle.mi_base.proofs.RecordLemmas.{IsSpelled, behind, file_spells, folder_spells, key_spells, value_spells, shortcut_spells, variable_spells, client_spells, product_spells, system_spells, file_head, file_reads, value_reads, shortcut_is, shortcut_reads, short_key, short_value_name, short_variable_name, folder_again, key_again, variable_again, client_again, product_again, system_again}

-- ---- what is read is spelled so

one_kind : (kind n : ℕ) (rest bytes : List ℕ) (e : Entry) (here others : Result Entry RecFault) → (here ≡ Ok e → IsSpelled (behind n rest) bytes e) → (others ≡ Ok e → IsSpelled (behind kind rest) bytes e)
    → cond (eqb kind n) here others ≡ Ok e → IsSpelled (behind kind rest) bytes e
one_kind kind n rest bytes e here others first later is =
    elim (cases_Bool (eqb kind n)) [
      | inl same ↦ subst (λ k. IsSpelled (behind k rest) bytes e) (sym (eqb-true kind n same)) (first (sym (ap (λ t. cond t here others) same) ∙ is))
      | inr other ↦ later (sym (ap (λ t. cond t here others) other) ∙ is)
    ]

kind_spells : (kind : ℕ) (rest bytes : List ℕ) (e : Entry) → are_bytes bytes ≡ true → kind_of kind rest bytes ≡ Ok e → IsSpelled (behind kind rest) bytes e
kind_spells kind rest bytes e good is =
    one_kind kind 102 rest bytes e _ _ (file_spells rest bytes e good) (λ i0.
    one_kind kind 100 rest bytes e _ _ (folder_spells rest bytes e good) (λ i1.
    one_kind kind 107 rest bytes e _ _ (key_spells rest bytes e good) (λ i2.
    one_kind kind 118 rest bytes e _ _ (value_spells rest bytes e good) (λ i3.
    one_kind kind 115 rest bytes e _ _ (shortcut_spells rest bytes e good) (λ i4.
    one_kind kind 110 rest bytes e _ _ (variable_spells rest bytes e good) (λ i5.
    one_kind kind 99 rest bytes e _ _ (client_spells rest bytes e good) (λ i6.
    one_kind kind 112 rest bytes e _ _ (product_spells rest bytes e good) (λ i7.
    one_kind kind 121 rest bytes e _ _ (system_spells rest bytes e good) (λ i8. absurd (refused Field e i8)) i7) i6) i5) i4) i3) i2) i1) i0) is

pub spells : (name bytes : List ℕ) (e : Entry) → entry_of name bytes ≡ Ok e → IsSpelled name bytes e
unfolding entry_of
spells [] bytes e is = absurd (refused Field e is)
spells (kind ∷ []) bytes e is = absurd (refused Field e is)
spells (kind ∷ slash ∷ rest) bytes e is =
    let g = guard_passed (eqb slash 47) Field (entry_in kind rest bytes) e is in
    let h = guard_passed (are_bytes bytes) Field (kind_of kind rest bytes) e g.1 in
    subst (λ s. IsSpelled (kind ∷ s ∷ rest) bytes e) (sym (eqb-true slash 47 g.0)) (kind_spells kind rest bytes e h.0 h.1)

-- ---- what is spelled is read

bytes4 : (front a b c d : List ℕ) → are_bytes front ≡ true → are_bytes a ≡ true → are_bytes b ≡ true → are_bytes c ≡ true → are_bytes d ≡ true → are_bytes (front ++ a ++ b ++ c ++ d) ≡ true
bytes4 front a b c d p pa pb pc pd = bytes-append (front ++ a ++ b ++ c) d (bytes-append (front ++ a ++ b) c (bytes-append (front ++ a) b (bytes-append front a p pa) pb) pc) pd

pub record_bytes : (e : Entry) → IsEntry e → fits e ≡ true → are_bytes (record_of e) ≡ true
unfolding record_of fits IsEntry shortcut_bytes product_bytes
record_bytes (entry.File f) is e =
    bytes-append (head_bytes (head_of f)) f.bytes (head_is_bytes (folded f.shown) (head_of f) (file_head f is e)) is.5
record_bytes (entry.Folder p) is e = let n = folder_short p (both _ _ e).0 in text_field.bytes p (lt-ltb _ _ (omega arith), is)
record_bytes (entry.Value k v) is e =
    let four = both _ _ e in
    let three = both _ _ four.0 in
    bytes-append (string k.shown) (payload v) (text_field.bytes k.shown (short_value_name k.shown three.1, is.1)) (value_field.bytes v (four.1, is.2))
record_bytes (entry.Key root p) is e = text_field.bytes p (short_key p (both _ _ e).1, is)
record_bytes (entry.Shortcut s) is e =
    let parts = shortcut_is s is e in
    let b = parts.2 in
    let n = file_short s.shown parts.0 in
    let front = string s.shown ++ string s.target ++ string s.arguments ++ string s.description ++ to_be_bytes w16 s.hotkey in
    let first = bytes4 (string s.shown) (string s.target) (string s.arguments) (string s.description) (to_be_bytes w16 s.hotkey) (text_field.bytes s.shown (lt-ltb _ _ (omega arith), parts.1)) (text_field.bytes s.target b.target) (text_field.bytes s.arguments b.arguments) (text_field.bytes s.description b.description) (number_bytes w16 s.hotkey) in
    bytes4 front (string s.icon) (signed s.icon_index) (to_be_bytes w16 s.show) (string s.folder) first (text_field.bytes s.icon b.icon) (number_bytes w16 (cast_unsigned w16 s.icon_index)) (number_bytes w16 s.show) (text_field.bytes s.folder b.folder)
record_bytes (entry.Variable v) is e =
    let two = both _ _ e in
    bytes-append (string v.name) (string v.value) (text_field.bytes v.name (short_variable_name v.name two.0, is.0)) (text_field.bytes v.value (two.1, is.1))
record_bytes (entry.Client c) is e = text_field.bytes c.key_path (e, is.2)
record_bytes (entry.Product p) is e =
    let four = both _ _ e in
    let three = both _ _ four.0 in
    let two = both _ _ three.0 in
    bytes-append (string p.name ++ four_numbers p.version ++ to_be_bytes w16 p.language) (strings p.features)
    (bytes-append (string p.name ++ four_numbers p.version) (to_be_bytes w16 p.language) (bytes-append (string p.name) (four_numbers p.version) (text_field.bytes p.name (two.0, is.1)) (four_field.bytes p.version is.2)) (number_bytes w16 p.language))
    ((texts_field Rising).bytes p.features (two.1, join_texts p.features three.1 is.4, four.1))
record_bytes (entry.System p t) is e = text_field.bytes t ((both _ _ e).1, is)

-- the entry at a name of its kind
at_kind : (kind : ℕ) (rest bytes : List ℕ) (r : Result Entry RecFault) → are_bytes bytes ≡ true → kind_of kind rest bytes ≡ r → entry_of (behind kind rest) bytes ≡ r
unfolding entry_of
at_kind kind rest bytes r good is = ap (λ b. cond b (kind_of kind rest bytes) (Err Field)) good ∙ is

pub reads : (e : Entry) → IsEntry e → fits e ≡ true → entry_of (name_of e) (record_of e) ≡ Ok e
unfolding file_name folder_name key_name value_name shortcut_name variable_name client_name product_name system_name
reads (entry.File f) is e = at_kind 102 (folded f.shown) (record_of (entry.File f)) _ (record_bytes (entry.File f) is e) (file_reads f is e)
reads (entry.Folder p) is e = at_kind 100 (folded p) (record_of (entry.Folder p)) _ (record_bytes (entry.Folder p) is e) (folder_again p is e)
reads (entry.Value k v) is e = at_kind 118 _ (record_of (entry.Value k v)) _ (record_bytes (entry.Value k v) is e) (value_reads k v is e)
reads (entry.Key root p) is e = at_kind 107 _ (record_of (entry.Key root p)) _ (record_bytes (entry.Key root p) is e) (key_again root p is e)
reads (entry.Shortcut s) is e = at_kind 115 (folded s.shown) (record_of (entry.Shortcut s)) _ (record_bytes (entry.Shortcut s) is e) (shortcut_reads s is e)
reads (entry.Variable v) is e = at_kind 110 _ (record_of (entry.Variable v)) _ (record_bytes (entry.Variable v) is e) (variable_again v is e)
reads (entry.Client c) is e = at_kind 99 _ (record_of (entry.Client c)) _ (record_bytes (entry.Client c) is e) (client_again c is e)
reads (entry.Product p) is e = at_kind 112 _ (record_of (entry.Product p)) _ (record_bytes (entry.Product p) is e) (product_again p is e)
reads (entry.System p t) is e = at_kind 121 p (record_of (entry.System p t)) _ (record_bytes (entry.System p t) is e) (system_again p t is e)

-- an entry is known by its name and its record
pub same_entry : (e f : Entry) → IsEntry e → fits e ≡ true → IsEntry f → fits f ≡ true → name_of e ≡ name_of f → record_of e ≡ record_of f → e ≡ f
same_entry e f is right is2 right2 name bytes =
    let one = reads e is right in
    let two = reads f is2 right2 in
    let same : entry_of (name_of e) (record_of e) ≡ entry_of (name_of f) (record_of f) = ap (λ (n : Name). entry_of n (record_of e)) name ∙ ap (entry_of (name_of f)) bytes in
    cc

-- no entry stands in the rollback area
pub outside : (e : Entry) → is_area (name_of e) ≡ false
unfolding file_name folder_name key_name value_name shortcut_name variable_name client_name product_name system_name
outside (entry.File f) = refl
outside (entry.Folder p) = refl
outside (entry.Value k v) = refl
outside (entry.Key root p) = refl
outside (entry.Shortcut s) = refl
outside (entry.Variable v) = refl
outside (entry.Client c) = refl
outside (entry.Product p) = refl
outside (entry.System p t) = refl
