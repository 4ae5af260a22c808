-- What is written is read again.
use Rattle.std.proofs.Common.{◌≡◌, ℕ, suc, ◌^◌, ◌<◌, true, false, ltb, List, [], ◌∷◌, ◌++◌, length, Option, Some, None, Result, Ok, Err, refl, sym, ap, ◌∙◌, append_assoc, arith}
use Rattle.std.specs.Int.{w16, w32, w64, to_be_bytes}
use Rattle.std.specs.List.{flat_map, AllByRecursion}
use Rattle.std.specs.Str.{is_utf8, IsUtf8}
use Rattle.std.proofs.lemmas.Bool.{le-ltb}
use Rattle.std.proofs.lemmas.List.{take_at, drop_at, append-nil, length-append}
use Rattle.std.proofs.lemmas.List.Concat.{flat_map-cons}
use Rattle.std.proofs.lemmas.Str.{is_utf8-from_IsUtf8}
use Rattle.mi_text.specs.Path.{is_path}
use Rattle.mi_base.specs.declared.rec_error.RecFault.{RecFault}
use Rattle.mi_base.specs.declared.rec_error.RecFault.TheVariants.{Field}
use Rattle.mi_base.specs.declared.entry.FileHead.{FileHead}
use Rattle.mi_base.specs.Fields.{version}
use Rattle.mi_base.specs.Reading.{◌>>=◌, number_at, items_at, version_at, ended}
use Rattle.mi_base.proofs.FieldLemmas.{number16, number32, number64, version_field}
use Rattle.mi_base.proofs.LoopLemmas.{not_utf8}
use Rattle.mi_script.specs.declared.rec.Rec.{Rec}
use Rattle.mi_script.specs.declared.rec.Rec.TheVariants.{Put, Drop, Copy, Dup}
use Rattle.mi_script.specs.Written.{long, long_numbers, written_head, written_rec, written_script}
use Rattle.mi_script.specs.Reading.{in_any_order, is_name, long_at, text_at, text_where, long_numbers_at, head_in, head_at, rec_at, script_of}
use Rattle.mi_script.specs.Kept.{IsLong, IsText, IsHead, IsRec}

pub text_read : (bytes text rest : List ℕ) → long_at bytes ≡ Ok (text, rest) → IsUtf8 text → text_at bytes ≡ Ok (text, rest)
unfolding text_at
text_read bytes text rest e u = let t : is_utf8 text ≡ true = is_utf8-from_IsUtf8 text u in rw (e, t) refl

pub text_refused : (bytes text rest : List ℕ) → long_at bytes ≡ Ok (text, rest) → (IsUtf8 text → ⊥) → text_at bytes ≡ Err Field
unfolding text_at
text_refused bytes text rest e u = let t : is_utf8 text ≡ false = not_utf8 text u in rw (e, t) refl

pub long_again : (bytes rest : List ℕ) → IsLong bytes → long_at (long bytes ++ rest) ≡ Ok (bytes, rest)
unfolding long_at
long_again bytes rest small =
    let fits : ltb (length (bytes ++ rest)) (length bytes) ≡ false = le-ltb _ _ (omega (arith, length-append bytes rest)) in
    rw (number64.again (length bytes) (bytes ++ rest) small, fits, take_at bytes rest (length bytes) refl, drop_at bytes rest (length bytes) refl) refl

text_again : (t rest : List ℕ) → IsText t → text_at (long t ++ rest) ≡ Ok (t, rest)
text_again t rest is = text_read (long t ++ rest) t rest (long_again t rest is.1) is.0

where_again : (holds : List ℕ → _) (t rest : List ℕ) → IsText t → holds t ≡ true → text_where holds (long t ++ rest) ≡ Ok (t, rest)
unfolding text_where
where_again holds t rest is h = rw (text_again t rest is, h) refl

items_again : {X : Type 0} (read : List ℕ → Result (X × List ℕ) RecFault) (write : X → List ℕ) (Right : X → Type 0) → ((x : X) (rest : List ℕ) → Right x → read (write x ++ rest) ≡ Ok (x, rest))
    → (xs : List X) (last : Option X) (rest : List ℕ) → AllByRecursion Right xs → items_at read in_any_order last (length xs) (flat_map write xs ++ rest) ≡ Ok (xs, rest)
unfolding items_at
items_again read write Right again [] last rest all = refl
items_again read write Right again (x ∷ xs) last rest all =
    let regrouped : flat_map write (x ∷ xs) ++ rest ≡ write x ++ (flat_map write xs ++ rest) = ap (λ (y : List ℕ). y ++ rest) (flat_map-cons write x xs) ∙ append_assoc (write x) (flat_map write xs) rest in
    ap (items_at read in_any_order last (suc (length xs))) regrouped ∙ rw (again x (flat_map write xs ++ rest) all.0, items_again read write Right again xs (Some x) rest all.1) refl

numbers_again : (ns rest : List ℕ) → AllByRecursion (λ n. n < 2 ^ 16) ns → length ns < 2 ^ 64 → long_numbers_at (long_numbers ns ++ rest) ≡ Ok (ns, rest)
unfolding long_numbers_at
numbers_again ns rest all few =
    let regrouped : long_numbers ns ++ rest ≡ to_be_bytes w64 (length ns) ++ (flat_map (to_be_bytes w16) ns ++ rest) = append_assoc (to_be_bytes w64 (length ns)) (flat_map (to_be_bytes w16) ns) rest in
    ap long_numbers_at regrouped ∙ rw (number64.again (length ns) (flat_map (to_be_bytes w16) ns ++ rest) few) (items_again (number_at w16) (to_be_bytes w16) (λ n. n < 2 ^ 16) (λ n r lt. number16.again n r lt) ns None rest all)

seven : (a b c d e f g : List ℕ) → a ++ b ++ c ++ d ++ e ++ f ++ g ≡ a ++ (b ++ (c ++ (d ++ (e ++ (f ++ (g ++ []))))))
seven a b c d e f g = simp (append_assoc, append-nil)

five : (a b c d e rest : List ℕ) → (a ++ b ++ c ++ d ++ e) ++ rest ≡ a ++ (b ++ (c ++ (d ++ (e ++ rest))))
five a b c d e rest = simp append_assoc

three : (a b c rest : List ℕ) → (a ++ b ++ c) ++ rest ≡ a ++ (b ++ (c ++ rest))
three a b c rest = simp append_assoc

then : {A B : Type 0} (r : Result A RecFault) (x : A) (f : A → Result B RecFault) → r ≡ Ok x → (r >>= f) ≡ f x
then r x f e = ap (λ (s : Result _ RecFault). s >>= f) e

head_again : (h : FileHead) → IsHead h → head_in (written_head h) ≡ Ok h
unfolding head_in written_head
head_again h is =
    let r6 : List ℕ = to_be_bytes w64 h.length ++ [] in
    let r5 : List ℕ = to_be_bytes w32 h.attributes ++ r6 in
    let r4 : List ℕ = to_be_bytes w64 h.modified ++ r5 in
    let r3 : List ℕ = to_be_bytes w64 h.created ++ r4 in
    let r2 : List ℕ = long_numbers h.languages ++ r3 in
    let r1 : List ℕ = version h.version ++ r2 in
    let joined : written_head h ≡ long h.shown ++ r1 = seven (long h.shown) (version h.version) (long_numbers h.languages) (to_be_bytes w64 h.created) (to_be_bytes w64 h.modified) (to_be_bytes w32 h.attributes) (to_be_bytes w64 h.length) in
    let from_length : ℕ × List ℕ → Result FileHead RecFault = λ x. ended (record { shown = h.shown; version = h.version; languages = h.languages; created = h.created; modified = h.modified; attributes = h.attributes; length = x.0 }, x.1) in
    let from_attributes : ℕ × List ℕ → Result FileHead RecFault = λ x. number_at w64 x.1 >>= λ len. ended (record { shown = h.shown; version = h.version; languages = h.languages; created = h.created; modified = h.modified; attributes = x.0; length = len.0 }, len.1) in
    let from_modified : ℕ × List ℕ → Result FileHead RecFault = λ x. number_at w32 x.1 >>= λ attributes. number_at w64 attributes.1 >>= λ len. ended (record { shown = h.shown; version = h.version; languages = h.languages; created = h.created; modified = x.0; attributes = attributes.0; length = len.0 }, len.1) in
    let from_created : ℕ × List ℕ → Result FileHead RecFault = λ x. number_at w64 x.1 >>= λ modified. number_at w32 modified.1 >>= λ attributes. number_at w64 attributes.1 >>= λ len. ended (record { shown = h.shown; version = h.version; languages = h.languages; created = x.0; modified = modified.0; attributes = attributes.0; length = len.0 }, len.1) in
    ap head_in joined
    ∙ then (text_where is_path (long h.shown ++ r1)) (h.shown, r1) _ (where_again is_path h.shown r1 is.shown is.path)
    ∙ then (version_at r1) (h.version, r2) _ (version_field.again h.version r2 is.version)
    ∙ then (long_numbers_at r2) (h.languages, r3) _ (numbers_again h.languages r3 is.languages is.few)
    ∙ then (number_at w64 r3) (h.created, r4) from_created (number64.again h.created r4 is.created)
    ∙ then (number_at w64 r4) (h.modified, r5) from_modified (number64.again h.modified r5 is.modified)
    ∙ then (number_at w32 r5) (h.attributes, r6) from_attributes (number32.again h.attributes r6 is.attributes)
    ∙ then (number_at w64 r6) (h.length, []) from_length (number64.again h.length [] is.len)

long_head_again : (h : FileHead) (rest : List ℕ) → IsHead h → head_at (long (written_head h) ++ rest) ≡ Ok (h, rest)
unfolding head_at
long_head_again h rest is = rw (long_again (written_head h) rest is.whole, head_again h is) refl

rec_again : (r : Rec) (rest : List ℕ) → IsRec r → rec_at (written_rec r ++ rest) ≡ Ok (r, rest)
unfolding rec_at written_rec
rec_again (Put name bytes) rest is =
    let joined : (long name ++ long bytes) ++ rest ≡ long name ++ (long bytes ++ rest) = append_assoc (long name) (long bytes) rest in
    ap (λ (b : List ℕ). rec_at (1 ∷ b)) joined ∙ rw (where_again is_name name (long bytes ++ rest) is.0.0 is.0.1, long_again bytes rest is.1) refl
rec_again (Drop name) rest is = rw (where_again is_name name rest is.0 is.1) refl
rec_again (Copy name h file path n) rest is =
    let r4 : List ℕ = to_be_bytes w64 n ++ rest in
    let r3 : List ℕ = long path ++ r4 in
    let r2 : List ℕ = long file ++ r3 in
    let r1 : List ℕ = long (written_head h) ++ r2 in
    let joined : (long name ++ long (written_head h) ++ long file ++ long path ++ to_be_bytes w64 n) ++ rest ≡ long name ++ r1 = five (long name) (long (written_head h)) (long file) (long path) (to_be_bytes w64 n) rest in
    ap (λ (b : List ℕ). rec_at (3 ∷ b)) joined
    ∙ then (text_where is_name (long name ++ r1)) (name, r1) _ (where_again is_name name r1 is.0.0 is.0.1)
    ∙ then (head_at r1) (h, r2) _ (long_head_again h r2 is.1)
    ∙ then (text_at r2) (file, r3) _ (text_again file r3 is.2)
    ∙ then (text_at r3) (path, r4) _ (text_again path r4 is.3)
    ∙ then (number_at w64 r4) (n, rest) _ (number64.again n rest is.4)
rec_again (Dup name h from) rest is =
    let r2 : List ℕ = long from ++ rest in
    let r1 : List ℕ = long (written_head h) ++ r2 in
    let joined : (long name ++ long (written_head h) ++ long from) ++ rest ≡ long name ++ r1 = three (long name) (long (written_head h)) (long from) rest in
    ap (λ (b : List ℕ). rec_at (4 ∷ b)) joined
    ∙ then (text_where is_name (long name ++ r1)) (name, r1) _ (where_again is_name name r1 is.0.0 is.0.1)
    ∙ then (head_at r1) (h, r2) _ (long_head_again h r2 is.1)
    ∙ then (text_where is_name r2) (from, rest) _ (where_again is_name from rest is.2.0 is.2.1)

-- a script is read from its written form
pub script_again : (rs : List Rec) → length rs < 2 ^ 64 → AllByRecursion IsRec rs → script_of (written_script rs) ≡ Ok rs
unfolding script_of written_script
script_again rs few all =
    let joined : to_be_bytes w64 (length rs) ++ flat_map written_rec rs ≡ to_be_bytes w64 (length rs) ++ (flat_map written_rec rs ++ []) = ap (λ (b : List ℕ). to_be_bytes w64 (length rs) ++ b) (sym (append-nil (flat_map written_rec rs))) in
    ap script_of joined ∙ rw (number64.again (length rs) (flat_map written_rec rs ++ []) few, items_again rec_at written_rec IsRec rec_again rs None [] all) refl
