-- Which values are too large.
use Rattle.std.proofs.Common.{◌≡◌, ℕ, ◌^◌, Bool, true, false, List, [], ◌∷◌, ◌++◌, length, refl, sym, ap, ◌∙◌, arith, length-append}
use Rattle.std.specs.Prelude.{◌&&◌, ◌||◌, nat_lt, Result, Ok, Err}
use Rattle.mi_base.specs.declared.rec_error.EncError.{EncError}
use Rattle.mi_base.specs.declared.rec_error.EncError.TheVariants.{Field}
use Rattle.std.specs.List.{list_all, flat_map}
use Rattle.std.specs.Int.{w16, w32, to_be_bytes}
use Rattle.std.proofs.lemmas.Bool.Decides.{nat_tests}
use Rattle.mi_text.specs.Fold.{folded}
use Rattle.mi_base.specs.declared.entry.Entry.{Entry}
use Rattle.mi_base.specs.declared.entry.Entry.TheVariants as entry
use Rattle.mi_base.specs.declared.entry.RegValue.{RegValue}
use Rattle.mi_base.specs.declared.entry.RegValue.TheVariants as value
use Rattle.mi_base.specs.declared.entry.ValueKey.{ValueKey}
use Rattle.mi_base.specs.Fields.{string, strings}
use Rattle.mi_base.specs.Limits.{fits, fits_value, is_key, is_folded, is_value_name, is_short, are_few}
use Rattle.mi_base.specs.Spelling.{record_of}
use Rattle.mi_base.proofs.FoldLemmas.{key-folded, is_folded-folded}
use Rattle.mi_model.specs.Refusals.{has_too_many}
use Rattle.mi_records.specs.Values.{is_too_large}

long_record : (kind : ℕ) (name text : List ℕ) → nat_lt (length text) (2 ^ 32) ≡ false → nat_lt 16777216 (length (string name ++ kind ∷ string text)) ≡ true
long_record kind name text long =
    let whole = length-append (string name) (kind ∷ string text) in
    let own = length-append (to_be_bytes w32 (length text)) text in
    grind (arith, nat_tests)

long_list : (name : List ℕ) (texts : List (List ℕ)) → nat_lt (length (flat_map string texts)) (2 ^ 32) ≡ false → nat_lt 16777216 (length (string name ++ 5 ∷ strings texts)) ≡ true
long_list name texts long =
    let whole = length-append (string name) (5 ∷ strings texts) in
    let own = length-append (to_be_bytes w16 (length texts)) (flat_map string texts) in
    grind (arith, nat_tests)

or_true : (a b : Bool) → b ≡ true → (a || b) ≡ true
or_true true b e = refl
or_true false b e = e

or_first : (a b : Bool) → a ≡ true → (a || b) ≡ true
or_first true b e = refl
or_first false b e = cc

long_texts : (texts : List (List ℕ)) → list_all is_short texts ≡ false → nat_lt (length (flat_map string texts)) (2 ^ 32) ≡ false
long_texts [] e = cc
long_texts (t ∷ texts) e =
    let whole = length-append (string t) (flat_map string texts) in
    let own = length-append (to_be_bytes w32 (length t)) t in
    elim (is_short t) as (λ b. is_short t ≡ b → (b && list_all is_short texts) ≡ false → nat_lt (length (flat_map string (t ∷ texts))) (2 ^ 32) ≡ false) [
      | true ↦ λ is rest. let more = long_texts texts rest in grind (arith, nat_tests)
      | false ↦ λ is rest. grind (arith, nat_tests)
    ] refl e

abbrev entry_at : ℕ → List ℕ → List ℕ → RegValue → Entry
entry_at root key name v = entry.Value (record { root = root; key = folded key; shown = name }) v

value_alone : (root : ℕ) (key name : List ℕ) (v : RegValue) → nat_lt root 4 ≡ true → is_key key ≡ true → is_value_name name ≡ true → fits (entry_at root key name v) ≡ fits_value v
unfolding fits
value_alone root key name v r k n = rw (r, key-folded key ∙ k, is_folded-folded key, n) refl

too_many : (texts : List (List ℕ)) → are_few texts ≡ false → nat_lt 65535 (length texts) ≡ true
too_many texts e = grind (arith, nat_tests)

value_large : (root : ℕ) (key name : List ℕ) (v : RegValue) → fits_value v ≡ false → is_too_large (entry_at root key name v) ≡ true
unfolding record_of
value_large root key name (value.Text t) e = or_first _ _ (long_record 1 name t e)
value_large root key name (value.Expand t) e = or_first _ _ (long_record 2 name t e)
value_large root key name (value.Int n) e = cc
value_large root key name (value.Binary b) e = or_first _ _ (long_record 4 name b e)
value_large root key name (value.List ts) e =
    elim (are_few ts) as (λ b. are_few ts ≡ b → (b && list_all is_short ts) ≡ false → is_too_large (entry_at root key name (value.List ts)) ≡ true) [
      | true ↦ λ is rest. or_first _ _ (long_list name ts (long_texts ts rest))
      | false ↦ λ is rest. or_true (nat_lt 16777216 (length (record_of (entry_at root key name (value.List ts))))) _ (too_many ts is)
    ] refl e

pub large_unless_fits : (root : ℕ) (key name : List ℕ) (v : RegValue) → nat_lt root 4 ≡ true → is_key key ≡ true → is_value_name name ≡ true → fits (entry_at root key name v) ≡ false → is_too_large (entry_at root key name v) ≡ true
large_unless_fits root key name v r k n e = value_large root key name v (sym (value_alone root key name v r k n) ∙ e)

pub fits_unless_large : (e : Entry) → (fits e ≡ false → is_too_large e ≡ true) → is_too_large e ≡ false → fits e ≡ true
fits_unless_large e large small = elim (fits e) as (λ b. fits e ≡ b → b ≡ true) [
  | true ↦ λ is. refl
  | false ↦ λ is. let clash : true ≡ false = sym (large is) ∙ small in cc
] refl

few_fit : (texts : List (List ℕ)) → are_few texts ≡ true → nat_lt 65535 (length texts) ≡ false
few_fit texts e = grind (arith, nat_tests)

front : (a b : Bool) → (a && b) ≡ true → a ≡ true
front true b e = refl
front false b e = cc

back : (a b : Bool) → (a && b) ≡ true → b ≡ true
back true b e = e
back false b e = cc

value_few : (k : ValueKey) (v : RegValue) → fits (entry.Value k v) ≡ true → fits_value v ≡ true
unfolding fits
value_few k v e = back (nat_lt k.root 4 && is_key k.key && is_folded k.key && is_value_name k.shown) (fits_value v) e

pub not_too_many : (e : Entry) → fits e ≡ true → has_too_many e ≡ false
not_too_many (entry.Value k (value.List ts)) e = few_fit ts (front (are_few ts) (list_all is_short ts) (value_few k (value.List ts) e))
not_too_many (entry.Value k (value.Text t)) e = refl
not_too_many (entry.Value k (value.Expand t)) e = refl
not_too_many (entry.Value k (value.Int n)) e = refl
not_too_many (entry.Value k (value.Binary b)) e = refl
not_too_many (entry.File f) e = refl
not_too_many (entry.Folder t) e = refl
not_too_many (entry.Key r t) e = refl
not_too_many (entry.Shortcut s) e = refl
not_too_many (entry.Variable v) e = refl
not_too_many (entry.Client c) e = refl
not_too_many (entry.Product p) e = refl
not_too_many (entry.System p t) e = refl

-- an entry that has a record, by its length
or_none : (a b : Bool) → b ≡ false → (a || b) ≡ a
or_none true b e = refl
or_none false b e = e

pub large_by_record : (e : Entry) (bytes : List ℕ) (n : ℕ) → (fits e ≡ false → ⊥) → bytes ≡ record_of e → n ≡ length bytes → is_too_large e ≡ nat_lt 16777216 n
large_by_record e bytes n right recorded size =
    or_none (nat_lt 16777216 (length (record_of e))) (has_too_many e) (not_too_many e (elim (fits e) as (λ b. fits e ≡ b → b ≡ true) [ true ↦ λ is. refl | false ↦ λ is. absurd (right is) ] refl))
    ∙ ap (λ (xs : List ℕ). nat_lt 16777216 (length xs)) (sym recorded) ∙ ap (nat_lt 16777216) (sym size)

pub not_refused : {A : Type 0} (x : A) → ◌≡◌ {A = Result A EncError} (Ok x) (Err Field) → ⊥
not_refused x e = cc
