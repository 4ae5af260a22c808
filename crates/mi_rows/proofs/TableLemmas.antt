-- A table by its bytes.
use Rattle.std.proofs.Common.{◌≡◌, ℕ, ◌<◌, Bool, true, false, cond, inl, inr, List, [], ◌∷◌, length, map, Option, Some, None, Result, refl, sym, ap, subst, ◌∙◌, arith}
use Rattle.std.specs.Prelude.{◌==◌, nat_lt, option_map}
use Rattle.std.proofs.lemmas.Bool.{cases_Bool}
use Rattle.std.proofs.lemmas.Bool.Decides.{nat_tests}
use Rattle.mi_text.specs.Maps.{Name}
use Rattle.mi_base.specs.declared.answers.Fault.{Fault}
use Rattle.mi_base.specs.declared.answers.Fault.TheVariants.{Unsupported, Idt}
use Rattle.mi_text.specs.declared.answers.IdtFault.{IdtFault}
use Rattle.mi_text.specs.declared.answers.IdtFault.TheVariants.{TooLarge}
use Rattle.mi_source.specs.Paths.{bytes_or_none}
use Rattle.mi_idt.specs.Fault.{idt_fault}
use Rattle.mi_idt.specs.Cells as raw
use Rattle.mi_idt.specs.declared.table.Table.{Table as Spelled}
use Rattle.mi_idt.specs.Means.{IsSpelledBy, meaning}
use Rattle.mi_idt.specs.Raw.{value_of}
use Rattle.mi_rows.specs.Columns.{Table}
use Rattle.mi_rows.specs.Rows.{◌or_else◌, are_none, rows_in, value_fault, unsupported, spelled_value, size_fault, table_fault}
use Rattle.mi_rows.specs.declared.error.LoadError.{LoadError}
use Rattle.mi_rows.specs.Reads.{Answers}
use Rattle.mi_rows.specs.Values.{row_of}

no_rows_of : {A : Type 0} (xs : List A) → length xs ≡ 0 → xs ≡ []
no_rows_of [] e = refl
no_rows_of (x ∷ xs) e = absurd (omega arith)

-- a refused table without rows
pub refused_none : (t : Table) (v : raw.TableValue) → are_none t.columns ≡ true → length v.rows ≡ 0 → (value_fault t v ≡ None) × (rows_in t v ≡ [])
refused_none t v none empty =
    let rows : v.rows ≡ [] = no_rows_of v.rows empty in
    (rw (none, rows) refl, ap (map (row_of t.columns)) rows)

some_rows : (t : Table) (rows : List (List raw.Cell)) → 0 < length rows → unsupported t.name rows ≡ Some (Unsupported t.name)
some_rows t [] some = absurd (omega arith)
some_rows t (row ∷ rows) some = refl

-- and with rows
pub refused_some : (t : Table) (v : raw.TableValue) → are_none t.columns ≡ true → 0 < length v.rows → value_fault t v ≡ Some (Unsupported t.name)
refused_some t v none some = rw none (some_rows t v.rows some)

-- a table of more bytes than a table may have
pub too_long : (bytes : List ℕ) → 16777216 < length bytes → idt_fault bytes ≡ Some TooLarge
unfolding idt_fault
too_long bytes long = let above : nat_lt 16777216 (length bytes) ≡ true = grind (arith, nat_tests) in rw above refl

-- a table means what its bytes spell
pub meaning_in : (bytes : List ℕ) (t : Spelled) → IsSpelledBy bytes t → meaning t ≡ spelled_value bytes
unfolding meaning
meaning_in bytes t spelled = ap value_of spelled.stands

pub read_spelled : {X : Type 0} (P : X → raw.TableValue → Type 0) (t : Table) (bytes : List ℕ) (s : Spelled) (r : Result X LoadError) → IsSpelledBy bytes s → idt_fault bytes ≡ None → Answers ⊥ (value_fault t (meaning s)) (λ (x : X). P x (meaning s)) r
    → Answers ⊥ (table_fault t (Some bytes)) (λ (x : X). P x (spelled_value bytes)) r
read_spelled {X} P t bytes s r spelled none answers =
    subst (λ (f : Option IdtFault). Answers ⊥ (option_map (Idt t.name) f or_else value_fault t (spelled_value bytes)) (λ (x : X). P x (spelled_value bytes)) r) (sym none)
    (subst (λ (v : raw.TableValue). Answers ⊥ (value_fault t v) (λ (x : X). P x v) r) (meaning_in bytes s spelled) answers)

pub too_long_table : (t : Table) (o : Option (List ℕ)) → 16777216 < length (bytes_or_none o) → table_fault t o ≡ Some (Idt t.name TooLarge)
too_long_table t None long = absurd (omega arith)
too_long_table t (Some bytes) long = rw (too_long bytes long) refl

pub is_zero : (n : ℕ) (b : Bool) → b ≡ (n == 0) → b ≡ true → n ≡ 0
is_zero n b is on = let e : (n == 0) ≡ true = sym is ∙ on in grind (arith, nat_tests)

pub is_more : (n : ℕ) (b : Bool) → b ≡ (n == 0) → b ≡ false → 0 < n
is_more n b is off = let e : (n == 0) ≡ false = sym is ∙ off in grind (arith, nat_tests)

-- more bytes than a table may have are its fault
pub size_fails : (t : Table) (o : Option (List ℕ)) (f : Fault) → size_fault t.name o ≡ Some f → table_fault t o ≡ Some f
size_fails t None f e = cc
size_fails t (Some bytes) f e = elim (cases_Bool (nat_lt 16777216 (length bytes))) [
  | inl on ↦ too_long_table t (Some bytes) (grind (arith, nat_tests, on)) ∙ sym (ap (λ b. cond b (Some (Idt t.name TooLarge)) None) on) ∙ e
  | inr off ↦ let wrong : None ≡ Some f = sym (ap (λ b. cond b (Some (Idt t.name TooLarge)) None) off) ∙ e in cc
]

pub size_here : (table : Name) (o : Option (List ℕ)) → 16777216 < length (bytes_or_none o) → size_fault table o ≡ Some (Idt table TooLarge)
size_here table None long = absurd (omega arith)
size_here table (Some bytes) long = let above : nat_lt 16777216 (length bytes) ≡ true = grind (arith, nat_tests) in rw above refl
