-- The first of several faults.
use Rattle.std.proofs.Common.{◌≡◌, ℕ, List, [], ◌∷◌, map, Option, Some, None, Result, Ok, Err, refl, sym, ap, subst, ◌∙◌}
use Rattle.mi_text.specs.declared.answers.IdtFault.{IdtFault}
use Rattle.mi_idt.specs.declared.head.Head.{Head}
use Rattle.mi_idt.specs.declared.table.Column.{Column}
use Rattle.mi_idt.specs.declared.table.Table.{Table}
use Rattle.mi_idt.specs.declared.table.IdtError.{IdtError}
use Rattle.mi_idt.specs.declared.table.IdtError.TheVariants as error
use Rattle.mi_idt.specs.Columns.{◌or_else◌, names_fault, second_fault, columns_fault, columns_in}
use Rattle.mi_idt.specs.Fault.{parts_fault, body_fault}
use Rattle.mi_idt.specs.Fields.{fields_of}
use Rattle.mi_idt.specs.Head.{head_fault, page_of, after_page, keys_in, places_of}
use Rattle.mi_idt.specs.HasParts.{HasParts}
use Rattle.mi_idt.specs.HeadIs.{HeadIs}
use Rattle.mi_idt.specs.Means.{column_value, IsRaw}
use Rattle.mi_idt.specs.Raw.{raw_of_lines}
use Rattle.mi_idt.specs.Steps.{IsFirst, ReadsPart}

pub is_first-or : (e : IdtError) (f g : Option IdtFault) → IsFirst e f → IsFirst e (f or_else g)
is_first-or error.NoMemory f g h = tt
is_first-or (error.Fault x) f g h = rw h refl

pub is_first-past : (e : IdtError) (f g : Option IdtFault) → f ≡ None → IsFirst e g → IsFirst e (f or_else g)
is_first-past e f g none h = rw none h

pub or-past : (f g : Option IdtFault) → f ≡ None → (f or_else g) ≡ g
or-past f g none = rw none refl

pub or-none : (f g : Option IdtFault) → (f or_else g) ≡ None → (f ≡ None) × (g ≡ None)
or-none None g e = (refl, e)
or-none (Some x) g e = absurd cc

pub ReadsPart-same : {X : Type 0} (r : Result X IdtError) (f g : Option IdtFault) (P Q : X → Type 0) → f ≡ g → ((x : X) → P x → Q x) → ReadsPart r f P → ReadsPart r g Q
ReadsPart-same (Ok x) f g P Q same weaker h = (sym same ∙ h.0, weaker x h.1)
ReadsPart-same (Err e) f g P Q same weaker h = subst (IsFirst e) same h

-- ---- the parts of a table

pub first_names : (e : IdtError) (names definitions head : List ℕ) (rows : List (List ℕ)) (ns : List (List ℕ)) → ns ≡ fields_of names → IsFirst e (names_fault [] 1 ns) → IsFirst e (parts_fault names definitions head rows)
unfolding parts_fault
first_names e names definitions head rows ns are first = is_first-or e _ _ (is_first-or e _ _ (subst (λ (l : List (List ℕ)). IsFirst e (names_fault [] 1 l)) are first))

columns_past : (names definitions : List ℕ) (ns : List (List ℕ)) → ns ≡ fields_of names → names_fault [] 1 ns ≡ None → columns_fault names definitions ≡ second_fault ns (fields_of definitions)
columns_past names definitions ns are named = or-past _ _ (ap (names_fault [] 1) (sym are) ∙ named) ∙ ap (λ (l : List (List ℕ)). second_fault l (fields_of definitions)) (sym are)

pub first_columns : (e : IdtError) (names definitions head : List ℕ) (rows : List (List ℕ)) (ns : List (List ℕ)) → ns ≡ fields_of names → names_fault [] 1 ns ≡ None → IsFirst e (second_fault ns (fields_of definitions)) → IsFirst e (parts_fault names definitions head rows)
unfolding parts_fault
first_columns e names definitions head rows ns are named first = is_first-or e _ _ (subst (IsFirst e) (sym (columns_past names definitions ns are named)) first)

pub first_head : (e : IdtError) (names definitions head : List ℕ) (rows : List (List ℕ)) (ns : List (List ℕ)) → ns ≡ fields_of names → names_fault [] 1 ns ≡ None → second_fault ns (fields_of definitions) ≡ None → IsFirst e (head_fault ns (fields_of head)) → IsFirst e (parts_fault names definitions head rows)
unfolding parts_fault
first_head e names definitions head rows ns are named defined first =
    is_first-past e _ _ (columns_past names definitions ns are named ∙ defined) (is_first-or e _ _ (subst (λ (l : List (List ℕ)). IsFirst e (head_fault l (fields_of head))) are first))

pub parts_past : (names definitions head : List ℕ) (rows : List (List ℕ)) (ns : List (List ℕ)) → ns ≡ fields_of names → names_fault [] 1 ns ≡ None → second_fault ns (fields_of definitions) ≡ None → head_fault ns (fields_of head) ≡ None
    → body_fault (page_of (fields_of head)) (columns_in ns (fields_of definitions)) (places_of ns (keys_in (after_page (fields_of head)))) rows ≡ parts_fault names definitions head rows
unfolding parts_fault
parts_past names definitions head rows ns are named defined headed =
    let front : columns_fault names definitions ≡ None = columns_past names definitions ns are named ∙ defined in
    let line : head_fault (fields_of names) (fields_of head) ≡ None = ap (λ (l : List (List ℕ)). head_fault l (fields_of head)) (sym are) ∙ headed in
    ap (λ (l : List (List ℕ)). body_fault (page_of (fields_of head)) (columns_in l (fields_of definitions)) (places_of l (keys_in (after_page (fields_of head)))) rows) are
    ∙ sym (or-past (columns_fault names definitions) _ front ∙ or-past (head_fault (fields_of names) (fields_of head)) _ line)

-- the parts that were read make the table that stands there
pub parts_read : (t : Table) (h : Head) (columns : List Column) (names definitions head : List ℕ) (lines : List (List ℕ)) (ns : List (List ℕ)) → ns ≡ fields_of names
    → map column_value columns ≡ columns_in ns (fields_of definitions) → HeadIs h ns (fields_of head) → HasParts t h columns lines
    → IsRaw t (raw_of_lines (names ∷ definitions ∷ head ∷ lines))
parts_read t h columns names definitions head lines ns are cs said parts = (
  parts.0 ∙ (λ i. record {
    name = said.1 i;
    page = said.0 i;
    columns = (cs ∙ ap (λ (l : List (List ℕ)). columns_in l (fields_of definitions)) are) i;
    keys = (said.2 ∙ ap (λ (l : List (List ℕ)). places_of l (keys_in (after_page (fields_of head)))) are) i;
    rows = map fields_of lines;
  }),
  parts.1,
)

pub body_same : (h : Head) (columns : List Column) (names definitions head : List ℕ) (lines : List (List ℕ)) (ns : List (List ℕ))
    → map column_value columns ≡ columns_in ns (fields_of definitions) → HeadIs h ns (fields_of head)
    → body_fault h.page (map column_value columns) h.keys.items lines ≡ body_fault (page_of (fields_of head)) (columns_in ns (fields_of definitions)) (places_of ns (keys_in (after_page (fields_of head)))) lines
body_same h columns names definitions head lines ns cs said = (λ i. body_fault (said.0 i) (cs i) (said.2 i) lines)
