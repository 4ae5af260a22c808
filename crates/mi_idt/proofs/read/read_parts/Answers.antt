use Rattle.std.proofs.Common.{◌≡◌, ◌∙◌, sym, ap, List, [], ℕ, Bor, subst, None, arith, length}
use Rattle.std.proofs.lemmas.List.{length-map}
use Rattle.std.proofs.lemmas.Result.{err_from_is_err_and}
use Rattle.mi_idt.specs.Columns.{second_fault, names_fault, columns_in}
use Rattle.mi_idt.specs.Fields.{fields_of}
use Rattle.mi_idt.specs.Steps.{IsFirst}
use Rattle.mi_idt.proofs.Faults.{first_names, first_columns, first_head, parts_past, parts_read, body_same, ReadsPart-same}
use Rattle.mi_idt.proofs.Basics.{shown}
use Rattle.mi_idt.proofs.read.read_parts.Goals as goal

pub returns-in_err-names : goal.returns-in_err-names
returns-in_err-names c = let p = err_from_is_err_and c.from_residual-in_err-names.result c.from_residual-in_err-names.ensures.1 in rw (p.1, p.2) (first_names c.in_err-names.field-0.0 c.args.texts.names.now _ _ _ _ c.in_ok-list.ensures c.in_err-names.ensures)

pub returns-in_err-columns : goal.returns-in_err-columns
returns-in_err-columns c =
    let p = err_from_is_err_and c.from_residual-in_err-columns.result c.from_residual-in_err-columns.ensures.1 in
    let list = c.deref.ensures.value ∙ c.in_ok-names.ensures.1 in
    let first = subst (λ (ns : List (Bor (List ℕ))). IsFirst c.in_err-columns.field-0.0 (second_fault (shown ns) (fields_of c.args.texts.definitions.now))) list c.in_err-columns.ensures.read in
    rw (p.1, p.2) (first_columns c.in_err-columns.field-0.0 c.args.texts.names.now _ _ _ _ c.in_ok-list.ensures c.in_ok-names.ensures.0 first)

pub returns-in_err-head : goal.returns-in_err-head
returns-in_err-head c =
    let p = err_from_is_err_and c.from_residual-in_err-head.result c.from_residual-in_err-head.ensures.1 in
    let list = c.deref.ensures.value in
    let named = ap shown c.in_ok-names.ensures.1 in
    let defined = subst (λ (ns : List (Bor (List ℕ))). second_fault (shown ns) (fields_of c.args.texts.definitions.now) ≡ None) list c.in_ok-columns.ensures.read.0 in
    rw (p.1, p.2) (first_head c.in_err-head.field-0.0 c.args.texts.names.now _ _ _ (shown c.in_ok-names.names.list.items) (named ∙ c.in_ok-list.ensures) (subst (λ (ns : List (List ℕ)). names_fault [] 1 ns ≡ None) (sym named) c.in_ok-names.ensures.0) defined c.in_err-head.ensures)

pub read_body-requires-clause-few_columns : goal.read_body-requires-clause-few_columns
read_body-requires-clause-few_columns c = omega (arith, c.in_ok-columns.ensures.as_many, ap length c.deref.ensures.value, ap length c.in_ok-names.ensures.1, sym (length-map c.in_ok-list.list.items (λ (b : Bor (List ℕ)). b.now)) ∙ ap length c.in_ok-list.ensures, c.requires.few_columns)

pub returns : goal.returns
returns c =
    let list = c.deref.ensures.value in
    let named = ap shown c.in_ok-names.ensures.1 in
    let are = named ∙ c.in_ok-list.ensures in
    let first = subst (λ (ns : List (List ℕ)). names_fault [] 1 ns ≡ None) (sym named) c.in_ok-names.ensures.0 in
    let defined = subst (λ (ns : List (Bor (List ℕ))). second_fault (shown ns) (fields_of c.args.texts.definitions.now) ≡ None) list c.in_ok-columns.ensures.read.0 in
    let columns = c.in_ok-columns.ensures.read.1 ∙ ap (λ (ns : List (Bor (List ℕ))). columns_in (shown ns) (fields_of c.args.texts.definitions.now)) list in
    ReadsPart-same c.read_body.result _ _ _ _ (body_same c.in_ok-head.head c.in_ok-columns.columns.items c.args.texts.names.now c.args.texts.definitions.now c.args.texts.head.now (shown c.args.lines.now) (shown c.in_ok-names.names.list.items) columns c.in_ok-head.ensures.1 ∙ parts_past c.args.texts.names.now c.args.texts.definitions.now c.args.texts.head.now (shown c.args.lines.now) _ are first defined c.in_ok-head.ensures.0)
    (λ t h. parts_read t c.in_ok-head.head c.in_ok-columns.columns.items c.args.texts.names.now c.args.texts.definitions.now c.args.texts.head.now (shown c.args.lines.now) _ are columns c.in_ok-head.ensures.1 h) c.read_body.ensures
