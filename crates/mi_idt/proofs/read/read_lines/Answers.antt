use Rattle.std.proofs.Common.{◌≤◌, ◌∙◌, sym, subst, List, [], ℕ, length}
use Rattle.mi_idt.specs.Fields.{fields_of}
use Rattle.mi_idt.proofs.Faults.{ReadsPart-same}
use Rattle.mi_idt.proofs.Basics.{shown}
use Rattle.mi_idt.proofs.ReadLemmas.{large, few, no_texts, parts_only, raw_only, sizes}
use Rattle.mi_idt.proofs.read.read_lines.Goals as goal

pub returns-then-is_too_large : goal.returns-then-is_too_large
returns-then-is_too_large c = large (shown c.args.lines.now) (sym c.is_too_large.ensures ∙ c.if-is_too_large.true)

pub returns-in_default : goal.returns-in_default
returns-in_default c = few c.args.lines.now c.in_default.len_below (sym c.is_too_large.ensures ∙ c.if-is_too_large.false)

pub returns-in-Err : goal.returns-in-Err
returns-in-Err c = no_texts c.args.lines.now _ c.in-Err.fault c.in-len3-up.len_at_least (sym c.is_too_large.ensures ∙ c.if-is_too_large.false) c.in-Err.ensures

pub returns-in-Ok : goal.returns-in-Ok
returns-in-Ok c =
    let t = c.in-Ok.ensures in
    ReadsPart-same c.read_parts.result _ _ _ _ (parts_only c.args.lines.now _ c.in-Ok.texts.names.now c.in-Ok.texts.definitions.now c.in-Ok.texts.head.now c.in-len3-up.len_at_least (sym c.is_too_large.ensures ∙ c.if-is_too_large.false) t.0 t.1 t.2 t.3)
    (λ x h. (h.0 ∙ raw_only c.args.lines.now _ c.in-Ok.texts.names.now c.in-Ok.texts.definitions.now c.in-Ok.texts.head.now c.in-len3-up.len_at_least t.1 t.2 t.3, h.1)) c.read_parts.ensures

pub read_parts-requires-clause-few_rows : goal.read_parts-requires-clause-few_rows
read_parts-requires-clause-few_rows c = (sizes c.args.lines.now (record { ref_ptr = (0, 0); now = [] }) c.in-len3-up.len_at_least (sym c.is_too_large.ensures ∙ c.if-is_too_large.false)).0

pub read_parts-requires-clause-few_columns : goal.read_parts-requires-clause-few_columns
read_parts-requires-clause-few_columns c = subst (λ (l : List ℕ). length (fields_of l) ≤ 32) (sym c.in-Ok.ensures.1) (sizes c.args.lines.now (record { ref_ptr = (0, 0); now = [] }) c.in-len3-up.len_at_least (sym c.is_too_large.ensures ∙ c.if-is_too_large.false)).1
