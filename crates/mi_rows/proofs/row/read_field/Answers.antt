use Rattle.std.proofs.Common.{◌∙◌, sym, subst, true, false}
use Rattle.mi_rows.specs.declared.column.Kind.{Kind}
use Rattle.mi_rows.specs.Reads.{FitsKind}
use Rattle.mi_rows.proofs.FieldLemmas.{judged, free_value}
use Rattle.mi_rows.proofs.row.read_field.Goals as goal

pub returns-then-meets : goal.returns-then-meets
returns-then-meets c = λ x shows fits keys before knows seen.
    let read = c.in_ok-condition.ensures x shows (subst (λ (k : Kind). FitsKind k x) (sym c.requires.kind) fits) in
    (judged c.args.column.now c.args.field.now x c.requires.kind shows fits keys before _ read.0 true (sym c.if-meets.true ∙ c.meets.ensures keys before knows seen), read.1)

pub returns-else-meets : goal.returns-else-meets
returns-else-meets c = λ x shows fits keys before knows seen.
    let read = c.in_ok-condition.ensures x shows (subst (λ (k : Kind). FitsKind k x) (sym c.requires.kind) fits) in
    judged c.args.column.now c.args.field.now x c.requires.kind shows fits keys before _ read.0 false (sym c.if-meets.false ∙ c.meets.ensures keys before knows seen)

pub returns-then-is_free : goal.returns-then-is_free
returns-then-is_free c = λ x shows fits keys before knows seen. free_value c.args.column.now c.args.field.now x c.requires.kind shows fits keys before _ (c.is_free.ensures.rule c.if-is_free.true) (c.is_free.ensures.kind c.if-is_free.true) (c.is_free.ensures.null c.if-is_free.true)
