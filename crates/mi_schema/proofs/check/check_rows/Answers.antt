use Rattle.std.proofs.lemmas.Result.{err_from_is_err_and}
use Rattle.mi_schema.specs.Checks.{package_fault, required_fault, references_fault, cycles_fault, compressed_fault}
use Rattle.mi_rows.specs.Rows.{◌or_else◌}
use Rattle.mi_schema.specs.RowsOf.{rows_in}
use Rattle.std.proofs.Common.{Option, sym, ap, subst, ◌∙◌}
use Rattle.mi_base.specs.declared.answers.Fault.{Fault}
use Rattle.mi_rows.specs.Reads.{Answers}
use Rattle.mi_rows.proofs.RowLemmas.{fails_first, fails_then}
use Rattle.mi_schema.proofs.check.check_rows.Goals as goal

pub returns-in_err-check_properties : goal.returns-in_err-check_properties
unfolding package_fault
returns-in_err-check_properties c =
    let p = err_from_is_err_and c.from_residual.result c.from_residual.ensures.1 in
    let rows = rows_in c.args.loaded.now in
    rw (p.1, p.2) (fails_first ⊥ (required_fault rows) (references_fault rows or_else cycles_fault rows or_else compressed_fault rows) c.in_err-check_properties.field-0.0 c.in_err-check_properties.ensures)

pub returns-in_err-check_references : goal.returns-in_err-check_references
unfolding package_fault
returns-in_err-check_references c =
    let p = err_from_is_err_and c.from_residual-in_err-check_references.result c.from_residual-in_err-check_references.ensures.1 in
    let rows = rows_in c.args.loaded.now in
    rw (p.1, p.2) (fails_then ⊥ (required_fault rows) (references_fault rows or_else cycles_fault rows or_else compressed_fault rows) c.in_err-check_references.field-0.0 c.in_ok-check_properties.ensures.0
    (fails_first ⊥ (references_fault rows) (cycles_fault rows or_else compressed_fault rows) c.in_err-check_references.field-0.0 c.in_err-check_references.ensures))

pub returns-in_err-check_cycles : goal.returns-in_err-check_cycles
unfolding package_fault
returns-in_err-check_cycles c =
    let p = err_from_is_err_and c.from_residual-in_err-check_cycles.result c.from_residual-in_err-check_cycles.ensures.1 in
    let rows = rows_in c.args.loaded.now in
    rw (p.1, p.2) (fails_then ⊥ (required_fault rows) (references_fault rows or_else cycles_fault rows or_else compressed_fault rows) c.in_err-check_cycles.field-0.0 c.in_ok-check_properties.ensures.0
    (fails_then ⊥ (references_fault rows) (cycles_fault rows or_else compressed_fault rows) c.in_err-check_cycles.field-0.0 c.in_ok-check_references.ensures.0
    (fails_first ⊥ (cycles_fault rows) (compressed_fault rows) c.in_err-check_cycles.field-0.0 c.in_err-check_cycles.ensures)))

pub returns : goal.returns
unfolding package_fault
returns c =
    let rows = rows_in c.args.loaded.now in
    subst (λ (f : Option Fault). Answers {X = Unit {0}} ⊥ f (λ _. Unit {0}) c.check_compressed.result)
    (sym (ap (λ (f : Option Fault). f or_else (references_fault rows or_else cycles_fault rows or_else compressed_fault rows)) c.in_ok-check_properties.ensures.0
    ∙ ap (λ (f : Option Fault). f or_else (cycles_fault rows or_else compressed_fault rows)) c.in_ok-check_references.ensures.0
    ∙ ap (λ (f : Option Fault). f or_else compressed_fault rows) c.in_ok-check_cycles.ensures.0)) c.check_compressed.ensures
