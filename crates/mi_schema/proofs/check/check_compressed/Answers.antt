use Rattle.std.proofs.Common.{Some, sym, ap, ◌∙◌}
use Rattle.std.proofs.lemmas.Map.Iter.{rest_more, rest_all}
use Rattle.std.specs.Map.Iter.{deref}
use Rattle.mi_base.specs.declared.answers.Fault.TheVariants.{Compressed}
use Rattle.mi_schema.specs.RowsOf.{rows_in, behind}
use Rattle.mi_schema.specs.Source.{file_fault}
use Rattle.mi_schema.proofs.CheckLemmas.{file_on, file_not}
use Rattle.mi_schema.proofs.check.check_compressed.Goals as goal

pub loop-row-init : goal.loop-row-init
loop-row-init c = ap (file_fault c.is_source_compressed-source.result) (c.into_iter-row-iterator.ensures.into_iter_gives ∙ c.values-row-items.ensures.rest)

pub returns-then-is_compressed : goal.returns-then-is_compressed
unfolding rows_in
returns-then-is_compressed c =
    let source = c.is_source_compressed-source.result in
    let files = behind c.args.loaded.now.file.entries in
    let next = rest_more deref c.loop-row.row-iterator c.next.new.self c.next.result c.in-Some.row c.in-Some.is c.next.ensures.steps in
    ap (λ s. file_fault s files) (sym c.is_source_compressed-source.ensures)
    ∙ file_not source files c.loop-row.row-iterator c.next.new.self c.in-Some.row.now c.loop-row.invariant next (sym c.is_compressed.ensures ∙ c.if-is_compressed.true)
    ∙ ap (λ n. Some (Compressed n)) (sym (c.in_ok-file.ensures ∙ c.as_str.ensures))

pub loop-row-preserved : goal.loop-row-preserved
loop-row-preserved c =
    let next = rest_more deref c.loop-row.row-iterator c.next.new.self c.next.result c.in-Some.row c.in-Some.is c.next.ensures.steps in
    file_on c.is_source_compressed-source.result (behind c.args.loaded.now.file.entries) c.loop-row.row-iterator c.next.new.self c.in-Some.row.now c.loop-row.invariant next (sym c.is_compressed.ensures ∙ c.if-is_compressed.false)

pub returns : goal.returns
unfolding rows_in
returns c =
    let files = behind c.args.loaded.now.file.entries in
    let end = rest_all deref c.loop-row.row-iterator c.next.new.self c.next.result c.in-None.is c.next.ensures.steps in
    (ap (λ s. file_fault s files) (sym c.is_source_compressed-source.ensures) ∙ sym c.loop-row.invariant ∙ ap (file_fault c.is_source_compressed-source.result) end, tt)
