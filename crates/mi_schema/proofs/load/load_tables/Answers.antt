use Rattle.std.proofs.Common.{◌≡◌, List, map, length, ap, subst, ◌∙◌, arith}
use Rattle.std.proofs.lemmas.Result.{err_from_is_err_and}
use Rattle.std.proofs.lemmas.List.{length-map}
use Rattle.mi_source.specs.Counts.{Rose}
use Rattle.mi_rows.specs.Reads.{Fails}
use Rattle.mi_schema.specs.Checks.{content_of, tables_fault}
use Rattle.mi_rows.specs.Columns.{Table}
use Rattle.mi_rows.proofs.ListLemmas.{map_next, map_done}
use Rattle.mi_schema.proofs.LoadLemmas.{table_in, loaded_none, loaded_more, loaded_no_more, loaded_all, counted_since, tables_apart, tables_are, is_other, are_apart}
use Rattle.mi_schema.proofs.load.load_tables.Goals as goal

pub loop-table-init : goal.loop-table-init
loop-table-init g c = loaded_none g.S.Source.told _ _ _ _ _ (tables_are c.tables-table-items.result.now c.tables-table-items.ensures) c.requires

pub load_listed-requires : goal.load_listed-requires
load_listed-requires g c = is_other c.tables-table-items.result.now c.tables-table-items.ensures c.loop-table.table-index _ c.loop-table-test.true

pub returns-in_err-load_listed-clause-fault : goal.returns-in_err-load_listed-clause-fault
returns-in_err-load_listed-clause-fault g c = λ told.
    let items = c.tables-table-items.result.now in
    let p = err_from_is_err_and c.from_residual.result c.from_residual.ensures.1 in
    rw (p.1, p.2) (subst (λ (us : List Table). Fails (Rose (g.S.Source.faults c.args.src.now) (g.S.Source.faults c.load_listed.new.src)) (tables_fault (content_of (g.S.Source.files c.args.src.now) c.args.folder.now) us) c.in_err-load_listed.field-0.0) (tables_are items c.tables-table-items.ensures)
    (loaded_no_more g.S.Source.told _ _ _ _ _ _ c.loop-table.table-index _ _ (map_next table_in items c.loop-table.table-index _ c.loop-table-test.true) c.loop-table.invariant _ c.in_err-load_listed.field-0.0 told (c.in_err-load_listed.ensures.fault told)))

pub returns-in_err-load_listed-clause-counted : goal.returns-in_err-load_listed-clause-counted
returns-in_err-load_listed-clause-counted g c =
    let p = err_from_is_err_and c.from_residual.result c.from_residual.ensures.1 in
    rw (p.1, p.2) (counted_since (Unit {0}) (Unit {0}) _ _ _ c.in_err-load_listed.field-0.0 c.loop-table.invariant.counts c.in_err-load_listed.ensures.counted)

pub loop-table-preserved : goal.loop-table-preserved
loop-table-preserved g c =
    let items = c.tables-table-items.result.now in
    loaded_more g.S.Source.told _ _ _ _ _ _ c.loop-table.table-index _ _ (map_next table_in items c.loop-table.table-index _ c.loop-table-test.true) c.loop-table.invariant
    (ap are_apart (tables_are items c.tables-table-items.ensures) ∙ tables_apart) (map_done table_in items c.loop-table.table-index _ c.loop-table-test.true)
    _ _ _ c.in_ok-load_listed.ensures.stays c.in_ok-load_listed.ensures.counts c.in_ok-load_listed.ensures.put

pub returns-clause-loaded : goal.returns-clause-loaded
returns-clause-loaded g c =
    let items = c.tables-table-items.result.now in
    let all : c.loop-table.table-index ≡ length (map table_in items) = let long = length-map items table_in in omega (arith, long, c.loop-table-test.false, c.loop-table.auto.table-index-end) in
    loaded_all g.S.Source.told _ _ _ _ _ _ _ _ (tables_are items c.tables-table-items.ensures) all c.loop-table.invariant
