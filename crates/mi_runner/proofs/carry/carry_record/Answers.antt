use Rattle.std.proofs.Common.{length, ◌∙◌, ap, List, ℕ}
use Rattle.std.proofs.lemmas.Result.{err_from_is_err_and}
use Rattle.std.specs.FinMap.{get}
use Rattle.mi_source.specs.Paths.{bytes_or_none}
use Rattle.mi_undo.specs.Area.{noted_names}
use Rattle.mi_runner.proofs.StepLemmas.{removed_is}
use Rattle.mi_runner.proofs.RecordLemmas.{noted_outside}
use Rattle.mi_runner.proofs.DropLemmas.{drop_failed, dropped, drop_map, copy_there, copy_differs, noted_here}
use Rattle.mi_runner.proofs.carry.carry_record.Goals as goal

pub returns-in_err-remove-in-Drop-clause-writes : goal.returns-in_err-remove-in-Drop-clause-writes
returns-in_err-remove-in-Drop-clause-writes g c =
    let p = err_from_is_err_and c.from_residual-in_err-remove-in-Drop.result c.from_residual-in_err-remove-in-Drop.ensures.1 in
    let e = c.in_err-remove-in-Drop.ensures in
    rw (p.1, p.2) (drop_failed g.V.Volume.told g.V.Volume.state c.args.area.now c.remove.new.self c.in-Drop.name c.args.rec.now c.in-Drop.is c.in_err-remove-in-Drop.field-0.0 e.only_fault
    (record { reference = e.reference; kept = e.kept; changes = e.changes; room = e.room; others = e.others; passes = e.passes }) e.live e.fault)

pub returns-in_ok-remove-in-Drop-clause-writes : goal.returns-in_ok-remove-in-Drop-clause-writes
returns-in_ok-remove-in-Drop-clause-writes g c =
    let e = c.in_ok-remove-in-Drop.ensures in
    let noted = noted_here (noted_names c.args.area.now) c.args.rec.now c.in-Drop.name c.in-Drop.is c.requires.noted in
    dropped g.V.Volume.told g.V.Volume.state c.args.area.now c.remove.new.self c.in-Drop.name c.args.rec.now c.in-Drop.is _
    (record { reference = e.reference; kept = e.kept; changes = e.changes; room = e.room; others = e.others; passes = e.passes }) e.working
    (λ t. removed_is _ _ c.in-Drop.name (noted_outside _ c.in-Drop.name c.requires.working.outside noted) (e.others t) (e.map t))

pub returns-in_ok-remove-in-Drop-clause-map : goal.returns-in_ok-remove-in-Drop-clause-map
returns-in_ok-remove-in-Drop-clause-map g c = λ t s.
    let e = c.in_ok-remove-in-Drop.ensures in
    let noted = noted_here (noted_names c.args.area.now) c.args.rec.now c.in-Drop.name c.in-Drop.is c.requires.noted in
    drop_map g.V.Volume.told g.V.Volume.state c.args.area.now c.remove.new.self c.in-Drop.name c.args.rec.now c.in-Drop.is (g.S.Source.files c.args.src.now)
    (removed_is _ _ c.in-Drop.name (noted_outside _ c.in-Drop.name c.requires.working.outside noted) (e.others t) (e.map t))

pub returns-in_ok-found-in-Copy-clause-differs : goal.returns-in_ok-found-in-Copy-clause-differs
returns-in_ok-found-in-Copy-clause-differs g c =
    let k = c.in-Copy in
    copy_differs g.S.Source.told c.args.rec.now k.name k.head k.file k.path k.length c.in_ok-found-in-Copy.found k.is c.check_size.result c.check_size.ensures.fault c.check_size.ensures.other
    (λ s. c.in_ok-found-in-Copy.ensures.found s (ap (λ (p : List ℕ). length (bytes_or_none (get (g.S.Source.files c.args.src.now) p))) c.as_str.ensures ∙ copy_there (g.S.Source.files c.args.src.now) c.args.rec.now k.name k.head k.file k.path k.length k.is (c.requires.there s)))
