use Rattle.std.proofs.Common.{◌+◌, length, take, arith}
use Rattle.std.proofs.lemmas.Result.{err_from_is_err_and}
use Rattle.std.proofs.lemmas.List.{take_all}
use Rattle.std.specs.FinMap.{get}
use Rattle.mi_source.specs.Paths.{bytes_or_none}
use Rattle.mi_runner.specs.declared.fault.RunFault.TheVariants as run
use Rattle.mi_runner.proofs.StepLemmas.{within_put, writes_then}
use Rattle.mi_runner.proofs.FileLemmas.{copied, stands_there}
use Rattle.mi_runner.proofs.files.put_by_pieces.Goals as goal

pub returns-in_err-found-clause-writes : goal.returns-in_err-found-clause-writes
returns-in_err-found-clause-writes g c =
    let p = err_from_is_err_and c.from_residual-in_err-found.result c.from_residual-in_err-found.ensures.1 in
    let front = c.in_ok-write_bytes.ensures in
    let n = length c.args.name.now + (length c.args.front.now + c.args.stated) in
    rw (p.1, p.2) (writes_then g.V.Volume.told g.V.Volume.state c.args.area.now c.write_bytes.new.area c.append_file.new.area c.args.name.now n run.Volume run.Full _ front.writes.keeps
    (within_put g.V.Volume.told g.V.Volume.state c.args.area.now c.write_bytes.new.area c.args.name.now c.args.front.now n front.map (omega arith))
    (c.in_err-found.ensures.writes c.args.front.now (λ t. stands_there _ _ c.args.name.now c.args.front.now (front.map t))))

pub returns-clause-writes : goal.returns-clause-writes
returns-clause-writes g c =
    let front = c.in_ok-write_bytes.ensures in
    let n = length c.args.name.now + (length c.args.front.now + c.args.stated) in
    writes_then g.V.Volume.told g.V.Volume.state c.args.area.now c.write_bytes.new.area c.append_file.new.area c.args.name.now n run.Volume run.Full _ front.writes.keeps
    (within_put g.V.Volume.told g.V.Volume.state c.args.area.now c.write_bytes.new.area c.args.name.now c.args.front.now n front.map (omega arith))
    (c.in_ok-found.ensures.writes c.args.front.now (λ t. stands_there _ _ c.args.name.now c.args.front.now (front.map t)))

pub returns-clause-map : goal.returns-clause-map
returns-clause-map g c = λ t s long.
    let front = c.in_ok-write_bytes.ensures.map t in
    let file = bytes_or_none (get (g.S.Source.files c.args.src.now) c.args.path.now) in
    copied _ _ _ c.args.name.now c.args.front.now file (take c.args.stated file) front
    (c.in_ok-found.ensures.map t s c.args.front.now (stands_there _ _ c.args.name.now c.args.front.now front))
    (take_all c.args.stated file (omega (arith, long)))
