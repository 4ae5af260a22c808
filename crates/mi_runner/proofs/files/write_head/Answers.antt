use Rattle.std.proofs.Common.{◌≡◌, ◌+◌, length, ◌∙◌, ap, subst, List, ℕ, Err, Ok}
use Rattle.std.proofs.lemmas.Result.{err_from_is_err_and}
use Rattle.std.specs.FinMap.{insert}
use Rattle.mi_base.specs.Spelling.{head_bytes}
use Rattle.mi_undo.specs.declared.fault.OpFault.TheVariants as op
use Rattle.mi_runner.specs.Steps.{Writes}
use Rattle.mi_runner.proofs.StepLemmas.{keeps_start, working_live, within_start, no_memory}
use Rattle.mi_runner.proofs.files.write_head.Goals as goal

pub returns-in_err-record-clause-writes : goal.returns-in_err-record-clause-writes
returns-in_err-record-clause-writes g c =
    let p = err_from_is_err_and c.from_residual.result c.from_residual.ensures.1 in
    let n = length c.args.name.now + length (head_bytes c.args.head.now) in
    rw (p.1, p.2) (no_memory g.V.Volume.told g.V.Volume.state c.args.area.now c.args.area.now c.args.name.now n
    (keeps_start g.V.Volume.told g.V.Volume.state c.args.area.now (λ q. q ≡ c.args.name.now))
    (working_live g.V.Volume.told g.V.Volume.state c.args.area.now c.requires.working)
    (within_start g.V.Volume.told g.V.Volume.state c.args.area.now c.args.name.now n))

pub returns-in_err-write_bytes-clause-writes : goal.returns-in_err-write_bytes-clause-writes
returns-in_err-write_bytes-clause-writes g c =
    let p = err_from_is_err_and c.from_residual-in_err-write_bytes.result c.from_residual-in_err-write_bytes.ensures.1 in
    rw (p.1, p.2) (subst (λ (l : List ℕ). Writes g.V.Volume.told g.V.Volume.state c.args.area.now c.write_bytes.new.area c.args.name.now (length c.args.name.now + length l) op.Fault op.Full (Err c.in_err-write_bytes.field-0.0))
    (c.as_slice.ensures ∙ c.in_ok-record.ensures) c.in_err-write_bytes.ensures.writes)

pub returns-clause-writes : goal.returns-clause-writes
returns-clause-writes g c =
    subst (λ (l : List ℕ). Writes g.V.Volume.told g.V.Volume.state c.args.area.now c.write_bytes.new.area c.args.name.now (length c.args.name.now + length l) op.Fault op.Full (Ok _))
    (c.as_slice.ensures ∙ c.in_ok-record.ensures) c.in_ok-write_bytes.ensures.writes

pub returns-clause-map : goal.returns-clause-map
returns-clause-map g c = λ told.
    c.in_ok-write_bytes.ensures.map told ∙ ap (λ (l : List ℕ). insert (g.V.Volume.state c.args.area.now.vol.now).held c.args.name.now l) (c.as_slice.ensures ∙ c.in_ok-record.ensures)
