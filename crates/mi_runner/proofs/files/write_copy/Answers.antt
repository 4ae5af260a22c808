use Rattle.std.proofs.Common.{◌≡◌, ◌+◌, ◌++◌, inl, List, ℕ, Ok, Err, length, refl, ◌∙◌, ap, subst}
use Rattle.std.proofs.lemmas.Result.{err_from_is_err_and}
use Rattle.std.specs.FinMap.{get, insert}
use Rattle.mi_base.specs.Spelling.{head_bytes}
use Rattle.mi_source.specs.Paths.{Files, bytes_or_none}
use Rattle.mi_runner.specs.declared.fault.RunFault.TheVariants as run
use Rattle.mi_runner.specs.Steps.{Writes}
use Rattle.mi_runner.proofs.StepLemmas.{keeps_start, working_live, within_start, source_failed}
use Rattle.mi_runner.proofs.files.write_copy.Goals as goal

pub returns-in_err-record-clause-writes : goal.returns-in_err-record-clause-writes
returns-in_err-record-clause-writes g c =
    let p = err_from_is_err_and c.from_residual-in_err-record.result c.from_residual-in_err-record.ensures.1 in
    let n = length c.args.name.now + (length (head_bytes c.args.head.now) + c.args.stated) in
    rw (p.1, p.2) (source_failed g.V.Volume.told g.V.Volume.state c.args.area.now c.args.area.now c.args.name.now n run.NoMemory (inl refl)
    (keeps_start g.V.Volume.told g.V.Volume.state c.args.area.now (λ q. q ≡ c.args.name.now))
    (working_live g.V.Volume.told g.V.Volume.state c.args.area.now c.requires.working)
    (within_start g.V.Volume.told g.V.Volume.state c.args.area.now c.args.name.now n))

pub returns-in_err-found-clause-writes : goal.returns-in_err-found-clause-writes
returns-in_err-found-clause-writes g c =
    let p = err_from_is_err_and c.from_residual-in_err-found.result c.from_residual-in_err-found.ensures.1 in
    rw (p.1, p.2) (subst (λ (l : List ℕ). Writes g.V.Volume.told g.V.Volume.state c.args.area.now c.put_record.new.area c.args.name.now (length c.args.name.now + (length l + c.args.stated)) run.Volume run.Full (Err c.in_err-found.field-0.0))
    c.in_ok-record.ensures c.in_err-found.ensures.writes)

pub returns-clause-writes : goal.returns-clause-writes
returns-clause-writes g c =
    subst (λ (l : List ℕ). Writes g.V.Volume.told g.V.Volume.state c.args.area.now c.put_record.new.area c.args.name.now (length c.args.name.now + (length l + c.args.stated)) run.Volume run.Full (Ok c.in_ok-found.found))
    c.in_ok-record.ensures c.in_ok-found.ensures.writes

pub returns-clause-map : goal.returns-clause-map
returns-clause-map g c = λ t s long.
    let same_file = ap (λ (f : Files). bytes_or_none (get f c.args.path.now)) c.size.ensures.stays in
    c.in_ok-found.ensures.map t s (ap length same_file ∙ long)
    ∙ (λ i. insert (g.V.Volume.state c.args.area.now.vol.now).held c.args.name.now (c.in_ok-record.ensures i ++ same_file i))

pub returns-clause-found : goal.returns-clause-found
returns-clause-found g c = λ s long.
    c.in_ok-found.ensures.found s (ap (λ (f : Files). length (bytes_or_none (get f c.args.path.now))) c.size.ensures.stays ∙ long)
