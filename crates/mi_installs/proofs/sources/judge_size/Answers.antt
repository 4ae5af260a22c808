-- By the size that the row states.
use Rattle.std.proofs.Common.{sym, ◌∙◌}
use Rattle.mi_base.specs.declared.answers.Fault.TheVariants.{SizeDiffers}
use Rattle.mi_model.specs.InstallFiles.{right_size, stated_size}
use Rattle.mi_installs.proofs.InstallLemmas.{size_right, size_wrong, finds_not, no_source, no_volume}
use Rattle.mi_installs.proofs.sources.judge_size.Goals as goal

pub returns-then-found-stated_size-clause-finds : goal.returns-then-found-stated_size-clause-finds
returns-then-found-stated_size-clause-finds c = λ bytes is. (bytes, size_right c.args.row.now bytes c.args.found is (c.if-found-stated_size.true ∙ c.stated_size.ensures))

pub returns-else-found-stated_size-clause-finds : goal.returns-else-found-stated_size-clause-finds
returns-else-found-stated_size-clause-finds c = λ bytes is.
    finds_not (Unit {0}) (right_size c.args.row.now bytes) (SizeDiffers c.args.row.now.file (stated_size c.args.row.now) c.args.found) c.differs.result
    (size_wrong c.args.row.now bytes c.args.found is (λ e. c.if-found-stated_size.false (e ∙ sym c.stated_size.ensures))) c.differs.ensures

pub returns-else-found-stated_size-clause-source : goal.returns-else-found-stated_size-clause-source
returns-else-found-stated_size-clause-source c = no_source (SizeDiffers c.args.row.now.file (stated_size c.args.row.now) c.args.found) c.differs.result c.differs.ensures

pub returns-else-found-stated_size-clause-volume : goal.returns-else-found-stated_size-clause-volume
returns-else-found-stated_size-clause-volume c = no_volume (SizeDiffers c.args.row.now.file (stated_size c.args.row.now) c.args.found) c.differs.result c.differs.ensures
