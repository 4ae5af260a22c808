-- Each of the three is begun where it was, or is this action.
use Rattle.std.proofs.Common.{◌∙◌}
use Rattle.std.specs.Prelude.{codes}
use Rattle.mi_seq_rows.proofs.StageLemmas.{begun_more}
use Rattle.mi_seq_rows.proofs.stage.Stage.behind.Goals as goal

pub returns : goal.returns
returns c = λ begun r. record {
  costed = c.is_begun-costed.ensures ∙ begun_more c.args.self.costed (codes "CostFinalize") c.args.action.now begun r.costed;
  initialized = c.is_begun-initialized.ensures ∙ begun_more c.args.self.initialized (codes "InstallInitialize") c.args.action.now begun r.initialized;
  finalized = c.is_begun-finalized.ensures ∙ begun_more c.args.self.finalized (codes "InstallFinalize") c.args.action.now begun r.finalized;
}
