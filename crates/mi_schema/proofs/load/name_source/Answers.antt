use Rattle.std.proofs.Common.{ap, ◌∙◌}
use Rattle.mi_schema.specs.declared.known.Known.TheVariants as known
use Rattle.mi_schema.specs.Source.{has_short_names}
use Rattle.mi_schema.proofs.RowLaws.{summary_is}
use Rattle.mi_schema.proofs.load.name_source.Goals as goal

pub returns : goal.returns
returns c = λ content h. record {
  short_names = c.has_short_names-loaded.ensures ∙ ap has_short_names (summary_is c.args.loaded.now content h);
  rows = elim [ known.Component ↦ h known.Component | other ↦ h other ];
}
