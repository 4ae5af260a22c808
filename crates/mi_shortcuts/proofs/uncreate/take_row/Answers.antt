use Rattle.std.proofs.Common.{refl}
use Rattle.mi_base.specs.Names.{shortcut_name}
use Rattle.mi_model.specs.Shortcuts.{without_shortcut}
use Rattle.mi_shortcuts.proofs.uncreate.take_row.Goals as goal

pub returns-in-Ok-clause-row : goal.returns-in-Ok-clause-row
returns-in-Ok-clause-row c = λ held files w guards. record {
  touches = without_shortcut w (shortcut_name c.args.path.now);
  gives = refl;
  makes = c.in-Ok.ensures.makes held files w guards;
}
