-- Over the folders of the rows.
use Rattle.std.proofs.Common.{◌∙◌}
use Rattle.std.proofs.Common.{map}
use Rattle.mi_model.specs.Shortcuts.{touched_folders}
use Rattle.mi_records.specs.Order.{as_numbered}
use Rattle.mi_shortcuts.proofs.ShortcutLemmas.{touched_are}
use Rattle.mi_shortcuts.proofs.uncreate.prune_touched.Goals as goal

pub returns-in-Ok-clause-made : goal.returns-in-Ok-clause-made
returns-in-Ok-clause-made g c = λ held files w asked these.
    c.prune_folders.ensures.made held files w (touched_folders w) asked (c.in-Ok.ensures w asked ∙ touched_are w (map as_numbered c.args.rows.now) these)
