use Rattle.std.proofs.Common.{subst}
use Rattle.std.specs.Str.{IsUtf8}
use Rattle.mi_undo.proofs.FreshLemmas.{is_good}
use Rattle.mi_undo.proofs.note.copy_of.Goals as goal

pub returns-in-Ok-clause-good : goal.returns-in-Ok-clause-good
returns-in-Ok-clause-good c = is_good _ c.as_str.ensures.length.0 c.as_str.ensures.length.1 (subst IsUtf8 c.as_str.ensures.text c.as_str.utf8) c.requires
