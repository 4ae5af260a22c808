use Rattle.std.proofs.Common.{◌≡◌, true, false, ap, ◌∙◌, sym}
use Rattle.std.specs.Prelude.{is_some}
use Rattle.mi_image.proofs.former.Former.fill.Goals as goal

pub unreachable-requires : goal.unreachable-requires
unreachable-requires c = let clash : false ≡ true = ap is_some (sym c.in-Err.ensures.absent) ∙ c.requires.marked in absurd cc
