use Rattle.std.proofs.Common.{sym, subst, ◌∙◌}
use Rattle.mi_undo.specs.Area.{AreOutside}
use Rattle.mi_area_cases.proofs.NotedLemmas.{outside_push}
use Rattle.mi_area_cases.proofs.areas.outside_names.Goals as goal

pub loop-place-preserved : goal.loop-place-preserved
loop-place-preserved c =
    subst AreOutside (sym c.in_ok-push.ensures.items) (outside_push c.loop-place.names.items c.in_ok-name.name c.loop-place.invariant (sym c.is_within.ensures ∙ c.if-is_within.false))
