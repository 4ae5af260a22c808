use Rattle.std.proofs.Common.{sym, ◌∙◌}
use Rattle.mi_undo.proofs.CloseSteps.{close_ok, close_undoable, close_unknown}
use Rattle.mi_undo.proofs.close.close_marker.Goals as goal

pub returns-then-is_ok-clause-closes : goal.returns-then-is_ok-clause-closes
returns-then-is_ok-clause-closes g c = λ told is F parts o clean.
    close_ok _ F parts o clean _ is _ _ (c.mark_synced.ensures.seals told) tt (sym c.is_ok.ensures.value ∙ c.if-is_ok.true)

pub returns-then-is_ok-2-clause-closes : goal.returns-then-is_ok-2-clause-closes
returns-then-is_ok-2-clause-closes g c = λ told is F parts o clean.
    close_undoable _ F parts o clean _ is _ _ (c.mark_synced.ensures.seals told) _ _ (c.mark_synced-2.ensures.seals told) (sym c.is_ok-2.ensures.value ∙ c.if-is_ok-2.true)

pub returns-clause-closes : goal.returns-clause-closes
returns-clause-closes g c = λ told is F parts o clean.
    close_unknown _ F parts o clean _ is _ _ (c.mark_synced.ensures.seals told) _ _ (c.mark_synced-2.ensures.seals told) _ _
