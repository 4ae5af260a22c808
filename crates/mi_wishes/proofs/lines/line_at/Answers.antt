use Rattle.std.proofs.Common.{◌≡◌, Some, None, false, sym, ◌∙◌}
use Rattle.std.proofs.lemmas.List.{get_or_read}
use Rattle.mi_wishes.proofs.LineLemmas.{line_same}
use Rattle.mi_wishes.proofs.MarkLemmas.{mark_is}
use Rattle.mi_wishes.proofs.lines.line_at.Goals as goal

pub returns-in-Some : goal.returns-in-Some
returns-in-Some c = λ f at.
    let one : Some c.in-Some.row.now ≡ Some f = c.in-Some.ensures ∙ at in
    let same : c.in-Some.row.now ≡ f = cc in
    c.line_of_row.ensures
    ∙ line_same c.args.wishes.now c.args.brought.now c.args.place c.args.above c.in-Some.row.now f _ _ same
    (mark_is c.args.brought.now.local.items c.args.place false c.index-local.result.now c.requires.local (sym (get_or_read c.args.brought.now.local.items _ _ c.requires.local c.index-local.ensures false)))
    (mark_is c.args.brought.now.by_default.items c.args.place false c.index-by_default.result.now c.requires.by_default (sym (get_or_read c.args.brought.now.by_default.items _ _ c.requires.by_default c.index-by_default.ensures false)))

pub returns-in-None : goal.returns-in-None
returns-in-None c = λ f at. let wrong : None ≡ Some f = c.in-None.ensures ∙ at in absurd cc
