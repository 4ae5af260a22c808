use Rattle.std.proofs.Common.{◌++◌, map, sym, ap, ◌∙◌}
use Rattle.std.specs.Map.Iter.{deref}
use Rattle.std.proofs.lemmas.List.{append-nil}
use Rattle.std.proofs.lemmas.Map.Iter.{rest_more, rest_all}
use Rattle.mi_image.specs.Items.{machine_over}
use Rattle.mi_schema.specs.RowsOf.{behind}
use Rattle.mi_components.specs.Actions.{choice_kept}
use Rattle.mi_wishes.proofs.RowLemmas.{mapped_none, mapped_more}
use Rattle.mi_components.proofs.acting.choices_of.Goals as goal

pub loop-row-init : goal.loop-row-init
loop-row-init g c = λ names files.
    mapped_none (choice_kept (machine_over names files c.args.former.now) c.args.code.number (g.E.Env.lookups c.args.env.now) c.args.held.now) _ _ _ c.in_ok-choices.ensures.items (c.into_iter-row-iterator.ensures.into_iter_gives ∙ c.values-row-items.ensures.rest)

pub loop-row-preserved : goal.loop-row-preserved
loop-row-preserved g c = λ names files.
    let next = rest_more deref c.loop-row.row-iterator c.next.new.self c.next.result c.in-Some.row c.in-Some.is c.next.ensures.steps in
    mapped_more (choice_kept (machine_over names files c.args.former.now) c.args.code.number (g.E.Env.lookups c.args.env.now) c.args.held.now) c.loop-row.choices.items c.push.new.self.items (behind c.args.loaded.now.component.entries)
    c.loop-row.row-iterator c.next.new.self c.in-Some.row.now c.in_ok-choice.choice (c.loop-row.invariant names files) next c.in_ok-push.ensures.items (c.in_ok-choice.ensures names files)

pub returns : goal.returns
returns g c = λ names files.
    let end = rest_all deref c.loop-row.row-iterator c.next.new.self c.next.result c.in-None.is c.next.ensures.steps in
    sym (append-nil c.loop-row.choices.items) ∙ sym (ap (λ l. c.loop-row.choices.items ++ map (choice_kept (machine_over names files c.args.former.now) c.args.code.number (g.E.Env.lookups c.args.env.now) c.args.held.now) l) end) ∙ c.loop-row.invariant names files
