-- Row by row.
use Rattle.std.proofs.Common.{Some, None, ap, sym, ◌∙◌}
use Rattle.std.proofs.lemmas.List.{append-nil}
use Rattle.mi_records.specs.Order.{as_numbered}
use Rattle.mi_records.proofs.NamedLemmas.{picked_seen}
use Rattle.mi_shortcuts.specs.Entries.{touched_by}
use Rattle.mi_shortcuts.proofs.uncreate.touched.Goals as goal
use Rattle.mi_shortcuts.proofs.uncreate.touched.Goals.{in-Some+in_ok-push, in_default}

pub loop-row-preserved : goal.loop-row-preserved
loop-row-preserved g c = λ w asked.
    elim c.match-branch-2.branch [
      | in-Some+in_ok-push v ↦ picked_seen as_numbered (touched_by w) c.args.rows.now c.loop-row.row-index c.row-item.result (Some v.in-Some.folder) c.loop-row.folders.items c.match-branch-2.folders.items c.loop-row-test.true c.row-item.is (sym v.in-Some.is ∙ c.in_ok-folder.ensures w c.row-item.result.0 asked) (c.loop-row.invariant w asked) (ap (λ f. f.items) v.folders-is ∙ v.in_ok-push.ensures.items)
      | in_default v ↦ picked_seen as_numbered (touched_by w) c.args.rows.now c.loop-row.row-index c.row-item.result None c.loop-row.folders.items c.match-branch-2.folders.items c.loop-row-test.true c.row-item.is (sym v.in_default.is ∙ c.in_ok-folder.ensures w c.row-item.result.0 asked) (c.loop-row.invariant w asked) (ap (λ f. f.items) v.folders-is ∙ sym (append-nil c.loop-row.folders.items))
    ]
