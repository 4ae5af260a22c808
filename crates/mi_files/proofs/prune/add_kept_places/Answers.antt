-- Before the first row.
use Rattle.std.proofs.Common.{ap, ◌∙◌}
use Rattle.mi_schema.specs.declared.package.Package.{Package}
use Rattle.mi_schema.specs.RowsOf.{behind, rows_in}
use Rattle.mi_files.proofs.FolderLemmas.{kept_none}
use Rattle.mi_files.proofs.prune.add_kept_places.Goals as goal

pub loop-row-init : goal.loop-row-init
unfolding rows_in
loop-row-init g c = λ w asked.
    kept_none (g.E.Env.lookups c.args.seen.now) (g.E.Sees.choices c.args.seen.now) (g.E.Sees.rows c.args.seen.now) w asked c.args.places.now.items _
    (c.into_iter-row-iterator.ensures.into_iter_gives ∙ c.values-row-items.ensures.rest ∙ ap (λ (p : Package). behind p.create_folder.entries) c.package.ensures)
