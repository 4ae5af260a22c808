-- The name in the folder.
use Rattle.std.proofs.Common.{◌≡◌, List, ℕ, ap, subst, ◌∙◌}
use Rattle.std.specs.Prelude.{IfOk}
use Rattle.mi_schema.specs.declared.package.Package.{Package}
use Rattle.mi_model.specs.FilePaths.{source_name}
use Rattle.mi_installs.proofs.SourceLemmas.{path_is}
use Rattle.mi_installs.proofs.sources.source_path.Goals as goal

pub returns : goal.returns
returns g c = λ w asked.
    let r = c.args.row.now in
    let folder = c.as_str.ensures ∙ c.in_ok-folder.ensures w asked in
    let name = c.source_name-name.ensures ∙ ap (λ (p : Package). source_name p.short_names r) c.package.ensures in
    subst (λ (x : List ℕ). IfOk c.path_in.result (λ path. path ≡ x)) (path_is (g.E.Env.lookups c.args.seen.now) (g.E.Sees.choices c.args.seen.now) (g.E.Sees.rows c.args.seen.now) w asked r c.as_str.result.now c.source_name-name.result.now folder name) c.path_in.ensures
