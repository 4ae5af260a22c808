-- Where the source has a row's file.
use Rattle.std.proofs.Common.{◌≡◌, List, [], Option, option_and_then, unwrap_or, sym, ap, ◌∙◌}
use Rattle.mi_text.specs.Lookups.{Lookups}
use Rattle.mi_text.specs.Maps.{Name}
use Rattle.mi_source.specs.Paths.{path_in}
use Rattle.mi_dirs.specs.Places.{Place, source_of}
use Rattle.mi_schema.specs.declared.package.Package.{Package}
use Rattle.mi_schema.specs.declared.typed_rows.ComponentRow.{ComponentRow}
use Rattle.mi_schema.specs.declared.typed_rows.FileRow.{FileRow}
use Rattle.mi_schema.specs.RowsOf.{rows_in}
use Rattle.mi_schema.specs.TableRows.{row_of, component_row_of, Rows as TableRows}
use Rattle.mi_model.specs.World.{World}
use Rattle.mi_model.specs.Asked.{dirs_of}
use Rattle.mi_model.specs.FilePaths.{component_source, source_name, source_path}
use Rattle.mi_records.specs.Choices.{Choices, IsAsked}

module _ (L : Lookups) (c : Choices) (p : Package) (w : World) (asked : IsAsked L c p w) where
  -- the source of a component's row, if it has one
  pub source_of_component : (q : Name) (o : Option ComponentRow) → o ≡ row_of (λ (r : ComponentRow). r.component) (rows_in p).component q
      → unwrap_or (option_and_then (λ (r : ComponentRow). source_of c.dirs r.directory) o) [] ≡ component_source w q
  source_of_component q o is =
      ap (λ (x : Option ComponentRow). unwrap_or (option_and_then (λ (r : ComponentRow). source_of c.dirs r.directory) x) []) is
      ∙ ap (λ (d : List Place). unwrap_or (option_and_then (λ (r : ComponentRow). source_of d r.directory) (component_row_of (rows_in p) q)) []) (sym asked.dirs)
      ∙ ap (λ (rs : TableRows). unwrap_or (option_and_then (λ (r : ComponentRow). source_of (dirs_of w) r.directory) (component_row_of rs q)) []) (sym asked.rows)

  -- the path of a row's file
  pub path_is : (r : FileRow) (folder name : Name) → folder ≡ component_source w r.component → name ≡ source_name p.short_names r → path_in folder name ≡ source_path w r
  unfolding source_path rows_in
  path_is r folder name at is =
      ap (λ (f : Name). path_in f name) at
      ∙ ap (λ (n : Name). path_in (component_source w r.component) n) (is ∙ ap (λ (rs : TableRows). source_name rs.short_names r) (sym asked.rows))
