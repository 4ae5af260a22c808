-- By the folder that its property names.
use Rattle.std.proofs.Common.{◌≡◌, cond, Option, None, [], map, ◌++◌, sym, ap, ◌∙◌}
use Rattle.std.specs.Prelude.{Some, is_none}
use Rattle.std.specs.Option.{option_to_list, option_flatten}
use Rattle.std.proofs.lemmas.Result.{IfOk-weaker}
use Rattle.mi_text.specs.Fold.{folded}
use Rattle.mi_text.specs.Lookups.{Lookups}
use Rattle.mi_text.specs.Maps.{Name}
use Rattle.mi_dirs.specs.Places.{Folder}
use Rattle.mi_dirs.specs.Rows.{from_property}
use Rattle.mi_schema.specs.declared.package.Package.{Package}
use Rattle.mi_schema.specs.declared.typed_rows.RemoveFileRow.{RemoveFileRow}
use Rattle.mi_model.specs.World.{World}
use Rattle.mi_model.specs.RemoveFiles.{folder_of_row, takes_at, removed_by_pattern}
use Rattle.mi_steps.specs.Makes.{plan_machine}
use Rattle.mi_steps.proofs.FollowLemmas.{started}
use Rattle.mi_records.specs.Choices.{Choices, IsAsked}
use Rattle.mi_records.specs.Order.{as_numbered}
use Rattle.mi_records.proofs.ClientLemmas.{row_same}
use Rattle.mi_files.proofs.RowPathLemmas.{property_is}
use Rattle.mi_files.proofs.TakeLemmas.{empty_untouched}
use Rattle.mi_files.proofs.remove.remove_by_pattern.Goals as goal

-- the folder that was found is that of the row
folder_found : (L : Lookups) (choices : Choices) (p : Package) (w : World) → IsAsked L choices p w → (r : RemoveFileRow) (name : Name) (found : Option (Option Folder)) → name ≡ r.dir_property → found ≡ from_property (L.property name) → found ≡ folder_of_row w r
folder_found L choices p w asked r name found named is = is ∙ ap (λ (n : Name). from_property (L.property n)) named ∙ ap from_property (property_is L choices p w asked r.dir_property)

pub returns-in-Ok-Some-clause-row : goal.returns-in-Ok-Some-clause-row
returns-in-Ok-Some-clause-row g c = λ held files w asked guards.
    let found = folder_found (g.E.Env.lookups c.args.seen.now) (g.E.Sees.choices c.args.seen.now) (g.E.Sees.rows c.args.seen.now) w asked c.args.row.1.now c.as_str.result.now (Some c.in-Ok-Some.folder) c.as_str.ensures (rw c.in-Ok-Some.field-0-is at c.in-Ok-Some.ensures.folder) in
    row_same held files c.args.plan.now c.remove_in_some.new.plan (λ m. takes_at w (as_numbered c.args.row) (Some c.in-Ok-Some.folder)) (removed_by_pattern w (as_numbered c.args.row)) c.remove_in_some.result
    (ap (takes_at w (as_numbered c.args.row)) (sym found)) (c.remove_in_some.ensures.row held files w asked guards)

pub returns-in-Ok-Some-clause-touched : goal.returns-in-Ok-Some-clause-touched
returns-in-Ok-Some-clause-touched g c = λ w asked.
    let found = folder_found (g.E.Env.lookups c.args.seen.now) (g.E.Sees.choices c.args.seen.now) (g.E.Sees.rows c.args.seen.now) w asked c.args.row.1.now c.as_str.result.now (Some c.in-Ok-Some.folder) c.as_str.ensures (rw c.in-Ok-Some.field-0-is at c.in-Ok-Some.ensures.folder) in
    IfOk-weaker c.remove_in_some.result _ _ (λ done is. is ∙ ap (λ (o : Option (Option Folder)). c.args.touched.now.items ++ map folded (option_to_list (cond (is_none c.args.row.1.now.file_name) (option_flatten o) None))) found) c.remove_in_some.ensures.touched

pub returns-in-Ok-None-clause-row : goal.returns-in-Ok-None-clause-row
returns-in-Ok-None-clause-row g c = λ held files w asked guards.
    let found = folder_found (g.E.Env.lookups c.args.seen.now) (g.E.Sees.choices c.args.seen.now) (g.E.Sees.rows c.args.seen.now) w asked c.args.row.1.now c.as_str.result.now None c.as_str.ensures (rw c.in-Ok-None.field-0-is at c.in-Ok-None.ensures.folder) in
    record {
      touches = [];
      gives = ap (takes_at w (as_numbered c.args.row)) (sym found);
      makes = started files (plan_machine held files c.args.plan.now) c.args.plan.now.script;
    }

pub returns-in-Ok-None-clause-touched : goal.returns-in-Ok-None-clause-touched
returns-in-Ok-None-clause-touched g c = λ w asked.
    empty_untouched (is_none c.args.row.1.now.file_name) (folder_of_row w c.args.row.1.now) c.args.touched.now.items
    (folder_found (g.E.Env.lookups c.args.seen.now) (g.E.Sees.choices c.args.seen.now) (g.E.Sees.rows c.args.seen.now) w asked c.args.row.1.now c.as_str.result.now None c.as_str.ensures (rw c.in-Ok-None.field-0-is at c.in-Ok-None.ensures.folder))
