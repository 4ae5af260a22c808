-- As ProcessComponents records it.
use Rattle.std.proofs.Common.{◌≡◌, List, ℕ, Bor, [], Option, Some, None, ap, sym, subst, ◌∙◌}
use Rattle.std.specs.Prelude.{Result, Ok}
use Rattle.std.specs.Option.{option_map_or}
use Rattle.mi_base.specs.declared.answers.Fault.{Fault}
use Rattle.mi_schema.specs.declared.package.Package.{Package}
use Rattle.mi_schema.specs.declared.typed_rows.ComponentRow.{ComponentRow}
use Rattle.mi_schema.specs.RowsOf.{rows_in}
use Rattle.mi_schema.specs.TableRows.{component_row_of}
use Rattle.mi_model.specs.ClientRows.{recorded_path}
use Rattle.mi_records.specs.Stops.{Tells}
use Rattle.mi_shortcuts.proofs.ShortcutLemmas.{own_of}
use Rattle.mi_row_steps.proofs.RowLemmas.{told_on}
use Rattle.mi_shortcuts.proofs.target.component_path.Goals as goal

pub recorded_path-requires-clause-own : goal.recorded_path-requires-clause-own
recorded_path-requires-clause-own g c =
    own_of (rows_in (g.S.Sees.rows c.args.seen.now)) c.args.key.now c.in-Some.row.now (c.in-Some.ensures ∙ ap (λ (p : Package). component_row_of (rows_in p) c.args.key.now) c.package.ensures)

pub returns-in-Ok : goal.returns-in-Ok
returns-in-Ok g c = λ w asked.
    let found : Some c.in-Some.row.now ≡ component_row_of (rows_in (g.S.Sees.rows c.args.seen.now)) c.args.key.now = c.in-Some.ensures ∙ ap (λ (p : Package). component_row_of (rows_in p) c.args.key.now) c.package.ensures in
    subst (λ (does : Result (List ℕ) Fault). Tells does c.copied.result)
    (sym (ap (λ (o : Option ComponentRow). option_map_or (recorded_path w) o (Ok [])) (sym found) ∙ c.in-Ok.ensures w asked)) c.copied.ensures

pub returns-in-Err : goal.returns-in-Err
returns-in-Err g c = λ w asked.
    let found : Some c.in-Some.row.now ≡ component_row_of (rows_in (g.S.Sees.rows c.args.seen.now)) c.args.key.now = c.in-Some.ensures ∙ ap (λ (p : Package). component_row_of (rows_in p) c.args.key.now) c.package.ensures in
    let rows = rows_in (g.S.Sees.rows c.args.seen.now) in
    told_on {A = Bor (List ℕ)} (λ path. path.now) (λ (t : List ℕ). t) (recorded_path w c.in-Some.row.now) (option_map_or (recorded_path w) (component_row_of rows c.args.key.now) (Ok [])) c.in-Err.error
    (λ f is. ap (λ (o : Option ComponentRow). option_map_or (recorded_path w) o (Ok [])) (sym found) ∙ is) (c.in-Err.ensures w asked)

pub returns-in-None : goal.returns-in-None
returns-in-None g c = λ w asked.
    let none : None ≡ component_row_of (rows_in (g.S.Sees.rows c.args.seen.now)) c.args.key.now = c.in-None.ensures ∙ ap (λ (p : Package). component_row_of (rows_in p) c.args.key.now) c.package.ensures in
    ap (λ (o : Option ComponentRow). option_map_or (recorded_path w) o (Ok [])) (sym none) ∙ ap Ok (sym c.new.ensures)
