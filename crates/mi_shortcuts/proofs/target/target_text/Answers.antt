-- A key of Feature, or a text.
use Rattle.std.proofs.Common.{List, ℕ, Some, None, ap, sym, subst, ◌∙◌}
use Rattle.std.specs.Prelude.{Result, is_some, codes}
use Rattle.mi_base.specs.declared.answers.Fault.{Fault}
use Rattle.mi_schema.specs.declared.package.Package.{Package}
use Rattle.mi_schema.specs.RowsOf.{rows_in}
use Rattle.mi_schema.specs.TableRows.{feature_row_of}
use Rattle.mi_model.specs.Refusals.{expanded}
use Rattle.mi_records.specs.Meaning.{numbered}
use Rattle.mi_records.specs.Stops.{Tells}
use Rattle.mi_shortcuts.proofs.ShortcutLemmas.{target_is}
use Rattle.mi_shortcuts.proofs.target.target_text.Goals as goal

pub returns-in-Some : goal.returns-in-Some
returns-in-Some g c = λ w asked.
    let L = g.S.Env.lookups c.args.seen.now in
    let p = g.S.Sees.rows c.args.seen.now in
    let r = numbered c.args.number c.args.row.now in
    let is = ap (λ (q : Package). is_some (feature_row_of (rows_in q) c.args.row.now.target)) (sym c.package.ensures) ∙ sym c.is_feature.ensures in
    subst (λ (does : Result (List ℕ) Fault). Tells does c.component_path.result)
    (sym (target_is L (g.S.Sees.choices c.args.seen.now) p w asked r c.is_feature.result (Some c.in-Some.component.now) is c.in-Some.ensures)) (c.component_path.ensures w asked)

pub returns-in-None : goal.returns-in-None
returns-in-None g c = λ w asked.
    let L = g.S.Env.lookups c.args.seen.now in
    let p = g.S.Sees.rows c.args.seen.now in
    let r = numbered c.args.number c.args.row.now in
    let is = ap (λ (q : Package). is_some (feature_row_of (rows_in q) c.args.row.now.target)) (sym c.package.ensures) ∙ sym c.is_feature.ensures in
    subst (λ (does : Result (List ℕ) Fault). Tells does c.expanded.result)
    (sym (target_is L (g.S.Sees.choices c.args.seen.now) p w asked r c.is_feature.result None is c.in-None.ensures ∙ ap (expanded L (codes "Shortcut") c.args.number) (sym c.as_str.ensures))) c.expanded.ensures
