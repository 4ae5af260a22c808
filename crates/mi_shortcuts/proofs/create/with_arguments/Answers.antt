-- The Arguments, expanded.
use Rattle.std.proofs.Common.{List, ℕ, sym, ap, ◌∙◌}
use Rattle.std.specs.Prelude.{Ok}
use Rattle.mi_text.specs.Lookups.{Lookups}
use Rattle.mi_base.specs.declared.entry.Entry.{Entry}
use Rattle.mi_model.specs.Refusals.{◌>>=◌, expanded_or_empty}
use Rattle.mi_model.specs.Shortcuts.{shortcut_table, shortcut_entry}
use Rattle.mi_records.specs.Meaning.{numbered}
use Rattle.mi_shortcuts.specs.Entries.{with_arguments}
use Rattle.mi_shortcuts.proofs.ShortcutLemmas.{then_ok, then_err}
use Rattle.mi_row_steps.proofs.RowLemmas.{told_on}
use Rattle.mi_shortcuts.proofs.create.with_arguments.Goals as goal

pub returns-in-Ok-shortcut_entry-clause-entry : goal.returns-in-Ok-shortcut_entry-clause-entry
returns-in-Ok-shortcut_entry-clause-entry g c = λ w asked.
    let L = g.S.Env.lookups c.args.seen.now in
    let row = c.args.row.now in
    let made = λ (arguments : List ℕ). Ok (shortcut_entry w row c.args.shown c.args.target arguments) in
    ap (λ (K : Lookups). expanded_or_empty K shortcut_table c.args.number row.arguments >>= made) asked.lookups
    ∙ then_ok made (expanded_or_empty L shortcut_table c.args.number row.arguments) c.in-Ok.arguments c.in-Ok.ensures
    ∙ ap Ok (sym (c.in-Ok-shortcut_entry.ensures.entry w asked.lookups))

pub returns-in-Err-clause-entry : goal.returns-in-Err-clause-entry
returns-in-Err-clause-entry g c = λ w asked.
    let L = g.S.Env.lookups c.args.seen.now in
    let row = c.args.row.now in
    let made = λ (arguments : List ℕ). Ok (shortcut_entry w row c.args.shown c.args.target arguments) in
    told_on (λ (t : List ℕ). t) (λ (e : Entry). e) (expanded_or_empty L shortcut_table c.args.number row.arguments) (with_arguments w (numbered c.args.number row) c.args.shown c.args.target) c.in-Err.error
    (λ f is. ap (λ (K : Lookups). expanded_or_empty K shortcut_table c.args.number row.arguments >>= made) asked.lookups ∙ then_err made (expanded_or_empty L shortcut_table c.args.number row.arguments) f is) c.in-Err.ensures
