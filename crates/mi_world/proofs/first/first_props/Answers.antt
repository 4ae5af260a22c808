use Rattle.std.proofs.Common.{◌≡◌, Some, ap, sym, ◌∙◌}
use Rattle.mi_props.specs.Props.{started, start_fault}
use Rattle.mi_image.specs.Items.{machine_over}
use Rattle.mi_schema.specs.RowsOf.{rows_in}
use Rattle.mi_model.specs.Properties.{first_properties, table_properties}
use Rattle.mi_model.specs.Settings.{settings}
use Rattle.mi_world.proofs.RowLemmas.{if_ok}
use Rattle.mi_world.proofs.SystemLemmas.{settings_so, ok_so, fault_so}
use Rattle.mi_world.proofs.first.first_props.Goals as goal

pub returns-clause-first : goal.returns-clause-first
unfolding first_properties
returns-clause-first c = λ held files g b.
    let sys : c.deref.result.now ≡ settings g = c.deref.ensures.value ∙ c.in_ok-system.ensures held files ∙ settings_so (rows_in c.args.loaded.now) (machine_over held files c.args.image.now) g b.rows b.former in
    let tab : c.deref-2.result.now ≡ table_properties g.rows = c.deref-2.ensures.value ∙ c.in_ok-table.ensures ∙ ap table_properties b.rows in
    ok_so c.start.result (λ p. p ≡ started c.deref.result.now c.args.words.now c.deref-2.result.now) (λ p. p ≡ first_properties g) (λ p h. h ∙ (λ i. started (sys i) (b.words i) (tab i))) c.start.ensures.whole

pub returns-clause-accepted : goal.returns-clause-accepted
returns-clause-accepted c = λ held files g b.
    let sys : c.deref.result.now ≡ settings g = c.deref.ensures.value ∙ c.in_ok-system.ensures held files ∙ settings_so (rows_in c.args.loaded.now) (machine_over held files c.args.image.now) g b.rows b.former in
    let tab : c.deref-2.result.now ≡ table_properties g.rows = c.deref-2.ensures.value ∙ c.in_ok-table.ensures ∙ ap table_properties b.rows in
    if_ok c.start.result c.start.ensures.accepted (λ h. sym (λ i. start_fault (sys i) (b.words i) (tab i)) ∙ h)

pub returns-clause-refused : goal.returns-clause-refused
returns-clause-refused c = λ held files g b.
    let sys : c.deref.result.now ≡ settings g = c.deref.ensures.value ∙ c.in_ok-system.ensures held files ∙ settings_so (rows_in c.args.loaded.now) (machine_over held files c.args.image.now) g b.rows b.former in
    let tab : c.deref-2.result.now ≡ table_properties g.rows = c.deref-2.ensures.value ∙ c.in_ok-table.ensures ∙ ap table_properties b.rows in
    fault_so c.start.result (λ fault. start_fault c.deref.result.now c.args.words.now c.deref-2.result.now ≡ Some fault) (λ fault. start_fault (settings g) g.words (table_properties g.rows) ≡ Some fault)
    (λ fault h. sym (λ i. start_fault (sys i) (b.words i) (tab i)) ∙ h) c.start.ensures.refused
