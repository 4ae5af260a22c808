use Rattle.std.proofs.Common.{◌≡◌, ℕ, List, [], Option, None, Some, refl, sym, ◌∙◌}
use Rattle.std.specs.FinMap.{empty}
use Rattle.mi_text.specs.Maps.{Map}
use Rattle.mi_props.specs.declared.props.PropFault.{PropFault}
use Rattle.mi_props.specs.Props.{Values, start_fault}
use Rattle.mi_image.specs.Items.{machine_over}
use Rattle.mi_schema.specs.RowsOf.{rows_in}
use Rattle.mi_model.specs.World.{Given}
use Rattle.mi_model.specs.Properties.{table_properties}
use Rattle.mi_model.specs.Settings.{settings}
use Rattle.mi_commands.specs.Calls.{sets_of}
use Rattle.mi_commands.proofs.FirstLemmas.{setting_names, table_names, none_refused, fault_so}
use Rattle.mi_commands.proofs.package.properties.Goals as goal

pub unreachable-requires : goal.unreachable-requires
unreachable-requires c =
    let none : Map (List ℕ) = empty in
    let m = machine_over none none c.args.image.now in
    let g : Given = record { rows = rows_in c.args.loaded.now; folder = []; words = sets_of c.args.asked.now; files = none; former = m; now = 0 } in
    let found = c.in-Err-Fault.field-0-0 in
    let fault : start_fault (settings g) (sets_of c.args.asked.now) (table_properties (rows_in c.args.loaded.now)) ≡ Some found =
    fault_so Values c.in-Err-Fault.field-0 found (λ (f : PropFault). start_fault (settings g) (sets_of c.args.asked.now) (table_properties (rows_in c.args.loaded.now)) ≡ Some f) c.in-Err-Fault.field-0-is
    (c.in-Err-Fault.ensures.refused none none g (record { rows = refl; former = refl; words = c.as_slice.ensures.value ∙ c.in_ok-words.ensures })) in
    let never = none_refused (settings g) (sets_of c.args.asked.now) (table_properties (rows_in c.args.loaded.now)) (setting_names none none c.args.image.now g c.items_stand.ensures refl) c.requires.public (table_names c.args.loaded.now c.values_stand.ensures) in
    let clash : ◌≡◌ {A = Option PropFault} None (Some found) = sym never ∙ fault in
    cc
