use Rattle.mi_image.specs.Items.{machine_over}
use Rattle.mi_schema.specs.declared.typed_rows.FeatureRow.{FeatureRow}
use Rattle.mi_schema.specs.RowsOf.{rows_in}
use Rattle.mi_text.specs.Maps.{is_among}
use Rattle.mi_world.specs.Ground.{recorded_in, is_set}
use Rattle.mi_world.proofs.RowLemmas.{told_as, were_present}
use Rattle.mi_world.proofs.known.Known.of.Goals as goal

pub returns : goal.returns
returns c = λ held files.
    let rows = rows_in c.args.loaded.now in
    let m = machine_over held files c.args.image.now in
    record {
      variables = λ name. c.in_ok-variables.ensures held files name;
      directories = c.in_ok-directories.ensures;
      present = were_present rows m c.in_ok-names.names c.in_ok-held.held (c.in_ok-names.ensures held files) c.in_ok-held.ensures c.in_ok-present.present (c.in_ok-present.ensures held files);
      recorded = told_as (λ (r : FeatureRow). r.feature) (λ r. is_set c.in_ok-names.names r.feature) (λ r. is_among r.feature (recorded_in rows m)) rows.feature 0 c.in_ok-recorded.recorded (λ r. c.in_ok-names.ensures held files r.feature) c.in_ok-recorded.ensures;
      system = c.in_ok-system.ensures held files;
    }
