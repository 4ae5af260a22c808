use Rattle.std.proofs.Common.{◌≡◌, [], Option, ap, ◌∙◌}
use Rattle.std.specs.Prelude.{option_map, unwrap_or}
use Rattle.mi_text.specs.Maps.{is_among}
use Rattle.mi_base.specs.declared.entry.Product.{Product}
use Rattle.mi_base.specs.Machine.{product_at}
use Rattle.mi_image.specs.Items.{machine_over}
use Rattle.mi_schema.specs.RowsOf.{rows_in}
use Rattle.mi_world.specs.Ground.{recorded_in}
use Rattle.mi_world.proofs.RowLemmas.{none_set}
use Rattle.mi_world.proofs.known.recorded_names.Goals as goal

pub returns-in_ok-names-in-Some : goal.returns-in_ok-names-in-Some
returns-in_ok-names-in-Some c = λ held files q.
    let m = machine_over held files c.args.image.now in
    let features : c.in-Some.product.now.features ≡ recorded_in (rows_in c.args.loaded.now) m =
    ap (λ (o : Option Product). unwrap_or (option_map (λ p. p.features) o) []) (c.in-Some.ensures held files ∙ ap (product_at m) c.product_code.ensures) in
    c.in_ok-names-in-Some.ensures q ∙ ap (is_among q) (c.as_slice.ensures ∙ features)

pub returns-in-None : goal.returns-in-None
returns-in-None c = λ held files q.
    let m = machine_over held files c.args.image.now in
    none_set c.new.result c.new.ensures q
    ∙ ap (λ (o : Option Product). is_among q (unwrap_or (option_map (λ p. p.features) o) [])) (c.in-None.ensures held files ∙ ap (product_at m) c.product_code.ensures)
