-- From the last row to the first.
use Rattle.std.proofs.Common.{◌≡◌, ℕ, ◌+◌, ◌-◌, subst, sym}
use Rattle.mi_image.specs.Items.{machine_over}
use Rattle.mi_schema.specs.declared.typed_rows.ComponentRow.{ComponentRow}
use Rattle.mi_schema.specs.RowsOf.{rows_in}
use Rattle.mi_schema.specs.TableRows.{product_code}
use Rattle.mi_world.specs.Ground.{is_set, present_by}
use Rattle.mi_world.specs.Known.{ArePresent}
use Rattle.mi_world.proofs.RowLemmas.{told_start, below, at_end}
use Rattle.mi_world.proofs.known.present_of.Goals as goal

pub loop-place-init : goal.loop-place-init
unfolding rows_in
loop-place-init c = λ base files.
    told_start (λ (r : ComponentRow). r.component) (λ r. present_by (machine_over base files c.args.image.now) (product_code (rows_in c.args.loaded.now)) (is_set c.args.held.now) r r.component_id)
    c.args.loaded.now.component.entries c.len-place.result c.new-flags.result c.len-place.ensures.len c.new-flags.ensures

pub loop-place-preserved : goal.loop-place-preserved
loop-place-preserved c = λ base files.
    let rows = (rows_in c.args.loaded.now).component in
    let m = machine_over base files c.args.image.now in
    let code : c.product_code-code.result.number ≡ product_code (rows_in c.args.loaded.now) = c.product_code-code.ensures in
    let had = subst (λ (n : ℕ). ArePresent rows m n c.args.held.now ((c.loop-place.place - 1) + 1) c.loop-place.flags) (sym code) (below (λ n. ArePresent rows m (product_code (rows_in c.args.loaded.now)) c.args.held.now n c.loop-place.flags) c.loop-place.place c.loop-place-test.true (c.loop-place.invariant base files)) in
    subst (λ (n : ℕ). ArePresent rows m n c.args.held.now (c.loop-place.place - 1) c.tell_present.new.flags) code (c.in_ok-tell_present.ensures base files had)

pub returns : goal.returns
returns c = λ base files.
    at_end (λ n. ArePresent (rows_in c.args.loaded.now).component (machine_over base files c.args.image.now) (product_code (rows_in c.args.loaded.now)) c.args.held.now n c.loop-place.flags) c.loop-place.place c.loop-place-test.false (c.loop-place.invariant base files)
