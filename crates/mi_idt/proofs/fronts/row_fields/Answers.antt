use Rattle.std.proofs.Common.{◌≡◌, ◌∙◌, ◌+◌, ◌-◌, ◌*◌, ◌≤◌, ℕ, List, length, take, drop, ap, arith, Bor}
use Rattle.std.proofs.lemmas.List.{length-take, length-drop}
use Rattle.mi_idt.proofs.Basics.{shown}
use Rattle.mi_idt.proofs.LayLaws.{row_within, row_there, no_row}
use Rattle.mi_idt.proofs.fronts.row_fields.Goals as goal

pub overflow_mul-start : goal.overflow_mul-start
overflow_mul-start c =
    let within = row_within c.args.columns.now c.args.rows.now c.args.fields.now.items c.requires.spelled c.requires.laid c.args.row no_row c.requires.within in
    omega (arith, within, c.args.fields.now.ok, c.args.fields.now.small)

pub overflow_add-result : goal.overflow_add-result
overflow_add-result c =
    let within = row_within c.args.columns.now c.args.rows.now c.args.fields.now.items c.requires.spelled c.requires.laid c.args.row no_row c.requires.within in
    omega (arith, within, c.args.fields.now.ok, c.args.fields.now.small)

pub offset_bounds-deref-start : goal.offset_bounds-deref-start
offset_bounds-deref-start c =
    let within = row_within c.args.columns.now c.args.rows.now c.args.fields.now.items c.requires.spelled c.requires.laid c.args.row no_row c.requires.within in
    omega (arith, within, ap length c.deref.ensures.value, c.deref.type_inv.1)

pub slice_bounds-result-end : goal.slice_bounds-result-end
slice_bounds-result-end c =
    let start : ℕ = c.args.row * length c.args.columns.now in
    let width : ℕ = length c.args.columns.now in
    let within : start + width ≤ length c.args.fields.now.items = row_within c.args.columns.now c.args.rows.now c.args.fields.now.items c.requires.spelled c.requires.laid c.args.row no_row c.requires.within in
    omega (arith, within, ap length c.deref.ensures.value, length-take (start + width - start) (drop start c.deref.result.now), length-drop start c.deref.result.now)

pub returns : goal.returns
returns c = λ d.
    let start : ℕ = c.args.row * length c.args.columns.now in
    let same : start + length c.args.columns.now - start ≡ length c.args.columns.now = omega arith in
    ap (λ (fs : List (Bor (List ℕ))). shown (take (c.args.row * length c.args.columns.now + length c.args.columns.now - c.args.row * length c.args.columns.now) (drop (c.args.row * length c.args.columns.now) fs))) c.deref.ensures.value
    ∙ ap (λ (n : ℕ). shown (take n (drop (c.args.row * length c.args.columns.now) c.args.fields.now.items))) same ∙ row_there c.args.columns.now c.args.rows.now c.args.fields.now.items c.requires.spelled c.requires.laid c.args.row d c.requires.within
