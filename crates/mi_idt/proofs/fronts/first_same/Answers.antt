use Rattle.std.proofs.Common.{◌≡◌, ◌∙◌, ◌<◌, ◌≤◌, List, ℕ, length, map, take, get_or, Bor, sym, ap, arith}
use Rattle.std.specs.List.{list_any}
use Rattle.std.proofs.lemmas.List.{take-map, length-map, length-take-le}
use Rattle.mi_idt.specs.RowKey.{row_front}
use Rattle.mi_idt.specs.Texts.{same_fields}
use Rattle.mi_idt.proofs.Basics.{shown}
use Rattle.mi_idt.proofs.FrontLaws.{slice_next}
use Rattle.mi_idt.proofs.Joins.{repeat_next, repeat_here, absent, present}
use Rattle.mi_idt.proofs.LayLaws.{no_row}
use Rattle.mi_idt.proofs.fronts.first_same.Goals as goal

pub slice_bounds-insert-end : goal.slice_bounds-insert-end
slice_bounds-insert-end c =
    let here : c.loop-i.i < length c.args.rows.now = c.loop-i-test.true in
    let within : c.args.count ≤ length c.row_fields-row.result.now = omega (arith, c.requires.long c.loop-i.i no_row here, ap length (c.row_fields-row.ensures no_row), length-map c.row_fields-row.result.now (λ (b : Bor (List ℕ)). b.now)) in
    sym (length-take-le c.args.count c.row_fields-row.result.now within)

pub returns-then-not-branch : goal.returns-then-not-branch
returns-then-not-branch c =
    let here : c.loop-i.i < length c.args.rows.now = c.loop-i-test.true in
    let count : ℕ = c.args.count in
    let fields : List (Bor (List ℕ)) = c.row_fields-row.result.now in
    let key : Bor (List (Bor (List ℕ))) = record { ref_ptr = c.row_fields-row.result.ref_ptr; now = take count fields } in
    let front : shown (take count fields) ≡ row_front count (get_or c.args.rows.now c.loop-i.i no_row) = sym (take-map (λ (b : Bor (List ℕ)). b.now) count fields) ∙ ap (take count) (c.row_fields-row.ensures no_row) in
    let held = present _ _ c.in_ok-insert.ensures.added c.if-not-branch.true in
    sym (repeat_here same_fields (row_front count) c.args.rows.now c.loop-i.i no_row here (ap (λ (l : List (List ℕ)). list_any (same_fields l) (map (row_front c.args.count) (take c.loop-i.i c.args.rows.now))) (sym front) ∙ sym (c.loop-i.invariant.held key) ∙ held))
    ∙ c.loop-i.invariant.rest

pub loop-i-preserved : goal.loop-i-preserved
loop-i-preserved c =
    let here : c.loop-i.i < length c.args.rows.now = c.loop-i-test.true in
    let count : ℕ = c.args.count in
    let fields : List (Bor (List ℕ)) = c.row_fields-row.result.now in
    let key : Bor (List (Bor (List ℕ))) = record { ref_ptr = c.row_fields-row.result.ref_ptr; now = take count fields } in
    let front : shown (take count fields) ≡ row_front count (get_or c.args.rows.now c.loop-i.i no_row) = sym (take-map (λ (b : Bor (List ℕ)). b.now) count fields) ∙ ap (take count) (c.row_fields-row.ensures no_row) in
    let fresh = absent _ _ c.in_ok-insert.ensures.added c.if-not-branch.false in
    record {
      held = slice_next count c.args.rows.now c.loop-i.i no_row key c.loop-i.seen c.insert.new.self here front c.loop-i.invariant.held c.in_ok-insert.ensures.updates;
      rest = sym (repeat_next same_fields (row_front count) c.args.rows.now c.loop-i.i no_row here (ap (λ (l : List (List ℕ)). list_any (same_fields l) (map (row_front c.args.count) (take c.loop-i.i c.args.rows.now))) (sym front) ∙ sym (c.loop-i.invariant.held key) ∙ fresh)) ∙ c.loop-i.invariant.rest;
    }
