use Rattle.std.proofs.Common.{◌≡◌, ◌∙◌, List, ℕ, true, false, map, get_or, sym, ap, subst, nat_cmp, take}
use Rattle.std.specs.BTreeSet.{UpdatesBy}
use Rattle.std.specs.Cmp.Lexicographic.{slice_cmp}
use Rattle.std.specs.List.{list_any}
use Rattle.std.specs.Str.{bytes_eq}
use Rattle.mi_idt.specs.Cells.{key_of}
use Rattle.mi_idt.specs.Means.{column_value}
use Rattle.mi_idt.specs.RowKey.{row_key}
use Rattle.mi_idt.specs.Rows.{cells_of}
use Rattle.mi_idt.specs.Written.{written_row}
use Rattle.mi_idt.proofs.Basics.{shown}
use Rattle.mi_idt.proofs.LayLaws.{no_row}
use Rattle.mi_idt.proofs.Joins.{repeat_next, repeat_here, held_next, absent, present}
use Rattle.mi_idt.proofs.keys.first_written.Goals as goal

pub returns-then-not-branch : goal.returns-then-not-branch
returns-then-not-branch c =
    let key : c.in_ok-key.key ≡ row_key c.args.columns.now c.args.keys.now (get_or c.args.rows.now c.loop-i.i no_row) = c.in_ok-key.ensures ∙ ap (λ (fs : List (List ℕ)). written_row (key_of c.args.keys.now (cells_of (map column_value c.args.columns.now) fs))) (ap shown c.deref.ensures.value ∙ c.in_ok-fields.ensures) in
    let held = sym (c.loop-i.invariant.held c.in_ok-key.key) ∙ present _ _ c.in_ok-insert.ensures.added c.if-not-branch.true in
    sym (repeat_here bytes_eq (row_key c.args.columns.now c.args.keys.now) c.args.rows.now c.loop-i.i no_row c.loop-i-test.true (subst (λ (t : List ℕ). list_any (bytes_eq t) (map (row_key c.args.columns.now c.args.keys.now) (take c.loop-i.i c.args.rows.now)) ≡ true) key held)) ∙ c.loop-i.invariant.rest

pub loop-i-preserved : goal.loop-i-preserved
loop-i-preserved c =
    let key : c.in_ok-key.key ≡ row_key c.args.columns.now c.args.keys.now (get_or c.args.rows.now c.loop-i.i no_row) = c.in_ok-key.ensures ∙ ap (λ (fs : List (List ℕ)). written_row (key_of c.args.keys.now (cells_of (map column_value c.args.columns.now) fs))) (ap shown c.deref.ensures.value ∙ c.in_ok-fields.ensures) in
    let fresh = sym (c.loop-i.invariant.held c.in_ok-key.key) ∙ absent _ _ c.in_ok-insert.ensures.added c.if-not-branch.false in
    record {
      held = held_next (row_key c.args.columns.now c.args.keys.now) c.args.rows.now c.loop-i.i no_row c.loop-i.seen c.insert.new.self c.loop-i-test.true c.loop-i.invariant.held (subst (λ (t : List ℕ). UpdatesBy (slice_cmp nat_cmp) (slice_cmp nat_cmp t) c.loop-i.seen c.insert.new.self true) key c.in_ok-insert.ensures.updates);
      rest = sym (repeat_next bytes_eq (row_key c.args.columns.now c.args.keys.now) c.args.rows.now c.loop-i.i no_row c.loop-i-test.true (subst (λ (t : List ℕ). list_any (bytes_eq t) (map (row_key c.args.columns.now c.args.keys.now) (take c.loop-i.i c.args.rows.now)) ≡ false) key fresh)) ∙ c.loop-i.invariant.rest;
    }
