use Rattle.std.proofs.Common.{◌≡◌, ◌<◌, ◌≤◌, ℕ, List, length, map, take, get_or, sym, subst}
use Rattle.std.specs.List.{All}
use Rattle.std.proofs.lemmas.List.{take_all}
use Rattle.std.proofs.lemmas.List.Elements.{All-more}
use Rattle.mi_idt.specs.Means.{column_value}
use Rattle.mi_idt.specs.RowKey.{KeyStands}
use Rattle.mi_idt.specs.Rows.{cells_of}
use Rattle.mi_idt.specs.Spells.{SpellsFields}
use Rattle.mi_idt.specs.Written.{written_cell}
use Rattle.mi_idt.proofs.FrontLaws.{key_stands}
use Rattle.mi_idt.proofs.LayLaws.{no_row}
use Rattle.mi_idt.proofs.fronts.keys_stand.Goals as goal

pub front_stands-requires-clause-spelled : goal.front_stands-requires-clause-spelled
front_stands-requires-clause-spelled c =
    let here : c.loop-i.i < length c.args.rows.now = c.loop-i-test.true in
    subst (λ (fs : List (List ℕ)). SpellsFields (map column_value c.args.columns.now) fs (cells_of (map column_value c.args.columns.now) fs)) (sym (c.row_fields.ensures no_row)) (c.requires.spelled c.loop-i.i no_row here)

pub loop-i-preserved : goal.loop-i-preserved
loop-i-preserved c =
    let here : c.loop-i.i < length c.args.rows.now = c.loop-i-test.true in
    let same = subst (λ (fs : List (List ℕ)). take (length c.args.keys.now) fs ≡ map written_cell (take (length c.args.keys.now) (cells_of (map column_value c.args.columns.now) fs))) (c.row_fields.ensures no_row) (c.front_stands.ensures c.if-not-front_stands.false) in
    All-more (KeyStands c.args.columns.now c.args.keys.now) c.args.rows.now c.loop-i.i no_row here c.loop-i.invariant
    (key_stands c.args.columns.now c.args.keys.now (get_or c.args.rows.now c.loop-i.i no_row) (c.requires.spelled c.loop-i.i no_row here) c.if-keys-columns.false (c.are_first.ensures c.if-not-are_first.false) same)

pub returns : goal.returns
returns c = λ _.
    let end : length c.args.rows.now ≤ c.loop-i.i = c.loop-i-test.false in
    subst (All (KeyStands c.args.columns.now c.args.keys.now)) (take_all c.loop-i.i c.args.rows.now end) c.loop-i.invariant
