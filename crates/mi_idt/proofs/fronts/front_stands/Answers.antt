use Rattle.std.proofs.Common.{◌≡◌, ◌<◌, ℕ, List, length, map, take, subst, arith, Bor}
use Rattle.std.proofs.lemmas.List.{length-map}
use Rattle.mi_idt.specs.Means.{column_value}
use Rattle.mi_idt.specs.Rows.{cells_of}
use Rattle.mi_idt.specs.Written.{written_cell}
use Rattle.mi_idt.proofs.Basics.{shown}
use Rattle.mi_idt.proofs.FieldLaws.{are_fields}
use Rattle.mi_idt.proofs.StandLaws.{front_more, spelled_here}
use Rattle.mi_idt.proofs.fronts.front_stands.Goals as goal

pub bounds-fields-i : goal.bounds-fields-i
bounds-fields-i c =
    let long = (are_fields 0 0 _ _ _ c.requires.spelled).2 in
    omega (arith, c.loop-i-test.true, c.requires.within, long, length-map c.args.columns.now column_value, length-map c.args.fields.now (λ (b : Bor (List ℕ)). b.now))

pub loop-i-preserved : goal.loop-i-preserved
loop-i-preserved c =
    let long = (are_fields 0 0 _ _ _ c.requires.spelled).2 in
    let column : c.loop-i.i < length c.args.columns.now = omega (arith, c.loop-i-test.true, c.requires.within) in
    let field : c.loop-i.i < length c.args.fields.now = omega (arith, column, long, length-map c.args.columns.now column_value, length-map c.args.fields.now (λ (b : Bor (List ℕ)). b.now)) in
    front_more c.args.columns.now c.args.fields.now c.loop-i.i _ _ c.as_bytes.result.now column field c.as_bytes.ensures.value
    (c.stands.ensures c.if-not-stands.false _ (spelled_here c.args.columns.now c.args.fields.now (cells_of (map column_value c.args.columns.now) (shown c.args.fields.now)) c.loop-i.i _ _ c.as_bytes.result.now column field c.as_bytes.ensures.value c.requires.spelled))
    c.loop-i.invariant

pub returns : goal.returns
returns c = λ _.
    let all : c.loop-i.i ≡ c.args.count = omega (arith, c.loop-i-test.false, c.loop-i.auto.i-end) in
    subst (λ (n : ℕ). take n (shown c.args.fields.now) ≡ map written_cell (take n (cells_of (map column_value c.args.columns.now) (shown c.args.fields.now)))) all c.loop-i.invariant
