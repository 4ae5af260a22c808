use Rattle.std.proofs.Common.{Some, length, sym, ap, ◌∙◌, arith}
use Rattle.std.specs.Map.Iter.{deref}
use Rattle.std.proofs.lemmas.Map.Iter.{rest_more, rest_all}
use Rattle.mi_base.specs.declared.answers.Fault.TheVariants.{Reference}
use Rattle.mi_schema.specs.References.{first_dangling}
use Rattle.mi_schema.specs.RowsOf.{rows_in, behind}
use Rattle.mi_schema.proofs.CheckLemmas.{dangles_not}
use Rattle.mi_schema.proofs.ReferenceLaws.{behind_long}
use Rattle.mi_schema.proofs.reference.check_table.Goals as goal

pub loop-row-init : goal.loop-row-init
loop-row-init g c =
    let is = c.into_iter-row-iterator.ensures.into_iter_gives ∙ c.values-row-items.ensures.rest in
    record {
      counted = let long = ap length is in let same = behind_long c.args.rows.now.entries in omega (arith, long, same);
      same = ap (first_dangling c.args.table.now (g.R.Refers.dangling (rows_in c.args.loaded.now)) 1) is;
    }

pub returns-in-Some-dangling : goal.returns-in-Some-dangling
returns-in-Some-dangling g c =
    let next = rest_more deref c.loop-row.row-iterator c.next.new.self c.next.result c.in-Some.row c.in-Some.is c.next.ensures.steps in
    dangles_not c.args.table.now (g.R.Refers.dangling (rows_in c.args.loaded.now)) (behind c.args.rows.now.entries) c.loop-row.row-iterator c.next.new.self c.loop-row.number c.in-Some.row.now c.loop-row.invariant.same next
    c.in-Some-dangling.column (sym c.dangling.ensures ∙ c.in-Some-dangling.is)
    ∙ ap (λ n. Some (Reference n c.loop-row.number c.in-Some-dangling.column)) (sym c.in_ok-name.ensures)

pub returns : goal.returns
returns g c =
    let end = rest_all deref c.loop-row.row-iterator c.next.new.self c.next.result c.in-None.is c.next.ensures.steps in
    (sym c.loop-row.invariant.same ∙ ap (first_dangling c.args.table.now (g.R.Refers.dangling (rows_in c.args.loaded.now)) c.loop-row.number) end, tt)
