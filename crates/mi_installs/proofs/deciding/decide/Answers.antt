use Rattle.std.proofs.Common.{◌∙◌, List, map, ap}
use Rattle.mi_schema.specs.RowsOf.{rows_in}
use Rattle.mi_schema.specs.declared.package.Package.{Package}
use Rattle.mi_installs.specs.declared.placed.Placed.{Placed}
use Rattle.mi_installs.specs.Leads.{is_followed}
use Rattle.mi_installs.proofs.CallLemmas.{decided_is, paths_are}
use Rattle.mi_installs.proofs.deciding.decide.Goals as goal

pub returns-clause-decided : goal.returns-clause-decided
returns-clause-decided g c = λ w asked told src machine there.
    let p : Package = g.E.Sees.rows c.args.seen.now in
    let rows : List Placed = c.args.rows.now in
    let all = c.requires.rows w asked in
    let paths = paths_are p c.requires.lawful w asked.rows rows all in
    let says = c.deref.ensures.value ∙ c.in_ok-called.ensures.called w (record { asked = asked; machine = machine; there = there }) told src paths in
    decided_is p c.requires.lawful w asked.rows rows all c.deref.result.now c.in_ok-decided.decided.items says
    (c.in_ok-decided.ensures ∙ ap (λ (q : Package). map (λ (x : Placed). is_followed (rows_in q).file rows c.deref.result.now x.row.now.file) rows) c.package.ensures)
