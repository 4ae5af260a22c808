-- By the column KeyPath.
use Rattle.std.proofs.Common.{List, ℕ, Bor, sym, ap, ◌∙◌, subst}
use Rattle.std.specs.Prelude.{Result, Ok}
use Rattle.mi_base.specs.declared.answers.Fault.{Fault}
use Rattle.mi_schema.specs.RowsOf.{rows_in}
use Rattle.mi_records.specs.Clients.{told}
use Rattle.mi_records.specs.Stops.{TellsBy}
use Rattle.mi_records.proofs.ClientLemmas.{recorded_told}
use Rattle.mi_records.proofs.key_path.recorded_path.Goals as goal

pub returns-in-Some : goal.returns-in-Some
returns-in-Some g c = λ w asked.
    let L = g.S.Env.lookups c.args.seen.now in
    let choices = g.S.Sees.choices c.args.seen.now in
    let p = g.S.Sees.rows c.args.seen.now in
    subst (λ (does : Result (List ℕ) Fault). TellsBy {A = Bor (List ℕ)} (λ path. path.now) does c.key_told.result)
    (ap (told (rows_in p) L choices c.args.row.now) (sym c.in-Some.is) ∙ sym (recorded_told L choices p w asked c.args.row.now c.requires.own)) c.key_told.ensures

pub returns-in-None : goal.returns-in-None
returns-in-None g c = λ w asked.
    let L = g.S.Env.lookups c.args.seen.now in
    let choices = g.S.Sees.choices c.args.seen.now in
    let p = g.S.Sees.rows c.args.seen.now in
    recorded_told L choices p w asked c.args.row.now c.requires.own ∙ ap (told (rows_in p) L choices c.args.row.now) c.in-None.is
    ∙ ap Ok (ap L.folder (sym c.as_str.ensures) ∙ sym c.folder.ensures)
