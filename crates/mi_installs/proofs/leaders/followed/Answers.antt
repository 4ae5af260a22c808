use Rattle.std.proofs.Common.{◌≡◌, ◌<◌, ◌∙◌, ℕ, Bool, List, Option, Some, length, ap, subst, arith}
use Rattle.std.specs.Prelude.{slice_get, IfOk}
use Rattle.std.proofs.lemmas.List.{length-map}
use Rattle.mi_schema.specs.RowsOf.{rows_in}
use Rattle.mi_schema.specs.declared.typed_rows.FileRow.{FileRow}
use Rattle.mi_installs.specs.declared.placed.Placed.{Placed}
use Rattle.mi_installs.specs.Leads.{leader_place, leaders_of, asked_of, written_at}
use Rattle.mi_installs.proofs.LeaderLemmas.{written_of}
use Rattle.mi_installs.proofs.leaders.followed.Goals as goal

pub returns : goal.returns
returns c =
    let files : List FileRow = (rows_in c.args.loaded.now).file in
    let asked : List (Option Bool) = asked_of files c.args.rows.now c.args.called.now in
    let led : c.deref-2.result.now ≡ leaders_of files = c.deref-2.ensures.value ∙ c.in_ok-leaders.ensures in
    let says : c.deref-4.result.now ≡ asked = c.deref-4.ensures.value ∙ c.in_ok-asked.ensures.asked in
    let at : (row : ℕ) → row < length files → slice_get c.deref-5.result.now row ≡ Some (written_at (leaders_of files) asked row) = λ row lt.
    ap (λ (ws : List Bool). slice_get ws row) c.deref-5.ensures.value
    ∙ c.in_ok-written.ensures.written row (omega (arith, lt, ap length led, length-map files (leader_place files)))
    ∙ ap (λ (ls : List (Option ℕ)). Some (written_at ls c.deref-4.result.now row)) led
    ∙ ap (λ (a : List (Option Bool)). Some (written_at (leaders_of files) a row)) says in
    subst (λ (l : List Bool). IfOk c.of_rows.result (λ all. all.items ≡ l)) (written_of (λ (p : Placed). p.row.now.file) c.args.rows.now files c.deref-5.result.now (written_at (leaders_of files) asked) at) c.of_rows.ensures
