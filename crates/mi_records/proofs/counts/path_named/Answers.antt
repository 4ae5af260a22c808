-- By its key path; one that is refused has no name.
use Rattle.std.proofs.Common.{List, ℕ, Bor, subst, ◌∙◌}
use Rattle.std.specs.Prelude.{Err}
use Rattle.std.proofs.lemmas.Result.{IfOk-weaker}
use Rattle.mi_model.specs.ClientRows.{recorded_path}
use Rattle.mi_records.specs.declared.error.PlanError.{PlanError}
use Rattle.mi_records.specs.Stops.{TellsBy}
use Rattle.mi_records.proofs.CountLemmas.{path_named, path_refused}
use Rattle.mi_records.proofs.counts.path_named.Goals as goal

pub returns-in-Ok : goal.returns-in-Ok
returns-in-Ok g c = λ w asked.
    IfOk-weaker c.some_count.result _ _ (λ o is. is ∙ path_named (g.S.Env.lookups c.args.seen.now) (g.S.Sees.choices c.args.seen.now) (g.S.Sees.rows c.args.seen.now) w asked c.args.row.now c.in-Ok.path.now c.requires.counted (c.in-Ok.ensures w asked)) c.some_count.ensures

pub returns-in-Err : goal.returns-in-Err
returns-in-Err g c = λ w asked.
    IfOk-weaker c.none_where_refused-name.result _ _ (λ o is. is.0 ∙ path_refused (g.S.Env.lookups c.args.seen.now) (g.S.Sees.choices c.args.seen.now) (g.S.Sees.rows c.args.seen.now) w asked c.args.row.now is.1.0 c.requires.counted
    (subst (λ (e : PlanError). TellsBy {A = Bor (List ℕ)} (λ path. path.now) (recorded_path w c.args.row.now) (Err e)) is.1.1 (c.in-Err.ensures w asked))) c.none_where_refused-name.ensures
