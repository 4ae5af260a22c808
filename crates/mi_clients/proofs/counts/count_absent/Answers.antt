-- By its key path, or refused with it.
use Rattle.std.proofs.Common.{List, ℕ, Bor, ◌∙◌}
use Rattle.std.specs.Prelude.{Some}
use Rattle.mi_model.specs.World.{MakeAbsent}
use Rattle.mi_model.specs.ClientRows.{recorded_path}
use Rattle.mi_model.specs.CountRows.{count_touches, counted_by}
use Rattle.mi_records.proofs.ClientLemmas.{row_untold}
use Rattle.mi_clients.proofs.CountLemmas.{counted_told, counted_refused, guards_leaving}
use Rattle.mi_records.proofs.CountLemmas.{counted_is}
use Rattle.mi_clients.proofs.counts.count_absent.Goals as goal

pub returns-in-Ok-count_off-clause-row : goal.returns-in-Ok-count_off-clause-row
returns-in-Ok-count_off-clause-row g c = λ held files w asked guards.
    let L = g.S.Env.lookups c.args.seen.now in
    let choices = g.S.Sees.choices c.args.seen.now in
    let p = g.S.Sees.rows c.args.seen.now in
    let r = c.args.row.now in
    record {
      touches = count_touches w r c.in-Ok.path.now MakeAbsent;
      gives = counted_told w r MakeAbsent c.in-Ok.path.now (counted_is L choices p w asked r ∙ c.requires.counted) (c.in-Ok.ensures w asked);
      makes = (c.in-Ok-count_off.ensures.makes held files w asked (guards_leaving L choices p w asked c.args.guards.now r c.requires.own c.requires.counted guards));
    }

pub returns-in-Err-clause-row : goal.returns-in-Err-clause-row
returns-in-Err-clause-row g c = λ held files w asked guards.
    let L = g.S.Env.lookups c.args.seen.now in
    let choices = g.S.Sees.choices c.args.seen.now in
    let p = g.S.Sees.rows c.args.seen.now in
    let r = c.args.row.now in
    row_untold held files c.args.plan.now c.args.plan.now {A = Bor (List ℕ)} (Unit {0}) (λ path. path.now) (recorded_path w r) (λ m. counted_by w r (Some MakeAbsent)) c.in-Err.error
    (λ f. counted_refused w r MakeAbsent f (counted_is L choices p w asked r ∙ c.requires.counted)) (c.in-Err.ensures w asked)
