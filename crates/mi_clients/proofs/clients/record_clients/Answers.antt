-- With its key path, or refused with it.
use Rattle.std.proofs.Common.{Bool, [], ◌∷◌, List, ℕ, Bor, cond, map, subst}
use Rattle.std.specs.Prelude.{Some}
use Rattle.mi_model.specs.World.{MakeLocal}
use Rattle.mi_model.specs.Conditions.{has}
use Rattle.mi_model.specs.ClientRows.{recorded_path, the_system, client_touch, client_touches}
use Rattle.mi_steps.specs.Makes.{Makes}
use Rattle.mi_records.proofs.ClientLemmas.{code_is, local_touches, local_refused, row_untold}
use Rattle.mi_clients.proofs.clients.record_clients.Goals as goal

pub returns-in-Ok-put_clients-clause-row : goal.returns-in-Ok-put_clients-clause-row
returns-in-Ok-put_clients-clause-row g c = λ held files w asked.
    let L = g.S.Env.lookups c.args.seen.now in
    let choices = g.S.Sees.choices c.args.seen.now in
    let p = g.S.Sees.rows c.args.seen.now in
    let r = c.args.row.now in
    let id = c.args.component in
    let code = c.args.product.number in
    let path = c.in-Ok.path.now in
    record {
      touches = map (client_touch id path) (code ∷ cond (has 16 r.attributes) (the_system ∷ []) []);
      gives = local_touches w r id code path (code_is L choices p w asked code c.requires.code) (c.in-Ok.ensures w asked);
      makes = subst (λ (b : Bool). Makes held files c.args.plan.now c.put_clients.new.plan (map (client_touch id path) (code ∷ cond b (the_system ∷ []) []))) c.is_permanent.ensures (c.in-Ok-put_clients.ensures.makes held files);
    }

pub returns-in-Err-clause-row : goal.returns-in-Err-clause-row
returns-in-Err-clause-row g c = λ held files w asked.
    let r = c.args.row.now in
    row_untold held files c.args.plan.now c.args.plan.now {A = Bor (List ℕ)} (Unit {0}) (λ path. path.now) (recorded_path w r) (λ m. client_touches w r c.args.component (Some MakeLocal)) c.in-Err.error (local_refused w r c.args.component) (c.in-Err.ensures w asked)
