use Rattle.std.proofs.Common.{List, ℕ, sym, ap, subst, ◌∙◌}
use Rattle.std.specs.Prelude.{Result}
use Rattle.mi_base.specs.declared.answers.Fault.{Fault}
use Rattle.mi_model.specs.RegistryRows.{RegistryPlace, root_of, place_in}
use Rattle.mi_records.specs.Columns.{key_of, name_of, named_at}
use Rattle.mi_records.specs.Stops.{Answers}
use Rattle.mi_records.proofs.MeaningLemmas.{refused_as}
use Rattle.mi_records.proofs.TextLemmas.{bound_ok, bound_err, place_by, root_passed}
use Rattle.mi_records.proofs.place.place_in.Goals as goal

pub returns-in-Ok : goal.returns-in-Ok
returns-in-Ok g c = λ table row.
    let L = g.E.Env.lookups c.args.env.now in
    let name = name_of L table row c.args.name.now in
    subst (λ (d : Result RegistryPlace Fault). Answers table row d c.with_name.result)
    (sym (place_by L table row c.args.root c.args.key.now c.args.name.now ∙ bound_ok (λ key. named_at (root_of L c.args.root) key name) (key_of L table row c.args.key.now) c.in-Ok.key (c.in-Ok.ensures.value table row)))
    (subst (λ (r : ℕ). Answers table row (named_at r c.in-Ok.key name) c.with_name.result) (c.root_of-root.ensures.value ∙ ap (root_of L) (root_passed c.args.root c.requires)) (c.with_name.ensures table row))

pub returns-in-Err : goal.returns-in-Err
returns-in-Err g c = λ table row.
    let L = g.E.Env.lookups c.args.env.now in
    let name = name_of L table row c.args.name.now in
    refused_as (λ (t : List ℕ). t) (λ (p : RegistryPlace). p) table row (key_of L table row c.args.key.now) (place_in L table row c.args.root c.args.key.now c.args.name.now) c.in-Err.stop
    (λ f is. place_by L table row c.args.root c.args.key.now c.args.name.now ∙ bound_err (λ key. named_at (root_of L c.args.root) key name) (key_of L table row c.args.key.now) f is) (c.in-Err.ensures.value table row)
