use Rattle.std.proofs.Common.{List, ℕ, subst, codes}
use Rattle.std.specs.Prelude.{ℤ}
use Rattle.mi_model.specs.RegistryRows.{place_in, registry_place}
use Rattle.mi_records.specs.Stops.{Answers}
use Rattle.mi_records.proofs.TextLemmas.{root_passed}
use Rattle.mi_records.proofs.meaning.place_of.Goals as goal

pub returns : goal.returns
unfolding registry_place
returns g c = λ number.
    let L = g.E.Env.lookups c.args.env.now in
    subst (λ (k : List ℕ). Answers (codes "Registry") number (place_in L (codes "Registry") number c.args.row.now.root k c.args.row.now.name) c.place_in.result) c.as_str.ensures
    (subst (λ (z : ℤ). Answers (codes "Registry") number (place_in L (codes "Registry") number z c.as_str.result.now c.args.row.now.name) c.place_in.result) (root_passed c.args.row.now.root c.requires) (c.place_in.ensures (codes "Registry") number))
