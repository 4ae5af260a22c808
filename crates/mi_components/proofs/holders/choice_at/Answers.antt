use Rattle.std.proofs.Common.{List, length, refl, sym, ap, ◌∙◌}
use Rattle.std.specs.Prelude.{slice_get}
use Rattle.std.proofs.lemmas.Option.{slice_get_read, slice_get_past}
use Rattle.mi_wishes.specs.declared.choice.FeatureChoice.{FeatureChoice}
use Rattle.mi_components.proofs.holders.choice_at.Goals as goal

pub returns-in-Some : goal.returns-in-Some
returns-in-Some c =
    sym (slice_get_read c.deref.result.now (length c.deref.result.now) c.args.place c.in-Some.choice.now refl c.in-Some.ensures.lookup.3.0 c.in-Some.ensures.lookup.1)
    ∙ ap (λ (l : List FeatureChoice). slice_get l c.args.place) c.deref.ensures.value

pub returns-in-None : goal.returns-in-None
returns-in-None c =
    sym (slice_get_past c.deref.result.now c.args.place c.in-None.ensures.lookup.3) ∙ ap (λ (l : List FeatureChoice). slice_get l c.args.place) c.deref.ensures.value
