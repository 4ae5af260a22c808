use Rattle.std.proofs.Common.{Option, false, refl, sym, ap, subst, ◌∙◌}
use Rattle.std.specs.Prelude.{option_map, option_copied}
use Rattle.std.specs.Borrow.{Bor}
use Rattle.mi_text.specs.Maps.{is_among}
use Rattle.mi_base.specs.declared.entry.Product.{Product}
use Rattle.mi_features.specs.Records.{IsRecord}
use Rattle.mi_features.proofs.record.record_in.Goals as goal

pub returns-in_ok-features-in-Some : goal.returns-in_ok-features-in-Some
returns-in_ok-features-in-Some c =
    subst (λ (o : Option (Bor Product)). IsRecord (option_map (λ (p : Product). p.features) (option_copied o)) (record { features = c.in_ok-features-in-Some.features; is_new = false })) (sym c.in-Some.is)
    (record { features = λ q. c.in_ok-features-in-Some.ensures q ∙ ap (is_among q) c.as_slice.ensures; is_new = refl })
