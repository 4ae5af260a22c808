use Rattle.std.proofs.Common.{◌==◌, not, List, Option, sym, ap, ◌∙◌}
use Rattle.std.specs.List.{list_any}
use Rattle.mi_text.specs.declared.guid.Guid.{Guid}
use Rattle.mi_base.specs.declared.entry.Client.{Client}
use Rattle.mi_image.specs.Items.{machine_over}
use Rattle.mi_model.specs.Components.{has_other_client}
use Rattle.mi_components.proofs.acting.has_other_client.Goals as goal

pub returns-in_ok-clients-in-Some : goal.returns-in_ok-clients-in-Some
unfolding has_other_client
returns-in_ok-clients-in-Some c = λ held files.
    c.any_other.ensures
    ∙ ap (λ (clients : List Client). list_any (λ (x : Client). not (x.product.number == c.args.code.number)) clients) (c.deref.ensures.value ∙ c.in_ok-clients-in-Some.ensures held files)
    ∙ ap (λ (o : Option Guid). has_other_client (machine_over held files c.args.former.now) c.args.code.number o) (sym c.in-Some.is)

pub returns-in-None : goal.returns-in-None
unfolding has_other_client
returns-in-None c = λ held files. ap (λ (o : Option Guid). has_other_client (machine_over held files c.args.former.now) c.args.code.number o) (sym c.in-None.is)
