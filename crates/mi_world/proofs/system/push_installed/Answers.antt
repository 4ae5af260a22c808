use Rattle.std.proofs.Common.{[], ◌∷◌, ◌++◌, Option, cond, ap, sym, ◌∙◌}
use Rattle.std.specs.Prelude.{codes, is_some}
use Rattle.mi_base.specs.declared.entry.Product.{Product}
use Rattle.mi_base.specs.Machine.{product_at}
use Rattle.mi_image.specs.Items.{machine_over}
use Rattle.mi_model.specs.Settings.{is_recorded}
use Rattle.std.proofs.lemmas.List.{append-nil}
use Rattle.mi_world.proofs.system.push_installed.Goals as goal

pub returns-in_ok-push_pair-in-Some : goal.returns-in_ok-push_pair-in-Some
unfolding is_recorded
returns-in_ok-push_pair-in-Some c = λ held files.
    let m = machine_over held files c.args.image.now in
    c.in_ok-push_pair-in-Some.ensures
    ∙ ap (λ (o : Option Product). c.args.pairs.now.items ++ cond (is_some o) ((codes "Installed", codes "1") ∷ []) []) (c.in-Some.ensures held files ∙ ap (product_at m) c.product_code.ensures)

pub returns-in-None : goal.returns-in-None
unfolding is_recorded
returns-in-None c = λ held files.
    let m = machine_over held files c.args.image.now in
    sym (append-nil c.args.pairs.now.items)
    ∙ ap (λ (o : Option Product). c.args.pairs.now.items ++ cond (is_some o) ((codes "Installed", codes "1") ∷ []) []) (c.in-None.ensures held files ∙ ap (product_at m) c.product_code.ensures)
