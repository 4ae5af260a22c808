use Rattle.std.proofs.Common.{List, ℕ, [], ◌∷◌, ◌++◌, ap, ◌∙◌, cond}
use Rattle.std.specs.Prelude.{codes}
use Rattle.mi_text.specs.Maps.{Name}
use Rattle.mi_image.specs.Items.{machine_over}
use Rattle.mi_schema.specs.RowsOf.{rows_in}
use Rattle.mi_model.specs.Settings.{settings, is_recorded}
use Rattle.mi_world.proofs.system.settings.Goals as goal

pub returns : goal.returns
unfolding settings
returns c = λ held files.
    let m = machine_over held files c.args.image.now in
    let installed = cond (is_recorded (rows_in c.args.loaded.now) m) ((codes "Installed", codes "1") ∷ []) [] in
    c.in_ok-push_pair.ensures
    ∙ ap (λ (ps : List (Name × List ℕ)). ps ++ (codes "UILevel", codes "2") ∷ []) (c.in_ok-push_installed.ensures held files ∙ ap (λ (ps : List (Name × List ℕ)). ps ++ installed) (c.in_ok-pairs.ensures held files))
