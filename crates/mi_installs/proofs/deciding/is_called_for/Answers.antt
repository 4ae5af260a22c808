use Rattle.std.proofs.Common.{◌≡◌, Bool, refl, sym, ◌∙◌}
use Rattle.mi_image.specs.Items.{machine_over}
use Rattle.mi_model.specs.FileVersions.{is_called_for, new_file, product_language}
use Rattle.mi_installs.specs.Deciding.{replaced_by}
use Rattle.mi_installs.proofs.CallLemmas.{if_ok, companion_is, brought_is, copied_none, none_of}
use Rattle.mi_installs.proofs.deciding.is_called_for.Goals as goal

pub returns-in-Some-clause-called : goal.returns-in-Some-clause-called
returns-in-Some-clause-called g c = λ w seen told src at language.
    let held = (g.V.Volume.state c.args.vol.now).held in
    let files = g.S.Source.files c.args.src.now in
    none_of c.file.result c.is_none.result c.is_none.ensures ∙ sym (copied_none c.file.result)
    ∙ companion_is w c.args.placed.now.row.now c.args.placed.now.path (machine_over held files c.args.image.now) at seen.machine _ refl c.in-Some.ensures _ (c.file.ensures.value held files seen.there)

pub returns-in-None-clause-called : goal.returns-in-None-clause-called
returns-in-None-clause-called g c = λ w seen told src at language.
    let held = (g.V.Volume.state c.args.vol.now).held in
    let files = g.S.Source.files c.args.src.now in
    let row = c.args.placed.now.row.now in
    if_ok c.is_brought.result (λ (b : Bool). b ≡ replaced_by w row (new_file row) (product_language w)) (λ (b : Bool). b ≡ is_called_for w row)
    (λ b e. brought_is w row c.args.placed.now.path (machine_over held files c.args.image.now) at seen.machine c.in-None.ensures b e)
    (c.is_brought.ensures.brought w seen told src at language)
