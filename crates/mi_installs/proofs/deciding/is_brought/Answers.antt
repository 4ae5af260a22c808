use Rattle.std.proofs.Common.{◌≡◌, ℕ, Bool, subst}
use Rattle.std.specs.Prelude.{IfOk}
use Rattle.mi_fver.specs.declared.new_file.NewFile.{NewFile}
use Rattle.mi_model.specs.FileVersions.{product_language}
use Rattle.mi_installs.specs.Deciding.{replaced_by}
use Rattle.mi_installs.proofs.deciding.is_brought.Goals as goal

pub returns-clause-brought : goal.returns-clause-brought
returns-clause-brought g c = λ w seen told src at language.
    let row = c.args.placed.now.row.now in
    subst (λ (n : NewFile). IfOk c.is_replaced-replaced.result (λ (b : Bool). b ≡ replaced_by w row n (product_language w))) c.in_ok-new.ensures
    (subst (λ (l : ℕ). IfOk c.is_replaced-replaced.result (λ (b : Bool). b ≡ replaced_by w row c.in_ok-new.new l)) language (c.is_replaced-replaced.ensures.replaced w seen told src at))
