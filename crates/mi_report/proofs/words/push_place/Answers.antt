-- Written out, so that an edit that turns it is refused at once (docs/CONTRIBUTING.md).
use Rattle.std.proofs.Common.{◌≡◌, ◌++◌, sym, subst}
use Rattle.std.specs.Prelude.{OnOk}
use Rattle.mi_base.specs.declared.answers.Place.{Place}
use Rattle.mi_model.specs.Lines.{spaced, place_words}
use Rattle.mi_report.proofs.words.push_place.Goals as goal

pub returns-in-InRollback : goal.returns-in-InRollback
returns-in-InRollback c =
    subst (λ (p : Place). OnOk c.push_word.result (c.push_word.new.out.items ≡ c.args.out.now.items ++ spaced (place_words p))) (sym c.in-InRollback.is) c.push_word.ensures
