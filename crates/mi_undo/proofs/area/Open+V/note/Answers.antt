use Rattle.std.proofs.Common.{◌≡◌, refl, sym, subst, ◌∙◌}
use Rattle.mi_undo.specs.declared.fault.OpFault.TheVariants as op
use Rattle.mi_undo.specs.Area.{AreOutside}
use Rattle.mi_undo.proofs.FreshLemmas.{outside-append, new_outside_names}
use Rattle.mi_undo.proofs.area.Open+V.note.Goals as goal

pub returns-in-Ok-clause-working : goal.returns-in-Ok-clause-working
returns-in-Ok-clause-working g c = record {
  working = refl;
  knows = c.in-Ok.ensures.knows;
  outside = subst AreOutside (sym c.in-Ok.ensures.names) (outside-append _ _ c.requires.working.outside (new_outside_names _ _ c.requires.outside));
}

pub returns-in-Err-clause-full : goal.returns-in-Err-clause-full
returns-in-Err-clause-full g c = λ full.
    let told = c.in-Err.ensures.told full in
    let answer : c.in-Err.fault ≡ op.Full = cc in
    (told, λ F w. (c.in-Err.ensures.adds told F w (λ none. let clash : op.Full ≡ op.NoMemory = sym answer ∙ c.in-Err.ensures.all_noted none in cc)).full full)
