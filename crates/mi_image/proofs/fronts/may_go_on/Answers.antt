use Rattle.std.proofs.Common.{◌≡◌, true, false, List, ℕ, Result, Ok, Err, sym, ap, ◌∙◌}
use Rattle.mi_base.specs.declared.rec_error.RecFault.{RecFault}
use Rattle.mi_base.specs.declared.rec_error.RecFault.TheVariants.{Short}
use Rattle.mi_base.specs.declared.entry.Entry.{Entry}
use Rattle.mi_base.specs.Records.{entry_of}
use Rattle.mi_image.proofs.StrictLemmas.{front_refuses}
use Rattle.mi_image.proofs.fronts.may_go_on.Goals as goal

abbrev failed : RecFault → Result Entry RecFault
failed f = Err f

fault_is : (f g : RecFault) → failed f ≡ failed g → f ≡ g
fault_is f g is = cc

pub returns-in-Ok : goal.returns-in-Ok
returns-in-Ok c = record {
  refused = λ no whole longer start.
      let read : entry_of c.args.name.now c.args.front.now ≡ Ok c.in-Ok.entry = sym (ap (λ (n : List ℕ). entry_of n c.args.front.now) c.as_str.ensures.text) ∙ c.in-Ok.ensures in
      front_refuses c.args.name.now c.args.front.now whole c.requires.other longer start (λ early. let clash : Ok c.in-Ok.entry ≡ Err Short = sym read ∙ early in cc);
}

pub returns-in-Err-Fault : goal.returns-in-Err-Fault
returns-in-Err-Fault c = record {
  refused = λ no whole longer start.
      let read : entry_of c.args.name.now c.args.front.now ≡ Err c.in-Err-Fault.fault = sym (ap (λ (n : List ℕ). entry_of n c.args.front.now) c.as_str.ensures.text) ∙ (rw c.in-Err-Fault.field-0-is at c.in-Err-Fault.ensures) in
      front_refuses c.args.name.now c.args.front.now whole c.requires.other longer start (λ early.
      let same : c.in-Err-Fault.fault ≡ Short = fault_is c.in-Err-Fault.fault Short (sym read ∙ early) in
      let equal : c.eq.result ≡ true = rw same at c.eq.ensures in
      let clash : true ≡ false = sym equal ∙ no in
      cc);
}
