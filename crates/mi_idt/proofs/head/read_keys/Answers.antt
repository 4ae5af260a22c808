use Rattle.std.proofs.Common.{◌≡◌, ◌∙◌, sym, subst, ◌++◌, [], ◌∷◌}
use Rattle.mi_idt.specs.Steps.{IsFirst}
use Rattle.mi_idt.proofs.HeadLemmas.{stops_here, goes_on, places_go_on}
use Rattle.mi_idt.proofs.head.read_keys.Goals as goal

pub returns-in-None : goal.returns-in-None
returns-in-None c =
    let here = stops_here _ c.loop-key.places.items c.args.keys.now c.loop-key.key-index _ c.loop-key-test.true (rw c.deref.ensures.value at c.in-None.ensures) in
    subst (IsFirst c.wrong_key.result) (sym here ∙ c.loop-key.invariant.faults) c.wrong_key.ensures

pub loop-key-preserved : goal.loop-key-preserved
loop-key-preserved c =
    let place = c.in-Some.ensures.0 in
    let fresh = rw c.deref.ensures.value at c.in-Some.ensures.1 in
    let pushed : c.push.new.self.items ≡ c.loop-key.places.items ++ c.in-Some.place ∷ [] = c.in_ok-push-in-Some.ensures.items in
    rw pushed (record {
      faults = sym (goes_on _ c.loop-key.places.items c.args.keys.now c.loop-key.key-index _ c.in-Some.place c.loop-key-test.true place fresh) ∙ c.loop-key.invariant.faults;
      read = sym (places_go_on _ c.loop-key.places.items c.args.keys.now c.loop-key.key-index _ c.in-Some.place c.loop-key-test.true place) ∙ c.loop-key.invariant.read;
    })
