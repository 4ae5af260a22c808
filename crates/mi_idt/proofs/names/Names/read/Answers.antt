use Rattle.std.proofs.Common.{◌∙◌, sym}
use Rattle.mi_idt.proofs.NameLemmas.{index_next, names_go_on}
use Rattle.mi_idt.proofs.names.Names.read.Goals as goal

pub loop-i-preserved : goal.loop-i-preserved
loop-i-preserved c =
    let fresh = sym c.contains_key.ensures ∙ c.if-contains_key.false in
    record {
      indexed = index_next c.loop-i.places c.insert.new.self c.deref-name-items.result.now c.loop-i.i _ c.loop-i-test.true c.loop-i.invariant.indexed fresh c.in_ok-insert.ensures.updates;
      faults = sym (names_go_on c.loop-i.places c.deref-name-items.result.now c.loop-i.i _ c.loop-i-test.true c.loop-i.invariant.indexed (sym c.is_empty.ensures ∙ c.if-is_empty.false) fresh) ∙ c.loop-i.invariant.faults;
    }
