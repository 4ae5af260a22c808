use Rattle.std.proofs.Common.{map, sym, ap, ◌∙◌, ◌++◌}
use Rattle.std.specs.Map.Iter.{deref_pair}
use Rattle.std.proofs.lemmas.List.{append-nil}
use Rattle.std.proofs.lemmas.Map.Iter.{rest_more, rest_all}
use Rattle.mi_wishes.specs.declared.choice.FeatureChoice.{FeatureChoice}
use Rattle.mi_select.specs.Selections.{as_named, names_that}
use Rattle.mi_select.proofs.LookLemmas.{names_more}
use Rattle.mi_select.proofs.selection.local_names.Goals as goal

pub loop-name-preserved : goal.loop-name-preserved
loop-name-preserved c =
    names_more (λ (f : FeatureChoice). f.local_after) c.loop-name.names.items c.push_local.new.names.items _ c.loop-name.name-iterator c.next.new.self (c.in-Some.name.now, c.in-Some.choice.now) c.loop-name.invariant
    (rest_more deref_pair c.loop-name.name-iterator c.next.new.self c.next.result (c.in-Some.name, c.in-Some.choice) c.in-Some.is c.next.ensures.steps)
    c.in_ok-push_local.ensures

pub returns : goal.returns
returns c =
    let end = rest_all deref_pair c.loop-name.name-iterator c.next.new.self c.next.result c.in-None.is c.next.ensures.steps in
    sym (append-nil c.loop-name.names.items) ∙ sym (ap (λ l. c.loop-name.names.items ++ names_that (λ (f : FeatureChoice). f.local_after) (map as_named l)) end) ∙ c.loop-name.invariant
