use Rattle.std.proofs.Common.{◌≡◌, ◌++◌, List, ℕ, Option, Some, None, sym, ap, subst, ◌∙◌}
use Rattle.std.specs.Prelude.{option_map, is_some}
use Rattle.std.proofs.lemmas.Result.{on_ok_weaker, on_err_weaker}
use Rattle.mi_text.specs.Maps.{Name}
use Rattle.mi_volume.specs.Slots.{Sets, at_name}
use Rattle.mi_volume.proofs.SlotLemmas.{sets_through, sets_same, same_names}
use Rattle.mi_volume.proofs.held.extend_held.Goals as goal

pub returns-in-Some-clause-ok : goal.returns-in-Some-clause-ok
returns-in-Some-clause-ok c =
    on_ok_weaker c.extend.result (λ ok.
    subst (λ (o : Option (List ℕ)). Sets c.args.name.now o c.args.held.now.entries (c.get_mut.follows.lender c.extend.new.self).entries)
    (ap Some ok ∙ ap (option_map (λ (b : List ℕ). b ++ c.args.bytes.now)) c.in-Some.ensures.value)
    (sets_through c.args.held.now (c.get_mut.follows.lender c.extend.new.self) c.args.name.now c.in-Some.held.now c.extend.new.self c.in-Some.ensures.value (c.get_mut.follows.holds c.extend.new.self)))
    c.extend.ensures.ok

pub returns-in-Some-clause-err : goal.returns-in-Some-clause-err
returns-in-Some-clause-err c =
    on_err_weaker c.extend.result (λ err.
    subst (λ (o : Option (List ℕ)). Sets c.args.name.now o c.args.held.now.entries (c.get_mut.follows.lender c.extend.new.self).entries)
    (ap Some err ∙ c.in-Some.ensures.value)
    (sets_through c.args.held.now (c.get_mut.follows.lender c.extend.new.self) c.args.name.now c.in-Some.held.now c.extend.new.self c.in-Some.ensures.value (c.get_mut.follows.holds c.extend.new.self)))
    c.extend.ensures.err

pub returns-in-Some-clause-names : goal.returns-in-Some-clause-names
returns-in-Some-clause-names c =
    same_names c.args.held.now.entries (c.get_mut.follows.lender c.extend.new.self).entries c.args.name.now c.in-Some.held.now c.extend.new.self c.in-Some.ensures.value
    (sets_through c.args.held.now (c.get_mut.follows.lender c.extend.new.self) c.args.name.now c.in-Some.held.now c.extend.new.self c.in-Some.ensures.value (c.get_mut.follows.holds c.extend.new.self))

pub returns-in-None-clause-ok : goal.returns-in-None-clause-ok
returns-in-None-clause-ok c =
    let none : None ≡ at_name c.args.held.now.entries c.args.name.now = c.in-None.ensures.value in
    subst (λ (es : List (Name × List ℕ)). Sets c.args.name.now (option_map (λ (b : List ℕ). b ++ c.args.bytes.now) (at_name c.args.held.now.entries c.args.name.now)) c.args.held.now.entries es)
    (sym (ap (λ m. m.entries) c.get_mut.follows.holds-at-none))
    (sets_same c.args.held.now.entries c.args.name.now _ (ap (option_map (λ (b : List ℕ). b ++ c.args.bytes.now)) (sym none) ∙ none))

pub returns-in-None-clause-names : goal.returns-in-None-clause-names
returns-in-None-clause-names c q = ap (λ m. is_some (at_name m.entries q)) c.get_mut.follows.holds-at-none
