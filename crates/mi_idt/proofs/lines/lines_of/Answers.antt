use Rattle.std.proofs.Common.{◌≡◌, ◌∙◌, ◌++◌, ◌∷◌, List, [], ℕ, map, sym, ap, arith, append-nil}
use Rattle.std.specs.Str.Lines.{lines_of_parts, strip_carriage_return}
use Rattle.std.proofs.lemmas.List.{nil_from_length}
use Rattle.mi_idt.proofs.Basics.{shown}
use Rattle.mi_idt.proofs.LineLemmas.{lines_are, last_dropped, pushed_last}
use Rattle.mi_idt.proofs.lines.lines_of.Goals as goal

pub returns-in_default : goal.returns-in_default
returns-in_default c =
    let none : c.pop.new.self.items ≡ [] = nil_from_length c.pop.new.self.items (omega (arith, c.in_default.ensures.cases.1, c.pop.new.self.ok.0)) in
    let all : c.in_ok-lines.lines.items ≡ [] = c.in_default.ensures.items ∙ append-nil c.pop.new.self.items ∙ none in
    ap shown none ∙ ap lines_of_parts (sym (ap shown all) ∙ c.in_ok-lines.ensures)

pub returns-then-is_empty : goal.returns-then-is_empty
returns-then-is_empty c =
    c.drop_returns.ensures ∙ sym (last_dropped (map strip_carriage_return (shown c.pop.new.self.items)) c.in-Some.last.now (sym c.is_empty.ensures ∙ c.if-is_empty.true))
    ∙ lines_are c.pop.new.self.items c.in-Some.last c.in_ok-lines.lines.items c.args.bytes.now c.in-Some.ensures.items c.in_ok-lines.ensures

pub returns : goal.returns
returns c =
    pushed_last c.drop_returns.new.lines.items c.push.new.self.items c.in-Some.last c.in_ok-push.ensures.items (sym c.is_empty.ensures ∙ c.if-is_empty.false)
    ∙ ap (λ (xs : List (List ℕ)). xs ++ lines_of_parts (c.in-Some.last.now ∷ [])) c.drop_returns.ensures
    ∙ lines_are c.pop.new.self.items c.in-Some.last c.in_ok-lines.lines.items c.args.bytes.now c.in-Some.ensures.items c.in_ok-lines.ensures
