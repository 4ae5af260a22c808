use Rattle.std.proofs.Common.{◌≡◌, ◌∙◌, ◌<◌, ◌≤◌, ℕ, List, length, map, set, get_or, refl, sym, ap, arith, Bor}
use Rattle.std.specs.Str.Lines.{strip_carriage_return}
use Rattle.std.proofs.lemmas.List.{length-set, take_all, get_or_default}
use Rattle.mi_idt.proofs.Basics.{shown}
use Rattle.mi_idt.proofs.LineLemmas.{dropped_more}
use Rattle.mi_idt.proofs.lines.drop_returns.Goals as goal

pub loop-i-preserved : goal.loop-i-preserved
loop-i-preserved c =
    let lines : List (Bor (List ℕ)) = c.loop-i.lines.items in
    let before : List (Bor (List ℕ)) = c.args.lines.now.items in
    let line : Bor (List ℕ) = c.without_return.result in
    let long : length lines ≡ length before = c.loop-i.invariant.long in
    let there : c.loop-i.i < length before = omega (arith, c.loop-i-test.true, c.len-i-end.ensures, c.args.lines.now.ok.0) in
    let here : c.loop-i.i < length lines = omega (arith, long, there) in
    let dropped : line.now ≡ strip_carriage_return (get_or lines c.loop-i.i line).now = c.without_return.ensures ∙ ap (λ (b : Bor (List ℕ)). strip_carriage_return b.now) (c.index.ensures ∙ get_or_default lines c.loop-i.i c.index.result.now line here) in
    let more = dropped_more lines before (set lines c.loop-i.i line) c.loop-i.i line here there c.loop-i.invariant.front c.loop-i.invariant.back refl dropped in
    record { long = length-set lines c.loop-i.i line ∙ long; front = more.0; back = more.1 }

pub returns : goal.returns
returns c =
    let long : length c.loop-i.lines.items ≡ length c.args.lines.now.items = c.loop-i.invariant.long in
    let end : length c.args.lines.now.items ≤ c.loop-i.i = omega (arith, c.loop-i-test.false, c.len-i-end.ensures, c.args.lines.now.ok.0) in
    sym (ap shown (take_all c.loop-i.i c.loop-i.lines.items (omega (arith, long, end)))) ∙ c.loop-i.invariant.front ∙ ap (λ (ls : List (Bor (List ℕ))). map strip_carriage_return (shown ls)) (take_all c.loop-i.i c.args.lines.now.items end)
