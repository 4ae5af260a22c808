use Rattle.std.proofs.Common.{◌≡◌, ◌∙◌, ◌<◌, ℕ, List, length, get_or, refl, sym, ap, arith}
use Rattle.std.proofs.lemmas.Str.{IsCharBoundary-start, IsCharBoundary-after_ascii}
use Rattle.mi_idt.proofs.LineLemmas.{part_cut, part_last, none_more}
use Rattle.mi_idt.proofs.lines.push_fields.Goals as goal
use Rattle.mi_idt.proofs.lines.push_fields.Goals.{then-byte-eq9+in_ok-push, else-byte-eq9}

pub loop-i-init : goal.loop-i-init
loop-i-init c = record { within = omega arith; cut = IsCharBoundary-start c.args.line.now c.utf8.line; none = λ k from below. absurd (omega (arith, below)); same = refl }

pub loop-i-preserved : goal.loop-i-preserved
loop-i-preserved c =
    let line : List ℕ = c.args.line.now in
    let i : ℕ = c.loop-i.i in
    let value = c.as_bytes-byte-items.ensures.value in
    let here : i < length line = omega (arith, c.loop-i-test.true, ap length value) in
    elim c.if-byte-eq9.branch [
      | then-byte-eq9+in_ok-push w ↦
          let tab : get_or line i 0 ≡ 9 = ap (λ (l : List ℕ). get_or l i 0) (sym value) ∙ w.if-byte-eq9.true in
          let cut = part_cut 9 c.loop-i.fields.items w.push.new.self.items _ line c.loop-i.start i c.loop-i.invariant.within here tab c.loop-i.invariant.none w.in_ok-push.ensures.items w.range.ensures.value in
          rw (w.start-is, w.fields-is) record {
            within = omega arith;
            cut = IsCharBoundary-after_ascii line i c.utf8.line here (omega (arith, tab));
            none = λ k from below. absurd (omega (arith, from, below));
            same = cut ∙ c.loop-i.invariant.same;
          }
      | else-byte-eq9 w ↦
          rw (w.start-is, w.fields-is) record {
            within = omega (arith, c.loop-i.invariant.within);
            cut = c.loop-i.invariant.cut;
            none = none_more 9 line c.loop-i.start i c.loop-i.invariant.none (λ is. w.if-byte-eq9.false (ap (λ (l : List ℕ). get_or l i 0) value ∙ is));
            same = c.loop-i.invariant.same;
          }
    ]

pub returns : goal.returns
returns c =
    let end : length c.args.line.now ≡ c.loop-i.i = omega (arith, c.loop-i-test.false, c.loop-i.auto.i-end, ap length c.as_bytes-byte-items.ensures.value) in
    part_last 9 c.loop-i.fields.items c.push-2.new.self.items _ c.args.line.now c.loop-i.start (λ k from below. c.loop-i.invariant.none k from (omega (arith, end, below))) c.in_ok-push-2.ensures.items c.range_from.ensures.value ∙ c.loop-i.invariant.same
