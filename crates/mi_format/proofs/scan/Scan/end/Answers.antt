use Rattle.std.proofs.Common.{◌≡◌, [], refl, sym}
use Rattle.mi_format.proofs.MarkLemmas.{none_left}
use Rattle.mi_format.proofs.StepLemmas.{end_more, end_all}
use Rattle.mi_format.proofs.scan.Scan.end.Goals as goal

pub loop-mark-init : goal.loop-mark-init
loop-mark-init c = λ L full e. (full, e, refl)

pub loop-mark-preserved : goal.loop-mark-preserved
loop-mark-preserved c = λ L full e.
    end_more L c.args.most c.loop-mark.marks.items c.pop.new.self.items c.in-Some.mark c.loop-mark.current c.in_ok-before.before c.in_ok-current.current c.open_char.result full
    c.in-Some.ensures.items c.open_char.ensures c.in_ok-before.ensures c.in_ok-current.ensures (c.loop-mark.invariant L full e)

pub returns : goal.returns
returns c = λ L full e.
    let none : c.loop-mark.marks.items ≡ [] = none_left c.loop-mark.marks.items c.loop-mark.marks.len (sym c.loop-mark.marks.ok.0) c.in_default.ensures.cases.0 in
    end_all L c.args.most c.loop-mark.marks.items c.loop-mark.current full none (c.loop-mark.invariant L full e)
