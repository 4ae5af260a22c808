-- A close that closes nothing, and one that closes a group.
use Rattle.std.proofs.Common.{◌≡◌, List, ap, ◌∙◌, rules, arith}
use Rattle.std.specs.Prelude.{encode_utf8}
use Rattle.std.proofs.lemmas.Grind.{common_steps}
use Rattle.mi_format.specs.declared.scan.OpenMark.{OpenMark}
use Rattle.mi_format.specs.State.{plain}
use Rattle.mi_format.specs.Kept.{kept_beside}
use Rattle.mi_format.specs.Marks.{frames_of, state_of}
use Rattle.mi_format.proofs.StepLemmas.{at, mismatch_kept, group_kept, if_ok_along}
use Rattle.mi_format.proofs.scan.Scan.close.Goals as goal

pub returns-then-ne : goal.returns-then-ne
returns-then-ne g c = λ full r e.
    let L = g.E.Env.lookups c.args.env.now in
    let other : c.in-Some.mark.kind ≡ c.args.kind → ⊥ = λ same. first_of (search rules, grind (arith, common_steps)) in
    if_ok_along c.text-then-ne.result (λ s. state_of s) _ _
    (ap (λ (os : List OpenMark). at (frames_of os) (kept_beside c.args.room.most c.args.self.current (plain (encode_utf8 c.close_char-then-ne.result)))) c.in_ok-push.ensures.items
    ∙ mismatch_kept L c.args.room.most c.args.kind c.close_char-then-ne.result c.args.self.marks.items c.pop.new.self.items c.in-Some.mark c.args.self.current full c.in-Some.ensures.items c.close_char-then-ne.ensures other e)
    c.text-then-ne.ensures

pub returns : goal.returns
returns g c = λ full r e.
    let L = g.E.Env.lookups c.args.env.now in
    let same : c.in-Some.mark.kind ≡ c.args.kind = first_of (search rules, grind (arith, common_steps)) in
    group_kept L c.args.room.most c.args.kind c.args.self.marks.items c.pop.new.self.items c.in-Some.mark c.args.self.current c.in_ok-current.current full c.in-Some.ensures.items same e
    (λ q p f g. c.in_ok-current.ensures q p r f g)
