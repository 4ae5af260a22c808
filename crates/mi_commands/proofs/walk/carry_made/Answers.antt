use Rattle.std.proofs.Common.{◌≡◌, ℕ, Option, Ok, Err, true, refl, sym, ap, ◌∙◌, subst}
use Rattle.std.specs.Prelude.{map}
use Rattle.mi_source.specs.Counts.{Rose}
use Rattle.mi_base.specs.declared.answers.Kind.{Kind}
use Rattle.mi_base.specs.Machine.{machine_of}
use Rattle.mi_model.specs.Outcome.{free_room}
use Rattle.mi_model.specs.Words.{Package}
use Rattle.mi_plan.specs.Made.{as_planned}
use Rattle.mi_commands.specs.Answers.{IsTold}
use Rattle.mi_commands.specs.Calls.{IsCosted}
use Rattle.mi_commands.specs.Replies.{Replies, log_in}
use Rattle.mi_commands.proofs.BeforeLemmas.{serves_from}
use Rattle.mi_commands.proofs.EndLemmas.{free_looks}
use Rattle.mi_commands.proofs.LookLemmas.{looks_so}
use Rattle.mi_commands.proofs.RoomLemmas.{lacks_then, spelled_twice}
use Rattle.mi_commands.proofs.ServeLemmas.{unscanned_serves}
use Rattle.mi_commands.proofs.walk.carry_made.Goals as goal

pub carry_where-requires-clause-free : goal.carry_where-requires-clause-free
carry_where-requires-clause-free g c = λ v. free_looks _ _ (c.requires.free v) (looks_so _ _ (c.in-Ok.ensures.looks v))

pub carry_where-requires-clause-lacks : goal.carry_where-requires-clause-lacks
carry_where-requires-clause-lacks g c = λ v.
    let s = g.V.Volume.state c.args.vol.now in
    let t = g.V.Volume.state c.lacking.new.vol in
    lacks_then s t (map as_planned c.args.planned.items) c.args.ready.segments.items c.in-Ok.lack c.requires.same (c.in-Ok.ensures.looks v).stays.held c.in-Ok.ensures.passes.capacity (c.in-Ok.ensures.lacks v)

pub returns-in-Ok-clause-serves : goal.returns-in-Ok-clause-serves
returns-in-Ok-clause-serves g c recorded folder sets given out names made begun planned former =
    let s = g.V.Volume.state c.args.vol.now in
    let t = g.V.Volume.state c.lacking.new.vol in
    let u = g.V.Volume.state c.carry_where.new.vol in
    let files = g.S.Source.files c.args.src.now in
    let command = Package recorded folder sets in
    let told = IsTold g.V.Volume.told g.S.Source.told (Ok command) in
    let fails = Rose (g.S.Source.faults c.args.src.now) (g.S.Source.faults c.carry_where.new.src) in
    let kept = c.args.ready.segments.items in
    let r = c.carry_where.result in
    serves_from g.V.Volume.told told told (λ x. x) (λ x. x.0) s t u out out command (λ x. x ≡ c.args.settled) fails fails (λ x. x) r.kind r.reached (log_in r)
    c.requires.free (λ v. looks_so s t (c.in-Ok.ensures.looks v)) c.in-Ok.ensures.passes c.carry_where.ensures.passes (λ v. refl)
    (c.carry_where.ensures.serves recorded folder sets given out names c.args.settled made begun
    (λ v told_source.
    subst (λ (room : Option ℕ). IsCosted files room given out names kept c.args.refusal)
    (ap (λ (x : Option ℕ). free_room x s.held) (sym c.in-Ok.ensures.passes.capacity) ∙ ap (free_room t.capacity) (sym (c.in-Ok.ensures.looks v).stays.held))
    (planned v told_source))
    (λ v. former v ∙ sym (c.in-Ok.ensures.looks v).stays.held))

pub returns-in-Err-clause-serves : goal.returns-in-Err-clause-serves
returns-in-Err-clause-serves g c recorded folder sets given out names made begun planned former =
    let s = g.V.Volume.state c.args.vol.now in
    let t = g.V.Volume.state c.lacking.new.vol in
    let n = g.S.Source.faults c.args.src.now in
    let command = Package recorded folder sets in
    unscanned_serves g.V.Volume.told (IsTold g.V.Volume.told g.S.Source.told (Ok command)) (λ x. x.0) s t out c.args.settled command (Rose n n)
    c.in-Err.error c.logged.result c.requires.free (λ v. looks_so s t (c.in-Err.ensures.looks v))
    (λ v name is. absurd (spelled_twice (machine_of s.held) name (c.requires.spelled v) (c.in-Err.ensures.bad v name (ap Err is)))) (λ is. c.in-Err.ensures.fault (ap Err is))
    (subst (λ (k : Kind). Replies true c.args.settled k c.logged.result) c.unscanned.ensures c.logged.ensures)
