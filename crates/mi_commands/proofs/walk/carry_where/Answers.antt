use Rattle.std.proofs.Common.{◌≡◌, ℕ, Option, arith, sym, ap, ◌∙◌, subst}
use Rattle.std.specs.Prelude.{length, min}
use Rattle.mi_source.specs.Counts.{Rose}
use Rattle.mi_commands.specs.declared.room.Lack.{Lack}
use Rattle.mi_commands.specs.Replies.{log_in}
use Rattle.mi_commands.specs.Room.{IsLack, Lacks, scripts_in}
use Rattle.mi_commands.specs.Walks.{first_end}
use Rattle.mi_commands.proofs.LookLemmas.{looks_none}
use Rattle.mi_commands.proofs.RoomLemmas.{IsFull, has_room, is_full}
use Rattle.mi_commands.proofs.WalkLemmas.{full_serves}
use Rattle.mi_commands.proofs.walk.carry_where.Goals as goal

pub carry_ready-requires-clause-room : goal.carry_ready-requires-clause-room
carry_ready-requires-clause-room g c = λ v.
    let s = g.V.Volume.state c.args.vol.now in
    subst (λ (r : Option Lack). Lacks s.capacity s.held (scripts_in c.args.ready.segments.items) r) c.in-None.is (c.requires.lacks v)

pub returns-in-None-clause-serves : goal.returns-in-None-clause-serves
returns-in-None-clause-serves g c recorded folder sets given out names settled made begun planned former =
    let s = g.V.Volume.state c.args.vol.now in
    let files = g.S.Source.files c.args.src.now in
    let kept = c.args.ready.segments.items in
    c.carry_ready.ensures.serves recorded folder sets given out names settled made begun
    (λ v told_source.
    let costed = planned v told_source in (
      has_room c.scripts_cost_what_the_walk_needs.ensures files s.capacity s.held given out names kept c.args.refusal costed (former v) (c.requires.there told_source)
          (subst (λ (x : Option Lack). Lacks s.capacity s.held (scripts_in kept) x) c.in-None.is (c.requires.lacks v)),
      costed.whole,
    ))
    former

pub returns-in-Some-clause-serves : goal.returns-in-Some-clause-serves
returns-in-Some-clause-serves g c recorded folder sets given out names settled made begun planned former =
    let s = g.V.Volume.state c.args.vol.now in
    let files = g.S.Source.files c.args.src.now in
    let n = g.S.Source.faults c.args.src.now in
    let kept = c.args.ready.segments.items in
    let missing = c.in-Some.lack in
    let r = c.full.result in
    let reached_is : r.reached ≡ min (first_end kept) (length names) = c.full.ensures.reached ∙ ap (min (first_end kept)) begun in
    full_serves g.V.Volume.told g.S.Source.told recorded folder sets settled (Rose n n) s s out names missing.need missing.free r.reached
    c.requires.free (λ v. looks_none s)
    (λ v told_source.
    let lacks : IsLack s.capacity s.held (scripts_in kept) missing = subst (λ (x : Option Lack). Lacks s.capacity s.held (scripts_in kept) x) c.in-Some.is (c.requires.lacks v) in
    subst (λ (k : ℕ). IsFull out missing.need missing.free names k) (sym reached_is)
    (is_full c.scripts_cost_what_the_walk_needs.ensures files s.capacity s.held given out names kept c.args.refusal (planned v told_source) (former v) (c.requires.there told_source) missing lacks))
    (omega (arith, reached_is)) r.kind (log_in r) c.full.ensures.kind (c.full.ensures.log settled names c.args.refusal made)
