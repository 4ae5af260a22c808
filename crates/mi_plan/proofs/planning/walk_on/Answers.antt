-- Turn by turn.
use Rattle.std.proofs.Common.{Option, refl, ◌∙◌, subst}
use Rattle.mi_base.specs.declared.answers.Cause.{Cause}
use Rattle.std.proofs.lemmas.Result.{err_from_is_err_and}
use Rattle.mi_plan.specs.declared.turn.Turn.{Turn}
use Rattle.mi_plan.specs.declared.turn.Turn.TheVariants.{Went, Ended}
use Rattle.mi_plan.specs.Lengths.{HaveLengths}
use Rattle.mi_plan.specs.Refusals.{EndsRight}
use Rattle.mi_plan.specs.Turns.{IsTurned}
use Rattle.mi_plan.proofs.TurnLemmas.{over_same, lengths_same}
use Rattle.mi_plan.proofs.DeviceLemmas.{asks_none, asks_then, fails_then}
use Rattle.mi_plan.proofs.planning.walk_on.Goals as goal

pub rows-init : goal.rows-init
rows-init g c = record {
  ready = c.requires;
  so_far = λ x v s there so. so;
  lengths = λ s have. have;
  former = refl;
  asks = asks_none g.V.Volume.told (g.V.Volume.state c.args.vol.now) (g.S.Source.files c.args.src.now) (g.S.Source.faults c.args.src.now);
}

pub turn-requires : goal.turn-requires
turn-requires g c = c.rows.invariant.ready

pub rows-preserved : goal.rows-preserved
rows-preserved g c =
    let so_far = c.rows.invariant in
    let now = c.in_ok-turn.ensures in
    record {
      ready = now.ready c.in-Went.is;
      so_far = λ x v s there so.
          over_same (g.V.Volume.state c.args.vol.now).held (g.V.Volume.state c.rows.vol).held (g.S.Source.files c.args.src.now) (g.S.Source.files c.rows.src) x c.rows.work c.turn.new.work c.rows.path c.turn.new.path Went (so_far.asks.looks v).stays.held so_far.asks.files
          (λ at. subst (λ (t : Turn). IsTurned (g.V.Volume.state c.rows.vol).held (g.S.Source.files c.rows.src) x c.turn.new.work c.turn.new.path t) c.in-Went.is (now.turned x v s there at))
          (so_far.so_far x v s there so);
      lengths = λ s have.
          lengths_same (g.S.Source.files c.args.src.now) (g.S.Source.files c.rows.src) c.rows.work c.turn.new.work Went so_far.asks.files
          (λ at. subst (λ (t : Turn). HaveLengths (g.S.Source.files c.rows.src) c.turn.new.work t) c.in-Went.is (now.lengths s at))
          (so_far.lengths s have);
      former = now.former ∙ so_far.former;
      asks = asks_then _ _ _ _ _ _ _ _ _ _ so_far.asks now.asks;
    }

pub rows-smaller : goal.rows-smaller
rows-smaller g c = c.in_ok-turn.ensures.shorter c.in-Went.is

pub returns-in-Ended-clause-planned : goal.returns-in-Ended-clause-planned
returns-in-Ended-clause-planned g c = λ x v s there so.
    let so_far = c.rows.invariant in
    over_same (g.V.Volume.state c.args.vol.now).held (g.V.Volume.state c.rows.vol).held (g.S.Source.files c.args.src.now) (g.S.Source.files c.rows.src) x c.rows.work c.turn.new.work c.rows.path c.turn.new.path (Ended c.in-Ended.why) (so_far.asks.looks v).stays.held so_far.asks.files
    (λ at. subst (λ (t : Turn). IsTurned (g.V.Volume.state c.rows.vol).held (g.S.Source.files c.rows.src) x c.turn.new.work c.turn.new.path t) c.in-Ended.is (c.in_ok-turn.ensures.turned x v s there at))
    (so_far.so_far x v s there so)

pub returns-in-Ended-clause-lengths : goal.returns-in-Ended-clause-lengths
returns-in-Ended-clause-lengths g c = λ s have.
    let so_far = c.rows.invariant in
    lengths_same (g.S.Source.files c.args.src.now) (g.S.Source.files c.rows.src) c.rows.work c.turn.new.work (Ended c.in-Ended.why) so_far.asks.files
    (λ at. subst (λ (t : Turn). HaveLengths (g.S.Source.files c.rows.src) c.turn.new.work t) c.in-Ended.is (c.in_ok-turn.ensures.lengths s at))
    (so_far.lengths s have)

pub returns-in-Ended-clause-former : goal.returns-in-Ended-clause-former
returns-in-Ended-clause-former g c = c.in_ok-turn.ensures.former ∙ c.rows.invariant.former

pub returns-in-Ended-clause-refusal : goal.returns-in-Ended-clause-refusal
returns-in-Ended-clause-refusal g c = subst EndsRight c.in-Ended.is c.in_ok-turn.ensures.ends

pub returns-in-Ended-clause-asks : goal.returns-in-Ended-clause-asks
returns-in-Ended-clause-asks g c = asks_then _ _ _ _ _ _ _ _ _ _ c.rows.invariant.asks c.in_ok-turn.ensures.asks

pub returns-in_err-turn-clause-asks : goal.returns-in_err-turn-clause-asks
returns-in_err-turn-clause-asks g c = asks_then _ _ _ _ _ _ _ _ _ _ c.rows.invariant.asks c.turn.ensures.asks

pub returns-in_err-turn-clause-fails : goal.returns-in_err-turn-clause-fails
returns-in_err-turn-clause-fails g c =
    let p = err_from_is_err_and c.from_residual.result c.from_residual.ensures.1 in
    rw (p.1, p.2) (fails_then Turn (Option Cause) (g.V.Volume.state c.args.vol.now) (g.V.Volume.state c.rows.vol) (g.V.Volume.state c.turn.new.vol) (g.S.Source.faults c.args.src.now) (g.S.Source.faults c.rows.src) (g.S.Source.faults c.turn.new.src) c.in_err-turn.field-0.0 c.rows.invariant.asks.passes c.rows.invariant.asks.counts c.in_err-turn.ensures.fails)
