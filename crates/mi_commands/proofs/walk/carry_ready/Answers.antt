use Rattle.std.proofs.Common.{ℕ, List, sym, ap, ◌∙◌, subst}
use Rattle.std.specs.Prelude.{min, length}
use Rattle.mi_carry.specs.Rooms.{HasRoom}
use Rattle.mi_model.specs.Causes.{BelowCount}
use Rattle.mi_model.specs.Plans.{Planned}
use Rattle.mi_model.specs.Planning.{IsPlan}
use Rattle.mi_model.specs.Walk.{walk}
use Rattle.mi_carry.specs.Causes as carried
use Rattle.mi_carry.specs.Causes.{Differs}
use Rattle.mi_commands.specs.Replies.{log_in}
use Rattle.mi_carry.specs.Reached.{IsReached}
use Rattle.mi_carry.proofs.ReachLemmas.{not_none}
use Rattle.mi_commands.proofs.WalkLemmas.{said_serves, may_close, never_suspended}
use Rattle.mi_commands.proofs.walk.carry_ready.Goals as goal

pub returns-clause-serves : goal.returns-clause-serves
returns-clause-serves g c recorded folder sets given out names settled made begun plan former =
    let s = g.V.Volume.state c.args.vol.now in
    let u = g.V.Volume.state c.carry_out-carried.new.vol in
    let files = g.S.Source.files c.args.src.now in
    let f = g.S.Source.faults c.args.src.now in
    let h = g.S.Source.faults c.carry_out-carried.new.src in
    let kind = c.carry_out-carried.result.kind in
    let reached = c.carry_out-carried.result.reached in
    let refusal = c.args.refusal in
    let r = c.answered.result in
    let segments = c.as_slice.result.now in
    let has : g.V.Volume.told → HasRoom s segments = λ v. subst (λ (l : List Planned). HasRoom s l) (sym c.as_slice.ensures.value) (c.requires.room v) in
    let room : Type 0 = g.V.Volume.told → HasRoom s segments in
    let differs : List ℕ → ℕ → ℕ → Type 0 = Differs g.S.Source.told segments in
    let caused : carried.Caused differs room (BelowCount f h) refusal (length names) reached s.faults u.faults kind =
    subst (λ (b : ℕ). carried.Caused differs room (BelowCount f h) refusal b reached s.faults u.faults kind) (c.from.ensures ∙ begun) c.carry_out-carried.ensures.caused in
    said_serves g.V.Volume.told g.S.Source.told recorded folder sets settled f h files s u given out names segments refusal
    (λ v told. ((plan v told).0, subst (λ (l : List Planned). IsPlan files (walk given) names l refusal) (sym c.as_slice.ensures.value) (plan v told).1)) former c.requires.refusal differs (λ file stated size d told. d.untold told) room has
    (λ v. c.carry_out-carried.ensures.recovers v (has v)) reached
    c.carry_out-carried.ensures.passes.faults c.carry_out-carried.ensures.source_counts kind r.kind r.reached (log_in r) c.answered.ensures.says (c.answered.ensures.reached ∙ ap (min reached) begun) caused
    c.carry_out-carried.ensures.stops c.carry_out-carried.ensures.leaves c.carry_out-carried.ensures.reads c.carry_out-carried.ensures.cleans (λ v. let one = c.carry_out-carried.ensures.one_map v in (one.0, one.2))
    (subst (λ (b : ℕ). IsReached refusal b segments reached kind) (c.from.ensures ∙ begun) c.carry_out-carried.ensures.reached)
    (λ pause is. not_none segments (λ none. never_suspended refusal pause (sym is ∙ c.carry_out-carried.ensures.idle_answer none)))
    (c.answered.ensures.log settled names refusal made (may_close differs room (BelowCount f h) refusal (length names) reached s.faults u.faults kind caused))
