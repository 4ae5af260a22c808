use Rattle.std.proofs.Common.{refl, sym, subst}
use Rattle.mi_carry.specs.Segments.{after_segments}
use Rattle.mi_carry.specs.Ends.{Ends}
use Rattle.mi_carry.specs.OneMap.{LeavesOne}
use Rattle.mi_carry.proofs.EndLemmas.{idle_ends, ends_told, ends_one}
use Rattle.mi_carry.proofs.IdleLemmas.{idle_map}
use Rattle.mi_volume.proofs.Moments.{started}
use Rattle.mi_carry.specs.Reached.{IsReached}
use Rattle.mi_carry.proofs.ReachLemmas.{idle_reached}
use Rattle.mi_carry.proofs.carried.carry_out.Goals as goal

pub returns-then-have_no_record-clause-leaves : goal.returns-then-have_no_record-clause-leaves
returns-then-have_no_record-clause-leaves g c = λ told.
    let s = g.V.Volume.state c.args.vol.now in
    let A = after_segments (g.S.Source.files c.args.src.now) s.held c.args.segments.now in
    let none = c.have_no_record.ensures.0 c.if-have_no_record.true in
    (subst (Ends g.S.Source.told s s s.held A c.args.refusal) (sym c.answer.ensures) (idle_ends g.S.Source.told s A c.args.refusal (c.requires.free told) (idle_map _ _ _ none))).leaves

pub returns-then-have_no_record-clause-reads : goal.returns-then-have_no_record-clause-reads
returns-then-have_no_record-clause-reads g c = λ told.
    let s = g.V.Volume.state c.args.vol.now in
    let A = after_segments (g.S.Source.files c.args.src.now) s.held c.args.segments.now in
    let none = c.have_no_record.ensures.0 c.if-have_no_record.true in
    (subst (Ends g.S.Source.told s s s.held A c.args.refusal) (sym c.answer.ensures) (idle_ends g.S.Source.told s A c.args.refusal (c.requires.free told) (idle_map _ _ _ none))).reads

pub returns-then-have_no_record-clause-reached : goal.returns-then-have_no_record-clause-reached
returns-then-have_no_record-clause-reached g c =
    subst (IsReached c.args.refusal c.args.begun c.args.segments.now c.args.begun) (sym c.answer.ensures) (idle_reached c.args.refusal c.args.begun c.args.segments.now)

pub returns-then-have_no_record-clause-commit_begins : goal.returns-then-have_no_record-clause-commit_begins
returns-then-have_no_record-clause-commit_begins g c = λ told. started _ _

pub returns-then-have_no_record-clause-one_map : goal.returns-then-have_no_record-clause-one_map
returns-then-have_no_record-clause-one_map g c = λ told.
    let s = g.V.Volume.state c.args.vol.now in
    let A = after_segments (g.S.Source.files c.args.src.now) s.held c.args.segments.now in
    let none = c.have_no_record.ensures.0 c.if-have_no_record.true in
    (A, λ is. refl, subst (LeavesOne s s s.held A) (sym c.answer.ensures) (ends_one s s s.held A c.args.refusal _ (idle_ends (Unit {0}) s A c.args.refusal (c.requires.free told) (idle_map _ _ _ none))))

pub returns-clause-one_map : goal.returns-clause-one_map
returns-clause-one_map g c = λ told.
    let one = c.work.ensures.ends told in
    (one.after, one.made, ends_one _ _ _ one.after c.args.refusal _ one.ends)

pub returns-clause-stops : goal.returns-clause-stops
returns-clause-stops g c = λ told. (ends_told _ _ _ _ _ _ _ (c.work.ensures.ends told)).stops

pub returns-clause-leaves : goal.returns-clause-leaves
returns-clause-leaves g c = λ told. (ends_told _ _ _ _ _ _ _ (c.work.ensures.ends told)).leaves

pub returns-clause-reads : goal.returns-clause-reads
returns-clause-reads g c = λ told. (ends_told _ _ _ _ _ _ _ (c.work.ensures.ends told)).reads

pub returns-clause-cleans : goal.returns-clause-cleans
returns-clause-cleans g c = λ told. (c.work.ensures.ends told).ends.cleans
