use Rattle.std.proofs.Common.{List, [], ◌∷◌, ◌++◌, ◌+◌, ap, subst, ◌∙◌, arith}
use Rattle.std.proofs.lemmas.Result.{err_from_is_err_and}
use Rattle.mi_text.specs.Maps.{is_among}
use Rattle.mi_volume.specs.Maps.{Exceeds}
use Rattle.mi_undo.specs.Notes.{notes_for, new_names}
use Rattle.mi_undo.specs.Area.{noted_names}
use Rattle.mi_undo.specs.Room.{KeepsRoom, entry_size}
use Rattle.mi_runner.specs.Sizes.{most_held, IsNoLonger}
use Rattle.mi_runner.proofs.SegmentLemmas.{untouched_room}
use Rattle.mi_script.specs.declared.rec.Rec.{Rec}
use Rattle.mi_script.specs.Scripts.{after_script, touched_names}
use Rattle.mi_runner.specs.Faults.{IfDiffers}
use Rattle.mi_runner.specs.Records.{States}
use Rattle.mi_undo.specs.Stands.{outside}
use Rattle.mi_carry.specs.Causes.{Differs}
use Rattle.mi_carry.proofs.CauseLemmas.{run_stopped, one_differs}
use Rattle.mi_carry.proofs.RoomLemmas.{never_over}
use Rattle.mi_carry.proofs.PartLemmas.{one_along, failed_along, still_along}
use Rattle.mi_carry.proofs.parts.carry_part.Goals as goal

pub returns-in_err-script-clause-along : goal.returns-in_err-script-clause-along
returns-in_err-script-clause-along g c = λ t F w.
    let p = err_from_is_err_and c.from_residual.result c.from_residual.ensures.1 in
    rw p.1 (still_along (g.V.Volume.state c.args.area.now.vol.now) c.args.area.now.kept F _ w)

pub returns-in_err-segment-clause-along : goal.returns-in_err-segment-clause-along
returns-in_err-segment-clause-along g c = λ t F w.
    let p = err_from_is_err_and c.from_residual-in_err-segment.result c.from_residual-in_err-segment.ensures.1 in
    rw p.1 (failed_along _ _ _ F _ _ _ (c.in_err-segment.ensures.carries t F w))

pub returns-in_err-segment-clause-stopped : goal.returns-in_err-segment-clause-stopped
returns-in_err-segment-clause-stopped g c =
    let p = err_from_is_err_and c.from_residual-in_err-segment.result c.from_residual-in_err-segment.ensures.1 in
    rw (p.1, p.2) (run_stopped (Differs g.S.Source.told (c.args.part.now ∷ [])) _ (g.V.Volume.state c.args.area.now.vol.now) (g.V.Volume.state c.segment.new.area.vol.now) (g.S.Source.faults c.args.src.now) (g.S.Source.faults c.segment.new.src) c.in_err-segment.field-0.0
    c.in_err-segment.ensures.passes.faults c.in_err-segment.ensures.source_counts c.in_err-segment.ensures.fault
    (λ is fits.
    let full = c.in_err-segment.ensures.full is in
    let start = c.requires.works full.0 in
    let s = g.V.Volume.state c.args.area.now.vol.now in
    never_over s.capacity _ _ (omega arith) (subst (λ (rs : List Rec). Exceeds s.capacity (most_held s.held (noted_names c.args.area.now) rs)) c.in_ok-script.ensures (full.1 start.0 start.1)) (fits full.0))
    c.in_err-segment.ensures.source_fault (one_differs g.S.Source.told c.args.part.now c.in_err-segment.field-0.0 c.in_err-segment.ensures.untold c.in_err-segment.ensures.differs
    (subst (λ (rs : List Rec). IfDiffers c.in_err-segment.field-0.0 (λ file stated found. States rs file stated)) c.in_ok-script.ensures c.in_err-segment.ensures.stated)))

pub returns-clause-along : goal.returns-clause-along
returns-clause-along g c = λ t F w. one_along _ _ _ F _ _ (c.in_ok-segment.ensures.carries t F w)

pub returns-clause-map : goal.returns-clause-map
returns-clause-map g c = λ t s F w.
    c.in_ok-segment.ensures.map t s F w ∙ ap (after_script (g.S.Source.files c.args.src.now) (outside (g.V.Volume.state c.args.area.now.vol.now).held)) c.in_ok-script.ensures

pub returns-in_err-script-clause-room : goal.returns-in_err-script-clause-room
returns-in_err-script-clause-room g c = λ t F n w takes. untouched_room (g.V.Volume.state c.args.area.now.vol.now) F n _ takes

pub returns-in_err-segment-clause-room : goal.returns-in_err-segment-clause-room
returns-in_err-segment-clause-room g c = λ t F n w takes.
    let s = g.V.Volume.state c.args.area.now.vol.now in
    subst (λ (rs : List Rec). KeepsRoom s (g.V.Volume.state c.segment.new.area.vol.now) F (n + entry_size (notes_for s.held (new_names (noted_names c.args.area.now) (touched_names rs))))) c.in_ok-script.ensures (c.in_err-segment.ensures.room t F n w takes)

pub returns-clause-room : goal.returns-clause-room
returns-clause-room g c = λ t F n w takes.
    let s = g.V.Volume.state c.args.area.now.vol.now in
    subst (λ (rs : List Rec). KeepsRoom s (g.V.Volume.state c.segment.new.area.vol.now) F (n + entry_size (notes_for s.held (new_names (noted_names c.args.area.now) (touched_names rs))))) c.in_ok-script.ensures (c.in_ok-segment.ensures.room t F n w takes)

pub returns-clause-noted : goal.returns-clause-noted
returns-clause-noted g c = c.in_ok-segment.ensures.noted ∙ ap (λ (rs : List Rec). noted_names c.args.area.now ++ new_names (noted_names c.args.area.now) (touched_names rs)) c.in_ok-script.ensures

pub returns-clause-others : goal.returns-clause-others
returns-clause-others g c = λ t F w q free. (c.in_ok-segment.ensures.carries t F w).others q (ap (λ (rs : List Rec). is_among q (touched_names rs)) c.in_ok-script.ensures ∙ free)

pub returns-clause-longest : goal.returns-clause-longest
returns-clause-longest g c = λ t F w q.
    let s = g.V.Volume.state c.args.area.now.vol.now in
    subst (λ (rs : List Rec). IsNoLonger s.held rs (g.V.Volume.state c.segment.new.area.vol.now).held q) c.in_ok-script.ensures (c.in_ok-segment.ensures.longest t F w (λ failed. cc) q)
