use Rattle.std.proofs.Common.{◌≡◌, ◌-◌, List, ℕ, [], ◌++◌, Option, take, drop, sym, ap, subst, ◌∙◌, arith}
use Rattle.std.specs.FinMap.{get}
use Rattle.mi_volume.specs.Maps.{bytes_or_none}
use Rattle.mi_volume.specs.declared.volume.TheConstants.{PIECE}
use Rattle.mi_undo.specs.Notes.{old_bytes}
use Rattle.mi_undo.specs.Steps.{Adds}
use Rattle.mi_undo.proofs.AddLemmas.{added_get}
use Rattle.mi_undo.proofs.GatherLemmas.{gathers_as, gathers_then, gathers_added, written_of, nothing_left, whole_old}
use Rattle.mi_undo.proofs.gather.append_old.Goals as goal

pub returns-in_err-make_room-clause-gathers : goal.returns-in_err-make_room-clause-gathers
returns-in_err-make_room-clause-gathers g c = λ told ne long before is.
    let r = c.from_residual in
    gathers_as (g.V.Volume.state c.args.vol.now) (g.V.Volume.state c.make_room.new.vol) c.args.entry.now before c.args.pending.now [] _ _ _ r.result c.in_err-make_room.field-0.0
    (c.in_err-make_room.ensures.gathers told before is) r.ensures.1 r.ensures.0 (omega arith)

pub returns-clause-gathers : goal.returns-clause-gathers
returns-clause-gathers g c = λ told ne long before is.
    let s = g.V.Volume.state c.args.vol.now in
    let t = g.V.Volume.state c.make_room.new.vol in
    let u = g.V.Volume.state c.append_span.new.vol in
    let room = c.in_ok-make_room.ensures.gathers told before is in
    let nothing = nothing_left c.make_room.new.pending PIECE c.in_ok-make_room.ensures.room in
    let other = room.only.others c.args.name.now (λ e. ne (sym e)) in
    let none : c.args.len - 0 ≡ c.args.len = omega arith in
    let old : take (c.args.len - 0) (drop 0 (bytes_or_none (get t.held c.args.name.now))) ≡ old_bytes (get s.held c.args.name.now) =
    ap (λ (k : ℕ). take k (bytes_or_none (get t.held c.args.name.now))) none ∙ ap (λ (o : Option (List ℕ)). take c.args.len (bytes_or_none o)) other ∙ whole_old (get s.held c.args.name.now) c.args.len long in
    gathers_then s t u c.args.entry.now before c.args.pending.now [] c.make_room.new.pending (old_bytes (get s.held c.args.name.now)) c.make_room.new.pending _ c.append_span.result room
    (gathers_added t u c.args.entry.now (before ++ room.ok.0) c.make_room.new.pending (old_bytes (get s.held c.args.name.now)) c.make_room.new.pending c.append_span.result nothing nothing
    (subst (λ (l : List ℕ). Adds c.args.entry.now (before ++ room.ok.0) l t u c.append_span.result) old
    (c.append_span.ensures.adds told (λ e. ne (sym e)) (before ++ room.ok.0) (added_get s t c.args.entry.now before room.ok.0 (written_of s t c.args.entry.now before c.args.pending.now [] c.make_room.new.pending _ room)))))
