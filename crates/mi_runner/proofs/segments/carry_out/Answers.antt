use Rattle.std.proofs.Common.{◌+◌, ◌++◌, Contains, List, Err, Ok, refl, sym, ap, subst, ◌∙◌, arith}
use Rattle.std.proofs.lemmas.Result.{err_from_is_err_and}
use Rattle.std.specs.List.{All}
use Rattle.mi_text.specs.Maps.{Name}
use Rattle.mi_volume.specs.Maps.{Map, size, Exceeds}
use Rattle.mi_volume.proofs.Moments.{then_passes, rose_before}
use Rattle.mi_script.specs.declared.rec.Rec.{Rec}
use Rattle.mi_script.specs.Scripts.{name_at, after_script, touched_names}
use Rattle.mi_undo.specs.Notes.{new_names, notes_for}
use Rattle.mi_undo.specs.Stands.{outside}
use Rattle.mi_undo.specs.Area.{entries_for, noted_names, entry_count, place_names}
use Rattle.mi_undo.specs.declared.kept.Kept.{Kept}
use Rattle.mi_undo.specs.Room.{KeepsRoom, entry_size}
use Rattle.mi_runner.specs.Sizes.{growth, AreNoLonger, AreNoLongerButOne}
use Rattle.mi_runner.specs.Steps.{Differs}
use Rattle.mi_runner.specs.Answers.{Carries}
use Rattle.mi_runner.proofs.StepLemmas.{room_then}
use Rattle.mi_runner.proofs.FaultLemmas.{fault_handed, full_handed, op_differs, reads_op}
use Rattle.mi_runner.proofs.RecordLemmas.{all_are_noted}
use Rattle.mi_runner.proofs.SegmentLemmas.{at_most_one, note_full, noted_size, carry_full, not_noted, carries, still_no_longer, all_but_one, no_longer, memory_not_full}
use Rattle.mi_runner.proofs.segments.carry_out.Goals as goal

pub returns-in_err-note-clause-carries : goal.returns-in_err-note-clause-carries
returns-in_err-note-clause-carries g c = λ told F w.
    let p = err_from_is_err_and c.from_residual.result c.from_residual.ensures.1 in
    rw p.1 (not_noted _ _ _ F c.args.script.now _ _ (c.in_err-note.ensures.notes told F w))

pub returns-in_err-note-clause-room : goal.returns-in_err-note-clause-room
returns-in_err-note-clause-room g c = λ told F n w takes.
    subst (λ (l : List Name). KeepsRoom (g.V.Volume.state c.args.area.now.vol.now) (g.V.Volume.state c.note.new.self.vol.now) F (n + entry_size (notes_for (g.V.Volume.state c.args.area.now.vol.now).held (new_names (noted_names c.args.area.now) l))))
    c.requires.names (c.in_err-note.ensures.room told F n w takes)

pub returns-in_err-note-clause-fault : goal.returns-in_err-note-clause-fault
returns-in_err-note-clause-fault g c =
    let p = err_from_is_err_and c.from_residual.result c.from_residual.ensures.1 in
    rw (p.1, p.2) (fault_handed c.in_err-note.field-0.0 c.in_err-note.ensures.fault)

pub returns-in_err-note-clause-full : goal.returns-in_err-note-clause-full
returns-in_err-note-clause-full g c =
    let p = err_from_is_err_and c.from_residual.result c.from_residual.ensures.1 in
    rw (p.1, p.2) (full_handed c.in_err-note.field-0.0 (λ is.
    let over = c.in_err-note.ensures.full is in
    (over.0, λ F w. note_full (g.V.Volume.state c.args.area.now.vol.now).capacity (g.V.Volume.state c.args.area.now.vol.now).held (noted_names c.args.area.now) c.args.names.now c.args.script.now c.requires.names (λ none. memory_not_full c.in_err-note.field-0.0 (c.in_err-note.ensures.all_noted none) is) (over.1 F w))))

pub returns-in_err-note-clause-reads : goal.returns-in_err-note-clause-reads
returns-in_err-note-clause-reads g c =
    let p = err_from_is_err_and c.from_residual.result c.from_residual.ensures.1 in
    rw (p.1, p.2) (reads_op g.S.Source.files g.S.Source.faults c.args.src.now c.args.src.now c.in_err-note.field-0.0 refl (omega arith))

pub returns-in_err-note-clause-differs : goal.returns-in_err-note-clause-differs
returns-in_err-note-clause-differs g c =
    let p = err_from_is_err_and c.from_residual.result c.from_residual.ensures.1 in
    rw (p.1, p.2) (op_differs c.args.script.now c.in_err-note.field-0.0)

pub carry_records-requires-clause-noted : goal.carry_records-requires-clause-noted
carry_records-requires-clause-noted g c = subst (λ (rs : List Rec). All (λ r. Contains (noted_names c.note.new.self) (name_at r)) rs) (sym c.recs.ensures) (all_are_noted c.args.script.now c.args.names.now (noted_names c.args.area.now) (noted_names c.note.new.self) c.requires.names c.in_ok-note.ensures.names)

pub returns-in_err-carry_records-clause-reference : goal.returns-in_err-carry_records-clause-reference
returns-in_err-carry_records-clause-reference g c =
    c.in_err-carry_records.ensures.keeps.reference ∙ c.in_ok-note.ensures.reference

pub returns-in_err-carry_records-clause-live : goal.returns-in_err-carry_records-clause-live
returns-in_err-carry_records-clause-live g c =
    c.in_err-carry_records.ensures.live

pub returns-in_err-carry_records-clause-carries : goal.returns-in_err-carry_records-clause-carries
returns-in_err-carry_records-clause-carries g c =
    λ t F w.
    let notes = c.in_ok-note.ensures.notes t F w in
    let p = err_from_is_err_and c.from_residual-in_err-carry_records.result c.from_residual-in_err-carry_records.ensures.1 in
    rw (p.1, p.2) (subst (λ (rs : List Rec). Carries {T = Unit {0}} (g.V.Volume.state c.args.area.now.vol.now) (g.V.Volume.state c.carry_records.new.area.vol.now) c.carry_records.new.area.kept F rs (Err c.in_err-carry_records.field-0.0)) c.recs.ensures
    (carries g.V.Volume.told g.V.Volume.state c.args.area.now c.note.new.self c.carry_records.new.area F c.recs.result.now notes.goes notes.works notes.outside c.in_err-carry_records.ensures.keeps t (Err c.in_err-carry_records.field-0.0)))

pub returns-in_err-carry_records-clause-room : goal.returns-in_err-carry_records-clause-room
returns-in_err-carry_records-clause-room g c =
    λ t F n w takes.
    let notes = c.in_ok-note.ensures.notes t F w in
    let first = c.in_ok-note.ensures.room t F n w takes in
    subst (λ (l : List Name). KeepsRoom (g.V.Volume.state c.args.area.now.vol.now) (g.V.Volume.state c.carry_records.new.area.vol.now) F (n + entry_size (notes_for (g.V.Volume.state c.args.area.now.vol.now).held (new_names (noted_names c.args.area.now) l)))) c.requires.names
    (room_then g.V.Volume.told g.V.Volume.state (g.V.Volume.state c.args.area.now.vol.now) (g.V.Volume.state c.note.new.self.vol.now) (g.V.Volume.state c.carry_records.new.area.vol.now) F _ c.in_ok-note.ensures.passes.capacity first (c.in_err-carry_records.ensures.keeps.room t F _ notes.works first.takes))

pub returns-in_err-carry_records-clause-passes : goal.returns-in_err-carry_records-clause-passes
returns-in_err-carry_records-clause-passes g c =
    then_passes (g.V.Volume.state c.args.area.now.vol.now) (g.V.Volume.state c.note.new.self.vol.now) (g.V.Volume.state c.carry_records.new.area.vol.now) c.in_ok-note.ensures.passes c.in_err-carry_records.ensures.keeps.passes

pub returns-in_err-carry_records-clause-fault : goal.returns-in_err-carry_records-clause-fault
returns-in_err-carry_records-clause-fault g c =
    let p = err_from_is_err_and c.from_residual-in_err-carry_records.result c.from_residual-in_err-carry_records.ensures.1 in
    rw (p.1, p.2) (λ is. rose_before (g.V.Volume.state c.args.area.now.vol.now) (g.V.Volume.state c.note.new.self.vol.now) (g.V.Volume.state c.carry_records.new.area.vol.now) c.in_ok-note.ensures.passes (c.in_err-carry_records.ensures.rose is))

pub returns-in_err-carry_records-clause-full : goal.returns-in_err-carry_records-clause-full
returns-in_err-carry_records-clause-full g c =
    let p = err_from_is_err_and c.from_residual-in_err-carry_records.result c.from_residual-in_err-carry_records.ensures.1 in
    rw (p.1, p.2) (λ is.
    let over = c.in_err-carry_records.ensures.full is in (
      over.0,
      λ F w.
          carry_full (g.V.Volume.state c.args.area.now.vol.now) (g.V.Volume.state c.note.new.self.vol.now) (noted_names c.args.area.now) c.args.names.now c.args.script.now c.requires.names c.in_ok-note.ensures.passes.capacity (c.in_ok-note.ensures.notes over.0 F w).outside
          (noted_size (g.V.Volume.state c.args.area.now.vol.now) (g.V.Volume.state c.note.new.self.vol.now) (noted_names c.args.area.now) c.args.names.now c.in_ok-note.field-0 (λ none. ap (λ v. (g.V.Volume.state v).held) (c.in_ok-note.ensures.untouched none)) (c.in_ok-note.ensures.adds over.0 F w))
          (subst (λ (rs : List Rec). Exceeds (g.V.Volume.state c.note.new.self.vol.now).capacity (size (g.V.Volume.state c.note.new.self.vol.now).held + growth (outside (g.V.Volume.state c.note.new.self.vol.now).held) rs (touched_names rs))) c.recs.ensures over.1),
    ))

pub returns-in_err-carry_records-clause-reads : goal.returns-in_err-carry_records-clause-reads
returns-in_err-carry_records-clause-reads g c =
    let p = err_from_is_err_and c.from_residual-in_err-carry_records.result c.from_residual-in_err-carry_records.ensures.1 in
    rw (p.1, p.2) (c.in_err-carry_records.ensures.reads)

pub returns-in_err-carry_records-clause-differs : goal.returns-in_err-carry_records-clause-differs
returns-in_err-carry_records-clause-differs g c =
    let p = err_from_is_err_and c.from_residual-in_err-carry_records.result c.from_residual-in_err-carry_records.ensures.1 in
    rw (p.1, p.2) (subst (λ (rs : List Rec). Differs {T = Unit {0}} g.S.Source.told rs (Err c.in_err-carry_records.field-0.0)) c.recs.ensures c.in_err-carry_records.ensures.differs)

pub returns-clause-reference : goal.returns-clause-reference
returns-clause-reference g c =
    c.in_ok-carry_records.ensures.keeps.reference ∙ c.in_ok-note.ensures.reference

pub returns-clause-live : goal.returns-clause-live
returns-clause-live g c =
    c.in_ok-carry_records.ensures.live

pub returns-clause-working : goal.returns-clause-working
returns-clause-working g c =
    c.in_ok-carry_records.ensures.working

pub returns-clause-noted : goal.returns-clause-noted
returns-clause-noted g c =
    ap (λ (k : Kept). place_names k.places.items) c.in_ok-carry_records.ensures.keeps.kept ∙ c.in_ok-note.ensures.names ∙ ap (λ (l : List Name). noted_names c.args.area.now ++ new_names (noted_names c.args.area.now) l) c.requires.names

pub returns-clause-entries : goal.returns-clause-entries
returns-clause-entries g c =
    ap (λ (k : Kept). k.entries) c.in_ok-carry_records.ensures.keeps.kept ∙ c.in_ok-note.ensures.entries ∙ ap (λ (l : List Name). entry_count c.args.area.now + entries_for (new_names (noted_names c.args.area.now) l)) c.requires.names

pub returns-clause-map : goal.returns-clause-map
returns-clause-map g c =
    λ t s F w.
    c.in_ok-carry_records.ensures.map t s ∙ ap (λ (m : Map). after_script (g.S.Source.files c.args.src.now) m c.recs.result.now) (c.in_ok-note.ensures.notes t F w).outside
    ∙ ap (after_script (g.S.Source.files c.args.src.now) (outside (g.V.Volume.state c.args.area.now.vol.now).held)) c.recs.ensures

pub returns-clause-carries : goal.returns-clause-carries
returns-clause-carries g c =
    λ t F w.
    let notes = c.in_ok-note.ensures.notes t F w in
    subst (λ (rs : List Rec). Carries {T = Unit {0}} (g.V.Volume.state c.args.area.now.vol.now) (g.V.Volume.state c.carry_records.new.area.vol.now) c.carry_records.new.area.kept F rs (Ok _)) c.recs.ensures
    (carries g.V.Volume.told g.V.Volume.state c.args.area.now c.note.new.self c.carry_records.new.area F c.recs.result.now notes.goes notes.works notes.outside c.in_ok-carry_records.ensures.keeps t (Ok _))

pub returns-clause-room : goal.returns-clause-room
returns-clause-room g c =
    λ t F n w takes.
    let notes = c.in_ok-note.ensures.notes t F w in
    let first = c.in_ok-note.ensures.room t F n w takes in
    subst (λ (l : List Name). KeepsRoom (g.V.Volume.state c.args.area.now.vol.now) (g.V.Volume.state c.carry_records.new.area.vol.now) F (n + entry_size (notes_for (g.V.Volume.state c.args.area.now.vol.now).held (new_names (noted_names c.args.area.now) l)))) c.requires.names
    (room_then g.V.Volume.told g.V.Volume.state (g.V.Volume.state c.args.area.now.vol.now) (g.V.Volume.state c.note.new.self.vol.now) (g.V.Volume.state c.carry_records.new.area.vol.now) F _ c.in_ok-note.ensures.passes.capacity first (c.in_ok-carry_records.ensures.keeps.room t F _ notes.works first.takes))

pub returns-clause-passes : goal.returns-clause-passes
returns-clause-passes g c =
    then_passes (g.V.Volume.state c.args.area.now.vol.now) (g.V.Volume.state c.note.new.self.vol.now) (g.V.Volume.state c.carry_records.new.area.vol.now) c.in_ok-note.ensures.passes c.in_ok-carry_records.ensures.keeps.passes

pub returns-clause-reads : goal.returns-clause-reads
returns-clause-reads g c =
    c.in_ok-carry_records.ensures.reads

pub returns-clause-differs : goal.returns-clause-differs
returns-clause-differs g c =
    subst (λ (rs : List Rec). Differs {T = Unit {0}} g.S.Source.told rs (Ok _)) c.recs.ensures c.in_ok-carry_records.ensures.differs

pub returns-in_err-note-clause-entries_most : goal.returns-in_err-note-clause-entries_most
returns-in_err-note-clause-entries_most g c = omega (arith, c.in_err-note.ensures.entries_stay)

pub returns-in_err-carry_records-clause-entries_most : goal.returns-in_err-carry_records-clause-entries_most
returns-in_err-carry_records-clause-entries_most g c =
    let kept = ap (λ (k : Kept). k.entries) c.in_err-carry_records.ensures.keeps.kept in
    let most = at_most_one (new_names (noted_names c.args.area.now) c.args.names.now) in
    omega (arith, kept, c.in_ok-note.ensures.entries, most)

pub returns-clause-entries_most : goal.returns-clause-entries_most
returns-clause-entries_most g c =
    let kept = ap (λ (k : Kept). k.entries) c.in_ok-carry_records.ensures.keeps.kept in
    let most = at_most_one (new_names (noted_names c.args.area.now) c.args.names.now) in
    omega (arith, kept, c.in_ok-note.ensures.entries, most)

pub returns-in_err-note-clause-longest : goal.returns-in_err-note-clause-longest
returns-in_err-note-clause-longest g c = λ t F w not_failed. still_no_longer _ _ c.args.script.now (c.in_err-note.ensures.notes t F w).outside

pub returns-in_err-note-clause-longest_but_one : goal.returns-in_err-note-clause-longest_but_one
returns-in_err-note-clause-longest_but_one g c = λ t F w. all_but_one _ _ c.args.script.now (still_no_longer _ _ c.args.script.now (c.in_err-note.ensures.notes t F w).outside)

pub returns-in_err-carry_records-clause-longest : goal.returns-in_err-carry_records-clause-longest
returns-in_err-carry_records-clause-longest g c =
    let p = err_from_is_err_and c.from_residual-in_err-carry_records.result c.from_residual-in_err-carry_records.ensures.1 in
    rw (p.1, p.2) (λ t F w not_failed.
    subst (λ (rs : List Rec). AreNoLonger (g.V.Volume.state c.args.area.now.vol.now).held rs (g.V.Volume.state c.carry_records.new.area.vol.now).held) c.recs.ensures
    (λ q. no_longer _ _ _ c.recs.result.now q (c.in_ok-note.ensures.notes t F w).outside (c.in_err-carry_records.ensures.longest t not_failed q)))

pub returns-in_err-carry_records-clause-longest_but_one : goal.returns-in_err-carry_records-clause-longest_but_one
returns-in_err-carry_records-clause-longest_but_one g c = λ t F w.
    let others = c.in_err-carry_records.ensures.longest_others t in
    subst (λ (rs : List Rec). AreNoLongerButOne (g.V.Volume.state c.args.area.now.vol.now).held rs (g.V.Volume.state c.carry_records.new.area.vol.now).held) c.recs.ensures
    (others.0, λ q ne. no_longer _ _ _ c.recs.result.now q (c.in_ok-note.ensures.notes t F w).outside (others.1 q ne))

pub returns-clause-longest : goal.returns-clause-longest
returns-clause-longest g c = λ t F w not_failed.
    subst (λ (rs : List Rec). AreNoLonger (g.V.Volume.state c.args.area.now.vol.now).held rs (g.V.Volume.state c.carry_records.new.area.vol.now).held) c.recs.ensures
    (λ q. no_longer _ _ _ c.recs.result.now q (c.in_ok-note.ensures.notes t F w).outside (c.in_ok-carry_records.ensures.longest t not_failed q))

pub returns-clause-longest_but_one : goal.returns-clause-longest_but_one
returns-clause-longest_but_one g c = λ t F w.
    let others = c.in_ok-carry_records.ensures.longest_others t in
    subst (λ (rs : List Rec). AreNoLongerButOne (g.V.Volume.state c.args.area.now.vol.now).held rs (g.V.Volume.state c.carry_records.new.area.vol.now).held) c.recs.ensures
    (others.0, λ q ne. no_longer _ _ _ c.recs.result.now q (c.in_ok-note.ensures.notes t F w).outside (others.1 q ne))
