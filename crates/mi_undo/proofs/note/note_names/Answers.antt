use Rattle.std.proofs.Common.{◌≡◌, ℕ, ◌+◌, List, ◌++◌, length, refl, sym, ap, subst, ◌∙◌, arith}
use Rattle.std.proofs.lemmas.List.{append-nil}
use Rattle.std.proofs.lemmas.Result.{on_ok_weaker}
use Rattle.mi_undo.specs.Notes.{new_names, notes_for, spelled}
use Rattle.mi_undo.specs.Area.{Knows, AreOutside, place_names, entries_for}
use Rattle.mi_undo.specs.Steps.{AddsBytes}
use Rattle.mi_undo.proofs.FaultLemmas.{memory_not_full}
use Rattle.mi_undo.proofs.EnterLemmas.{adds_nothing}
use Rattle.mi_undo.specs.Entry.{AreGood}
use Rattle.mi_undo.proofs.FreshLemmas.{good_outside, nothing_new, one_entry, some_new, fresh_are_new, knows_same}
use Rattle.mi_undo.proofs.AreaLemmas.{unwritten, noted_before}
use Rattle.mi_undo.specs.Room.{KeepsRoom, entry_size}
use Rattle.mi_undo.proofs.AreaRoom.{room_start, some_size}
use Rattle.mi_undo.proofs.note.note_names.Goals as goal

pub note_fresh-requires : goal.note_fresh-requires
note_fresh-requires g c = record { few = c.requires.few; outside = subst AreOutside (sym c.as_slice-fresh.ensures.value) (good_outside _ c.in_ok-fresh.ensures.good) }

pub returns-in_err-fresh-clause-notes : goal.returns-in_err-fresh-clause-notes
returns-in_err-fresh-clause-notes g c = λ told F w. unwritten (g.V.Volume.state c.args.vol.now) c.args.kept.now _ F w refl _ refl refl c.from_residual.ensures.0

pub returns-then-is_empty-clause-knows : goal.returns-then-is_empty-clause-knows
returns-then-is_empty-clause-knows g c =
    let known = place_names c.args.kept.now.places.items in
    let none = sym (c.in_ok-fresh.ensures.fresh known c.requires.knows) ∙ (sym c.as_slice-fresh.ensures.value ∙ nothing_new c.as_slice-fresh.result.now c.if-is_empty.ensures) in
    subst (λ (l : List (List ℕ)). Knows c.fresh_names.new.seen l) (ap (λ (l : List (List ℕ)). known ++ l) none ∙ append-nil known) (c.in_ok-fresh.ensures.knows known c.requires.knows)

pub returns-then-is_empty-clause-names : goal.returns-then-is_empty-clause-names
returns-then-is_empty-clause-names g c =
    let known = place_names c.args.kept.now.places.items in
    let none = sym (c.in_ok-fresh.ensures.fresh known c.requires.knows) ∙ (sym c.as_slice-fresh.ensures.value ∙ nothing_new c.as_slice-fresh.result.now c.if-is_empty.ensures) in
    sym (ap (λ (l : List (List ℕ)). known ++ l) none ∙ append-nil known)

pub returns-then-is_empty-clause-notes : goal.returns-then-is_empty-clause-notes
returns-then-is_empty-clause-notes g c = λ told F w. noted_before (g.V.Volume.state c.args.vol.now) c.args.kept.now _ F w refl refl refl refl

pub returns-clause-knows : goal.returns-clause-knows
returns-clause-knows g c =
    let known = place_names c.args.kept.now.places.items in
    let are = c.as_slice-fresh.ensures.value ∙ c.in_ok-fresh.ensures.fresh known c.requires.knows in
    on_ok_weaker c.note_fresh.result
    (λ names. subst (λ (l : List (List ℕ)). Knows c.note_fresh.new.kept.seen l) (sym (names ∙ ap (λ (l : List (List ℕ)). known ++ l) are))
    (knows_same _ _ _ c.note_fresh.ensures.seen (c.in_ok-fresh.ensures.knows known c.requires.knows)))
    c.note_fresh.ensures.names

pub returns-clause-names : goal.returns-clause-names
returns-clause-names g c =
    let known = place_names c.args.kept.now.places.items in
    let are = c.as_slice-fresh.ensures.value ∙ c.in_ok-fresh.ensures.fresh known c.requires.knows in
    on_ok_weaker c.note_fresh.result (λ names. names ∙ ap (λ (l : List (List ℕ)). known ++ l) are) c.note_fresh.ensures.names

pub returns-clause-notes : goal.returns-clause-notes
returns-clause-notes g c = λ told F w.
    let known = place_names c.args.kept.now.places.items in
    let are = c.as_slice-fresh.ensures.value ∙ c.in_ok-fresh.ensures.fresh known c.requires.knows in
    c.note_fresh.ensures.notes told F (record { parts = w.parts; is_open = w.is_open; placed = w.placed; numbers = w.numbers; entries = w.entries; area = w.area; marker = w.marker })
    (fresh_are_new (g.V.Volume.state c.args.vol.now).held c.args.kept.now.places.items c.args.names.now c.as_slice-fresh.result.now are (subst AreGood (sym c.as_slice-fresh.ensures.value) c.in_ok-fresh.ensures.good))

pub returns-in_err-fresh-clause-adds : goal.returns-in_err-fresh-clause-adds
returns-in_err-fresh-clause-adds g c = λ told F w some. adds_nothing _ (g.V.Volume.state c.args.vol.now) (g.V.Volume.state c.args.vol.now) _ (omega arith) c.from_residual.ensures.0 (memory_not_full _ c.from_residual.ensures.1)

pub returns-then-is_empty-clause-adds : goal.returns-then-is_empty-clause-adds
returns-then-is_empty-clause-adds g c = λ told F w some.
    absurd (some (sym (c.in_ok-fresh.ensures.fresh (place_names c.args.kept.now.places.items) c.requires.knows) ∙ (sym c.as_slice-fresh.ensures.value ∙ nothing_new c.as_slice-fresh.result.now c.if-is_empty.ensures)))

pub returns-then-is_empty-clause-entries : goal.returns-then-is_empty-clause-entries
returns-then-is_empty-clause-entries g c =
    let none = sym (c.in_ok-fresh.ensures.fresh (place_names c.args.kept.now.places.items) c.requires.knows) ∙ (sym c.as_slice-fresh.ensures.value ∙ nothing_new c.as_slice-fresh.result.now c.if-is_empty.ensures) in
    let e : entries_for (new_names (place_names c.args.kept.now.places.items) c.args.names.now) ≡ 0 = ap entries_for none in
    omega (arith, e)

pub returns-clause-entries : goal.returns-clause-entries
returns-clause-entries g c =
    let known = place_names c.args.kept.now.places.items in
    let are = c.as_slice-fresh.ensures.value ∙ c.in_ok-fresh.ensures.fresh known c.requires.knows in
    let e : entries_for (new_names known c.args.names.now) ≡ 1 = ap entries_for (sym are) ∙ one_entry c.as_slice-fresh.result.now c.if-is_empty.ensures in
    on_ok_weaker c.note_fresh.result (λ one. omega (arith, one, e)) c.note_fresh.ensures.entries

pub returns-clause-all_noted : goal.returns-clause-all_noted
returns-clause-all_noted g c = λ none.
    let known = place_names c.args.kept.now.places.items in
    let are = c.as_slice-fresh.ensures.value ∙ c.in_ok-fresh.ensures.fresh known c.requires.knows in
    absurd (some_new c.as_slice-fresh.result.now c.if-is_empty.ensures (are ∙ none))

pub returns-clause-untouched : goal.returns-clause-untouched
returns-clause-untouched g c = λ none.
    let known = place_names c.args.kept.now.places.items in
    let are = c.as_slice-fresh.ensures.value ∙ c.in_ok-fresh.ensures.fresh known c.requires.knows in
    absurd (some_new c.as_slice-fresh.result.now c.if-is_empty.ensures (are ∙ none))

pub returns-clause-adds : goal.returns-clause-adds
returns-clause-adds g c = λ told F w some.
    let s = g.V.Volume.state c.args.vol.now in
    let known = place_names c.args.kept.now.places.items in
    let are = c.as_slice-fresh.ensures.value ∙ c.in_ok-fresh.ensures.fresh known c.requires.knows in
    subst (λ (l : List (List ℕ)). AddsBytes (25 + length (spelled (notes_for s.held l))) s (g.V.Volume.state c.note_fresh.new.vol) c.note_fresh.result) are
    (c.note_fresh.ensures.adds told F (record { parts = w.parts; is_open = w.is_open; placed = w.placed; numbers = w.numbers; entries = w.entries; area = w.area; marker = w.marker })
    (fresh_are_new s.held c.args.kept.now.places.items c.args.names.now c.as_slice-fresh.result.now are (subst AreGood (sym c.as_slice-fresh.ensures.value) c.in_ok-fresh.ensures.good)))

pub returns-in_err-fresh-clause-room : goal.returns-in_err-fresh-clause-room
returns-in_err-fresh-clause-room g c = λ told F n w takes. room_start (g.V.Volume.state c.args.vol.now) F n _ takes (omega arith)

pub returns-then-is_empty-clause-room : goal.returns-then-is_empty-clause-room
returns-then-is_empty-clause-room g c = λ told F n w takes. room_start (g.V.Volume.state c.args.vol.now) F n _ takes (omega arith)

pub returns-clause-room : goal.returns-clause-room
returns-clause-room g c = λ told F n w takes.
    let s = g.V.Volume.state c.args.vol.now in
    let known = place_names c.args.kept.now.places.items in
    let are = c.as_slice-fresh.ensures.value ∙ c.in_ok-fresh.ensures.fresh known c.requires.knows in
    subst (λ (l : List (List ℕ)). KeepsRoom s (g.V.Volume.state c.note_fresh.new.vol) F (n + entry_size (notes_for s.held l))) are
    (subst (λ (k : ℕ). KeepsRoom s (g.V.Volume.state c.note_fresh.new.vol) F (n + k)) (sym (some_size s.held c.as_slice-fresh.result.now c.if-is_empty.ensures))
    (c.note_fresh.ensures.room told F n (record { parts = w.parts; is_open = w.is_open; placed = w.placed; numbers = w.numbers; entries = w.entries; area = w.area; marker = w.marker })
    (fresh_are_new s.held c.args.kept.now.places.items c.args.names.now c.as_slice-fresh.result.now are (subst AreGood (sym c.as_slice-fresh.ensures.value) c.in_ok-fresh.ensures.good)) takes))
