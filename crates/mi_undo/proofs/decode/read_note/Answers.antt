use Rattle.std.proofs.Common.{◌∙◌, ℕ, List, length, take, drop, ◌-◌, Option, Some, None, arith, sym, ap}
use Rattle.std.specs.FinMap.{get}
use Rattle.mi_volume.specs.Maps.{Map, bytes_or_none}
use Rattle.mi_undo.specs.Reading.{span_placed}
use Rattle.mi_undo.specs.declared.kept.Span.{Span}
use Rattle.mi_undo.proofs.DecodeLemmas.{no_head, unnamed, untagged, placed_absent, placed_held}
use Rattle.mi_undo.proofs.decode.read_note.Goals as goal

pub returns-in_default-clause-value : goal.returns-in_default-clause-value
returns-in_default-clause-value g c = λ told is all. no_head _ (sym c.in_default.is ∙ c.in_ok-tag.ensures.value told)

pub returns-in_default-2-clause-value : goal.returns-in_default-2-clause-value
returns-in_default-2-clause-value g c = λ told is all.
    let tag = sym c.in-Some.is ∙ c.in_ok-tag.ensures.value told in
    let first = ap (λ (m : Map). bytes_or_none (get m c.args.entry.now)) (c.in_ok-tag.ensures.looks told).stays.held in
    unnamed c.args.at c.in-Some.len c.in-Some.tag _ _ tag first (sym c.in_default-2.is ∙ c.in_ok-name.ensures.value told)

pub returns-then-tag-eq0-clause-value : goal.returns-then-tag-eq0-clause-value
returns-then-tag-eq0-clause-value g c = λ told is all.
    let tag = sym c.in-Some.is ∙ c.in_ok-tag.ensures.value told in
    let first = ap (λ (m : Map). bytes_or_none (get m c.args.entry.now)) (c.in_ok-tag.ensures.looks told).stays.held in
    placed_absent c.args.at c.in-Some.len c.in-Some.tag _ _ tag first _ c.from.result c.from.ensures c.if-tag-eq0.true (sym c.in-Some-2.is ∙ c.in_ok-name.ensures.value told)

pub returns-clause-value : goal.returns-clause-value
returns-clause-value g c = λ told is all.
    let tag = sym c.in-Some.is ∙ c.in_ok-tag.ensures.value told in
    let first = ap (λ (m : Map). bytes_or_none (get m c.args.entry.now)) (c.in_ok-tag.ensures.looks told).stays.held in
    let name = sym c.in-Some-2.is ∙ c.in_ok-name.ensures.value told in
    let second = ap (λ (m : Map). bytes_or_none (get m c.args.entry.now)) ((c.in_ok-name.ensures.looks told).stays.held ∙ (c.in_ok-tag.ensures.looks told).stays.held) in
    let span = c.in_ok-span.ensures.value told (all ∙ ap (λ (l : List ℕ). length l) (sym second)) in
    let here = bytes_or_none (get (g.V.Volume.state c.read_name.new.vol).held c.args.entry.now) in
    let old = c.in-Some-3.span in
    placed_held c.args.at c.in-Some.len c.in-Some.tag _ _ tag first _ _ c.from.result (Some old) c.from.ensures (omega (arith, c.if-tag-gt1.false, c.if-tag-eq0.false)) name second (span ∙ ap (λ (o : Option Span). span_placed here o) c.in-Some-3.is)
    ∙ ap (λ (n : List ℕ). Some (record { name = c.in-Some-2.name; was = Some (take (old.end - old.at) (drop old.at (bytes_or_none (get (g.V.Volume.state c.args.vol.now).held n)))) }, drop old.end (bytes_or_none (get (g.V.Volume.state c.args.vol.now).held c.args.entry.now)))) is

pub returns-in_default-3-clause-value : goal.returns-in_default-3-clause-value
returns-in_default-3-clause-value g c = λ told is all.
    let tag = sym c.in-Some.is ∙ c.in_ok-tag.ensures.value told in
    let first = ap (λ (m : Map). bytes_or_none (get m c.args.entry.now)) (c.in_ok-tag.ensures.looks told).stays.held in
    let name = sym c.in-Some-2.is ∙ c.in_ok-name.ensures.value told in
    let second = ap (λ (m : Map). bytes_or_none (get m c.args.entry.now)) ((c.in_ok-name.ensures.looks told).stays.held ∙ (c.in_ok-tag.ensures.looks told).stays.held) in
    let span = c.in_ok-span.ensures.value told (all ∙ ap (λ (l : List ℕ). length l) (sym second)) in
    let here = bytes_or_none (get (g.V.Volume.state c.read_name.new.vol).held c.args.entry.now) in
    placed_held c.args.at c.in-Some.len c.in-Some.tag _ _ tag first _ _ c.from.result None c.from.ensures (omega (arith, c.if-tag-gt1.false, c.if-tag-eq0.false)) name second (span ∙ ap (λ (o : Option Span). span_placed here o) c.in_default-3.is)

pub returns-then-tag-gt1-clause-value : goal.returns-then-tag-gt1-clause-value
returns-then-tag-gt1-clause-value g c = λ told is all.
    let tag = sym c.in-Some.is ∙ c.in_ok-tag.ensures.value told in
    let first = ap (λ (m : Map). bytes_or_none (get m c.args.entry.now)) (c.in_ok-tag.ensures.looks told).stays.held in
    untagged c.args.at c.in-Some.len c.in-Some.tag _ _ tag first (λ e. omega (arith, e, c.if-tag-gt1.true)) (λ e. omega (arith, e, c.if-tag-gt1.true))
