use Rattle.std.proofs.Common.{◌≡◌, ◌<◌, ◌∙◌, ℕ, Bool, false, List, Option, length, rules, drop, get_or, replicate, None, sym, ap, arith, refl}
use Rattle.mi_schema.specs.RowsOf.{rows_in}
use Rattle.mi_schema.specs.declared.typed_rows.FileRow.{FileRow}
use Rattle.mi_schema.proofs.ReferenceLaws.{behind_long}
use Rattle.mi_installs.specs.declared.placed.Placed.{Placed}
use Rattle.mi_installs.specs.Leads.{place_of, noted, all_noted, asked_of}
use Rattle.mi_installs.proofs.LeaderLemmas.{some_below, noted_next, noted_end, written_back}
use Rattle.mi_installs.proofs.NoteLemmas.{length-noted}
use Rattle.mi_installs.proofs.leaders.asked_by_place.Goals as goal

pub loop-i-init : goal.loop-i-init
unfolding rows_in
loop-i-init c =
    let files : List FileRow = (rows_in c.args.loaded.now).file in
    let long : c.len.result ≡ length files = c.len.ensures.len ∙ sym (behind_long c.args.loaded.now.file.entries) in
    let nothing : c.in_ok-asked.asked.items ≡ replicate c.len.result None = c.in_ok-asked.ensures.items_if_clones_equal (λ y is. search rules) in
    record {
      size = sym c.in_ok-asked.asked.ok.0 ∙ c.in_ok-asked.ensures.len ∙ long;
      rest = ap (λ (a : List (Option Bool)). all_noted (λ (p : Placed). place_of files p.row.now.file) a c.args.rows.now c.args.called.now) (nothing ∙ ap (λ n. replicate n None) long);
    }

pub note-requires : goal.note-requires
note-requires c = some_below c.place_of.result _ _ (sym (ap length c.deref_mut.ensures.value ∙ c.loop-i.invariant.size)) c.place_of.ensures.within

pub loop-i-preserved : goal.loop-i-preserved
loop-i-preserved c =
    let files : List FileRow = (rows_in c.args.loaded.now).file in
    let place : Placed → Option ℕ = λ p. place_of files p.row.now.file in
    let asked : List (Option Bool) = c.loop-i.asked.items in
    let called : Bool = get_or c.args.called.now c.loop-i.i false in
    let made : c.note.new.asked ≡ noted asked (place c.index-rows-i.result) called =
    c.note.ensures ∙ ap (λ (a : List (Option Bool)). noted a c.place_of.result called) c.deref_mut.ensures.value ∙ ap (λ (o : Option ℕ). noted asked o called) c.place_of.ensures.place in
    let long : length c.note.new.asked ≡ length asked = ap length made ∙ length-noted asked (place c.index-rows-i.result) called in
    let back = written_back c.note.new.asked (drop (length c.note.new.asked) asked) c.loop-i.asked.len (long ∙ sym c.loop-i.asked.ok.0) in
    let below : c.loop-i.i < length c.args.called.now = omega (arith, c.loop-i-test.true, c.requires.size) in
    record {
      size = ap length back ∙ long ∙ c.loop-i.invariant.size;
      rest = noted_next place c.args.rows.now c.args.called.now (asked_of files c.args.rows.now c.args.called.now) c.loop-i.i c.index-rows-i.result called asked _ c.index-rows-i.is c.loop-i-test.true refl below (back ∙ made) c.loop-i.invariant.rest;
    }

pub returns-clause-asked : goal.returns-clause-asked
returns-clause-asked c =
    let files : List FileRow = (rows_in c.args.loaded.now).file in
    noted_end (λ (p : Placed). place_of files p.row.now.file) c.args.rows.now c.args.called.now (asked_of files c.args.rows.now c.args.called.now) c.loop-i.i c.loop-i.asked.items c.loop-i-test.false c.loop-i.invariant.rest
