use Rattle.std.proofs.Common.{◌≡◌, ℕ, ◌<◌, length, List, [], Option, Some, sym, ap, subst, ◌∙◌}
use Rattle.mi_dirs.specs.declared.dir.Dir.{Dir}
use Rattle.mi_dirs.specs.Order.{AreRows}
use Rattle.mi_dirs.specs.Places.{Place, parent_at, row_of, source_of}
use Rattle.mi_dirs.specs.Sources.{kept_source, sources_in, AreAbove}
use Rattle.mi_dirs.specs.Views.{places_in}
use Rattle.mi_dirs.proofs.KeptLemmas.{row_below, kept_rows, source_at_row}
use Rattle.mi_dirs.proofs.SourceLemmas.{slice_get-sources}
use Rattle.mi_dirs.proofs.dirs.Dirs.source.Goals as goal

pub source_of-requires-clause-is_row : goal.source_of-requires-clause-is_row
source_of-requires-clause-is_row c =
    let d = c.self.inside in
    let rows = d.rows.items in
    let sources = sources_in d.folder rows in
    let dir = c.args.dir.now in
    let row = c.in-Some.row.now in
    let is : row_of (places_in rows sources) dir ≡ Some row = sym (c.in-Some.ensures.value ∙ c.self.invariant.0.index dir) in
    subst (λ (rs : List Dir). row < length rs) (sym c.deref.ensures.value) (row_below rows sources d.index d.order.items d.targets.items c.self.invariant.0 dir row is)

pub source_of-requires-clause-parents : goal.source_of-requires-clause-parents
source_of-requires-clause-parents c =
    let d = c.self.inside in
    let rows = d.rows.items in
    subst (λ (rs : List Dir). AreRows (parent_at (places_in rs [])) (length rs)) (sym c.deref.ensures.value) (kept_rows rows (sources_in d.folder rows) d.index d.order.items d.targets.items c.self.invariant.0)

pub source_of-requires-clause-above : goal.source_of-requires-clause-above
source_of-requires-clause-above c =
    subst (λ (rs : List Dir). AreAbove rs c.deref-2.result.now) (sym c.deref.ensures.value) (subst (λ (t : List (Option ℕ)). AreAbove c.self.inside.rows.items t) (sym c.deref-2.ensures.value) c.self.invariant.1)

pub returns : goal.returns
returns c =
    let d = c.self.inside in
    let rows = d.rows.items in
    let sources = sources_in d.folder rows in
    let dir = c.args.dir.now in
    let row = c.in-Some.row.now in
    let source = c.in_ok-source.source in
    let is : row_of (places_in rows sources) dir ≡ Some row = sym (c.in-Some.ensures.value ∙ c.self.invariant.0.index dir) in
    let lt : row < length rows = row_below rows sources d.index d.order.items d.targets.items c.self.invariant.0 dir row is in
    let made : source ≡ kept_source rows d.folder row = c.in_ok-source.ensures ∙ ap (λ (rs : List Dir). kept_source rs c.as_str.result.now row) c.deref.ensures.value ∙ ap (λ (f : List ℕ). kept_source rows f row) c.as_str.ensures in
    sym (ap (λ (ps : List Place). source_of ps dir) (sym c.self.view_is)
    ∙ source_at_row rows sources d.index d.order.items d.targets.items c.self.invariant.0 dir row (kept_source rows d.folder row) is (slice_get-sources rows d.folder row lt)
    ∙ ap (λ (s : List ℕ). Some s) (sym made))
