use Rattle.std.proofs.Common.{◌≡◌, ℕ, suc, ◌<◌, length, true, List, [], Some, Ok, refl, sym, ap, subst, ◌∙◌}
use Rattle.std.specs.Prelude.{is_none, option_map}
use Rattle.std.proofs.lemmas.Result.{err_from_is_err_and}
use Rattle.mi_dirs.specs.declared.dir.Dir.{Dir}
use Rattle.mi_dirs.specs.declared.fault.DirFault.TheVariants.{Cycle, BadPath}
use Rattle.mi_dirs.specs.Chains.{ends_in}
use Rattle.mi_dirs.specs.Order.{parent_in, IsOrder, IsFirstEndless}
use Rattle.mi_dirs.specs.Places.{Place, first_row, parent_at}
use Rattle.mi_dirs.specs.Rows.{given, places_of, resolved}
use Rattle.mi_dirs.specs.Faults.{row_number, judged, IsEndless}
use Rattle.mi_dirs.specs.Answers.{IfCycle}
use Rattle.mi_dirs.specs.Sources.{sources_in, AreAbove}
use Rattle.mi_dirs.specs.Views.{places_in}
use Rattle.mi_dirs.proofs.ResolveLemmas.{seen_rows, row_order, row_ends, row_endless, cycle_is, cycle_endless, faults_on, fault_is, dirs_order, dirs_ends, targets_in, places_made, fault_found, keeps}
use Rattle.mi_dirs.proofs.dirs.resolve.Goals as goal

pub order_of-requires : goal.order_of-requires
order_of-requires c = seen_rows c.args.rows.now c.in_ok-parents.parents.items c.deref.result.now c.deref.ensures.value c.in_ok-parents.ensures

pub returns-in_err-order-clause-resolved : goal.returns-in_err-order-clause-resolved
returns-in_err-order-clause-resolved c =
    let rows = c.args.rows.now in
    let parents = c.in_ok-parents.parents.items in
    let seen = c.deref.result.now in
    let g = given c.args.rows.now c.args.props.now c.args.remembered.now c.args.folder.now c.args.short in
    let p = err_from_is_err_and c.from_residual-in_err-order.result c.from_residual-in_err-order.ensures.1 in
    rw (p.1, p.2) (fault_is c.in_err-order.field-0.0 (resolved g)
    (λ f. (row : ℕ) × (f ≡ Cycle (row_number row)) × IsFirstEndless (parent_in seen) (length seen) row)
    (λ f h. ap (judged (places_of g)) (cycle_is g h.0 f h.1 (row_endless rows parents seen c.deref.ensures.value c.in_ok-parents.ensures h.0 h.2))) c.in_err-order.ensures.cycle)

pub returns-in_err-order-clause-endless : goal.returns-in_err-order-clause-endless
returns-in_err-order-clause-endless c =
    let rows = c.args.rows.now in
    let parents = c.in_ok-parents.parents.items in
    let seen = c.deref.result.now in
    let g = given c.args.rows.now c.args.props.now c.args.remembered.now c.args.folder.now c.args.short in
    let p = err_from_is_err_and c.from_residual-in_err-order.result c.from_residual-in_err-order.ensures.1 in
    rw (p.1, p.2) (faults_on c.in_err-order.field-0.0 (λ f. IfCycle f (IsEndless (places_of g)))
    (λ f. (row : ℕ) × (f ≡ Cycle (row_number row)) × IsFirstEndless (parent_in seen) (length seen) row)
    (λ f h. cycle_endless g h.0 f h.1 (row_endless rows parents seen c.deref.ensures.value c.in_ok-parents.ensures h.0 h.2)) c.in_err-order.ensures.cycle)

pub targets_of-requires-clause-order : goal.targets_of-requires-clause-order
targets_of-requires-clause-order c =
    let g = given c.args.rows.now c.args.props.now c.args.remembered.now c.args.folder.now c.args.short in
    let ds = c.in_ok-dirs.dirs.items in
    subst (λ (rs : List Dir). IsOrder (parent_at (places_in rs [])) (length rs) c.deref-4.result.now) (sym c.deref-3.ensures.value)
    (subst (λ (o : List ℕ). IsOrder (parent_at (places_in ds [])) (length ds) o) (sym c.deref-4.ensures.value) (dirs_order g ds c.in_ok-dirs.ensures.dirs c.in_ok-order.order.items (row_order c.args.rows.now c.in_ok-parents.parents.items c.deref.result.now c.deref.ensures.value c.in_ok-parents.ensures c.in_ok-order.order.items c.in_ok-order.ensures.order)))

pub targets_of-requires-clause-ends : goal.targets_of-requires-clause-ends
targets_of-requires-clause-ends c =
    let g = given c.args.rows.now c.args.props.now c.args.remembered.now c.args.folder.now c.args.short in
    subst (λ (rs : List Dir). (row : ℕ) → row < length rs → ends_in (parent_at (places_in rs [])) (suc (length rs)) row ≡ true) (sym c.deref-3.ensures.value) (dirs_ends g c.in_ok-dirs.dirs.items c.in_ok-dirs.ensures.dirs (row_ends c.args.rows.now c.in_ok-parents.parents.items c.deref.result.now c.deref.ensures.value c.in_ok-parents.ensures c.in_ok-order.ensures.ends))

pub rows_above-requires-clause-order : goal.rows_above-requires-clause-order
rows_above-requires-clause-order c =
    let g = given c.args.rows.now c.args.props.now c.args.remembered.now c.args.folder.now c.args.short in
    let ds = c.in_ok-dirs.dirs.items in
    subst (λ (rs : List Dir). IsOrder (parent_at (places_in rs [])) (length rs) c.deref-7.result.now) (sym c.deref-6.ensures.value)
    (subst (λ (o : List ℕ). IsOrder (parent_at (places_in ds [])) (length ds) o) (sym c.deref-7.ensures.value) (dirs_order g ds c.in_ok-dirs.ensures.dirs c.in_ok-order.order.items (row_order c.args.rows.now c.in_ok-parents.parents.items c.deref.result.now c.deref.ensures.value c.in_ok-parents.ensures c.in_ok-order.order.items c.in_ok-order.ensures.order)))

pub rows_above-requires-clause-ends : goal.rows_above-requires-clause-ends
rows_above-requires-clause-ends c =
    let g = given c.args.rows.now c.args.props.now c.args.remembered.now c.args.folder.now c.args.short in
    subst (λ (rs : List Dir). (row : ℕ) → row < length rs → ends_in (parent_at (places_in rs [])) (suc (length rs)) row ≡ true) (sym c.deref-6.ensures.value) (dirs_ends g c.in_ok-dirs.dirs.items c.in_ok-dirs.ensures.dirs (row_ends c.args.rows.now c.in_ok-parents.parents.items c.deref.result.now c.deref.ensures.value c.in_ok-parents.ensures c.in_ok-order.ensures.ends))

pub returns-in-Some-clause-resolved : goal.returns-in-Some-clause-resolved
returns-in-Some-clause-resolved c =
    let g = given c.args.rows.now c.args.props.now c.args.remembered.now c.args.folder.now c.args.short in
    let ds = c.in_ok-dirs.dirs.items in
    let ss = sources_in c.args.folder.now ds in
    let found = c.in_ok-targets.targets.items in
    let targets = targets_in c.deref-3.result.now ds ss c.len.result found c.deref-3.ensures.value (c.len.ensures ∙ c.in_ok-dirs.dirs.ok.0) c.in_ok-targets.ensures.size c.in_ok-targets.ensures.targets in
    ap (judged (places_of g)) (
    fault_found g ds ss found (row_ends c.args.rows.now c.in_ok-parents.parents.items c.deref.result.now c.deref.ensures.value c.in_ok-parents.ensures c.in_ok-order.ensures.ends) (places_made g ds c.in_ok-dirs.ensures.dirs c.args.folder.now refl c.in_ok-dirs.ensures.sources) targets.0 targets.1
    ∙ ap (option_map (λ row. BadPath (row_number row))) (sym (c.in-Some.ensures ∙ ap (first_row is_none) c.deref-5.ensures.value))
    ∙ ap (λ (k : ℕ). Some (BadPath k)) (sym c.row_number.ensures))

pub invariant_of-result : goal.invariant_of-result
invariant_of-result c =
    let g = given c.args.rows.now c.args.props.now c.args.remembered.now c.args.folder.now c.args.short in
    let ds = c.in_ok-dirs.dirs.items in
    let folder = c.in_ok-folder.folder in
    let ss = sources_in folder ds in
    let found = c.in_ok-targets.targets.items in
    let targets = targets_in c.deref-3.result.now ds ss c.len.result found c.deref-3.ensures.value (c.len.ensures ∙ c.in_ok-dirs.dirs.ok.0) c.in_ok-targets.ensures.size c.in_ok-targets.ensures.targets in (
      keeps g ds ss c.in_ok-index.index c.in_ok-order.order.items found c.in_ok-dirs.ensures.dirs (places_made g ds c.in_ok-dirs.ensures.dirs folder c.in_ok-folder.ensures c.in_ok-dirs.ensures.sources) c.in_ok-index.ensures
          (row_order c.args.rows.now c.in_ok-parents.parents.items c.deref.result.now c.deref.ensures.value c.in_ok-parents.ensures c.in_ok-order.order.items c.in_ok-order.ensures.order)
          (row_ends c.args.rows.now c.in_ok-parents.parents.items c.deref.result.now c.deref.ensures.value c.in_ok-parents.ensures c.in_ok-order.ensures.ends)
          c.in_ok-dirs.ensures.folders c.in_ok-targets.ensures.folders targets.0 targets.1 (sym (c.in_default.ensures ∙ ap (first_row is_none) c.deref-5.ensures.value)),
      subst (λ (rs : List Dir). AreAbove rs c.in_ok-above.above.items) c.deref-6.ensures.value c.in_ok-above.ensures,
    )

pub returns-clause-resolved : goal.returns-clause-resolved
returns-clause-resolved c =
    let g = given c.args.rows.now c.args.props.now c.args.remembered.now c.args.folder.now c.args.short in
    let ds = c.in_ok-dirs.dirs.items in
    let folder = c.in_ok-folder.folder in
    let ss = sources_in folder ds in
    let found = c.in_ok-targets.targets.items in
    let places = places_made g ds c.in_ok-dirs.ensures.dirs folder c.in_ok-folder.ensures c.in_ok-dirs.ensures.sources in
    let targets = targets_in c.deref-3.result.now ds ss c.len.result found c.deref-3.ensures.value (c.len.ensures ∙ c.in_ok-dirs.dirs.ok.0) c.in_ok-targets.ensures.size c.in_ok-targets.ensures.targets in
    ap (judged (places_of g)) (
    fault_found g ds ss found (row_ends c.args.rows.now c.in_ok-parents.parents.items c.deref.result.now c.deref.ensures.value c.in_ok-parents.ensures c.in_ok-order.ensures.ends) places targets.0 targets.1
    ∙ ap (option_map (λ row. BadPath (row_number row))) (sym (c.in_default.ensures ∙ ap (first_row is_none) c.deref-5.ensures.value)))
    ∙ ap (λ (ps : List Place). Ok ps) (sym places)
