use Rattle.std.proofs.Common.{◌≡◌, length, Some, refl, sym, ap, subst, ◌∙◌, arith}
use Rattle.std.specs.Prelude.{slice_get}
use Rattle.std.proofs.lemmas.Option.{slice_get_read}
use Rattle.mi_dirs.specs.declared.dir.Dir.{Dir}
use Rattle.mi_dirs.specs.Paths.{AllBelow}
use Rattle.mi_dirs.specs.Rows.{below_source}
use Rattle.mi_dirs.proofs.PathLemmas.{below-pop}
use Rattle.mi_dirs.proofs.SourceLemmas.{goes_down}
use Rattle.mi_dirs.proofs.sources.source_down.Goals as goal

pub offset_bounds-rows-row : goal.offset_bounds-rows-row
offset_bounds-rows-row c =
    let low = below-pop (length c.args.rows.now) c.pop.new.self.items c.in-Some.row (subst (AllBelow (length c.args.rows.now)) c.in-Some.ensures.items c.loop-row.invariant.0) in
    omega (arith, low.1)

pub bounds-rows-row : goal.bounds-rows-row
bounds-rows-row c =
    let low = below-pop (length c.args.rows.now) c.pop.new.self.items c.in-Some.row (subst (AllBelow (length c.args.rows.now)) c.in-Some.ensures.items c.loop-row.invariant.0) in
    low.1

pub loop-row-preserved : goal.loop-row-preserved
loop-row-preserved c =
    let rows = c.args.rows.now in
    let row = c.in-Some.row in
    let d = c.index-rows-row.result in
    let low = below-pop (length rows) c.pop.new.self.items row (subst (AllBelow (length rows)) c.in-Some.ensures.items c.loop-row.invariant.0) in
    let is : slice_get rows row ≡ Some d = slice_get_read rows (length rows) row d refl low.1 c.index-rows-row.is in (
      low.0,
      goes_down rows c.args.folder.now c.loop-row.path.items c.pop.new.self.items row d c.loop-row.source c.push_name.new.source c.in-Some.ensures.items is (c.in_ok-push_name.ensures ∙ ap (below_source c.loop-row.source) c.as_str.ensures ∙ ap (λ (x : Dir). below_source c.loop-row.source x.source) (sym c.index-rows-row.is))
          ∙ c.loop-row.invariant.1,
    )
