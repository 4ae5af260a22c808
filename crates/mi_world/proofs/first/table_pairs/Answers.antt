-- One row more, and all of them.
use Rattle.std.proofs.Common.{◌≡◌, List, ℕ, [], ◌∷◌, ◌++◌, length, sym, ap, ◌∙◌, arith}
use Rattle.std.specs.Prelude.{Vec}
use Rattle.std.specs.declared.alloc.Global.{Global}
use Rattle.std.proofs.lemmas.List.{length-map}
use Rattle.mi_text.specs.Maps.{Name}
use Rattle.mi_schema.specs.RowsOf.{rows_in}
use Rattle.mi_world.specs.Firsts.{property_pair}
use Rattle.mi_world.proofs.DirectoryLemmas.{one_behind, none_behind, all_behind}
use Rattle.mi_world.proofs.first.table_pairs.Goals as goal
use Rattle.mi_world.proofs.first.table_pairs.Goals.{in-Some+in_ok-property_pair-in-Some+in_ok-push-in-Some, in-None}

pub loop-place-preserved : goal.loop-place-preserved
loop-place-preserved c =
    let rows = (rows_in c.args.loaded.now).property in
    elim c.match-property_at.branch [
      | in-Some+in_ok-property_pair-in-Some+in_ok-push-in-Some w ↦
          ap (λ (v : Vec (Name × List ℕ) Global). v.items) w.pairs-is
          ∙ one_behind property_pair rows c.loop-place.place w.in-Some.row.now c.loop-place.pairs.items w.push.new.self.items (sym w.in-Some.ensures)
          (w.in_ok-push-in-Some.ensures.items ∙ ap (λ (r : Name × List ℕ). c.loop-place.pairs.items ++ r ∷ []) w.in_ok-property_pair-in-Some.ensures) c.loop-place.invariant
      | in-None w ↦
          ap (λ (v : Vec (Name × List ℕ) Global). v.items) w.pairs-is
          ∙ none_behind property_pair rows c.loop-place.place c.loop-place.pairs.items (sym w.in-None.ensures) c.loop-place.invariant
    ]

pub returns : goal.returns
unfolding rows_in
returns c =
    let rows = (rows_in c.args.loaded.now).property in
    let size : length rows ≡ length c.args.loaded.now.property.entries = length-map c.args.loaded.now.property.entries (λ e. e.1) in
    all_behind property_pair rows c.loop-place.place c.loop-place.pairs.items (omega (arith, size, c.len-place-end.ensures.len, c.loop-place-test.false)) c.loop-place.invariant
