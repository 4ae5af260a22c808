use Rattle.std.proofs.Common.{◌≡◌, [], List, ℕ, take, drop, map, Bor}
use Rattle.std.specs.Prelude.{find, option_map}
use Rattle.std.specs.BTreeMap.{get_by}
use Rattle.mi_text.specs.Maps.{name_cmp, same_name}
use Rattle.mi_text.specs.Fold.{folded}
use Rattle.mi_model.specs.InstallFiles.{Placed, same_target}
use Rattle.mi_installs.specs.Placings.{as_placed}
use Rattle.mi_schema.specs.declared.typed_rows.FileRow.{FileRow}
use Rattle.mi_installs.proofs.targets.first_repeat.Given as goal

abbrev pub invariant-loop-placed : goal.invariant-loop-placed
invariant-loop-placed l = record {
  held : (q : List ℕ) → option_map (λ (r : Bor FileRow). r.now) (get_by (name_cmp q) l.seen) ≡ option_map (λ (a : Placed). a.row) (find (λ (a : Placed). same_name q (folded a.path)) (map as_placed (take l.placed-index l.rows)));
  rest : same_target (map as_placed (take l.placed-index l.rows)) (map as_placed (drop l.placed-index l.rows)) ≡ same_target [] (map as_placed l.rows);
}
