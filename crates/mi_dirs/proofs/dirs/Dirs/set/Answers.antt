use Rattle.std.proofs.Common.{◌≡◌, ℕ, ◌<◌, length, List, [], Option, Some, None, refl, sym, ap, subst, ◌∙◌, arith}
use Rattle.std.specs.Prelude.{slice_get, is_none, option_map}
use Rattle.std.specs.Option.{option_copied}
use Rattle.std.specs.Result.{result_ok}
use Rattle.mi_text.specs.Path.{folder_of}
use Rattle.std.proofs.Math.ListN.{set}
use Rattle.std.proofs.lemmas.Option.{slice_get_read}
use Rattle.mi_dirs.specs.declared.dir.Own.{Own}
use Rattle.mi_dirs.specs.declared.dir.Dir.{Dir}
use Rattle.mi_dirs.specs.Places.{Place, row_of, first_row, target_at, with_own}
use Rattle.mi_dirs.specs.Views.{own_view, places_in, with_row_own, TargetFolders}
use Rattle.mi_dirs.specs.Sources.{sources_in}
use Rattle.mi_dirs.specs.Keeps.{Keeps}
use Rattle.mi_dirs.specs.Faults.{path_fault, row_number}
use Rattle.mi_dirs.specs.declared.fault.DirFault.TheVariants.{BadPath}
use Rattle.mi_dirs.proofs.KeptLemmas.{set_above, row_below, set_places, set_sources, set_fault, kept_after}
use Rattle.mi_dirs.proofs.FaultLemmas.{set_own}
use Rattle.mi_dirs.proofs.dirs.Dirs.set.Goals as goal

-- the row that is set
abbrev RowIs : (rows : List Dir) (sources : List (List ℕ)) (dir : List ℕ) (row : ℕ) → Type 0
RowIs rows sources dir row = row_of (places_in rows sources) dir ≡ Some row

-- the targets with this row's own
abbrev Found : (rows : List Dir) (row : ℕ) (own : Own) (found : List (Option (List ℕ))) → Type 0
Found rows row own found = (length found ≡ length rows) × ((r : ℕ) → r < length rows → slice_get found r ≡ Some (target_at (with_row_own row (own_view own) (places_in rows [])) r))

found_in : (seen rows : List Dir) (row : ℕ) (own : Own) (found : List (Option (List ℕ))) → seen ≡ rows → Found seen row own found → Found rows row own found
found_in seen rows row own found same h = subst (λ (rs : List Dir). Found rs row own found) same h

pub index_mut-requires : goal.index_mut-requires
index_mut-requires c =
    let rows = c.self.inside.rows.items in
    let sources = sources_in c.self.inside.folder rows in
    let row = c.unwrap-row.result.now in
    let is : RowIs rows sources c.args.dir.now row = sym (sym (ap option_copied c.unwrap-row.ensures) ∙ c.get.ensures.value ∙ c.self.invariant.0.index c.args.dir.now) in
    let lt = row_below rows sources c.self.inside.index c.self.inside.order.items c.self.inside.targets.items c.self.invariant.0 c.args.dir.now row is in
    omega (arith, lt, c.self.inside.rows.ok)

pub invariant_of-self : goal.invariant_of-self
invariant_of-self c =
    let rows = c.self.inside.rows.items in
    let sources = sources_in c.self.inside.folder rows in
    let row = c.unwrap-row.result.now in
    let own = c.in_ok-own.own in
    let d = c.index_mut.result.now in
    let found = c.in_ok-targets.targets.items in
    let is : RowIs rows sources c.args.dir.now row = sym (sym (ap option_copied c.unwrap-row.ensures) ∙ c.get.ensures.value ∙ c.self.invariant.0.index c.args.dir.now) in
    let lt : row < length rows = row_below rows sources c.self.inside.index c.self.inside.order.items c.self.inside.targets.items c.self.invariant.0 c.args.dir.now row is in
    let here : slice_get rows row ≡ Some d = slice_get_read rows (length rows) row d refl lt c.index_mut.ensures.value in
    let all = found_in c.deref.result.now rows row own found c.deref.ensures.value (c.in_ok-targets.ensures.size, c.in_ok-targets.ensures.targets) in
    let none : first_row is_none found ≡ None = sym (c.in_default.ensures ∙ ap (first_row is_none) c.deref-3.ensures.value) in
    let paths : TargetFolders found = c.in_ok-targets.ensures.folders in (
      subst (λ (ss : List (List ℕ)). Keeps (set rows row (record d { own = own })) ss c.self.inside.index c.self.inside.order.items found) (sym (set_sources rows c.self.inside.folder row d own here))
          (kept_after rows sources c.self.inside.index c.self.inside.order.items c.self.inside.targets.items c.self.invariant.0 row d own found here c.in_ok-own.ensures.folder all.0 all.1 paths none),
      set_above rows row d own here c.self.inside.above.items c.self.invariant.1,
    )

pub returns-clause-ok : goal.returns-clause-ok
returns-clause-ok c =
    let rows = c.self.inside.rows.items in
    let sources = sources_in c.self.inside.folder rows in
    let row = c.unwrap-row.result.now in
    let own = c.in_ok-own.own in
    let d = c.index_mut.result.now in
    let is : RowIs rows sources c.args.dir.now row = sym (sym (ap option_copied c.unwrap-row.ensures) ∙ c.get.ensures.value ∙ c.self.invariant.0.index c.args.dir.now) in
    let lt : row < length rows = row_below rows sources c.self.inside.index c.self.inside.order.items c.self.inside.targets.items c.self.invariant.0 c.args.dir.now row is in
    let here : slice_get rows row ≡ Some d = slice_get_read rows (length rows) row d refl lt c.index_mut.ensures.value in
    ap (places_in (set rows row (record d { own = own }))) (set_sources rows c.self.inside.folder row d own here)
    ∙ set_own rows sources row d own here
    ∙ sym (set_places rows sources c.self.inside.index c.self.inside.order.items c.self.inside.targets.items c.self.invariant.0 c.args.dir.now row (result_ok (folder_of c.args.text.now)) own is c.in_ok-own.ensures.own)
    ∙ ap (with_own c.args.dir.now (result_ok (folder_of c.args.text.now))) c.self.view_is

pub returns-in-Some-clause-refused : goal.returns-in-Some-clause-refused
returns-in-Some-clause-refused c =
    let rows = c.self.inside.rows.items in
    let sources = sources_in c.self.inside.folder rows in
    let row = c.unwrap-row.result.now in
    let own = c.in_ok-own.own in
    let found = c.in_ok-targets.targets.items in
    let is : RowIs rows sources c.args.dir.now row = sym (sym (ap option_copied c.unwrap-row.ensures) ∙ c.get.ensures.value ∙ c.self.invariant.0.index c.args.dir.now) in
    let all = found_in c.deref.result.now rows row own found c.deref.ensures.value (c.in_ok-targets.ensures.size, c.in_ok-targets.ensures.targets) in
    ap (λ (ps : List Place). path_fault (with_own c.args.dir.now (result_ok (folder_of c.args.text.now)) ps)) (sym c.self.view_is)
    ∙ ap path_fault (set_places rows sources c.self.inside.index c.self.inside.order.items c.self.inside.targets.items c.self.invariant.0 c.args.dir.now row (result_ok (folder_of c.args.text.now)) own is c.in_ok-own.ensures.own)
    ∙ set_fault rows sources c.self.inside.index c.self.inside.order.items c.self.inside.targets.items c.self.invariant.0 row own found all.0 all.1
    ∙ ap (option_map (λ r. BadPath (row_number r))) (sym (c.in-Some.ensures ∙ ap (first_row is_none) c.deref-3.ensures.value))
    ∙ ap (λ (n : ℕ). Some (BadPath n)) (sym c.row_number.ensures)

pub returns-clause-accepted : goal.returns-clause-accepted
returns-clause-accepted c =
    let rows = c.self.inside.rows.items in
    let sources = sources_in c.self.inside.folder rows in
    let row = c.unwrap-row.result.now in
    let own = c.in_ok-own.own in
    let found = c.in_ok-targets.targets.items in
    let is : RowIs rows sources c.args.dir.now row = sym (sym (ap option_copied c.unwrap-row.ensures) ∙ c.get.ensures.value ∙ c.self.invariant.0.index c.args.dir.now) in
    let all = found_in c.deref.result.now rows row own found c.deref.ensures.value (c.in_ok-targets.ensures.size, c.in_ok-targets.ensures.targets) in
    ap (λ (ps : List Place). path_fault (with_own c.args.dir.now (result_ok (folder_of c.args.text.now)) ps)) (sym c.self.view_is)
    ∙ ap path_fault (set_places rows sources c.self.inside.index c.self.inside.order.items c.self.inside.targets.items c.self.invariant.0 c.args.dir.now row (result_ok (folder_of c.args.text.now)) own is c.in_ok-own.ensures.own)
    ∙ set_fault rows sources c.self.inside.index c.self.inside.order.items c.self.inside.targets.items c.self.invariant.0 row own found all.0 all.1
    ∙ ap (option_map (λ r. BadPath (row_number r))) (sym (c.in_default.ensures ∙ ap (first_row is_none) c.deref-3.ensures.value))
