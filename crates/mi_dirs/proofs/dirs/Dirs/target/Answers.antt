use Rattle.std.proofs.Common.{◌≡◌, ℕ, ◌<◌, length, List, Option, Some, refl, sym, ap, ◌∙◌, arith}
use Rattle.std.specs.Prelude.{slice_get, is_some}
use Rattle.std.proofs.lemmas.Option.{slice_get_read}
use Rattle.mi_dirs.specs.Places.{Place, row_of, target_at}
use Rattle.mi_dirs.specs.Views.{places_in}
use Rattle.mi_dirs.specs.Sources.{sources_in}
use Rattle.mi_dirs.proofs.KeptLemmas.{row_below, has_a_target, some_same, not_none}
use Rattle.mi_dirs.proofs.dirs.Dirs.target.Goals as goal

pub returns-in-Some-get-clause-known : goal.returns-in-Some-get-clause-known
returns-in-Some-get-clause-known c =
    let rows = c.self.inside.rows.items in
    let sources = sources_in c.self.inside.folder rows in
    let dir = c.args.dir.now in
    let row = c.in-Some.row.now in
    let is : row_of (places_in rows sources) dir ≡ Some row = sym (c.in-Some.ensures.value ∙ c.self.invariant.0.index dir) in
    let lt : row < length rows = row_below rows sources c.self.inside.index c.self.inside.order.items c.self.inside.targets.items c.self.invariant.0 dir row is in
    let there : c.in-Some-get.target.now ≡ target_at (places_in rows sources) row =
    some_same (sym (ap (λ (ts : List (Option (List ℕ))). slice_get ts row) (sym c.deref.ensures.value)
    ∙ slice_get_read c.deref.result.now (length c.deref.result.now) row c.in-Some-get.target.now refl c.in-Some-get.ensures.lookup.3.0 c.in-Some-get.ensures.lookup.1)
    ∙ c.self.invariant.0.targets row lt) in
    let has = has_a_target rows sources c.self.inside.index c.self.inside.order.items c.self.inside.targets.items c.self.invariant.0 row lt in
    ((λ _. ap is_some (ap (λ (ps : List Place). row_of ps dir) (sym c.self.view_is) ∙ is)), (λ _. c.as_ref.ensures.variant ∙ ap is_some there ∙ not_none (target_at (places_in rows sources) row) has))

pub returns-in-None-clause-target : goal.returns-in-None-clause-target
returns-in-None-clause-target c =
    let rows = c.self.inside.rows.items in
    let sources = sources_in c.self.inside.folder rows in
    let dir = c.args.dir.now in
    let row = c.in-Some.row.now in
    let is : row_of (places_in rows sources) dir ≡ Some row = sym (c.in-Some.ensures.value ∙ c.self.invariant.0.index dir) in
    let lt : row < length rows = row_below rows sources c.self.inside.index c.self.inside.order.items c.self.inside.targets.items c.self.invariant.0 dir row is in
    absurd (omega (arith, c.in-None.ensures.lookup.3, c.self.invariant.0.size, ap length c.deref.ensures.value))

pub returns-in-None-clause-known : goal.returns-in-None-clause-known
returns-in-None-clause-known c =
    let rows = c.self.inside.rows.items in
    let sources = sources_in c.self.inside.folder rows in
    let dir = c.args.dir.now in
    let row = c.in-Some.row.now in
    let is : row_of (places_in rows sources) dir ≡ Some row = sym (c.in-Some.ensures.value ∙ c.self.invariant.0.index dir) in
    let lt : row < length rows = row_below rows sources c.self.inside.index c.self.inside.order.items c.self.inside.targets.items c.self.invariant.0 dir row is in
    absurd (omega (arith, c.in-None.ensures.lookup.3, c.self.invariant.0.size, ap length c.deref.ensures.value))
