use Rattle.std.proofs.Common.{ℕ, cond, length, List, take, get_or, ap, ◌∙◌, refl, sym}
use Rattle.std.specs.Prelude.{is_none, Option, Some, None}
use Rattle.std.specs.Option.{option_or}
use Rattle.std.proofs.lemmas.List.{take_more}
use Rattle.std.proofs.lemmas.Option.{slice_get_read}
use Rattle.mi_dirs.specs.Places.{first_row}
use Rattle.mi_dirs.proofs.RowLemmas.{first_row-at, first_row-push}
use Rattle.mi_dirs.proofs.targets.first_refused.Goals as goal

pub returns-in-None : goal.returns-in-None
returns-in-None c =
    sym (first_row-at is_none c.args.targets.now c.loop-row.row c.index-targets-row.result c.loop-row.invariant
    (slice_get_read c.args.targets.now (length c.args.targets.now) c.loop-row.row c.index-targets-row.result refl c.loop-row-test.true c.index-targets-row.is)
    (ap is_none c.in-None.is))

pub loop-row-preserved : goal.loop-row-preserved
loop-row-preserved c =
    let targets = c.args.targets.now in
    let row = c.loop-row.row in
    let here = c.index-targets-row.result in
    ap (first_row is_none) (take_more targets row here c.loop-row-test.true)
    ∙ first_row-push is_none (take row targets) _
    ∙ ap (λ (o : Option ℕ). option_or o (cond (is_none (get_or targets row here)) (Some (length (take row targets))) None)) c.loop-row.invariant
    ∙ ap (λ (x : Option (List ℕ)). cond (is_none x) (Some (length (take row targets))) None) (sym c.index-targets-row.is ∙ c.in-Some.is)
