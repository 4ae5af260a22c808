use Rattle.std.proofs.Common.{ℕ, List, length, Some, None, refl, sym, ap, ◌∙◌}
use Rattle.std.specs.Prelude.{option_map}
use Rattle.std.proofs.lemmas.Option.{slice_get_past, slice_get_read}
use Rattle.mi_text.specs.Maps.{Name}
use Rattle.mi_dirs.proofs.OwnLemmas.{remembered_by_row}
use Rattle.mi_dirs.proofs.own.remembered_folder.Goals as goal

pub returns-in_default : goal.returns-in_default
returns-in_default c = sym (remembered_by_row c.args.remembered.now c.args.key.now None (c.in_default.ensures.value ∙ c.requires c.args.key.now))

pub returns-in_default-get : goal.returns-in_default-get
returns-in_default-get c =
    sym (remembered_by_row c.args.remembered.now c.args.key.now (Some c.in-Some.row.now) (c.in-Some.ensures.value ∙ c.requires c.args.key.now)
    ∙ ap (option_map (λ (e : Name × List ℕ). e.1)) (slice_get_past c.args.remembered.now c.in-Some.row.now c.in_default-get.ensures.lookup.3))

pub returns : goal.returns
returns c =
    sym (remembered_by_row c.args.remembered.now c.args.key.now (Some c.in-Some.row.now) (c.in-Some.ensures.value ∙ c.requires c.args.key.now)
    ∙ ap (option_map (λ (e : Name × List ℕ). e.1))
    (slice_get_read c.args.remembered.now (length c.args.remembered.now) c.in-Some.row.now c.in-Some-get.entry.now refl c.in-Some-get.ensures.lookup.3.0 c.in-Some-get.ensures.lookup.1))
