use Rattle.std.proofs.Common.{None, ap, ◌∙◌}
use Rattle.std.specs.Prelude.{option_map, string_bytes}
use Rattle.std.specs.FinMap as map
use Rattle.mi_image.specs.Items.{unboxed}
use Rattle.mi_image.proofs.OverlayLemmas.{is_set, marked}
use Rattle.mi_image.proofs.overlay.take_first.Goals as goal

pub fill-requires : goal.fill-requires
fill-requires c = record { marked = is_set c.args.former.now c.note.new.self (string_bytes c.args.mark) (string_bytes c.args.name) None c.in-Ok.ensures.ok c.requires.same }

pub returns-in-Ok-clause-ok : goal.returns-in-Ok-clause-ok
returns-in-Ok-clause-ok c = c.take-was.ensures.gone ∙ ap (map.remove c.args.image.now) (c.as_str.ensures.value ∙ c.requires.same)

pub returns-in-Ok-clause-before : goal.returns-in-Ok-clause-before
returns-in-Ok-clause-before c =
    let named = c.as_str.ensures.value ∙ c.requires.same in
    marked c.args.image.now c.take-was.new.self c.args.former.now c.note.new.self c.fill.new.self (string_bytes c.args.mark) (string_bytes c.args.name) None (option_map unboxed c.take-was.result)
    c.requires.same c.requires.new (c.take-was.ensures.value ∙ ap (map.get c.args.image.now) named) (c.take-was.ensures.gone ∙ ap (map.remove c.args.image.now) named) c.in-Ok.ensures.ok c.fill.ensures
