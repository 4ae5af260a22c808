use Rattle.std.proofs.Common.{Option, ap, sym, ◌∙◌}
use Rattle.std.specs.Prelude.{option_map, string_bytes}
use Rattle.std.specs.FinMap as map
use Rattle.mi_text.specs.Maps.{set_to}
use Rattle.mi_image.specs.Items.{Boxed, unboxed}
use Rattle.mi_image.proofs.image.Image.put_back.Goals as goal

pub replace-requires : goal.replace-requires
replace-requires c = record { set = c.requires.set; may = c.requires.may (unboxed c.in-Some.item) (ap (option_map unboxed) c.in-Some.is) }

pub returns-in-None : goal.returns-in-None
returns-in-None c =
    c.take-set.ensures.gone ∙ ap (map.remove c.args.self.now) c.as_str.ensures.value
    ∙ ap (λ (o : Option Boxed). set_to c.args.self.now (string_bytes c.args.key) (option_map unboxed o)) (sym c.in-None.is)
