use Rattle.std.proofs.Common.{Some, ap, ◌∙◌}
use Rattle.std.specs.Prelude.{String, string_bytes}
use Rattle.std.specs.declared.alloc.Global.{Global}
use Rattle.std.specs.FinMap as map
use Rattle.mi_text.proofs.TreeLemmas.{stored_as}
use Rattle.mi_text.specs.Maps.{Name}
use Rattle.mi_print_looks.proofs.name_set.NameSet.add.Goals as goal

pub returns : goal.returns
returns c =
    stored_as (λ (k : String Global). string_bytes k) c.self.inside.names c.insert.new.self (string_bytes c.in_ok-key.key) (Some tt) c.in_ok-was.ensures.updates
    ∙ ap (λ m. map.insert m (string_bytes c.in_ok-key.key) tt) c.self.view_is
    ∙ ap (λ (q : Name). map.insert c.args.self.now q tt) c.in_ok-key.ensures.ok
