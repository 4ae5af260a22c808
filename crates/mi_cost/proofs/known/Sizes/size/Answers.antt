use Rattle.std.proofs.Common.{ap, ◌∙◌, sym}
use Rattle.std.specs.Prelude.{String, string_bytes}
use Rattle.std.specs.declared.alloc.Global.{Global}
use Rattle.std.specs.FinMap as map
use Rattle.mi_text.proofs.TreeLemmas.{get-map_as}
use Rattle.mi_cost.proofs.known.Sizes.size.Goals as goal

pub returns : goal.returns
returns c = c.copied.ensures ∙ c.get.ensures.value ∙ sym (get-map_as (λ (k : String Global). string_bytes k) c.self.inside.sizes.entries c.args.name.now) ∙ ap (λ m. map.get m c.args.name.now) c.self.view_is
