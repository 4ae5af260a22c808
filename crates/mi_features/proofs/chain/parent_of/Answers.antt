use Rattle.std.proofs.Common.{option_and_then, sym, ap, ◌∙◌}
use Rattle.std.specs.Map.{keys_of}
use Rattle.mi_schema.specs.Checks.{row_with}
use Rattle.mi_schema.proofs.CheckLemmas.{place_of_key}
use Rattle.mi_features.proofs.chain.parent_of.Goals as goal

pub returns-in-Some : goal.returns-in-Some
returns-in-Some c =
    c.get_index_of.ensures.index ∙ place_of_key c.in-Some.parent (keys_of c.args.loaded.now.feature.entries)
    ∙ ap (option_and_then (row_with (keys_of c.args.loaded.now.feature.entries))) (sym c.in-Some.is)
