-- Over the items that `split` gives.
use Rattle.std.proofs.Common.{lit<, rules, tests, List, ℕ}
use Rattle.std.proofs.lemmas.Iterator.Search.{any_from_yields_List}
use Rattle.std.proofs.lemmas.Iterator.Splits.{YieldsList-from_str_split}
use Rattle.mi_text.specs.Fold.{folded}
use Rattle.mi_text.specs.Maps.{same_name}
use Rattle.mi_variables.proofs.items.has_part.Goals as goal

pub returns : goal.returns
returns c = any_from_yields_List (λ (item : List ℕ). same_name (folded c.args.part.now) (folded item)) _ _ _ c.any.ensures.ran (YieldsList-from_str_split 59 c.args.value.now (lit< tt) c.split.ensures.text c.split.ensures.has_more c.split.ensures.pattern) (λ x b q k. search (rules, tests))
