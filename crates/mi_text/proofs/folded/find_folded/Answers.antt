-- What a binary search finds in a table whose keys rise.
use Rattle.std.proofs.Common.{rules}
use Rattle.std.proofs.lemmas.Fn.{always_returns_same}
use Rattle.mi_text.specs.Fold.{folded}
use Rattle.mi_text.specs.Maps.{name_cmp}
use Rattle.mi_text.proofs.FoldedLemmas.{found_at, none_at}
use Rattle.mi_text.proofs.folded.find_folded.Goals as goal

pub returns-in-Ok : goal.returns-in-Ok
returns-in-Ok c =
    let found = c.in-Ok.ensures.position (λ e. name_cmp e.0 (folded c.args.name.now)) (always_returns_same _ _ _ (λ a r f' k. (search rules, search rules))) in
    found_at c.args.items.now (folded c.args.name.now) c.requires c.in-Ok.place c.index-items-place.result c.in-Ok.ensures.bound (found c.index-items-place.result)

pub returns-in-Err : goal.returns-in-Err
returns-in-Err c =
    none_at c.args.items.now (folded c.args.name.now) c.requires c.in-Err.field-0 (c.in-Err.ensures.position (λ e. name_cmp e.0 (folded c.args.name.now)) (always_returns_same _ _ _ (λ a r f' k. (search rules, search rules))))
