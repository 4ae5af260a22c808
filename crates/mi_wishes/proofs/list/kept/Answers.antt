use Rattle.std.proofs.Common.{List, ℕ, sym, ap, ◌∙◌, ◌||◌}
use Rattle.std.specs.List.{list_any}
use Rattle.std.specs.BTreeSet.{contains}
use Rattle.mi_text.specs.Maps.{name_cmp}
use Rattle.mi_model.specs.FeatureLists.{is_all}
use Rattle.mi_wishes.specs.Lists.{names_feature}
use Rattle.mi_wishes.proofs.RowLemmas.{names-among}
use Rattle.mi_wishes.proofs.list.kept.Goals as goal

pub returns : goal.returns
returns c = λ list e q.
    ap (λ b. b || contains name_cmp c.in_ok-names.names q) c.any_all-all.ensures
    ∙ ap (λ b. list_any is_all c.args.items.now || b) (c.in_ok-names.ensures q)
    ∙ sym (names-among c.args.items.now q)
    ∙ ap (λ (items : List (List ℕ)). list_any (names_feature q) items) e
