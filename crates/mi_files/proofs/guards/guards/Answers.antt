-- Both tables.
use Rattle.std.proofs.Common.{List, ap}
use Rattle.std.specs.List.{list_any}
use Rattle.std.specs.BTreeMap.{is_at}
use Rattle.mi_text.specs.Maps.{Name, name_cmp}
use Rattle.mi_files.proofs.FileGuardLemmas.{both_guard}
use Rattle.mi_files.proofs.guards.guards.Goals as goal

pub returns : goal.returns
returns g c = λ w asked. both_guard w c.new-set.result c.add_files.new.set c.add_copies.new.set (λ name. ap (λ (ks : List Name). list_any (is_at (name_cmp name)) ks) c.new-set.ensures.empty) (c.in_ok-add_files.ensures w asked) (c.in_ok-add_copies.ensures w asked)
