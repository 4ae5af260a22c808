use Rattle.std.proofs.Common.{◌++◌, List, map, ap, ◌∙◌}
use Rattle.mi_text.specs.Maps.{Name}
use Rattle.mi_print_looks.specs.Machines.{no_files}
use Rattle.mi_print_looks.specs.Sets.{name_set}
use Rattle.mi_print_looks.proofs.SetLemmas.{now_of}
use Rattle.mi_print_looks.proofs.name_set.NameSet.add_names.Goals as goal

pub returns : goal.returns
returns c = λ had is.
    c.in_ok-add_all.ensures had is
    ∙ ap (λ (names : List Name). name_set (had ++ names)) (ap (map now_of) c.as_slice.ensures.value ∙ c.in_ok-names.ensures no_files no_files)
