use Rattle.std.proofs.Common.{Some, take, ap, ◌∙◌}
use Rattle.std.specs.FinMap.{get}
use Rattle.mi_text.specs.Maps.{Name}
use Rattle.mi_volume.specs.Maps.{bytes_or_none}
use Rattle.mi_undo.specs.Names.{marker}
use Rattle.mi_undo.specs.Stands.{is_one}
use Rattle.mi_print_looks.proofs.LookLemmas.{two_tell}
use Rattle.mi_print_looks.proofs.waiting.is_waiting.Goals as goal

pub returns-clause-value : goal.returns-clause-value
returns-clause-value g c = λ told.
    let held = (g.V.Volume.state c.args.vol.now).held in
    let bytes = c.as_slice.ensures ∙ c.in_ok-bytes.ensures.value told ∙ ap (λ (q : Name). take 2 (bytes_or_none (get held q))) c.in_ok-name.ensures in
    c.is_open.ensures
    ∙ (λ i. is_one (Some (bytes i)))
    ∙ two_tell (get held marker)
