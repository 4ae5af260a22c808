use Rattle.std.proofs.Common.{◌≡◌, false, sym, ◌∙◌}
use Rattle.mi_base.specs.SpelledMaps.{is_area}
use Rattle.mi_image.proofs.ScanLemmas.{area_read, item_added, bad_answer}
use Rattle.mi_image.proofs.scan.add_name.Goals as goal

pub returns-then-begins-clause-adds : goal.returns-then-begins-clause-adds
returns-then-begins-clause-adds g c = λ told after next so_far.
    area_read (g.V.Volume.state c.args.vol.now).held after c.args.name.now c.args.found.now next (sym c.begins.ensures ∙ c.if-begins.true) so_far

pub returns-in_err-item-clause-bad : goal.returns-in_err-item-clause-bad
returns-in_err-item-clause-bad g c = λ told after next so_far n is.
    let free : is_area c.args.name.now ≡ false = sym c.begins.ensures ∙ c.if-begins.false in
    bad_answer (g.V.Volume.state c.args.vol.now).held after c.args.name.now n c.args.found.now c.from_residual.result c.in_err-item.field-0.0 next free c.from_residual.ensures.1 is (c.in_err-item.ensures.tells told) so_far

pub returns-clause-adds : goal.returns-clause-adds
returns-clause-adds g c = λ told after next so_far.
    let free : is_area c.args.name.now ≡ false = sym c.begins.ensures ∙ c.if-begins.false in
    item_added (g.V.Volume.state c.args.vol.now).held after c.args.name.now c.in_ok-item.item c.args.found.now c.put.new.self next free (c.in_ok-item.ensures.tells told) c.in_ok-put.ensures.ok so_far
