use Rattle.std.proofs.Common.{◌≡◌, ℕ, List, sym, subst, ◌∙◌}
use Rattle.mi_text.specs.Maps.{Map}
use Rattle.mi_print_looks.specs.Machines.{no_files, machine_in}
use Rattle.mi_show.specs.Machines.{IsScanned}
use Rattle.mi_show.specs.Differences.{different}
use Rattle.mi_show.proofs.DiffLemmas.{different_of}
use Rattle.mi_show.proofs.differences.diff.Goals as goal

pub returns-clause-text : goal.returns-clause-text
returns-clause-text g c = λ told told_other.
    let state = g.V.Volume.state in
    let state_other = g.W.Volume.state in
    let held = (state c.args.vol.now).held in
    let held_other = (state_other c.args.other.now).held in
    let before = c.in_ok-before.before in
    let after = c.in_ok-after.after in
    let same : (state c.scan.new.vol).held ≡ held = (c.in_ok-after.ensures.looks told).stays.held in
    let same_other : (state_other c.scan_other.new.other).held ≡ held_other = (c.in_ok-before.ensures.looks told_other).stays.held in
    different_of held held_other after before c.from_vec.result (c.in_ok-after.ensures.image told no_files) (c.in_ok-before.ensures.image told_other) (λ there there_other.
    c.from_vec.ensures
    ∙ c.in_ok-text.ensures.text told told_other (subst (λ (d : Map (List ℕ)). IsScanned d after) (sym same) there) (subst (λ (d : Map (List ℕ)). IsScanned d before) (sym same_other) there_other)
    ∙ (λ i. different (machine_in (same_other i) before) (machine_in (same i) after)))
