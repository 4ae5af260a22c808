use Rattle.std.proofs.Common.{ℕ, List, [], Bor, sym, ap, ◌∙◌}
use Rattle.std.specs.Prelude.{Vec}
use Rattle.std.specs.declared.alloc.Global.{Global}
use Rattle.mi_text.specs.Maps.{Name}
use Rattle.mi_world.specs.Variables.{pair_at}
use Rattle.mi_world.proofs.VariableLemmas.{sift_some, sift_none}
use Rattle.mi_world.proofs.variables.pairs_of.Goals as goal
use Rattle.mi_world.proofs.variables.pairs_of.Goals.{in-Some+in_ok-push-in-Some, in-None}

pub loop-name-preserved : goal.loop-name-preserved
loop-name-preserved c =
    let nothing : Bor (List ℕ) = record { ref_ptr = (0, 0); now = [] } in
    elim c.match-branch-2.branch [
      | in-Some+in_ok-push-in-Some w ↦
          ap (λ (v : Vec (Name × List ℕ) Global). v.items) w.pairs-is
          ∙ sift_some (pair_at c.args.image.now) c.args.names.now c.loop-name.name-index nothing c.loop-name-test.true c.loop-name.pairs.items w.push.new.self.items w.in-Some.pair (sym c.in_ok-pair.ensures ∙ w.in-Some.is) w.in_ok-push-in-Some.ensures.items c.loop-name.invariant
      | in-None w ↦
          ap (λ (v : Vec (Name × List ℕ) Global). v.items) w.pairs-is
          ∙ sift_none (pair_at c.args.image.now) c.args.names.now c.loop-name.name-index nothing c.loop-name-test.true c.loop-name.pairs.items (sym c.in_ok-pair.ensures ∙ w.in-None.is) c.loop-name.invariant
    ]
