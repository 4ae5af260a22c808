use Rattle.std.proofs.Common.{Some, None, Bool, List, ℕ, Bor, cond, map, filter, ap, sym, ◌∙◌, arith}
use Rattle.std.specs.List.{filter_map}
use Rattle.std.proofs.lemmas.List.{append-nil, take_all}
use Rattle.mi_steps.specs.Trees.{seat_in, passes}
use Rattle.mi_steps.proofs.PruneLemmas.{picked_filter}
use Rattle.mi_steps.proofs.StepLemmas.{key_held, picked_at}
use Rattle.mi_steps.proofs.prune.all_gone.Goals as goal
use Rattle.mi_steps.proofs.prune.all_gone.Goals.{in-Some+in_ok-push, in_default}

pub gone-requires : goal.gone-requires
gone-requires c = key_held c.args.image.now c.args.names.now c.loop-name.name-index _ c.requires c.loop-name-test.true

pub loop-name-preserved : goal.loop-name-preserved
loop-name-preserved c =
    let pick = λ (q : List ℕ). cond (passes c.args.rule.now.touched c.args.rule.now.protected c.args.rule.now.kept (seat_in c.args.rule.now.tree q)) (Some q) None in
    elim c.match-branch-2.branch [
      | in-Some+in_ok-push w ↦ picked_at pick c.args.names.now c.loop-name.name-index _ c.in_ok-name.field-0 (Some w.in-Some.name) c.loop-name.all.items c.match-branch-2.all.items c.loop-name-test.true c.in_ok-name.ensures w.in-Some.is c.loop-name.invariant (ap (λ v. v.items) w.all-is ∙ w.in_ok-push.ensures.items)
      | in_default w ↦ picked_at pick c.args.names.now c.loop-name.name-index _ c.in_ok-name.field-0 None c.loop-name.all.items c.match-branch-2.all.items c.loop-name-test.true c.in_ok-name.ensures w.in_default.is c.loop-name.invariant (ap (λ v. v.items) w.all-is ∙ sym (append-nil c.loop-name.all.items))
    ]

pub returns : goal.returns
returns c =
    let goes : List ℕ → Bool = λ q. passes c.args.rule.now.touched c.args.rule.now.protected c.args.rule.now.kept (seat_in c.args.rule.now.tree q) in
    c.loop-name.invariant
    ∙ ap (λ (names : List (Bor (List ℕ))). filter_map (λ q. cond (goes q) (Some q) None) (map (λ n. n.now) names)) (take_all c.loop-name.name-index c.args.names.now (omega (arith, c.loop-name-test.false)))
    ∙ picked_filter goes (map (λ n. n.now) c.args.names.now)
    ∙ ap (filter goes) c.requires
