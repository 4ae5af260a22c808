-- Each key at its end, and the whole key last.
use Rattle.std.proofs.Common.{◌≡◌, ◌+◌, true, false, List, [], ◌∷◌, ℕ, sym, ap, subst, ◌∙◌, arith}
use Rattle.std.specs.Prelude.{◌==◌, nat_eq}
use Rattle.std.specs.List.{slice_index_or}
use Rattle.std.proofs.lemmas.Bool.Decides.{nat_tests}
use Rattle.mi_text.specs.Maps.{Map}
use Rattle.mi_base.specs.Limits.{is_key}
use Rattle.mi_steps.specs.declared.plan.Plan.{Plan}
use Rattle.mi_steps.specs.Follows.{Follows}
use Rattle.mi_steps.specs.Makes.{plan_machine}
use Rattle.mi_model.specs.Parents.{key_touch}
use Rattle.mi_records.specs.Keeps.{Keeps}
use Rattle.mi_records.proofs.PartLemmas.{key_front}
use Rattle.mi_records.proofs.KeyLemmas.{Along, along_start, along_pass, along_end, along_all, keeps_not, keeps_on, front_at, if_ok}
use Rattle.mi_records.proofs.keys.make_keys.Goals as goal
use Rattle.mi_records.proofs.keys.make_keys.Goals.{then-byte-eq92+in_ok-make_key, else-byte-eq92}

pub loop-place-init : goal.loop-place-init
loop-place-init c = record {
  along = λ held files. along_start files (plan_machine held files c.args.plan.now) c.args.plan.now.script c.args.root c.args.key.now;
  keeps = keeps_not c.args.plan.now;
}

pub make_key-requires-clause-key : goal.make_key-requires-clause-key
make_key-requires-clause-key c =
    let slash : (slice_index_or c.args.key.now c.loop-place.place 0 == 92) ≡ true = ap (λ (l : List ℕ). nat_eq (slice_index_or l c.loop-place.place 0) 92) (sym c.as_bytes-byte-items.ensures.value) ∙ ap (λ n. nat_eq n 92) c.if-byte-eq92.true in
    let long = c.as_bytes-byte-items.ensures.len in
    ap is_key (c.range.ensures.value ∙ front_at c.args.key.now c.loop-place.place) ∙ key_front c.args.key.now c.loop-place.place (omega (arith, long, c.loop-place-test.true)) slash c.requires.key

pub loop-place-preserved : goal.loop-place-preserved
loop-place-preserved c =
    let long = c.as_bytes-byte-items.ensures.len in
    elim c.if-byte-eq92.branch [
      | then-byte-eq92+in_ok-make_key w ↦
          let slash : (slice_index_or c.args.key.now c.loop-place.place 0 == 92) ≡ true = ap (λ (l : List ℕ). nat_eq (slice_index_or l c.loop-place.place 0) 92) (sym c.as_bytes-byte-items.ensures.value) ∙ ap (λ n. nat_eq n 92) w.if-byte-eq92.true in
          subst (λ (p : Plan). record {
            along : (held files : Map (List ℕ)) → Along files (plan_machine held files c.args.plan.now) (plan_machine held files p) c.args.plan.now.script p.script c.args.root c.args.key.now (c.loop-place.place + 1);
            keeps : Keeps c.args.plan.now p;
          }) (sym w.plan-is)
          (record {
            along = λ held files. along_end files (plan_machine held files c.args.plan.now) (plan_machine held files c.loop-place.plan) c.args.plan.now.script c.loop-place.plan.script c.args.root c.args.key.now c.loop-place.place (c.loop-place.invariant.along held files)
                (plan_machine held files w.make_key.new.plan) w.make_key.new.plan.script (omega (arith, long, c.loop-place-test.true)) slash
                (subst (λ (k : List ℕ). Follows files (plan_machine held files c.loop-place.plan) (plan_machine held files w.make_key.new.plan) c.loop-place.plan.script w.make_key.new.plan.script (key_touch c.args.root k ∷ [])) (w.range.ensures.value ∙ front_at c.args.key.now c.loop-place.place) (w.in_ok-make_key.ensures.makes held files));
            keeps = keeps_on c.args.plan.now c.loop-place.plan w.make_key.new.plan c.loop-place.invariant.keeps w.in_ok-make_key.ensures.keeps;
          })
      | else-byte-eq92 w ↦
          let other = w.if-byte-eq92.false in
          let inner : (slice_index_or c.args.key.now c.loop-place.place 0 == 92) ≡ false = ap (λ (l : List ℕ). nat_eq (slice_index_or l c.loop-place.place 0) 92) (sym c.as_bytes-byte-items.ensures.value) ∙ grind (arith, nat_tests) in
          subst (λ (p : Plan). record {
            along : (held files : Map (List ℕ)) → Along files (plan_machine held files c.args.plan.now) (plan_machine held files p) c.args.plan.now.script p.script c.args.root c.args.key.now (c.loop-place.place + 1);
            keeps : Keeps c.args.plan.now p;
          }) (sym w.plan-is)
          (record {
            along = λ held files. along_pass files (plan_machine held files c.args.plan.now) (plan_machine held files c.loop-place.plan) c.args.plan.now.script c.loop-place.plan.script c.args.root c.args.key.now c.loop-place.place (c.loop-place.invariant.along held files) (omega (arith, long, c.loop-place-test.true)) inner;
            keeps = c.loop-place.invariant.keeps;
          })
    ]

pub returns-clause-makes : goal.returns-clause-makes
returns-clause-makes c = λ held files.
    let long = c.as_bytes-byte-items.ensures.len in
    if_ok c.make_key-2.result (c.make_key-2.ensures.makes held files)
    (along_all files (plan_machine held files c.args.plan.now) (plan_machine held files c.loop-place.plan) c.args.plan.now.script c.loop-place.plan.script c.args.root c.args.key.now c.loop-place.place (c.loop-place.invariant.along held files)
    (plan_machine held files c.make_key-2.new.plan) c.make_key-2.new.plan.script (omega (arith, long, c.loop-place-test.false, c.loop-place.auto.place-end)) c.requires.key)
