-- The rows, whose records copy nothing of the source.
use Rattle.std.proofs.Common.{◌≡◌, ◌≤◌, ℕ, false, length, drop, sym, ap, subst}
use Rattle.std.specs.List.{All}
use Rattle.mi_script.specs.declared.rec.Rec.{Rec}
use Rattle.mi_plan.specs.Lengths.{is_copy}
use Rattle.mi_plan.proofs.LengthLemmas.{grows_long, grown_lengths}
use Rattle.mi_plan.proofs.phases.plan_seen.Goals as goal

pub check_copies-requires : goal.check_copies-requires
check_copies-requires c = subst (λ (n : ℕ). n ≤ length c.plan_rows.new.plan.script) (sym (ap length c.recs-had.ensures.same)) (grows_long c.args.plan.now.script c.plan_rows.new.plan.script c.in-Ok.ensures.grows)

pub returns-in-Ok-check_copies-clause-lengths : goal.returns-in-Ok-check_copies-clause-lengths
returns-in-Ok-check_copies-clause-lengths c = λ files have.
    grown_lengths files c.args.plan.now.script c.plan_rows.new.plan.script c.in-Ok.ensures.grows
    (subst (λ (n : ℕ). All (λ (r : Rec). is_copy r ≡ false) (drop n c.plan_rows.new.plan.script)) (ap length c.recs-had.ensures.same) c.in-Ok-check_copies.ensures) have

pub returns-in-Err-Fault-clause-phase : goal.returns-in-Err-Fault-clause-phase
returns-in-Err-Fault-clause-phase c = λ held files x of there. rw c.in-Err-Fault.field-0-is at (c.in-Err-Fault.ensures.phase held files x of there)
