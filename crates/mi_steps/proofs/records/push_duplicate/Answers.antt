use Rattle.std.proofs.Common.{subst, sym}
use Rattle.mi_steps.specs.Carried.{IsCarried}
use Rattle.mi_steps.proofs.OutsideLemmas.{head_outside}
use Rattle.mi_steps.proofs.records.push_duplicate.Goals as goal

pub push-requires : goal.push-requires
push-requires c = record {
  carried = subst IsCarried (sym c.in_ok-duplicate.ensures) (record {
    outside = head_outside c.args.name.now c.args.head.now c.requires.may;
    may = (c.requires.may, c.requires.other, c.requires.from);
  });
}
