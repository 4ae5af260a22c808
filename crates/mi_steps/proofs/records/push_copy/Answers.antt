use Rattle.std.proofs.Common.{rules, refl, subst, sym}
use Rattle.mi_steps.specs.Carried.{IsCarried}
use Rattle.mi_steps.proofs.OutsideLemmas.{head_outside}
use Rattle.mi_steps.proofs.records.push_copy.Goals as goal

pub push-requires : goal.push-requires
push-requires c = record {
  carried = subst IsCarried (sym c.in_ok-copy.ensures) (record {
    outside = head_outside c.args.name.now c.args.head.now c.requires.may;
    may = (c.requires.may, refl);
  });
}

-- Written out, so that an edit that turns it is refused at once (docs/CONTRIBUTING.md).
pub returns-clause-ok : goal.returns-clause-ok
returns-clause-ok c = search rules
