use Rattle.std.proofs.Common.{refl}
use Rattle.mi_variables.specs.Forms.{meant}
use Rattle.mi_environment.specs.Variables.{taken_touches}
use Rattle.mi_environment.proofs.remove.take_row.Goals as goal

pub returns-in-Ok-clause-row : goal.returns-in-Ok-clause-row
returns-in-Ok-clause-row c = λ guarded held files guards. record {
  touches = taken_touches c.args.leaving guarded c.args.name.now (meant c.args.form);
  gives = refl;
  makes = c.in-Ok.ensures.makes guarded held files guards;
}
