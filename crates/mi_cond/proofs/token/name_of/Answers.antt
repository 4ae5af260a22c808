use Rattle.std.proofs.lemmas.Str.{IsUtf8-from_ascii}
use Rattle.mi_cond.proofs.FrontFinds.{names_ascii}
use Rattle.mi_cond.proofs.token.name_of.Goals as goal

pub unreachable-requires : goal.unreachable-requires
unreachable-requires c = (c.in-Err.ensures.cases).0 (IsUtf8-from_ascii c.args.name.now (names_ascii c.args.name.now c.requires))
