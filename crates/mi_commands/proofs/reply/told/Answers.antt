use Rattle.std.proofs.lemmas.List.{append-nil}
use Rattle.mi_commands.proofs.reply.told.Goals as goal

pub returns-clause-log : goal.returns-clause-log
returns-clause-log c = append-nil c.args.text
