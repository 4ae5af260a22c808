use Rattle.mi_commands.proofs.ReplyLemmas.{memory_front}
use Rattle.mi_commands.proofs.reply.memory_line.Goals as goal

pub returns-else-walks : goal.returns-else-walks
returns-else-walks c = memory_front c.args.walks c.if-walks.false
