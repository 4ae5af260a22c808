use Rattle.std.proofs.Common.{sym, ◌∙◌}
use Rattle.mi_source.proofs.FileLemmas.{get-files}
use Rattle.mi_source.proofs.mem_source.bytes_at.Goals as goal

pub returns : goal.returns
returns c = c.get.ensures.value ∙ sym (get-files c.args.files.now.entries c.args.path.now)
