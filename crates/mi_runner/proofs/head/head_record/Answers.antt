use Rattle.mi_runner.proofs.HeadLemmas.{empty_is_head}
use Rattle.mi_runner.proofs.head.head_record.Goals as goal

pub returns : goal.returns
returns c = empty_is_head c.file_record-record.result c.args.head.now c.in_ok-empty_file.field-0 c.in_ok-empty_file.ensures c.file_record-record.ensures
