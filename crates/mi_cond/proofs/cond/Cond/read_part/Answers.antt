use Rattle.std.proofs.Common.{Err}
use Rattle.mi_cond.proofs.AnswerLaws.{answered}
use Rattle.mi_cond.proofs.ReadLaws.{says}
use Rattle.mi_cond.proofs.cond.Cond.read_part.Goals as goal

pub returns-in-Some-clause-fault : goal.returns-in-Some-clause-fault
returns-in-Some-clause-fault c = answered c.args.text.now (Err c.in-Some.fault) c.in-Some.ensures

pub returns-in_ok-part_of-in-None-clause-reads : goal.returns-in_ok-part_of-in-None-clause-reads
returns-in_ok-part_of-in-None-clause-reads c = (says c.args.text.now c.in_ok-part_of-in-None.field-0 c.in_ok-part_of-in-None.ensures c.in-None.ensures).reads

pub returns-in_ok-part_of-in-None-clause-only : goal.returns-in_ok-part_of-in-None-clause-only
returns-in_ok-part_of-in-None-clause-only c = (says c.args.text.now c.in_ok-part_of-in-None.field-0 c.in_ok-part_of-in-None.ensures c.in-None.ensures).only

pub returns-in_ok-part_of-in-None-clause-answer : goal.returns-in_ok-part_of-in-None-clause-answer
returns-in_ok-part_of-in-None-clause-answer c = (says c.args.text.now c.in_ok-part_of-in-None.field-0 c.in_ok-part_of-in-None.ensures c.in-None.ensures).answer
