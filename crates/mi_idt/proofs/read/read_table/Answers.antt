use Rattle.std.proofs.Common.{◌∙◌, ap, arith}
use Rattle.std.proofs.lemmas.Bool.{le-ltb}
use Rattle.mi_idt.proofs.Basics.{shown}
use Rattle.mi_idt.proofs.ReadLemmas.{many_bytes, many_ends, reads_table}
use Rattle.mi_idt.proofs.TableLaws.{spells_exactly}
use Rattle.mi_idt.proofs.read.read_table.Goals as goal

pub returns-then-bytes-gt-MAX_BYTES-clause-reads : goal.returns-then-bytes-gt-MAX_BYTES-clause-reads
returns-then-bytes-gt-MAX_BYTES-clause-reads c = many_bytes c.args.bytes.now c.if-bytes-gt-MAX_BYTES.true

pub returns-then-bytes-gt-MAX_BYTES-clause-exact : goal.returns-then-bytes-gt-MAX_BYTES-clause-exact
returns-then-bytes-gt-MAX_BYTES-clause-exact c = spells_exactly c.args.bytes.now

pub returns-then-ends-clause-reads : goal.returns-then-ends-clause-reads
returns-then-ends-clause-reads c = many_ends c.args.bytes.now (le-ltb _ _ c.if-bytes-gt-MAX_BYTES.false) (omega (arith, c.count-ends.ensures, c.if-ends.true))

pub returns-then-ends-clause-exact : goal.returns-then-ends-clause-exact
returns-then-ends-clause-exact c = spells_exactly c.args.bytes.now

pub returns-in_err-lines-clause-exact : goal.returns-in_err-lines-clause-exact
returns-in_err-lines-clause-exact c = spells_exactly c.args.bytes.now

pub returns-clause-reads : goal.returns-clause-reads
returns-clause-reads c = reads_table c.read_lines.result c.args.bytes.now (shown c.deref.result.now) c.if-bytes-gt-MAX_BYTES.false (ap shown c.deref.ensures.value ∙ c.in_ok-lines.ensures) c.read_lines.ensures

pub returns-clause-exact : goal.returns-clause-exact
returns-clause-exact c = spells_exactly c.args.bytes.now
