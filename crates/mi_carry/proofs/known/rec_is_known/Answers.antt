use Rattle.mi_carry.proofs.KnownLemmas.{head_of_copy, head_of_dup}
use Rattle.mi_carry.proofs.known.rec_is_known.Goals as goal

pub returns-in-Copy : goal.returns-in-Copy
returns-in-Copy c = rw c.in-Copy.is (λ whole. (
  c.name_is_known-in-Copy.ensures,
  c.head_is_known.ensures (head_of_copy c.in-Copy.name c.in-Copy.head c.in-Copy.file c.in-Copy.path c.in-Copy.length whole),
  c.text_is_known.ensures,
  c.text_is_known-in-Copy.ensures,
  c.number_is_known.ensures,
))

pub returns-in-Dup : goal.returns-in-Dup
returns-in-Dup c = rw c.in-Dup.is (λ whole. (
  c.name_is_known-in-Dup.ensures,
  c.head_is_known-in-Dup.ensures (head_of_dup c.in-Dup.name c.in-Dup.head c.in-Dup.from whole),
  c.name_is_known-in-Dup-2.ensures,
))
