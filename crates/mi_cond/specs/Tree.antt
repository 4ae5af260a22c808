-- What a condition is: operators of one kind group from the left, and brackets leave no trace.
use Rattle.std.specs.Prelude.{Option, None, Some}
use Rattle.mi_cond.specs.declared.operand.Operator.{Operator}
use Rattle.mi_cond.specs.declared.operand.Comparison.{Comparison}
use Rattle.mi_cond.specs.declared.operand.Value.{Value}

pub data Tree : Type 0 where
  Alone : (value : Value) → Tree
  Compare : (comparison : Comparison) → (left right : Value) → Tree
  Not : (inside : Tree) → Tree
  Both : (op : Operator) → (left right : Tree) → Tree

-- a row of operands so far, and one operand more, where `both` joins two
abbrev pub joined_by : {T : Type 0} → (Operator → T → T → T) → Operator → Option T → T → T
joined_by both op None t = t
joined_by both op (Some row) t = both op row t

abbrev pub joined : Operator → Option Tree → Tree → Tree
joined = joined_by Both
