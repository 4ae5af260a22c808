-- A text is one condition or has one fault, and not both.
use Rattle.std.proofs.Common.{◌≡◌, ℕ, ◌≤◌, List, sym, ap, subst, arith}
use Rattle.mi_cond.specs.declared.error.CondFault.{CondFault}
use Rattle.mi_cond.specs.declared.error.CondFault.TheVariants as fault
use Rattle.mi_cond.specs.Tree.{Tree}
use Rattle.mi_cond.specs.Grammar.{Reads}
use Rattle.mi_cond.specs.Place.{IsPlace, IsDeeper, IsConditionFault}
use Rattle.mi_cond.proofs.Texts.{reads_one}

-- a text reads as at most one tree
pub one_tree : (n m : ℕ) (text : List ℕ) (t u : Tree) → Reads n text t → Reads m text u → t ≡ u
one_tree n m text t u r s = reads_one n m text t u r s

pub one_place : (text : List ℕ) (p q : ℕ) → IsPlace text p → IsPlace text q → p ≡ q
one_place text p q a b =
    let up : p ≤ q = b.longest p a.in_text a.begins in
    let down : q ≤ p = a.longest q b.in_text b.begins in
    omega arith

-- a text has at most one fault
pub one_fault : (text : List ℕ) (f g : CondFault) → IsConditionFault f text → IsConditionFault g text → f ≡ g
one_fault text (fault.Syntax p) (fault.Syntax q) a b = ap fault.Syntax (one_place text p q a.0 b.0)
one_fault text (fault.TooDeep p) (fault.TooDeep q) a b = ap fault.TooDeep (one_place text p q a.0 b.0)
one_fault text (fault.Syntax p) (fault.TooDeep q) a b = absurd (a.1 (subst (IsDeeper text) (sym (one_place text p q a.0 b.0)) b.1))
one_fault text (fault.TooDeep p) (fault.Syntax q) a b = absurd (b.1 (subst (IsDeeper text) (one_place text p q a.0 b.0) a.1))

-- a condition has none
pub read_has_no_fault : (text : List ℕ) (t : Tree) (f : CondFault) → Reads 64 text t → IsConditionFault f text → ⊥
read_has_no_fault text t (fault.Syntax p) r a = (a.0).none t r
read_has_no_fault text t (fault.TooDeep p) r a = (a.0).none t r
