-- Each text is a condition or has its one place, and which of the two the definition says.
use Rattle.std.proofs.Common.{◌≡◌, ℕ, ◌≤◌, List, Some, None, Result, Ok, Err, sym, ap, subst, arith}
use Rattle.std.specs.Prelude.{◌↔◌}
use Rattle.mi_cond.specs.Tree.{Tree}
use Rattle.mi_cond.specs.Place.{IsRead, IsPlace, IsConditionFault}
use Rattle.mi_cond.specs.declared.error.CondFault.{CondFault}
use Rattle.mi_cond.specs.declared.error.CondFault.TheVariants.{Syntax, TooDeep}
use Rattle.mi_cond.specs.Answer as answer
use Rattle.mi_cond.proofs.AnswerLaws.{answer_is}
use Rattle.mi_rows.specs.declared.field.Bad.TheVariants as bad
use Rattle.mi_rows.specs.Values.{place_of_fault, tree_of}
use Rattle.mi_rows.specs.Texts.{condition_of, place_in, placed}
use Rattle.mi_rows.proofs.Words.{IsCondition}

is_place : (f : CondFault) (text : List ℕ) → IsConditionFault f text → IsPlace text (place_in f)
is_place (Syntax place) text h = h.0
is_place (TooDeep place) text h = h.0

is_placed : (r : Result Tree CondFault) (text : List ℕ) → answer.IsAnswer r text → IsCondition (placed r) text
is_placed (Ok tree) text is = is
is_placed (Err f) text is = is_place f text is

-- the law of the definition
pub conditions_are : (text : List ℕ) → IsCondition (condition_of text) text
unfolding condition_of
conditions_are text = is_placed (answer.condition_of text) text (answer_is text)

-- and they are those that the grammar gives, and no others
is_the_tree : (r : Result Tree ℕ) (text : List ℕ) (tree : Tree) → IsCondition r text → IsRead text tree → r ≡ Ok tree
is_the_tree (Ok t) text tree is read = ap Ok (read.only 64 t is.reads)
is_the_tree (Err place) text tree is read = absurd (is.none tree read.reads)

is_the_place : (r : Result Tree ℕ) (text : List ℕ) (place : ℕ) → IsCondition r text → IsPlace text place → r ≡ Err place
is_the_place (Ok t) text place is at = absurd (at.none t is.reads)
is_the_place (Err p) text place is at =
    let below : p ≤ place = at.longest p is.in_text is.begins in
    let above : place ≤ p = is.longest place at.in_text at.begins in
    ap Err (let same : p ≡ place = omega (arith, below, above) in same)

pub reads_exactly : (text : List ℕ) (tree : Tree) → (condition_of text ≡ Ok tree) ↔ IsRead text tree
reads_exactly text tree = (λ e. subst (λ (r : Result Tree ℕ). IsCondition r text) e (conditions_are text), is_the_tree (condition_of text) text tree (conditions_are text))

pub stops_exactly : (text : List ℕ) (place : ℕ) → (condition_of text ≡ Err place) ↔ IsPlace text place
stops_exactly text place = (λ e. subst (λ (r : Result Tree ℕ). IsCondition r text) e (conditions_are text), is_the_place (condition_of text) text place (conditions_are text))

-- a text that reads as a tree
condition_read : (text : List ℕ) (t : Tree) → answer.condition_of text ≡ Ok t → condition_of text ≡ Ok t
unfolding condition_of
condition_read text t is = ap placed is

-- a text that has a fault
condition_refused : (text : List ℕ) (f : CondFault) → answer.condition_of text ≡ Err f → condition_of text ≡ Err (place_in f)
unfolding condition_of
condition_refused text f is = ap placed is

-- what reading a condition answers
pub read_as : (text : List ℕ) (t : Tree) → answer.condition_of text ≡ Ok t → (place_of_fault (condition_of text) ≡ None) × (Some t ≡ Some (tree_of (condition_of text)))
read_as text t reads = let is = condition_read text t reads in (ap place_of_fault is, sym (ap (λ (r : Result Tree ℕ). Some (tree_of r)) is))

pub refused_as : (text : List ℕ) (f : CondFault) → answer.condition_of text ≡ Err f → place_of_fault (condition_of text) ≡ Some (bad.Condition (place_in f))
refused_as text f fault = ap place_of_fault (condition_refused text f fault)
