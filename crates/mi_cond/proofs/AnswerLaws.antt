-- The answer for a text is the one that the grammar gives.
use Rattle.std.proofs.Common.{◌≡◌, ℕ, ◌+◌, ◌≤◌, ◌<◌, Bool, true, false, List, [], ◌∷◌, length, drop, get_or, Option, Some, None, Result, Ok, Err, refl, sym, ap, subst, ◌∙◌, arith, length-drop, add-one}
use Rattle.std.specs.Prelude.{nat_lt, cond}
use Rattle.std.proofs.lemmas.Bool.Decides.{nat_tests}
use Rattle.std.proofs.Math.Seq.{drop-cons}
use Rattle.mi_cond.specs.declared.error.CondFault.{CondFault}
use Rattle.mi_cond.specs.declared.error.CondFault.TheVariants.{TooDeep}
use Rattle.mi_cond.specs.Tree.{Tree}
use Rattle.mi_cond.specs.Steps.{depth_at}
use Rattle.mi_cond.specs.Moves.{Place, byte, read_end}
use Rattle.mi_cond.specs.Answer.{IsAnswer, ended, goes_on, read_from, condition_of}
use Rattle.mi_cond.proofs.Texts.{start, Taken, taken_none, taken_more, wrong_byte, deep_byte, text_is_read, text_ended}
use Rattle.mi_cond.proofs.Laws.{one_tree, one_fault, read_has_no_fault}

at_end : (text : List ℕ) (i : ℕ) (p : Place) → i ≡ length text → Taken text i p → (o : Option Tree) → read_end p ≡ o → IsAnswer (ended i o) text
at_end text i p all taken None e = text_ended text i p all taken e
at_end text i p all taken (Some t) e = text_is_read text i p t (omega arith) taken e

reads : (rest text : List ℕ) (i : ℕ) (p : Place) → rest ≡ drop i text → i ≤ length text → Taken text i p → IsAnswer (read_from i rest p) text
reads [] text i p is le taken =
    let none : 0 ≡ length (drop i text) = ap length is in
    at_end text i p (omega (arith, none, length-drop i text)) taken (read_end p) refl
reads (b ∷ bs) text i p is le taken = next (λ q t. reads bs text (i + 1) q others (let h = lt in omega arith) t) (byte p b) refl
  where
    lt : i < length text
    lt = let some : length (b ∷ bs) ≡ length (drop i text) = ap length is in omega (arith, some, length-drop i text)

    parts : b ∷ bs ≡ get_or text i 0 ∷ drop (i + 1) text
    parts = is ∙ drop-cons text i 0 lt ∙ ap (λ n. get_or text i 0 ∷ drop n text) (sym (add-one i))

    first : b ≡ get_or text i 0
    first = let e = parts in cc

    others : bs ≡ drop (i + 1) text
    others = let e = parts in cc

    deep : (More : (q : Place) → Taken text (i + 1) q → IsAnswer (read_from (i + 1) bs q) text) (q : Place) → byte p b ≡ Some q → (d : Bool) → nat_lt 64 (depth_at q.state) ≡ d → IsAnswer (cond d (Err (TooDeep i)) (read_from (i + 1) bs q)) text
    deep more q e true d = deep_byte text i p q b lt first taken e (grind (arith, nat_tests))
    deep more q e false d = more q (taken_more text i p q b lt first taken e (grind (arith, nat_tests)))

    next : (More : (q : Place) → Taken text (i + 1) q → IsAnswer (read_from (i + 1) bs q) text) (o : Option Place) → byte p b ≡ o → IsAnswer (goes_on i o (read_from (i + 1) bs)) text
    next more None e = wrong_byte text i p b lt first taken e
    next more (Some q) e = deep more q e (nat_lt 64 (depth_at q.state)) refl

-- the answer is one that the grammar gives
pub answer_is : (text : List ℕ) → IsAnswer (condition_of text) text
unfolding condition_of
answer_is text = reads text text 0 start refl (omega arith) (taken_none text)

-- and the grammar gives one
pub one_answer : (text : List ℕ) (r s : Result Tree CondFault) → IsAnswer r text → IsAnswer s text → r ≡ s
one_answer text (Ok t) (Ok u) a b = ap Ok (one_tree 64 64 text t u a.reads b.reads)
one_answer text (Ok t) (Err g) a b = absurd (read_has_no_fault text t g a.reads b)
one_answer text (Err f) (Ok u) a b = absurd (read_has_no_fault text u f b.reads a)
one_answer text (Err f) (Err g) a b = ap Err (one_fault text f g a b)

-- what a known answer says
pub answered : (text : List ℕ) (r : Result Tree CondFault) → condition_of text ≡ r → IsAnswer r text
answered text r e = subst (λ (s : Result Tree CondFault). IsAnswer s text) e (answer_is text)
