-- Reading on in a text from place to place gives the answer for the text.
use Rattle.std.proofs.Common.{◌≡◌, ℕ, ◌+◌, ◌<◌, ◌≤◌, List, [], length, drop, Option, Some, None, Result, Ok, Err, refl, sym, ap, subst, ◌∙◌, ◌-◌, arith}
use Rattle.std.proofs.lemmas.List.{drop_all, drop-drop, length-drop}
use Rattle.mi_cond.specs.declared.error.CondFault.{CondFault}
use Rattle.mi_cond.specs.declared.error.CondFault.TheVariants.{Syntax, TooDeep}
use Rattle.mi_cond.specs.declared.token.Token.{Token}
use Rattle.mi_cond.specs.declared.front.Front.{Front}
use Rattle.mi_cond.specs.declared.front.Front.TheVariants as front
use Rattle.mi_cond.specs.Tree.{Tree}
use Rattle.mi_cond.specs.Steps.{StateOf, State, Wants, fresh, end_by, depth_at, step, end_of, wants_value, has_value}
use Rattle.mi_cond.specs.Moves.{between}
use Rattle.mi_cond.specs.Truths.{truths, state_value, AnswersValue}
use Rattle.mi_cond.specs.Grammar.{Reads}
use Rattle.mi_cond.specs.Answer.{ended, shallow, goes_on, read_from, tree_in, IsCondition, condition_of}
use Rattle.mi_cond.proofs.AnswerLaws.{answered}
use Rattle.mi_cond.specs.Fronts.{read_at, left_at, by_front, IsAt, Stands, ReadsTo, ReadsOn, TokenRead, BracketRead}
use Rattle.mi_cond.proofs.Bounds.{step_depth}
use Rattle.std.proofs.lemmas.Bool.Decides.{nat_tests}
use Rattle.std.specs.Prelude.{nat_lt, option_map}
use Rattle.std.proofs.Common.{Bool, true, false, cond}
use Rattle.mi_cond.proofs.FrontLaws.{Answer, shallow_is, between_reads}
use Rattle.mi_cond.proofs.Values.{step_there, no_step_there, end_there, depth_same, wants_same, has_same}
use Rattle.mi_text.specs.Lookups.{Lookups}

pub record ReadsFrom (text : List ℕ) (at : ℕ) (s : State) : Type 0 where
  pub within : at ≤ length text
  pub deep : depth_at s ≤ 65
  pub same : condition_of text ≡ read_at at s (drop at text)

pub reads_first : (text : List ℕ) (s : State) → s ≡ Wants [] fresh → ReadsFrom text 0 s
unfolding condition_of
reads_first text s e =
    record {
      within = omega arith;
      deep = let low : depth_at s ≡ 0 = ap depth_at e in omega arith;
      same = between_reads 0 (Wants [] fresh) text ∙ ap (λ (t : State). read_at 0 t text) (sym e);
    }

pub reads_on : (text : List ℕ) (at later : ℕ) (s n : State) → ReadsFrom text at s → ReadsTo text at s later n → ReadsFrom text later n
reads_on text at later s n from to = record { within = to.within; deep = to.shallow; same = from.same ∙ to.same }

pub reads_end : (text : List ℕ) (at : ℕ) (s : State) → length text ≤ at → ReadsFrom text at s → condition_of text ≡ ended at (end_of s)
reads_end text at s ge from = from.same ∙ ap (read_at at s) (drop_all at text ge)

-- ---- what stands at a place

too_deep : (at : ℕ) (s : State) (r : Answer) → 64 < depth_at s → shallow at s r ≡ Err (TooDeep at)
too_deep at s r lt = let deep : nat_lt 64 (depth_at s) ≡ true = grind (arith, nat_tests) in ap (λ (b : Bool). cond b (Err (TooDeep at)) r) deep

here : (text rest : List ℕ) (at : ℕ) (s : State) (f : Front) → rest ≡ drop at text → IsAt (Stands (wants_value s) (has_value s)) rest f → read_at at s (drop at text) ≡ by_front at s (drop at text) f
here text rest at s f same is = (subst (λ (r : List ℕ). IsAt (Stands (wants_value s) (has_value s)) r f) same is).reads at s (refl, refl)

behind : (text : List ℕ) (at n : ℕ) → drop n (drop at text) ≡ drop (at + n) text
behind text at n = drop-drop n at text

-- ---- what the functions answer, where what was read so far is the value of what stands there

-- what stands at a place, as the program asks for it
pub front_here : (env : Lookups) (wants has : Bool) (rest : List ℕ) (s : State) (old : StateOf Bool) (f g : Front) → state_value env s ≡ old → wants ≡ wants_value old → has ≡ has_value old → f ≡ g → IsAt (Stands wants has) rest f
    → IsAt (Stands (wants_value s) (has_value s)) rest g
front_here env wants has rest s old f g is w h e at_f =
    let w_is : wants ≡ wants_value s = w ∙ sym (ap wants_value is) ∙ wants_same env s in
    let h_is : has ≡ has_value s = h ∙ sym (ap has_value is) ∙ has_same env s in
    subst (λ (x : Front). IsAt (Stands (wants_value s) (has_value s)) rest x) e (subst (λ (b : Bool). IsAt (Stands (wants_value s) b) rest f) h_is (subst (λ (b : Bool). IsAt (Stands b has) rest f) w_is at_f))

-- how deep it is there
there : (env : Lookups) (s : State) (old : StateOf Bool) → state_value env s ≡ old → depth_at old ≡ depth_at s
there env s old is = sym (ap depth_at is) ∙ depth_same env s

-- a fault at this place, or behind what stands there
fault_by : (at place : ℕ) (s : State) (more : Answer) (f : CondFault) → f ≡ cond (nat_lt 64 (depth_at s)) (TooDeep at) (Syntax place) → (depth_at s ≤ 64 → more ≡ Err (Syntax place)) → shallow at s more ≡ Err f
fault_by at place s more f is e = by (nat_lt 64 (depth_at s)) refl
  where
    by : (b : Bool) → nat_lt 64 (depth_at s) ≡ b → shallow at s more ≡ Err f
    by true deep = too_deep at s more (grind (arith, nat_tests)) ∙ ap Err (sym (is ∙ ap (λ (b : Bool). cond b (TooDeep at) (Syntax place)) deep))
    by false fine =
        let le : depth_at s ≤ 64 = grind (arith, nat_tests) in
        shallow_is at s more le ∙ e le ∙ ap Err (sym (is ∙ ap (λ (b : Bool). cond b (TooDeep at) (Syntax place)) fine))

pub dead_on : (env : Lookups) (text rest : List ℕ) (at n : ℕ) (s : State) (old : StateOf Bool) (f : CondFault) → rest ≡ drop at text → IsAt (Stands (wants_value s) (has_value s)) rest (front.Dead n) → state_value env s ≡ old
    → f ≡ cond (nat_lt 64 (depth_at old)) (TooDeep at) (Syntax (at + n)) → ReadsOn env text at s old (Err f)
dead_on env text rest at n s old f same at_f is f_is =
    here text rest at s (front.Dead n) same at_f ∙ fault_by at (at + n) s (Err (Syntax (at + n))) f (f_is ∙ ap (λ (d : ℕ). cond (nat_lt 64 d) (TooDeep at) (Syntax (at + n))) (there env s old is)) (λ le. refl)

pub blank_on : (env : Lookups) (text rest : List ℕ) (at : ℕ) (s : State) (old : StateOf Bool) (r : Result ℕ CondFault) → at < length text → rest ≡ drop at text → IsAt (Stands (wants_value s) (has_value s)) rest front.Blank → state_value env s ≡ old
    → r ≡ cond (nat_lt 64 (depth_at old)) (Err (TooDeep at)) (Ok (at + 1)) → ReadsOn env text at s old r
blank_on env text rest at s old r lt same at_f is r_is = subst (ReadsOn env text at s old) (sym (r_is ∙ ap (λ (d : ℕ). cond (nat_lt 64 d) (Err (TooDeep at)) (Ok (at + 1))) (there env s old is))) (by (nat_lt 64 (depth_at s)) refl)
  where
    by : (b : Bool) → nat_lt 64 (depth_at s) ≡ b → ReadsOn env text at s old (cond b (Err (TooDeep at)) (Ok (at + 1)))
    by true deep = here text rest at s front.Blank same at_f ∙ ap (λ (b : Bool). cond b (Err (TooDeep at)) (read_at (at + 1) s (drop 1 (drop at text)))) deep
    by false fine =
        let le : depth_at s ≤ 64 = grind (arith, nat_tests) in (
          s,
          is,
          record {
            on = omega arith;
            within = omega arith;
            shallow = omega arith;
            same = here text rest at s front.Blank same at_f ∙ shallow_is at s (read_at (at + 1) s (drop 1 (drop at text))) le ∙ ap (read_at (at + 1) s) (behind text at 1);
          },
        )

left_none : (at : ℕ) (o : Option State) (rest : List ℕ) → o ≡ None → left_at at o rest ≡ Err (Syntax at)
left_none at o rest e = ap (λ (p : Option State). left_at at p rest) e

pub token_on : (env : Lookups) (text rest : List ℕ) (at n : ℕ) (s : State) (old new : StateOf Bool) (x : Token) (r : Result ℕ CondFault) → at < length text → rest ≡ drop at text → IsAt (Stands (wants_value s) (has_value s)) rest (front.Token x n)
    → state_value env s ≡ old → TokenRead (truths env) at n old x new r → ReadsOn env text at s new r
token_on env text rest at n s old new x (Err f) lt same at_f is read =
    let deep = there env s old is in
    here text rest at s (front.Token x n) same at_f
    ∙ fault_by at (at + n) s (left_at (at + n) (step s x) (drop n (drop at text))) f (read.0 ∙ ap (λ (d : ℕ). cond (nat_lt 64 d) (TooDeep at) (Syntax (at + n))) deep)
    (λ le. left_none (at + n) (step s x) (drop n (drop at text)) (no_step_there env s old x is (read.1 (omega arith))))
token_on env text rest at n s old new x (Ok later) lt same at_f is read =
    let next = step_there env s old new x is read.2 in
    let deep = there env s old is in
    let fits = at_f.within in
    let long : length rest ≡ length text - at = ap length same ∙ length-drop at text in
    let deeper = step_depth s x next.0 next.1 in
    let place : at + n ≡ later = sym read.0 in
    let shallow_old = read.1 in
    let le : depth_at s ≤ 64 = omega arith in (
      next.0,
      next.2,
      record {
        on = omega arith;
        within = omega arith;
        shallow = omega arith;
        same = here text rest at s (front.Token x n) same at_f ∙ shallow_is at s (left_at (at + n) (step s x) (drop n (drop at text))) le
            ∙ ap (λ (o : Option State). left_at (at + n) o (drop n (drop at text))) next.1
            ∙ ap (read_at (at + n) next.0) (behind text at n)
            ∙ ap (λ (p : ℕ). read_at p next.0 (drop p text)) place;
      },
    )

pub bracket_on : (env : Lookups) (text rest : List ℕ) (at : ℕ) (s : State) (old new : StateOf Bool) (x : Token) (r : Result ℕ CondFault) → at < length text → rest ≡ drop at text → IsAt (Stands (wants_value s) (has_value s)) rest (front.Bracket x)
    → state_value env s ≡ old → BracketRead (truths env) at old x new r → ReadsOn env text at s new r
bracket_on env text rest at s old new x (Err (Syntax place)) lt same at_f is read =
    here text rest at s (front.Bracket x) same at_f
    ∙ ap (λ (o : Option State). goes_on at (option_map between o) (read_from (at + 1) (drop 1 (drop at text)))) (no_step_there env s old x is read.1)
    ∙ ap (λ (p : ℕ). Err (Syntax p)) (sym read.0)
bracket_on env text rest at s old new x (Err (TooDeep place)) lt same at_f is read =
    let next = step_there env s old new x is read.2 in
    let deep = there env next.0 new next.2 in
    let more = read.1 in
    here text rest at s (front.Bracket x) same at_f
    ∙ ap (λ (o : Option State). goes_on at (option_map between o) (read_from (at + 1) (drop 1 (drop at text)))) next.1
    ∙ too_deep at next.0 (read_from (at + 1) (drop 1 (drop at text)) (between next.0)) (omega arith)
    ∙ ap (λ (p : ℕ). Err (TooDeep p)) (sym read.0)
bracket_on env text rest at s old new x (Ok later) lt same at_f is read =
    let next = step_there env s old new x is read.2 in
    let deep = there env next.0 new next.2 in
    let place : at + 1 ≡ later = sym read.0 in
    let shallow_new = read.1 in
    let le : depth_at next.0 ≤ 64 = omega arith in (
      next.0,
      next.2,
      record {
        on = omega arith;
        within = omega arith;
        shallow = omega arith;
        same = here text rest at s (front.Bracket x) same at_f
            ∙ ap (λ (o : Option State). goes_on at (option_map between o) (read_from (at + 1) (drop 1 (drop at text)))) next.1
            ∙ shallow_is at next.0 (read_from (at + 1) (drop 1 (drop at text)) (between next.0)) le
            ∙ between_reads (at + 1) next.0 (drop 1 (drop at text))
            ∙ ap (read_at (at + 1) next.0) (behind text at 1)
            ∙ ap (λ (p : ℕ). read_at p next.0 (drop p text)) place;
      },
    )

-- ---- the whole text

-- what was read up to a place is the value of what stands there
pub record ReadsValue (env : Lookups) (text : List ℕ) (at : ℕ) (old : StateOf Bool) : Type 0 where
  pub state : State
  pub is : state_value env state ≡ old
  pub from : ReadsFrom text at state

pub reads_first_value : (env : Lookups) (text : List ℕ) (old : StateOf Bool) → old ≡ Wants [] fresh → ReadsValue env text 0 old
reads_first_value env text old e = record { state = Wants [] fresh; is = sym e; from = reads_first text (Wants [] fresh) refl }

pub ended_read : (env : Lookups) (text : List ℕ) (at : ℕ) (old : StateOf Bool) (b : Bool) → length text ≤ at → ReadsValue env text at old → end_by (truths env) old ≡ Some b → AnswersValue env (Ok b) text
ended_read env text at old b ge r e =
    let end = end_there env r.state old b r.is e in
    (end.0, reads_end text at r.state ge r.from ∙ ap (ended at) end.1, end.2)

-- ---- a text that is kept

pub is_condition : (text : List ℕ) (t : Tree) → condition_of text ≡ Ok t → IsCondition text
unfolding IsCondition
is_condition text t e = e ∙ ap Ok (sym (ap tree_in e))

pub no_fault : (text : List ℕ) (f : CondFault) → IsCondition text → condition_of text ≡ Err f → ⊥
unfolding IsCondition
no_fault text f is e = cc

-- what a condition says of a text that it keeps
pub record Says (text : List ℕ) (t : Tree) : Type 0 where
  pub reads : Reads 64 text t
  pub only : (n : ℕ) (u : Tree) → Reads n text u → u ≡ t
  pub answer : condition_of text ≡ Ok t

pub says : (text kept : List ℕ) → kept ≡ text → IsCondition text → Says text (tree_in (condition_of kept))
unfolding IsCondition
says text kept e is =
    let all = answered text (Ok (tree_in (condition_of text))) is in
    subst (λ (k : List ℕ). Says text (tree_in (condition_of k))) (sym e) (record { reads = all.reads; only = all.only; answer = is })
