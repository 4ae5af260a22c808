-- A scan passes the bound of open marks exactly where some prefix has more open marks whose groups don't end in it.
use Rattle.std.proofs.Common.{◌≡◌, ℕ, suc, ◌+◌, ◌≤◌, Bool, true, false, cond, List, [], ◌∷◌, length, map, reverse, Option, Some, None, refl, sym, ap, ◌∙◌, arith, inl, inr, ◌&&◌, ◌||◌}
use Rattle.std.specs.Prelude.{nat_le, nat_lt, is_some}
use Rattle.std.specs.List.{list_any}
use Rattle.std.proofs.lemmas.List.{length-map, length-reverse}
use Rattle.std.proofs.lemmas.Bool.{cases_Bool}
use Rattle.std.proofs.lemmas.Bool.Decides.{nat_tests}
use Rattle.mi_format.specs.declared.token.Kind.{Kind}
use Rattle.mi_format.specs.declared.token.Token.{Token}
use Rattle.mi_format.specs.declared.token.Token.TheVariants.{Open}
use Rattle.mi_format.specs.Tokens.{opened, closes, tokens}
use Rattle.mi_format.specs.Groups.{Pieces, End, Single, Group, marked, whole, unended, prefixes, too_deep}
use Rattle.mi_format.specs.Scan.{Frame, State, start, texted, begun, step_on, step, closed, scan, passes, scan_passes}
use Rattle.mi_format.specs.Bare.{bare, bare_frame, bare_state}
use Rattle.mi_format.specs.Expansion.{is_too_deep}
use Rattle.mi_format.proofs.OneScan.{◌then◌, pieces, one_scan}
use Rattle.mi_format.proofs.PartLemmas.{Carries, passed}

-- the state behind tokens
abbrev after : State Pieces → List Token → State Pieces
after s [] = s
after s (t ∷ ts) = after (step pieces s t) ts

scan-after : (ts : List Token) (s : State Pieces) → scan pieces s ts ≡ closed pieces (after s ts).frames (after s ts).current
scan-after [] s = refl
scan-after (t ∷ ts) s = scan-after ts (step pieces s t)

-- no open mark stands alone in what is made of the text but those on the stack
abbrev Clear : List (Frame Pieces) → Type 0
Clear [] = Unit {0}
Clear (f ∷ fs) = (unended f.before ≡ 0) × Clear fs

abbrev IsClear : State Pieces → Type 0
IsClear s = Clear s.frames × (unended s.current ≡ 0)

unended-then : (p q : Pieces) → unended (p then q) ≡ unended p + unended q
unended-then End q = omega arith
unended-then (Single t p) q = one_more (opened t) (unended-then p q)
  where
    one_more : (o : Option Kind) → unended (p then q) ≡ unended p + unended q → marked o (unended (p then q)) (λ k. suc (unended (p then q))) ≡ marked o (unended p) (λ k. suc (unended p)) + unended q
    one_more None e = e
    one_more (Some k) e = omega arith
unended-then (Group k i p) q = unended-then p q

text_clear : (x : Pieces) (t : Token) → opened t ≡ None → unended x ≡ 0 → unended (x then Single t End) ≡ 0
text_clear x t o e = unended-then x (Single t End) ∙ ap (λ (n : ℕ). n + marked (opened t) 0 (λ k. 1)) e ∙ ap (λ (p : Option Kind). 0 + marked p 0 (λ k. 1)) o

group_clear : (x : Pieces) (k : Kind) (i : Pieces) → unended x ≡ 0 → unended (x then Group k i End) ≡ 0
group_clear x k i e = let h = unended-then x (Group k i End) in omega arith

module _ (t : Token) where
  on_text : (fs : List (Frame Pieces)) (x : Pieces) → Clear fs → unended x ≡ 0 → (o : Option Kind) → opened t ≡ o → IsClear (marked o (texted pieces fs x t) (begun pieces fs x))
  on_text fs x c e None is = (c, text_clear x t is e)
  on_text fs x c e (Some k) is = ((e, c), refl)

  step_clear : (fs : List (Frame Pieces)) (x : Pieces) → Clear fs → unended x ≡ 0 → IsClear (step_on pieces fs x t)
  step_clear [] x c e = on_text [] x c e (opened t) refl
  step_clear (f ∷ fs) x c e =
      elim (closes f.kind t) as (λ b. IsClear (cond b (record { frames = fs; current = f.before then Group f.kind x End }) (marked (opened t) (texted pieces (f ∷ fs) x t) (begun pieces (f ∷ fs) x)))) [
        | true ↦ (c.1, group_clear f.before f.kind x c.0)
        | false ↦ on_text (f ∷ fs) x c e (opened t) refl
      ]

after_clear : (ts : List Token) (s : State Pieces) → IsClear s → IsClear (after s ts)
after_clear [] s c = c
after_clear (t ∷ ts) s c = after_clear ts (step pieces s t) (step_clear t s.frames s.current c.0 c.1)

closed_unended : (fs : List (Frame Pieces)) (x : Pieces) → Clear fs → unended (closed pieces fs x) ≡ length fs + unended x
closed_unended [] x c = omega arith
closed_unended (f ∷ fs) x c =
    let one = unended-then (f.before then Single (Open f.kind) End) x in
    let two = unended-then f.before (Single (Open f.kind) End) in
    let more = closed_unended fs ((f.before then Single (Open f.kind) End) then x) c.1 in
    omega (arith, c.0)

-- the marks on the stack are those whose groups don't end in the tokens
open_marks : (ts : List Token) → unended (whole ts) ≡ length (after (start pieces) ts).frames
open_marks ts =
    let s = after (start pieces) ts in
    let clear = after_clear ts (start pieces) (tt, refl) in
    let closing = closed_unended s.frames s.current clear.0 in
    ap unended (sym (one_scan ts) ∙ scan-after ts (start pieces)) ∙ (let l : unended (closed pieces s.frames s.current) ≡ length s.frames = omega (arith, clear.1) in l)

-- ---- the bound

abbrev deepest : State Pieces → List Token → Bool
deepest s ts = list_any (λ p. nat_lt 64 (length (after s p).frames)) (prefixes ts)

pub list_any-map : {A B : Type 0} (p : B → Bool) (f : A → B) (xs : List A) → list_any p (map f xs) ≡ list_any (λ x. p (f x)) xs
list_any-map p f [] = refl
list_any-map p f (x ∷ xs) = ap (λ (b : Bool). p (f x) || b) (list_any-map p f xs)

list_any-same : {A : Type 0} (p q : A → Bool) (xs : List A) → ((x : A) → p x ≡ q x) → list_any p xs ≡ list_any q xs
list_any-same p q [] h = refl
list_any-same p q (x ∷ xs) h = ap (λ (b : Bool). b || list_any p xs) (h x) ∙ ap (λ (b : Bool). q x || b) (list_any-same p q xs h)

deepest_next : (s : State Pieces) (t : Token) (ts : List Token) → deepest s (t ∷ ts) ≡ (nat_lt 64 (length s.frames) || deepest (step pieces s t) ts)
deepest_next s t ts = ap (λ (b : Bool). nat_lt 64 (length s.frames) || b) (list_any-map (λ p. nat_lt 64 (length (after s p).frames)) (λ (p : List Token). t ∷ p) (prefixes ts))

at_once : (s : State Pieces) (ts : List Token) → nat_lt 64 (length s.frames) ≡ true → deepest s ts ≡ true
at_once s [] e = ap (λ (b : Bool). b || false) e
at_once s (t ∷ ts) e = deepest_next s t ts ∙ ap (λ (b : Bool). b || deepest (step pieces s t) ts) e

-- how a step changes the number of marks
record Changes (t : Token) (old new : ℕ) : Type 0 where
  opens : is_some (opened t) ≡ true → new ≡ suc old
  else_not : is_some (opened t) ≡ false → new ≤ old

on_mark : (t : Token) (fs : List (Frame Pieces)) (x : Pieces) (o : Option Kind) → opened t ≡ o → Changes t (length fs) (length (marked o (texted pieces fs x t) (begun pieces fs x)).frames)
on_mark t fs x None e = record { opens = λ s. (let h : is_some (opened t) ≡ false = ap is_some e in absurd cc); else_not = λ s. omega arith }
on_mark t fs x (Some k) e = record { opens = λ s. refl; else_not = λ s. (let h : is_some (opened t) ≡ true = ap is_some e in absurd cc) }

closing_not_open : (k : Kind) (t : Token) → closes k t ≡ true → is_some (opened t) ≡ false
closing_not_open k (Open j) e = absurd cc
closing_not_open k t e = refl

step_changes : (t : Token) (fs : List (Frame Pieces)) (x : Pieces) → Changes t (length fs) (length (step_on pieces fs x t).frames)
step_changes t [] x = on_mark t [] x (opened t) refl
step_changes t (f ∷ fs) x =
    elim (closes f.kind t) as (λ b. closes f.kind t ≡ b → Changes t (suc (length fs)) (length (cond b (record { frames = fs; current = f.before then Group f.kind x End }) (marked (opened t) (texted pieces (f ∷ fs) x t) (begun pieces (f ∷ fs) x))).frames)) [
      | true ↦ λ e. record { opens = λ s. (let h = closing_not_open f.kind t e in absurd cc); else_not = λ s. omega arith }
      | false ↦ λ e. on_mark t (f ∷ fs) x (opened t) refl
    ] refl

within_bound : (n : ℕ) → n ≤ 64 → nat_lt 64 n ≡ false
within_bound n le = grind (arith, nat_tests)

past_bound : (n : ℕ) → nat_le 64 n ≡ true → nat_lt 64 (suc n) ≡ true
past_bound n e = grind (arith, nat_tests)

still_below : (n : ℕ) → nat_le 64 n ≡ false → suc n ≤ 64
still_below n e = grind (arith, nat_tests)

scan_depth : (ts : List Token) (s : State Pieces) → length s.frames ≤ 64 → scan_passes pieces s ts ≡ deepest s ts
scan_depth [] s le = sym (ap (λ (b : Bool). b || false) (within_bound (length s.frames) le))
scan_depth (t ∷ ts) s le =
    let next = step pieces s t in
    let change = step_changes t s.frames s.current in
    let first : deepest s (t ∷ ts) ≡ deepest next ts = deepest_next s t ts ∙ ap (λ (b : Bool). b || deepest next ts) (within_bound (length s.frames) le) in
    elim (cases_Bool (is_some (opened t))) [
      | inl mark ↦
          elim (cases_Bool (nat_le 64 (length s.frames))) [
            | inl full ↦
                ap (λ (b : Bool). (b && nat_le 64 (length s.frames)) || scan_passes pieces next ts) mark
                ∙ ap (λ (b : Bool). b || scan_passes pieces next ts) full
                ∙ sym (first ∙ at_once next ts (ap (nat_lt 64) (change.opens mark) ∙ past_bound (length s.frames) full))
            | inr room ↦
                ap (λ (b : Bool). (b && nat_le 64 (length s.frames)) || scan_passes pieces next ts) mark
                ∙ ap (λ (b : Bool). b || scan_passes pieces next ts) room
                ∙ scan_depth ts next (let h = still_below (length s.frames) room in omega (arith, change.opens mark)) ∙ sym first
          ]
      | inr other ↦
          ap (λ (b : Bool). (b && nat_le 64 (length s.frames)) || scan_passes pieces next ts) other
          ∙ scan_depth ts next (omega (arith, change.else_not other)) ∙ sym first
    ]

-- nothing is made of tokens
carries_nothing : Carries pieces bare (λ p. tt)
carries_nothing = record { nothing = refl; single = λ t. refl; group = λ k i. refl; beside = λ p q. refl }

pub depth : (text : List ℕ) → scan_passes bare (start bare) (tokens text) ≡ is_too_deep text
unfolding is_too_deep too_deep
depth text =
    passed pieces bare (λ p. tt) carries_nothing (tokens text)
    ∙ scan_depth (tokens text) (start pieces) (omega arith)
    ∙ list_any-same (λ p. nat_lt 64 (length (after (start pieces) p).frames)) (λ p. nat_lt 64 (unended (whole p))) (prefixes (tokens text)) (λ p. ap (nat_lt 64) (sym (open_marks p)))

-- ---- the program's marks

passes_marks : (marks : List Kind) (t : Token) → passes (bare_state marks) t ≡ (is_some (opened t) && nat_le 64 (length marks))
passes_marks marks t = ap (λ (n : ℕ). is_some (opened t) && nat_le 64 n) (length-map (reverse marks) bare_frame ∙ length-reverse marks)

pub passed_at : (marks : List Kind) (rest behind : List ℕ) (t : Token) (b : Bool) → tokens rest ≡ t ∷ tokens behind → b ≡ (is_some (opened t) && nat_le 64 (length marks)) → b ≡ true
    → scan_passes bare (bare_state marks) (tokens rest) ≡ true
passed_at marks rest behind t b is test e =
    ap (scan_passes bare (bare_state marks)) is
    ∙ ap (λ (p : Bool). p || scan_passes bare (step bare (bare_state marks) t) (tokens behind)) (passes_marks marks t ∙ sym test ∙ e)
