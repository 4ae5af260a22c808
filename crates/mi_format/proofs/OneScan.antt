-- One scan with a stack gives the whole groups.
use Rattle.std.proofs.Common.{◌≡◌, ℕ, zero, suc, ◌<◌, ◌≤◌, true, false, List, [], ◌∷◌, length, Option, Some, None, ◌⊎◌, refl, sym, ap, ◌∙◌, arith, inl, inr}
use Rattle.std.specs.Prelude.{option_and_then}
use Rattle.std.proofs.lemmas.Bool.{cases_Bool}
use Rattle.mi_format.specs.declared.token.Kind.{Kind}
use Rattle.mi_format.specs.declared.token.Token.{Token}
use Rattle.mi_format.specs.declared.token.Token.TheVariants.{Char, Escape, Open, Close}
use Rattle.mi_format.specs.Tokens.{opened, closes}
use Rattle.mi_format.specs.Groups.{Pieces, End, Single, Group, Read, with_single, with_group, inside_of, whole_in, whole}
use Rattle.mi_format.specs.Scan.{Maker, Frame, State, start, closed, scan}

infixl 6 ◌then◌
abbrev pub ◌then◌ : Pieces → Pieces → Pieces
End then q = q
(Single t rest) then q = Single t (rest then q)
(Group k inside rest) then q = Group k inside (rest then q)

-- pieces, as a scan makes them
abbrev pub pieces : Maker Pieces
pieces = record { nothing = End; single = λ t. Single t End; group = λ k i. Group k i End; beside = λ p q. p then q }

pub then-end : (p : Pieces) → p then End ≡ p
then-end End = refl
then-end (Single t r) = ap (Single t) (then-end r)
then-end (Group k i r) = ap (Group k i) (then-end r)

then-assoc : (p q r : Pieces) → (p then q) then r ≡ p then (q then r)
then-assoc End q r = refl
then-assoc (Single t p) q r = ap (Single t) (then-assoc p q r)
then-assoc (Group k i p) q r = ap (Group k i) (then-assoc p q r)

pub either_kind : (o : Option Kind) → (o ≡ None) ⊎ ((j : Kind) × (o ≡ Some j))
either_kind None = inl refl
either_kind (Some j) = inr (j, refl)

pub open_is : (t : Token) (j : Kind) → opened t ≡ Some j → t ≡ Open j
open_is (Char c) j e = absurd cc
open_is (Escape c) j e = absurd cc
open_is (Open k) j e = let s : k ≡ j = cc in ap Open s
open_is (Close k) j e = absurd cc

-- ---- what a read that succeeded consists of

pub single_some : (t : Token) (r : Read) (x : Pieces × List Token) → with_single t r ≡ Some x → (y : Pieces × List Token) × (r ≡ Some y) × (x ≡ (Single t y.0, y.1))
single_some t None x e = absurd cc
single_some t (Some y) x e = (y, refl, cc)

single_none : (t : Token) (r : Read) → with_single t r ≡ None → r ≡ None
single_none t None e = refl
single_none t (Some y) e = absurd cc

with_group_some : (j : Kind) (g : Pieces) (r : Read) (x : Pieces × List Token) → with_group j g r ≡ Some x → (y : Pieces × List Token) × (r ≡ Some y) × (x ≡ (Group j g y.0, y.1))
with_group_some j g None x e = absurd cc
with_group_some j g (Some y) x e = (y, refl, cc)

with_group_none : (j : Kind) (g : Pieces) (r : Read) → with_group j g r ≡ None → r ≡ None
with_group_none j g None e = refl
with_group_none j g (Some y) e = absurd cc

pub group_some : (j : Kind) (r : Read) (more : Pieces × List Token → Read) (x : Pieces × List Token) → option_and_then (λ g. with_group j g.0 (more g)) r ≡ Some x
    → (g : Pieces × List Token) × (r ≡ Some g) × (y : Pieces × List Token) × (more g ≡ Some y) × (x ≡ (Group j g.0 y.0, y.1))
group_some j None more x e = absurd cc
group_some j (Some g) more x e = let w = with_group_some j g.0 (more g) x e in (g, refl, w.0, w.1, w.2)

-- the three cases of a token within a group
pub data Within (k : Kind) (t : Token) : Type 0 where
  ends : closes k t ≡ true → Within k t
  plain : closes k t ≡ false → opened t ≡ None → Within k t
  opens : (j : Kind) → closes k t ≡ false → opened t ≡ Some j → Within k t

pub within : (k : Kind) (t : Token) → Within k t
within k t =
    elim (cases_Bool (closes k t)) [
      | inl e ↦ ends e
      | inr e ↦ elim (either_kind (opened t)) [ inl o ↦ plain e o | inr o ↦ opens o.0 e o.1 ]
    ]

abbrev frame : Kind → Pieces → Frame Pieces
frame k before = record { kind = k; before = before }

abbrev at : List (Frame Pieces) → Pieces → State Pieces
at fs x = record { frames = fs; current = x }

abbrev run : List (Frame Pieces) → Pieces → List Token → Pieces
run fs x ts = scan pieces (at fs x) ts

-- ---- the steps of the scan, and those of a group

scan_closes : (k : Kind) (before cur : Pieces) (fs : List (Frame Pieces)) (t : Token) (ts : List Token) → closes k t ≡ true → run (frame k before ∷ fs) cur (t ∷ ts) ≡ run fs (before then Group k cur End) ts
scan_closes k before cur fs t ts e = rw e refl

scan_plain : (k : Kind) (before cur : Pieces) (fs : List (Frame Pieces)) (t : Token) (ts : List Token) → closes k t ≡ false → opened t ≡ None → run (frame k before ∷ fs) cur (t ∷ ts) ≡ run (frame k before ∷ fs) (cur then Single t End) ts
scan_plain k before cur fs t ts e o = rw (e, o) refl

scan_opens : (k : Kind) (before cur : Pieces) (fs : List (Frame Pieces)) (t : Token) (ts : List Token) (j : Kind) → closes k t ≡ false → opened t ≡ Some j → run (frame k before ∷ fs) cur (t ∷ ts) ≡ run (frame j cur ∷ frame k before ∷ fs) End ts
scan_opens k before cur fs t ts j e o = rw (e, o) refl

pub inside_closes : (n : ℕ) (k : Kind) (t : Token) (ts : List Token) → closes k t ≡ true → inside_of (suc n) k (t ∷ ts) ≡ Some (End, ts)
inside_closes n k t ts e = rw e refl

pub inside_plain : (n : ℕ) (k : Kind) (t : Token) (ts : List Token) → closes k t ≡ false → opened t ≡ None → inside_of (suc n) k (t ∷ ts) ≡ with_single t (inside_of n k ts)
inside_plain n k t ts e o = rw (e, o) refl

pub inside_opens : (n : ℕ) (k : Kind) (t : Token) (ts : List Token) (j : Kind) → closes k t ≡ false → opened t ≡ Some j
    → inside_of (suc n) k (t ∷ ts) ≡ option_and_then (λ g. with_group j g.0 (inside_of n k g.1)) (inside_of n j ts)
inside_opens n k t ts j e o = rw (e, o) refl

-- ---- a group that is there closes

closes_group : (n : ℕ) (k : Kind) (ts : List Token) (x : Pieces × List Token) → inside_of n k ts ≡ Some x → (before cur : Pieces) (fs : List (Frame Pieces))
    → run (frame k before ∷ fs) cur ts ≡ run fs (before then Group k (cur then x.0) End) x.1
closes_group zero k ts x e before cur fs = absurd cc
closes_group (suc n) k [] x e before cur fs = absurd cc
closes_group (suc n) k (t ∷ ts) x e before cur fs =
    elim (within k t) [
      | ends c ↦
          let is : x ≡ (End, ts) = let i = inside_closes n k t ts c in cc in
          scan_closes k before cur fs t ts c
          ∙ ap (λ (p : Pieces). run fs (before then Group k p End) ts) (sym (then-end cur))
          ∙ ap (λ (y : Pieces × List Token). run fs (before then Group k (cur then y.0) End) y.1) (sym is)
      | plain c o ↦
          let w = single_some t (inside_of n k ts) x (sym (inside_plain n k t ts c o) ∙ e) in
          scan_plain k before cur fs t ts c o
          ∙ closes_group n k ts w.0 w.1 before (cur then Single t End) fs
          ∙ ap (λ (p : Pieces). run fs (before then Group k p End) (w.0).1) (then-assoc cur (Single t End) (w.0).0)
          ∙ ap (λ (y : Pieces × List Token). run fs (before then Group k (cur then y.0) End) y.1) (sym w.2)
      | opens j c o ↦
          let w = group_some j (inside_of n j ts) (λ g. inside_of n k g.1) x (sym (inside_opens n k t ts j c o) ∙ e) in
          scan_opens k before cur fs t ts j c o
          ∙ closes_group n j ts w.0 w.1 cur End (frame k before ∷ fs)
          ∙ closes_group n k (w.0).1 w.2 w.3 before (cur then Group j (w.0).0 End) fs
          ∙ ap (λ (p : Pieces). run fs (before then Group k p End) (w.2).1) (then-assoc cur (Group j (w.0).0 End) (w.2).0)
          ∙ ap (λ (y : Pieces × List Token). run fs (before then Group k (cur then y.0) End) y.1) (sym w.4)
    ]

-- what follows a group is shorter
shorter : (n : ℕ) (k : Kind) (ts : List Token) (x : Pieces × List Token) → inside_of n k ts ≡ Some x → length x.1 < length ts
shorter zero k ts x e = absurd cc
shorter (suc n) k [] x e = absurd cc
shorter (suc n) k (t ∷ ts) x e =
    elim (within k t) [
      | ends c ↦ let is : x ≡ (End, ts) = let i = inside_closes n k t ts c in cc in let l : length x.1 ≡ length ts = ap (λ (y : Pieces × List Token). length y.1) is in omega arith
      | plain c o ↦
          let w = single_some t (inside_of n k ts) x (sym (inside_plain n k t ts c o) ∙ e) in
          let l : length x.1 ≡ length (w.0).1 = ap (λ (y : Pieces × List Token). length y.1) w.2 in omega (arith, shorter n k ts w.0 w.1)
      | opens j c o ↦
          let w = group_some j (inside_of n j ts) (λ g. inside_of n k g.1) x (sym (inside_opens n k t ts j c o) ∙ e) in
          let l : length x.1 ≡ length (w.2).1 = ap (λ (y : Pieces × List Token). length y.1) w.4 in omega (arith, shorter n j ts w.0 w.1, shorter n k (w.0).1 w.2 w.3)
    ]

-- ---- a mark with no group stays open to the end

pub whole_plain : (n : ℕ) (t : Token) (ts : List Token) → opened t ≡ None → whole_in (suc n) (t ∷ ts) ≡ Single t (whole_in n ts)
whole_plain n t ts o = rw o refl

pub whole_group : (n : ℕ) (t : Token) (ts : List Token) (j : Kind) (g : Pieces × List Token) → opened t ≡ Some j → inside_of n j ts ≡ Some g → whole_in (suc n) (t ∷ ts) ≡ Group j g.0 (whole_in n g.1)
whole_group n t ts j g o i = rw (o, i) refl

pub whole_alone : (n : ℕ) (t : Token) (ts : List Token) (j : Kind) → opened t ≡ Some j → inside_of n j ts ≡ None → whole_in (suc n) (t ∷ ts) ≡ Single t (whole_in n ts)
whole_alone n t ts j o i = rw (o, i) refl

pub either_read : (r : Read) → (r ≡ None) ⊎ ((g : Pieces × List Token) × (r ≡ Some g))
either_read None = inl refl
either_read (Some g) = inr (g, refl)

none_after : (j : Kind) (r : Read) (more : Pieces × List Token → Read) (g : Pieces × List Token) → option_and_then (λ g. with_group j g.0 (more g)) r ≡ None → r ≡ Some g → more g ≡ None
none_after j None more g e h = absurd cc
none_after j (Some y) more g e h = let s : y ≡ g = cc in ap more (sym s) ∙ with_group_none j y.0 (more y) e

-- an open mark alone, with what stands round it
mark_between : (cur rest : Pieces) (t : Token) (j : Kind) → opened t ≡ Some j → (cur then Single (Open j) End) then rest ≡ cur then Single t rest
mark_between cur rest t j o = then-assoc cur (Single (Open j) End) rest ∙ ap (λ (u : Token). cur then Single u rest) (sym (open_is t j o))

stays_open : (n : ℕ) (k : Kind) (ts : List Token) → length ts ≤ n → inside_of n k ts ≡ None → (before cur : Pieces) (fs : List (Frame Pieces))
    → run (frame k before ∷ fs) cur ts ≡ closed pieces (frame k before ∷ fs) (cur then whole_in n ts)
stays_open zero k [] le e before cur fs = ap (closed pieces (frame k before ∷ fs)) (sym (then-end cur))
stays_open zero k (t ∷ ts) le e before cur fs = absurd (omega arith)
stays_open (suc n) k [] le e before cur fs = ap (closed pieces (frame k before ∷ fs)) (sym (then-end cur))
stays_open (suc n) k (t ∷ ts) le e before cur fs =
    elim (within k t) [
      | ends c ↦ let i = inside_closes n k t ts c in absurd cc
      | plain c o ↦
          let none : inside_of n k ts ≡ None = single_none t (inside_of n k ts) (sym (inside_plain n k t ts c o) ∙ e) in
          scan_plain k before cur fs t ts c o
          ∙ stays_open n k ts (omega arith) none before (cur then Single t End) fs
          ∙ ap (closed pieces (frame k before ∷ fs)) (then-assoc cur (Single t End) (whole_in n ts) ∙ ap (λ (p : Pieces). cur then p) (sym (whole_plain n t ts o)))
      | opens j c o ↦
          elim (either_read (inside_of n j ts)) [
            | inl alone ↦
                scan_opens k before cur fs t ts j c o
                ∙ stays_open n j ts (omega arith) alone cur End (frame k before ∷ fs)
                ∙ ap (closed pieces (frame k before ∷ fs)) (mark_between cur (whole_in n ts) t j o ∙ ap (λ (p : Pieces). cur then p) (sym (whole_alone n t ts j o alone)))
            | inr found ↦
                let none : inside_of n k (found.0).1 ≡ None = none_after j (inside_of n j ts) (λ g. inside_of n k g.1) found.0 (sym (inside_opens n k t ts j c o) ∙ e) found.1 in
                scan_opens k before cur fs t ts j c o
                ∙ closes_group n j ts found.0 found.1 cur End (frame k before ∷ fs)
                ∙ stays_open n k (found.0).1 (omega (arith, shorter n j ts found.0 found.1)) none before (cur then Group j (found.0).0 End) fs
                ∙ ap (closed pieces (frame k before ∷ fs)) (then-assoc cur (Group j (found.0).0 End) (whole_in n (found.0).1) ∙ ap (λ (p : Pieces). cur then p) (sym (whole_group n t ts j found.0 o found.1)))
          ]
    ]

-- ---- the whole text

first_plain : (cur : Pieces) (t : Token) (ts : List Token) → opened t ≡ None → run [] cur (t ∷ ts) ≡ run [] (cur then Single t End) ts
first_plain cur t ts o = rw o refl

first_opens : (cur : Pieces) (t : Token) (ts : List Token) (j : Kind) → opened t ≡ Some j → run [] cur (t ∷ ts) ≡ run (frame j cur ∷ []) End ts
first_opens cur t ts j o = rw o refl

same : (n : ℕ) (ts : List Token) → length ts ≤ n → (cur : Pieces) → run [] cur ts ≡ cur then whole_in n ts
same zero [] le cur = sym (then-end cur)
same zero (t ∷ ts) le cur = absurd (omega arith)
same (suc n) [] le cur = sym (then-end cur)
same (suc n) (t ∷ ts) le cur =
    elim (either_kind (opened t)) [
      | inl o ↦ first_plain cur t ts o ∙ same n ts (omega arith) (cur then Single t End) ∙ then-assoc cur (Single t End) (whole_in n ts) ∙ ap (λ (p : Pieces). cur then p) (sym (whole_plain n t ts o))
      | inr o ↦
          elim (either_read (inside_of n o.0 ts)) [
            | inl alone ↦
                first_opens cur t ts o.0 o.1 ∙ stays_open n o.0 ts (omega arith) alone cur End []
                ∙ mark_between cur (whole_in n ts) t o.0 o.1 ∙ ap (λ (p : Pieces). cur then p) (sym (whole_alone n t ts o.0 o.1 alone))
            | inr found ↦
                first_opens cur t ts o.0 o.1 ∙ closes_group n o.0 ts found.0 found.1 cur End []
                ∙ same n (found.0).1 (omega (arith, shorter n o.0 ts found.0 found.1)) (cur then Group o.0 (found.0).0 End)
                ∙ then-assoc cur (Group o.0 (found.0).0 End) (whole_in n (found.0).1) ∙ ap (λ (p : Pieces). cur then p) (sym (whole_group n t ts o.0 found.0 o.1 found.1))
          ]
    ]

pub one_scan : (ts : List Token) → scan pieces (start pieces) ts ≡ whole ts
unfolding whole
one_scan ts = same (length ts) ts (omega arith) End
