-- The pieces of a whole text are its only ones.
use Rattle.std.proofs.Common.{◌≡◌, ℕ, zero, suc, ◌+◌, ◌≤◌, true, List, [], ◌∷◌, ◌++◌, length, Some, None, refl, sym, ap, subst, ◌∙◌, append_assoc, arith, length-append, inl, inr}
use Rattle.std.specs.Prelude.{option_and_then}
use Rattle.mi_format.specs.declared.token.Kind.{Kind}
use Rattle.mi_format.specs.declared.token.Kind.TheVariants.{Bracket, Brace}
use Rattle.mi_format.specs.declared.token.Token.{Token}
use Rattle.mi_format.specs.declared.token.Token.TheVariants.{Char, Escape, Open, Close}
use Rattle.mi_text.specs.Lookups.{Lookups}
use Rattle.mi_format.specs.Tokens.{opened, closes, same_kind, tokens}
use Rattle.mi_format.specs.Groups.{Pieces, End, Single, Group, tokens_in, IsInside, Completes, IsWhole, with_single, with_group, inside_of, whole_in, whole}
use Rattle.mi_format.specs.Value.{meaning}
use Rattle.mi_format.specs.Expansion.{IsExpansion, expand_of}
use Rattle.mi_format.proofs.OneScan.{either_kind, open_is, ends, plain, opens, within, single_some, group_some, inside_closes, inside_plain, inside_opens, whole_plain, whole_group, whole_alone, either_read}

pub kinds_same : (j k : Kind) → same_kind j k ≡ true → j ≡ k
kinds_same Bracket Bracket e = refl
kinds_same Brace Brace e = refl
kinds_same Bracket Brace e = absurd cc
kinds_same Brace Bracket e = absurd cc

close_is : (k : Kind) (t : Token) → closes k t ≡ true → t ≡ Close k
close_is k (Char c) e = absurd cc
close_is k (Escape c) e = absurd cc
close_is k (Open j) e = absurd cc
close_is k (Close j) e = ap Close (kinds_same j k e)

pub closes_itself : (k : Kind) → closes k (Close k) ≡ true
closes_itself Bracket = refl
closes_itself Brace = refl

-- ---- what is read is an inside

inside_takes : (n : ℕ) (k : Kind) (ts : List Token) (x : Pieces × List Token) → inside_of n k ts ≡ Some x → IsInside k x.0 × (ts ≡ tokens_in x.0 ++ Close k ∷ x.1)
inside_takes zero k ts x e = absurd cc
inside_takes (suc n) k [] x e = absurd cc
inside_takes (suc n) k (t ∷ ts) x e =
    elim (within k t) [
      | ends c ↦
          let is : (End, ts) ≡ x = let i = inside_closes n k t ts c in cc in
          moved is (tt, ap (λ (u : Token). u ∷ ts) (close_is k t c))
      | plain c o ↦
          let w = single_some t (inside_of n k ts) x (sym (inside_plain n k t ts c o) ∙ e) in
          let more = inside_takes n k ts w.0 w.1 in
          moved (sym w.2) ((o, c, more.0), ap (λ (us : List Token). t ∷ us) more.1)
      | opens j c o ↦
          let w = group_some j (inside_of n j ts) (λ g. inside_of n k g.1) x (sym (inside_opens n k t ts j c o) ∙ e) in
          let first = inside_takes n j ts w.0 w.1 in
          let second = inside_takes n k (w.0).1 w.2 w.3 in
          moved (sym w.4) (
            (first.0, second.0),
            ap (λ (us : List Token). t ∷ us) (first.1 ∙ ap (λ (us : List Token). tokens_in (w.0).0 ++ Close j ∷ us) second.1)
                ∙ ap (λ (u : Token). u ∷ (tokens_in (w.0).0 ++ Close j ∷ (tokens_in (w.2).0 ++ Close k ∷ (w.2).1))) (open_is t j o)
                ∙ ap (λ (us : List Token). Open j ∷ us) (sym (append_assoc (tokens_in (w.0).0) (Close j ∷ tokens_in (w.2).0) (Close k ∷ (w.2).1))),
          )
    ]
  where
    moved : {y : Pieces × List Token} → y ≡ x → IsInside k y.0 × (t ∷ ts ≡ tokens_in y.0 ++ Close k ∷ y.1) → IsInside k x.0 × (t ∷ ts ≡ tokens_in x.0 ++ Close k ∷ x.1)
    moved is h = subst (λ (z : Pieces × List Token). IsInside k z.0 × (t ∷ ts ≡ tokens_in z.0 ++ Close k ∷ z.1)) is h

-- ---- an inside is read

inside_reads : (i : Pieces) (n : ℕ) (k : Kind) (after : List Token) → IsInside k i → length (tokens_in i ++ Close k ∷ after) ≤ n → inside_of n k (tokens_in i ++ Close k ∷ after) ≡ Some (i, after)
inside_reads End zero k after h le = absurd (omega arith)
inside_reads End (suc n) k after h le = inside_closes n k (Close k) after (closes_itself k)
inside_reads (Single t rest) zero k after h le = absurd (omega arith)
inside_reads (Single t rest) (suc n) k after h le =
    inside_plain n k t (tokens_in rest ++ Close k ∷ after) h.1 h.0 ∙ ap (with_single t) (inside_reads rest n k after h.2 (omega arith))
inside_reads (Group j inside rest) zero k after h le = absurd (omega arith)
inside_reads (Group j inside rest) (suc n) k after h le =
    let regrouped : (tokens_in inside ++ Close j ∷ tokens_in rest) ++ Close k ∷ after ≡ tokens_in inside ++ Close j ∷ (tokens_in rest ++ Close k ∷ after) = append_assoc (tokens_in inside) (Close j ∷ tokens_in rest) (Close k ∷ after) in
    let sizes : length ((tokens_in inside ++ Close j ∷ tokens_in rest) ++ Close k ∷ after) ≡ length (tokens_in inside) + suc (length (tokens_in rest ++ Close k ∷ after)) = ap length regrouped ∙ length-append (tokens_in inside) (Close j ∷ (tokens_in rest ++ Close k ∷ after)) in
    let whole_size : length (tokens_in inside ++ Close j ∷ (tokens_in rest ++ Close k ∷ after)) ≤ n = omega (arith, ap length regrouped) in
    let rest_size : length (tokens_in rest ++ Close k ∷ after) ≤ n = omega arith in
    inside_opens n k (Open j) ((tokens_in inside ++ Close j ∷ tokens_in rest) ++ Close k ∷ after) j refl refl
    ∙ ap (λ (us : List Token). option_and_then (λ (g : Pieces × List Token). with_group j g.0 (inside_of n k g.1)) (inside_of n j us)) regrouped
    ∙ ap (option_and_then (λ (g : Pieces × List Token). with_group j g.0 (inside_of n k g.1))) (inside_reads inside n j (tokens_in rest ++ Close k ∷ after) h.0 whole_size)
    ∙ ap (with_group j inside) (inside_reads rest n k after h.1 rest_size)

-- where a group is there, it is read
no_group : (n : ℕ) (k : Kind) (ts : List Token) → length ts ≤ n → inside_of n k ts ≡ None → Completes k ts → ⊥
no_group n k ts le none c =
    let read : inside_of n k ts ≡ Some (c.inside, c.after) =
    ap (inside_of n k) c.is ∙ inside_reads c.inside n k c.after c.is_inside (omega (arith, ap length c.is)) in
    absurd cc

-- ---- the whole text

pub whole_is : (n : ℕ) (ts : List Token) → length ts ≤ n → IsWhole (whole_in n ts) × (tokens_in (whole_in n ts) ≡ ts)
whole_is zero [] le = (tt, refl)
whole_is zero (t ∷ ts) le = absurd (omega arith)
whole_is (suc n) [] le = (tt, refl)
whole_is (suc n) (t ∷ ts) le =
    elim (either_kind (opened t)) [
      | inl o ↦
          let more = whole_is n ts (omega arith) in
          moved (sym (whole_plain n t ts o)) ((λ k s c. absurd cc), more.0) (ap (λ (us : List Token). t ∷ us) more.1)
      | inr o ↦
          elim (either_read (inside_of n o.0 ts)) [
            | inl alone ↦
                let more = whole_is n ts (omega arith) in
                moved (sym (whole_alone n t ts o.0 o.1 alone))
                ((λ k s c. let j : o.0 ≡ k = cc in no_group n o.0 ts (omega arith) alone (subst (λ (us : List Token). Completes o.0 us) more.1 (subst (λ (i : Kind). Completes i (tokens_in (whole_in n ts))) (sym j) c))), more.0)
                (ap (λ (us : List Token). t ∷ us) more.1)
            | inr found ↦
                let taken = inside_takes n o.0 ts found.0 found.1 in
                let size : length ts ≡ length (tokens_in (found.0).0) + suc (length (found.0).1) = ap length taken.1 ∙ length-append (tokens_in (found.0).0) (Close o.0 ∷ (found.0).1) in
                let more = whole_is n (found.0).1 (omega arith) in
                moved (sym (whole_group n t ts o.0 found.0 o.1 found.1)) (taken.0, more.0)
                (ap (λ (us : List Token). Open o.0 ∷ (tokens_in (found.0).0 ++ Close o.0 ∷ us)) more.1 ∙ ap (λ (us : List Token). Open o.0 ∷ us) (sym taken.1) ∙ ap (λ (u : Token). u ∷ ts) (sym (open_is t o.0 o.1)))
          ]
    ]
  where
    moved : {p : Pieces} → p ≡ whole_in (suc n) (t ∷ ts) → IsWhole p → tokens_in p ≡ t ∷ ts → IsWhole (whole_in (suc n) (t ∷ ts)) × (tokens_in (whole_in (suc n) (t ∷ ts)) ≡ t ∷ ts)
    moved is h e = (subst IsWhole is h, ap tokens_in (sym is) ∙ e)

pub whole_only : (p : Pieces) (n : ℕ) → IsWhole p → length (tokens_in p) ≤ n → whole_in n (tokens_in p) ≡ p
whole_only End zero h le = refl
whole_only End (suc n) h le = refl
whole_only (Single t rest) zero h le = absurd (omega arith)
whole_only (Single t rest) (suc n) h le =
    elim (either_kind (opened t)) [
      | inl o ↦ whole_plain n t (tokens_in rest) o ∙ ap (Single t) (whole_only rest n h.1 (omega arith))
      | inr o ↦
          elim (either_read (inside_of n o.0 (tokens_in rest))) [
            | inl alone ↦ whole_alone n t (tokens_in rest) o.0 o.1 alone ∙ ap (Single t) (whole_only rest n h.1 (omega arith))
            | inr found ↦
                let taken = inside_takes n o.0 (tokens_in rest) found.0 found.1 in
                absurd (h.0 o.0 o.1 (record { inside = (found.0).0; after = (found.0).1; is_inside = taken.0; is = taken.1 }))
          ]
    ]
whole_only (Group k inside rest) zero h le = absurd (omega arith)
whole_only (Group k inside rest) (suc n) h le =
    let size : length (tokens_in inside ++ Close k ∷ tokens_in rest) ≡ length (tokens_in inside) + suc (length (tokens_in rest)) = length-append (tokens_in inside) (Close k ∷ tokens_in rest) in
    whole_group n (Open k) (tokens_in inside ++ Close k ∷ tokens_in rest) k (inside, tokens_in rest) refl (inside_reads inside n k (tokens_in rest) h.0 (omega arith))
    ∙ ap (Group k inside) (whole_only rest n h.1 (omega arith))

-- ---- the expansion

pub is_expansion : (L : Lookups) (text : List ℕ) → IsExpansion L text (expand_of L text)
unfolding expand_of whole
is_expansion L text =
    let w = whole_is (length (tokens text)) (tokens text) (omega arith) in
    record { pieces = whole (tokens text); is_whole = w.0; is_text = w.1; is = refl }

-- a text has no other expansion
pub only_expansion : (L : Lookups) (text x : List ℕ) → IsExpansion L text x → x ≡ expand_of L text
unfolding expand_of whole
only_expansion L text x e =
    let w : whole_in (length (tokens text)) (tokens text) ≡ e.pieces =
    ap (λ (us : List Token). whole_in (length us) us) (sym e.is_text) ∙ whole_only e.pieces (length (tokens_in e.pieces)) e.is_whole (omega arith) in
    e.is ∙ ap (λ (p : Pieces). (meaning L p).text) (sym w)
