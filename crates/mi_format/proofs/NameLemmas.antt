-- Groups over what is kept of their insides.
use Rattle.std.proofs.Common.{◌≡◌, ℕ, ◌<◌, ◌≤◌, Bool, true, false, cond, List, [], ◌∷◌, ◌++◌, length, Option, Some, None, refl, sym, ap, subst, ◌∙◌, arith, inl, inr, ◌&&◌, ◌||◌, ◌==◌}
use Rattle.std.specs.Prelude.{nat_le, not, if◌then◌else◌, Result, IfOk}
use Rattle.std.specs.Int.{is_in_range}
use Rattle.std.specs.List.{list_all}
use Rattle.std.proofs.lemmas.Bool.{cases_Bool}
use Rattle.std.proofs.lemmas.List.{append-nil}
use Rattle.mi_text.specs.Lookups.{Lookups}
use Rattle.mi_text.specs.PropertyNames.{begins_name, continues_name}
use Rattle.mi_format.specs.declared.part.Brackets.{Brackets}
use Rattle.mi_format.specs.declared.part.Brackets.TheVariants.{Unnamed, Full, Empty}
use Rattle.mi_format.specs.declared.part.Look.{Look}
use Rattle.mi_format.specs.declared.part.Held.{Held}
use Rattle.mi_format.specs.declared.part.Held.TheVariants.{Whole, Longer}
use Rattle.mi_format.specs.declared.part.Kept.{Kept}
use Rattle.mi_format.specs.declared.part.Room.{Room}
use Rattle.mi_format.specs.Bounds.{AreShort}
use Rattle.mi_format.specs.State.{Part, both, part_bracket, part_brace, part_beside}
use Rattle.mi_format.specs.Value.{named}
use Rattle.mi_format.specs.Kept.{look_of, is_name, kept, grown, joined, kept_part, IsRoom}
use Rattle.mi_format.proofs.KeptLemmas.{kept_whole, kept_longer, at_most, above, between_kept}

abbrev pub nothing_or : Bool → Option (List ℕ)
nothing_or b = if b then Some [] else None

-- ---- a byte that begins a name may stand in one

begins : (digit upper lower line dot : Bool) → ((upper || lower) || line) ≡ true → ((((digit || upper) || lower) || line) || dot) ≡ true
begins true upper lower line dot e = refl
begins false true lower line dot e = refl
begins false false true line dot e = refl
begins false false false true dot e = refl
begins false false false false dot e = absurd cc

begins_continues : (b : ℕ) → begins_name b ≡ true → continues_name b ≡ true
begins_continues b e = begins (is_in_range 48 57 b) (is_in_range 65 90 b) (is_in_range 97 122 b) (b == 95) (b == 46) e

both_continue : (n c rest : Bool) → (n ≡ true → c ≡ true) → (n && (c && rest)) ≡ (n && rest)
both_continue true c rest h = ap (λ (x : Bool). x && rest) (h refl)
both_continue false c rest h = refl

-- ---- the choices of a name

choices : (p q r s n : Bool) (v f d x : List ℕ) → v ≡ [] → f ≡ [] → d ≡ [] → x ≡ []
    → cond p (Some v) (cond (q || r) (Some f) (cond s (Some d) (cond n (Some x) None))) ≡ nothing_or (p || q || r || s || n)
choices true q r s n v f d x one two three four = ap Some one
choices false true r s n v f d x one two three four = ap Some two
choices false false true s n v f d x one two three four = ap Some two
choices false false false true n v f d x one two three four = ap Some three
choices false false false false true v f d x one two three four = ap Some four
choices false false false false false v f d x one two three four = refl

pub long_named : (L : Lookups) (most : ℕ) (x : List ℕ) → 1 ≤ most → AreShort L most → most < length x → named L x ≡ nothing_or (is_name (look_of x))
long_named L most [] one short lt = absurd (omega arith)
long_named L most (b ∷ []) one short lt = absurd (omega arith)
long_named L most (b ∷ c ∷ cs) one short lt =
    choices (b == 37) (b == 35) (b == 33) (b == 36) (begins_name b && list_all continues_name (c ∷ cs)) (L.variable (c ∷ cs)) (L.file (c ∷ cs)) (L.folder (c ∷ cs)) (L.property (b ∷ c ∷ cs))
    (short.variable (c ∷ cs) (omega (arith, lt))) (short.file (c ∷ cs) (omega (arith, lt))) (short.folder (c ∷ cs) (omega (arith, lt))) (short.property (b ∷ c ∷ cs) (omega (arith, lt)))
    ∙ ap (λ (n : Bool). nothing_or ((b == 37) || (b == 35) || (b == 33) || (b == 36) || n)) (sym (both_continue (begins_name b) (continues_name b) (list_all continues_name (c ∷ cs)) (begins_continues b)))

-- ---- a group round what is kept

pub if_ok_same : {T E : Type 0} (r : Result T E) (a b : T) → a ≡ b → IfOk r (λ x. x ≡ a) → IfOk r (λ x. x ≡ b)
if_ok_same {T} r a b e h = subst (λ (y : T). IfOk r (λ x. x ≡ y)) e h

abbrev between : ℕ → Held → List ℕ → Held → List ℕ → Held
between most text front inside back = grown most (joined most (grown most text front) inside) back

pub brace_kept : (most : ℕ) (text : Held) (k : Kept) (before : List ℕ) (p : Part) → text ≡ kept most before → k ≡ kept_part most p → k.brackets ≡ Unnamed
    → between most text (123 ∷ []) k.text (125 ∷ []) ≡ kept most (before ++ part_brace p.text p.brackets)
brace_kept most text k before p e f none =
    let unnamed : p.brackets ≡ Unnamed = sym (ap (λ (x : Kept). x.brackets) f) ∙ none in
    between_kept most text k.text before p.text (123 ∷ []) (125 ∷ []) e (ap (λ (x : Kept). x.text) f)
    ∙ ap (λ (b : Brackets). kept most (before ++ part_brace p.text b)) (sym unnamed)

both_unnamed : (b : Brackets) → both b Unnamed ≡ b
both_unnamed Unnamed = refl
both_unnamed Full = refl
both_unnamed Empty = refl

abbrev as_kept : Brackets → Held → Kept
as_kept b t = record { text = t; brackets = b }

pub bracket_kept : (most : ℕ) (k : Kept) (inside new : Held) (q : Part) (x : List ℕ) → k ≡ kept_part most q → inside ≡ kept most x → new ≡ between most k.text (91 ∷ []) inside (93 ∷ [])
    → as_kept k.brackets new ≡ kept_part most (part_beside q (part_bracket x None))
bracket_kept most k inside new q x e f is =
    ap (as_kept k.brackets) (is ∙ between_kept most k.text inside q.text x (91 ∷ []) (93 ∷ []) (ap (λ (y : Kept). y.text) e) f)
    ∙ ap (λ (b : Brackets). as_kept b (kept most (q.text ++ (91 ∷ x ++ 93 ∷ [])))) (ap (λ (y : Kept). y.brackets) e ∙ sym (both_unnamed q.brackets))

-- ---- a bracket with a long inside

longer_is : (most : ℕ) (x : List ℕ) (l : Look) → Longer l ≡ kept most x → (most < length x) × (l ≡ look_of x)
longer_is most x l e =
    elim (cases_Bool (nat_le (length x) most)) [
      | inl fits ↦ let none : Longer l ≡ Whole x = e ∙ kept_whole most x (at_most (length x) most fits) in absurd cc
      | inr past ↦ let lt = above (length x) most past in let same : Longer l ≡ Longer (look_of x) = e ∙ kept_longer most x lt in (lt, cc)
    ]

pub not_not : (b : Bool) → not b ≡ false → b ≡ true
not_not true e = refl
not_not false e = absurd cc

pub long_is : (L : Lookups) (room : Room) (x : List ℕ) (l : Look) → IsRoom L room → room.names ≡ true → Longer l ≡ kept room.most x → named L x ≡ nothing_or (is_name l)
long_is L room x l r told e =
    let w = longer_is room.most x l e in
    long_named L room.most x (r told).0 (r told).1 w.0 ∙ ap (λ (y : Look). nothing_or (is_name y)) (sym w.1)

no_tilde : (b : Bool) → (b && false) ≡ false
no_tilde true = refl
no_tilde false = refl

empty_bracket : (x : List ℕ) → 1 < length x → part_bracket x (Some []) ≡ record { text = []; brackets = Empty }
empty_bracket [] lt = absurd (omega arith)
empty_bracket (b ∷ []) lt = absurd (omega arith)
empty_bracket (b ∷ c ∷ cs) lt = ap (λ (t : Bool). let r : Part = record { text = []; brackets = if t then Unnamed else Empty } in r) (no_tilde (b == 126))

pub nothing_kept_beside : (L : Lookups) (room : Room) (k : Kept) (q : Part) (x : List ℕ) (l : Look) → IsRoom L room → room.names ≡ true → k ≡ kept_part room.most q → Longer l ≡ kept room.most x → is_name l ≡ true
    → as_kept (both k.brackets Empty) k.text ≡ kept_part room.most (part_beside q (part_bracket x (named L x)))
nothing_kept_beside L room k q x l r told e f looked =
    let w = longer_is room.most x l f in
    let one : 1 ≤ room.most = (r told).0 in
    let nothing : part_bracket x (named L x) ≡ record { text = []; brackets = Empty } =
    ap (part_bracket x) (long_is L room x l r told f ∙ ap nothing_or looked) ∙ empty_bracket x (omega (arith, w.0)) in
    ap (λ (y : Kept). as_kept (both y.brackets Empty) y.text) e
    ∙ ap (λ (t : List ℕ). as_kept (both q.brackets Empty) (kept room.most t)) (sym (append-nil q.text))
    ∙ ap (λ (p : Part). kept_part room.most (part_beside q p)) (sym nothing)
