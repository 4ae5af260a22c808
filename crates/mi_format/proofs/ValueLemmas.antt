-- The value of a text, as far as it is kept.
use Rattle.std.proofs.Common.{◌≡◌, ℕ, ◌<◌, ◌≤◌, Bool, true, false, cond, List, [], ◌∷◌, length, Option, Some, None, sym, ap, ◌∙◌, length-append, arith, inl, inr}
use Rattle.std.specs.Prelude.{nat_lt, nat_le}
use Rattle.std.proofs.lemmas.Bool.{cases_Bool}
use Rattle.std.proofs.lemmas.Bool.Decides.{nat_tests}
use Rattle.mi_text.specs.Lookups.{Lookups}
use Rattle.mi_format.specs.declared.token.Kind.{Kind}
use Rattle.mi_format.specs.declared.token.Token.{Token}
use Rattle.mi_format.specs.declared.token.Token.TheVariants.{Open}
use Rattle.mi_format.specs.declared.part.Kept.{Kept}
use Rattle.mi_format.specs.Tokens.{opened, closes, tokens}
use Rattle.mi_format.specs.Groups.{marked}
use Rattle.mi_format.specs.Scan.{Frame, State, start, texted, begun, step_on, step, closed, scan}
use Rattle.mi_format.specs.State.{Part, parts, part_beside, part_group}
use Rattle.mi_format.specs.declared.part.Look.{Look}
use Rattle.mi_format.specs.declared.part.Held.{Held}
use Rattle.mi_format.specs.declared.part.Held.TheVariants.{Whole, Longer}
use Rattle.mi_format.specs.declared.part.Room.{Room}
use Rattle.mi_format.specs.Bounds.{AreShort}
use Rattle.mi_format.specs.Kept.{look_of, kept, kept_state, is_longer, in_limit, is_past, IsRoom}
use Rattle.mi_format.specs.Expansion.{expand_of}
use Rattle.mi_format.proofs.StepLemmas.{at}
use Rattle.mi_format.proofs.KeptLemmas.{kept_whole, kept_longer, at_most, above}
use Rattle.mi_format.proofs.PartLemmas.{expanded}

-- ---- within a limit

in_the_limit : (limit : ℕ) (x : List ℕ) → length x ≤ limit → in_limit limit x ≡ Some x
in_the_limit limit x le = let h : nat_le (length x) limit ≡ true = grind (arith, nat_tests) in ap (λ (b : Bool). let r : Option (List ℕ) = cond b (Some x) None in r) h

past_limit : (limit : ℕ) (x : List ℕ) → limit < length x → in_limit limit x ≡ None
past_limit limit x lt = let h : nat_le (length x) limit ≡ false = grind (arith, nat_tests) in ap (λ (b : Bool). let r : Option (List ℕ) = cond b (Some x) None in r) h

-- ---- the text outside of all groups never gets shorter

unfoldable settled : List (Frame Part) → Part → Part
settled [] x = x
settled (f ∷ fs) x = settled fs f.before

module _ (L : Lookups) where
  settled_more : (fs : List (Frame Part)) (p q : Part) → length (settled fs p).text ≤ length (settled fs (part_beside p q)).text
  unfolding settled
  settled_more [] p q = let h = length-append p.text q.text in omega arith
  settled_more (f ∷ fs) p q = omega arith

  settled_closed : (fs : List (Frame Part)) (x : Part) → length (settled fs x).text ≤ length (closed (parts L) fs x).text
  unfolding settled
  settled_closed [] x = omega arith
  settled_closed (f ∷ fs) x =
      let mark : Part = part_beside f.before ((parts L).single (Open f.kind)) in
      let one = settled_more fs f.before ((parts L).single (Open f.kind)) in
      let two = settled_more fs mark x in
      let more = settled_closed fs (part_beside mark x) in
      omega arith

  settled_text : (fs : List (Frame Part)) (x : Part) (t : Token) (o : Option Kind) → length (settled fs x).text ≤ length (settled (marked o (texted (parts L) fs x t) (begun (parts L) fs x)).frames (marked o (texted (parts L) fs x t) (begun (parts L) fs x)).current).text
  unfolding settled
  settled_text fs x t None = settled_more fs x ((parts L).single t)
  settled_text fs x t (Some k) = omega arith

  settled_step : (fs : List (Frame Part)) (x : Part) (t : Token) → length (settled fs x).text ≤ length (settled (step_on (parts L) fs x t).frames (step_on (parts L) fs x t).current).text
  unfolding settled
  settled_step [] x t = settled_text [] x t (opened t)
  settled_step (f ∷ fs) x t =
      elim (closes f.kind t) as (λ b. length (settled fs f.before).text
      ≤ length (settled (cond b (at fs (part_beside f.before (part_group L f.kind x))) (marked (opened t) (texted (parts L) (f ∷ fs) x t) (begun (parts L) (f ∷ fs) x))).frames
      (cond b (at fs (part_beside f.before (part_group L f.kind x))) (marked (opened t) (texted (parts L) (f ∷ fs) x t) (begun (parts L) (f ∷ fs) x))).current).text) [
        | true ↦ settled_more fs f.before (part_group L f.kind x)
        | false ↦ settled_text (f ∷ fs) x t (opened t)
      ]

  settled_scan : (ts : List Token) (fs : List (Frame Part)) (x : Part) → length (settled fs x).text ≤ length (scan (parts L) (at fs x) ts).text
  settled_scan [] fs x = settled_closed fs x
  settled_scan (t ∷ ts) fs x =
      let one = settled_step fs x t in
      let more = settled_scan ts (step_on (parts L) fs x t).frames (step_on (parts L) fs x t).current in
      omega arith

  -- ---- what the loop keeps

  abbrev pub Reading : ℕ → List ℕ → State Kept → List ℕ → Type 0
  Reading most text kept_now rest = (full : State Part) × (kept_now ≡ kept_state most full) × (scan (parts L) full (tokens rest) ≡ scan (parts L) (start (parts L)) (tokens text))

  pub reading_more : (most : ℕ) (text rest behind : List ℕ) (t : Token) (old new : State Kept) → tokens rest ≡ t ∷ tokens behind
      → ((full : State Part) → old ≡ kept_state most full → new ≡ kept_state most (step (parts L) full t)) → Reading most text old rest → Reading most text new behind
  reading_more most text rest behind t old new is step_is r =
      (step (parts L) r.0 t, step_is r.0 r.1, sym (ap (scan (parts L) r.0) is) ∙ r.2)

  past_text : (limit most : ℕ) (x : List ℕ) → limit ≤ most → is_longer limit (kept most x) ≡ true → limit < length x
  past_text limit most x le e =
      elim (cases_Bool (nat_le (length x) most)) [
        | inl fits ↦
            let h : nat_lt limit (length x) ≡ true = sym (ap (is_longer limit) (kept_whole most x (at_most (length x) most fits))) ∙ e in
            grind (arith, nat_tests)
        | inr past ↦ let lt = above (length x) most past in omega arith
      ]

  past_state : (limit most : ℕ) (ts : List Token) (fs : List (Frame Part)) (x : Part) → limit ≤ most → is_past limit (kept_state most (at fs x)) ≡ true → limit < length (scan (parts L) (at fs x) ts).text
  unfolding settled
  past_state limit most ts [] x le e = let one = past_text limit most x.text le e in let more = settled_scan ts [] x in omega arith
  past_state limit most ts (f ∷ fs) x le e = absurd cc

  pub past_is : (limit most : ℕ) (text behind : List ℕ) (now : State Kept) → limit ≤ most → is_past limit now ≡ true → Reading most text now behind → None ≡ in_limit limit (expand_of L text)
  past_is limit most text behind now le e r =
      let longer = past_state limit most (tokens behind) (r.0).frames (r.0).current le (sym (ap (is_past limit) r.1) ∙ e) in
      let whole : (scan (parts L) r.0 (tokens behind)).text ≡ expand_of L text = ap (λ (p : Part). p.text) r.2 ∙ expanded L text in
      sym (past_limit limit (expand_of L text) (omega (arith, ap length whole)))

  pub end_is : (limit most : ℕ) (text rest : List ℕ) (now : State Kept) (ended : Held) (result : Option (List ℕ)) → limit ≤ most → tokens rest ≡ []
      → ((full : State Part) → now ≡ kept_state most full → ended ≡ kept most (closed (parts L) full.frames full.current).text)
      → ((m : ℕ) (value : List ℕ) → limit ≤ m → ended ≡ kept m value → result ≡ in_limit limit value)
      → Reading most text now rest → result ≡ in_limit limit (expand_of L text)
  end_is limit most text rest now ended result le none closing fitting r =
      let whole : (closed (parts L) (r.0).frames (r.0).current).text ≡ expand_of L text =
      ap (λ (p : Part). p.text) (sym (ap (scan (parts L) r.0) none) ∙ r.2) ∙ expanded L text in
      fitting most (expand_of L text) le (closing r.0 r.1 ∙ ap (kept most) whole)

-- ---- what is told within the limit

pub limit_is : (limit : ℕ) (v x : List ℕ) → Some v ≡ in_limit limit x → (v ≡ x) × (length x ≤ limit)
limit_is limit v x e =
    elim (cases_Bool (nat_le (length x) limit)) [
      | inl fits ↦ let le = at_most (length x) limit fits in let same : Some v ≡ Some x = e ∙ in_the_limit limit x le in (cc, le)
      | inr past ↦ let none = past_limit limit x (above (length x) limit past) in absurd cc
    ]

pub none_is : (limit : ℕ) (x : List ℕ) → None ≡ in_limit limit x → limit < length x
none_is limit x e =
    elim (cases_Bool (nat_le (length x) limit)) [
      | inl fits ↦ let some = in_the_limit limit x (at_most (length x) limit fits) in absurd cc
      | inr past ↦ above (length x) limit past
    ]

-- ---- the text at the end within the limit

pub whole_within : (limit most : ℕ) (text value : List ℕ) → limit ≤ most → Whole text ≡ kept most value → text ≡ value
whole_within limit most text value le e =
    elim (cases_Bool (nat_le (length value) most)) [
      | inl fits ↦ let same : Whole text ≡ Whole value = e ∙ kept_whole most value (at_most (length value) most fits) in cc
      | inr past ↦ let longer : Whole text ≡ Longer (look_of value) = e ∙ kept_longer most value (above (length value) most past) in absurd cc
    ]

pub whole_fits : (limit most : ℕ) (text value : List ℕ) → limit ≤ most → Whole text ≡ kept most value → length text ≤ limit → Some text ≡ in_limit limit value
whole_fits limit most text value le e fits =
    let same = whole_within limit most text value le e in
    sym (in_the_limit limit text fits) ∙ ap (in_limit limit) same

pub whole_passes : (limit most : ℕ) (text value : List ℕ) → limit ≤ most → Whole text ≡ kept most value → limit < length text → None ≡ in_limit limit value
whole_passes limit most text value le e lt =
    let same = whole_within limit most text value le e in
    sym (past_limit limit text lt) ∙ ap (in_limit limit) same

pub longer_passes : (limit most : ℕ) (l : Look) (value : List ℕ) → limit ≤ most → Longer l ≡ kept most value → None ≡ in_limit limit value
longer_passes limit most l value le e =
    elim (cases_Bool (nat_le (length value) most)) [
      | inl fits ↦ let same : Longer l ≡ Whole value = e ∙ kept_whole most value (at_most (length value) most fits) in absurd cc
      | inr past ↦ let lt = above (length value) most past in sym (past_limit limit value (omega arith))
    ]

-- ---- the room for a limit

pub room_is : (L : Lookups) (bound limit more most : ℕ) (room : Room) → room ≡ record { most = most; names = true } → bound ≤ most → 1 ≤ most → AreShort L bound → IsRoom L room
room_is L bound limit more most room is one two short = λ _.
    let same : room.most ≡ most = ap (λ (r : Room). r.most) is in (
      omega (arith, same),
      record {
        property = λ name le. short.property name (omega (arith, same, le));
        variable = λ name le. short.variable name (omega (arith, same, le));
        file = λ key le. short.file key (omega (arith, same, le));
        folder = λ key le. short.folder key (omega (arith, same, le));
      },
    )
