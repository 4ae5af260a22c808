-- What each step of a walk over a pattern keeps.
use Rattle.std.proofs.Common.{◌≡◌, ℕ, suc, ◌+◌, ◌*◌, ◌<◌, ◌≤◌, Bool, true, false, ◌||◌, ◌==◌, List, [], ◌∷◌, Option, None, Some, length, drop, refl, sym, ap, ◌∙◌, arith, subst, mul-le-mul_right, suc-mul}
use Rattle.std.proofs.lemmas.List.{drop-drop}
use Rattle.std.proofs.Math.Seq.{drop-nil}
use Rattle.std.specs.List.{list_all}
use Rattle.std.proofs.lemmas.Grind.{common_steps}
use Rattle.mi_model.specs.Patterns.{matches}
use Rattle.mi_patterns.specs.Walks.{GoesBack, StandsBy, IsBack, LaterBy, SteppedBy, width}
use Rattle.mi_patterns.specs.declared.walk.Walk.{Walk}
use Rattle.mi_patterns.specs.declared.walk.Way.{Way}
use Rattle.mi_patterns.proofs.PatternLemmas.{same_from_trues, star_from, star_end, star_goes_on, one_here, one_later, all_stars}

-- ---- at a `*`

at_star_back : (P T behind more ps ts : List ℕ) → GoesBack P T behind more (42 ∷ ps) ts → matches P T ≡ matches (42 ∷ ps) ts
at_star_back P T behind more ps ts g =
    same_from_trues (matches P T) (matches (42 ∷ ps) ts)
    (λ h.
    let w = star_end behind more (sym g.whole ∙ h) in
    let v = star_end ps (drop w.0 ts) (g.later w.0 w.1) in
    star_from ps ts (w.0 + v.0) (sym (ap (matches ps) (drop-drop v.0 w.0 ts)) ∙ v.1))
    (λ h. g.whole ∙ star_from behind more 0 (g.here ∙ h))

at_star : (P T : List ℕ) (way : Option Way) (ps ts : List ℕ) → StandsBy P T way (42 ∷ ps) ts → matches P T ≡ matches (42 ∷ ps) ts
at_star P T None ps ts g = g.0
at_star P T (Some way) ps ts g = at_star_back P T _ _ ps ts g

pub no_wider : (P T : List ℕ) (way : Option Way) (ps ts : List ℕ) → StandsBy P T way ps ts → length ts ≤ width T way
no_wider P T None ps ts g = g.1
no_wider P T (Some way) ps ts g = g.wide

pub from_star : (P T : List ℕ) (way : Option Way) (p : ℕ) (ps ts : List ℕ) → p ≡ 42 → StandsBy P T way (p ∷ ps) ts → length ps ≤ length P → GoesBack P T ps ts ps ts
from_star P T way p ps ts e g short =
    let at : StandsBy P T way (42 ∷ ps) ts = let F : ℕ → Type 0 = λ q. StandsBy P T way (q ∷ ps) ts in subst F e g in
    record { whole = at_star P T way ps ts at; here = refl; later = λ n h. h; wide = omega arith; short = short }

-- ---- past another character

past_back : (P T behind more : List ℕ) (p c : ℕ) (ps ts : List ℕ) → (p == 42) ≡ false → ((p == 63) || (c == p)) ≡ true → GoesBack P T behind more (p ∷ ps) (c ∷ ts) → GoesBack P T behind more ps ts
past_back P T behind more p c ps ts h t g =
    record {
      whole = g.whole;
      here = g.here ∙ one_here ps ts p c h t;
      later = λ n m. one_later ps ts p c n h (g.later n m);
      wide = let w : length (c ∷ ts) ≤ length more = g.wide in grind (arith, common_steps);
      short = g.short;
    }

pub past_one : (P T : List ℕ) (way : Option Way) (p c : ℕ) (ps ts : List ℕ) → (p == 42) ≡ false → ((p == 63) || (c == p)) ≡ true → StandsBy P T way (p ∷ ps) (c ∷ ts) → StandsBy P T way ps ts
past_one P T None p c ps ts h t g = (g.0 ∙ one_here ps ts p c h t, let w : length (c ∷ ts) ≤ length T = g.1 in grind (arith, common_steps))
past_one P T (Some way) p c ps ts h t g = past_back P T _ _ p c ps ts h t g

-- ---- back

pub stands_back : (P T : List ℕ) (way : Option Way) (behind more ps ts : List ℕ) → IsBack way behind more → GoesBack P T behind more ps ts → StandsBy P T way ps ts
stands_back P T None behind more ps ts b g = absurd b
stands_back P T (Some way) behind more ps ts b g =
    let F : List ℕ → Type 0 = λ x. GoesBack P T x way.text.now ps ts in
    let G : List ℕ → Type 0 = λ x. GoesBack P T behind x ps ts in
    subst F (sym b.0) (subst G (sym b.1) g)

pub width_back : (T : List ℕ) (way : Option Way) (behind more : List ℕ) → IsBack way behind more → width T way ≡ length more
width_back T None behind more b = absurd b
width_back T (Some way) behind more b = ap length b.1

pub from_back : (P T behind more rest left ts : List ℕ) (c : ℕ) → GoesBack P T behind more rest left → matches rest left ≡ false → more ≡ c ∷ ts → GoesBack P T behind ts behind ts
from_back P T behind more rest left ts c g off e =
    let fails : matches behind (c ∷ ts) ≡ false = sym (ap (matches behind) e) ∙ g.here ∙ off in
    record {
      whole = g.whole ∙ ap (matches (42 ∷ behind)) e ∙ star_goes_on behind ts c fails;
      here = refl;
      later = λ n h. h;
      wide = omega arith;
      short = g.short;
    }

-- ---- what is left to do

less_at_star : (w w' n a b : ℕ) → w' ≤ w → a < b → w' * (n + 1) + a < w * (n + 1) + b
less_at_star w w' n a b le lt = omega (arith, mul-le-mul_right (n + 1) le)

less_back : (w n a b : ℕ) → a ≤ n → w * (n + 1) + a < suc w * (n + 1) + b
less_back w n a b le = omega (arith, suc-mul w (n + 1))

-- ---- the steps

pub star_steps : (P T : List ℕ) (way way' : Option Way) (p : ℕ) (all ps ts : List ℕ) → all ≡ p ∷ ps → p ≡ 42 → IsBack way' ps ts → StandsBy P T way all ts × (length all ≤ length P)
    → (StandsBy P T way' ps ts × (length ps ≤ length P)) × (width T way' * (length P + 1) + length ps < width T way * (length P + 1) + length all)
star_steps P T way way' p all ps ts e star b s =
    let F : List ℕ → Type 0 = λ q. StandsBy P T way q ts in
    let long : length all ≡ suc (length ps) = ap length e in
    let short = s.1 in
    let few : length ps ≤ length P = omega arith in
    let wide : width T way' ≤ width T way = let same = width_back T way' ps ts b in let least = no_wider P T way all ts s.0 in omega arith in
    ((stands_back P T way' ps ts ps ts b (from_star P T way p ps ts star (subst F e s.0) few), few), less_at_star _ _ (length P) _ _ wide (omega arith))

pub one_steps : (P T : List ℕ) (way : Option Way) (p c : ℕ) (all ps text ts : List ℕ) → all ≡ p ∷ ps → text ≡ c ∷ ts → (p == 42) ≡ false → ((p == 63) || (c == p)) ≡ true → StandsBy P T way all text × (length all ≤ length P)
    → (StandsBy P T way ps ts × (length ps ≤ length P)) × (width T way * (length P + 1) + length ps < width T way * (length P + 1) + length all)
one_steps P T way p c all ps text ts e f no_star passes s =
    let F : List ℕ → Type 0 = λ q. StandsBy P T way q text in
    let G : List ℕ → Type 0 = λ q. StandsBy P T way (p ∷ ps) q in
    let long : length all ≡ suc (length ps) = ap length e in
    let short = s.1 in
    ((past_one P T way p c ps ts no_star passes (subst G f (subst F e s.0)), omega arith), omega arith)

pub back_steps : (P T : List ℕ) (way : Option Way) (result : Option Walk) (all text rest : List ℕ) (c : ℕ) → LaterBy way result → matches all text ≡ false → text ≡ c ∷ rest → StandsBy P T way all text
    → SteppedBy P T (width T way * (length P + 1) + length all) result
back_steps P T None result all text rest c l off e s =
    let F : Option Walk → Type 0 = λ r. SteppedBy P T (length T * (length P + 1) + length all) r in
    subst F (sym l) (s.0 ∙ off)
back_steps P T (Some way) None all text rest c l off e s =
    let wide : length text ≤ length way.text.now = s.wide in
    let long : length text ≡ suc (length rest) = ap length e in
    let none : length way.text.now ≡ 0 = ap length l in
    absurd (omega arith)
back_steps P T (Some way) (Some next) all text rest c l off e s =
    let behind = way.pattern.now in
    let ts = next.text.now in
    let F : List ℕ → Type 0 = λ q. GoesBack P T behind ts q ts in
    let g = from_back P T behind way.text.now all text ts l.0 s off l.1 in
    let few : length next.pattern.now ≤ length P = let short = g.short in let same : length next.pattern.now ≡ length behind = ap length l.2 in omega arith in
    let wide : length way.text.now ≡ suc (length ts) = ap length l.1 in
    let same : width T next.way ≡ length ts = width_back T next.way behind ts l.3 in
    let less = less_back (length ts) (length P) (length next.pattern.now) (length all) few in
    let W : ℕ → ℕ → Type 0 = λ a b. a * (length P + 1) + length next.pattern.now < b * (length P + 1) + length all in
    ((stands_back P T next.way behind ts next.pattern.now ts l.3 (subst F (sym l.2) g), few), subst (λ (a : ℕ). W a (length way.text.now)) (sym same) (subst (λ (b : ℕ). W (length ts) b) (sym wide) less))

-- ---- at the text's end

ends_back : (P T behind more rest : List ℕ) → GoesBack P T behind more rest [] → matches P T ≡ matches rest []
ends_back P T behind more rest g =
    same_from_trues (matches P T) (matches rest [])
    (λ h. let w = star_end behind more (sym g.whole ∙ h) in sym (ap (matches rest) (drop-nil w.0)) ∙ g.later w.0 w.1)
    (λ h. g.whole ∙ star_from behind more 0 (g.here ∙ h))

ends_none : (P T : List ℕ) (way : Option Way) (rest : List ℕ) → StandsBy P T way rest [] → matches P T ≡ matches rest []
ends_none P T None rest s = s.0
ends_none P T (Some way) rest s = ends_back P T _ _ rest s

pub ends : (P T : List ℕ) (way : Option Way) (rest text : List ℕ) (r : Bool) → text ≡ [] → StandsBy P T way rest text → r ≡ list_all (λ p. p == 42) rest → r ≡ matches P T
ends P T way rest text r e s is =
    let F : List ℕ → Type 0 = λ q. StandsBy P T way rest q in
    is ∙ sym (all_stars rest) ∙ sym (ends_none P T way rest (subst F e s))
