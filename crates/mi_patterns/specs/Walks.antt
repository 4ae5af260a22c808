-- A walk over a pattern and a text, with one way back.
use Rattle.std.specs.Prelude.{◌≡◌, ℕ, ◌+◌, ◌*◌, ◌<◌, ◌≤◌, List, [], ◌∷◌, Option, None, Some, true, false, length, drop}
use Rattle.mi_model.specs.Patterns.{matches}
use Rattle.mi_patterns.specs.declared.walk.Walk.{Walk}
use Rattle.mi_patterns.specs.declared.walk.Way.{Way}

-- The answer for `pattern` and `text` is that for what stands behind a `*` over all ends of the text `more`; what was compared
-- since is `behind` over `more`, of which `rest` over `left` is to come.
pub record GoesBack (pattern text behind more rest left : List ℕ) : Type 0 where
  pub whole : matches pattern text ≡ matches (42 ∷ behind) more
  pub here : matches behind more ≡ matches rest left
  -- an end that is as much shorter passes no more than what is compared there
  pub later : (n : ℕ) → matches behind (drop n more) ≡ true → matches rest (drop n left) ≡ true
  pub wide : length left ≤ length more
  pub short : length behind ≤ length pattern

-- how the answer follows from what is still to be compared
abbrev pub StandsBy : List ℕ → List ℕ → Option Way → List ℕ → List ℕ → Type 0
StandsBy pattern text None rest left = (matches pattern text ≡ matches rest left) × (length left ≤ length text)
StandsBy pattern text (Some way) rest left = GoesBack pattern text way.pattern.now way.text.now rest left

abbrev pub Stands : List ℕ → List ℕ → Walk → Type 0
Stands pattern text walk = StandsBy pattern text walk.way walk.pattern.now walk.text.now × (length walk.pattern.now ≤ length pattern)

-- how much text the way back has
abbrev pub width : List ℕ → Option Way → ℕ
width text None = length text
width text (Some way) = length way.text.now

-- how much is to be done
abbrev pub work : List ℕ → List ℕ → Walk → ℕ
work pattern text walk = width text walk.way * (length pattern + 1) + length walk.pattern.now

-- after a step, with so much to be done before
abbrev pub SteppedBy : List ℕ → List ℕ → ℕ → Option Walk → Type 0
SteppedBy pattern text before None = matches pattern text ≡ false
SteppedBy pattern text before (Some next) = Stands pattern text next × (work pattern text next < before)

abbrev pub Stepped : List ℕ → List ℕ → Walk → Option Walk → Type 0
Stepped pattern text walk result = SteppedBy pattern text (work pattern text walk) result

-- this is the way back
abbrev pub IsBack : Option Way → List ℕ → List ℕ → Type 0
IsBack None behind more = ⊥
IsBack (Some way) behind more = (way.pattern.now ≡ behind) × (way.text.now ≡ more)

-- the way back, with one character more for its `*`
abbrev pub LaterBy : Option Way → Option Walk → Type 0
LaterBy None result = result ≡ None
LaterBy (Some way) None = way.text.now ≡ []
LaterBy (Some way) (Some next) =
    (c : ℕ) × (way.text.now ≡ c ∷ next.text.now) × (next.pattern.now ≡ way.pattern.now) × IsBack next.way way.pattern.now next.text.now

abbrev pub LaterOf : Walk → Option Walk → Type 0
LaterOf walk result = LaterBy walk.way result
