-- Reading tokens once from left to right with a stack of open marks, whatever is made of them.
use Rattle.std.specs.Prelude.{nat_le, ◌&&◌, ◌||◌, Bool, false, if◌then◌else◌, List, [], ◌∷◌, length, is_some}
use Rattle.mi_format.specs.declared.token.Kind.{Kind}
use Rattle.mi_format.specs.declared.token.Token.{Token}
use Rattle.mi_format.specs.declared.token.Token.TheVariants.{Open}
use Rattle.mi_format.specs.Tokens.{opened, closes}
use Rattle.mi_format.specs.Groups.{marked}

-- what is made of nothing, of a token, of a group and of two neighbours
pub record Maker (A : Type 0) : Type 0 where
  pub nothing : A
  pub single : Token → A
  pub group : Kind → A → A
  pub beside : A → A → A

-- an open mark, and what stands before it
pub record Frame (A : Type 0) : Type 0 where
  pub kind : Kind
  pub before : A

-- the open marks, the innermost first, and what stands behind it
pub record State (A : Type 0) : Type 0 where
  pub frames : List (Frame A)
  pub current : A

abbrev pub start : {A : Type 0} → Maker A → State A
start m = record { frames = []; current = m.nothing }

-- a token that is text
abbrev pub texted : {A : Type 0} → Maker A → List (Frame A) → A → Token → State A
texted m fs x t = record { frames = fs; current = m.beside x (m.single t) }

-- an open mark
abbrev pub begun : {A : Type 0} → Maker A → List (Frame A) → A → Kind → State A
begun m fs x k = record { frames = record { kind = k; before = x } ∷ fs; current = m.nothing }

abbrev pub step_on : {A : Type 0} → Maker A → List (Frame A) → A → Token → State A
step_on m [] x t = marked (opened t) (texted m [] x t) (begun m [] x)
step_on m (f ∷ fs) x t =
    if closes f.kind t then record { frames = fs; current = m.beside f.before (m.group f.kind x) }
    else marked (opened t) (texted m (f ∷ fs) x t) (begun m (f ∷ fs) x)

abbrev pub step : {A : Type 0} → Maker A → State A → Token → State A
step m s t = step_on m s.frames s.current t

-- open marks at the end are text
abbrev pub closed : {A : Type 0} → Maker A → List (Frame A) → A → A
closed m [] x = x
closed m (f ∷ fs) x = closed m fs (m.beside (m.beside f.before (m.single (Open f.kind))) x)

abbrev pub scan : {A : Type 0} → Maker A → State A → List Token → A
scan m s [] = closed m s.frames s.current
scan m s (t ∷ ts) = scan m (step m s t) ts

-- the token opens a mark where 64 are open
abbrev pub passes : {A : Type 0} → State A → Token → Bool
passes s t = is_some (opened t) && nat_le 64 (length s.frames)

-- some token does
abbrev pub scan_passes : {A : Type 0} → Maker A → State A → List Token → Bool
scan_passes m s [] = false
scan_passes m s (t ∷ ts) = passes s t || scan_passes m (step m s t) ts
