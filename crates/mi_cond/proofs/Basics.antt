-- Facts on tests and options that several proofs share.
use Rattle.std.proofs.Common.{◌≡◌, ℕ, Bool, true, false, cond, ◌||◌, ◌&&◌, List, [], ◌∷◌, ◌++◌, Option, Some, None, refl, inl, inr, ◌⊎◌}
use Rattle.std.specs.Prelude.{option_and_then}
use Rattle.mi_cond.specs.Integer.{is_empty}

pub none_some : {A B : Type 0} (x : B) → None ≡ Some x → A
none_some x e = absurd cc

pub guard_some : {A : Type 0} (b : Bool) (o : Option A) (x : A) → cond b o None ≡ Some x → (b ≡ true) × (o ≡ Some x)
guard_some true o x e = (refl, e)
guard_some false o x e = none_some x e

pub then_some : {A B : Type 0} (f : A → Option B) (o : Option A) (r : B) → option_and_then f o ≡ Some r → (n : A) × (o ≡ Some n) × (f n ≡ Some r)
then_some f None r e = none_some r e
then_some f (Some n) r e = (n, refl, e)

pub and_true : (a b : Bool) → (a && b) ≡ true → (a ≡ true) × (b ≡ true)
and_true true b e = (refl, e)
and_true false b e = absurd cc

pub or_false : (a b : Bool) → (a || b) ≡ false → (a ≡ false) × (b ≡ false)
or_false true b e = absurd cc
or_false false b e = (refl, e)

pub or_true : (a b : Bool) → (a || b) ≡ true → (a ≡ true) ⊎ (b ≡ true)
or_true true b e = inl refl
or_true false b e = inr e

pub push-is_empty : (w : List ℕ) (b : ℕ) → is_empty (w ++ b ∷ []) ≡ false
push-is_empty [] b = refl
push-is_empty (x ∷ w) b = refl
