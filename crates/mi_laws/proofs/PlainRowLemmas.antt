-- Rows one after the other: each is plain over what those before it leave.
use Rattle.std.proofs.Common.{◌≡◌, Bool, true, false, cond, List, [], ◌∷◌, ◌++◌, map, Option, Some, None, subst}
use Rattle.std.specs.Prelude.{Result, Ok, Err, IfOk}
use Rattle.std.specs.List.{AllByRecursion}
use Rattle.std.specs.FinMap.{keys}
use Rattle.mi_base.specs.declared.answers.Fault.{Fault}
use Rattle.mi_base.specs.Machine.{Machine}
use Rattle.mi_text.specs.Maps.{Name}
use Rattle.mi_changes.specs.Touches.{after_touches}
use Rattle.mi_model.specs.World.{World, RowEffect, Effect}
use Rattle.mi_model.specs.Refusals.{◌>>=◌, unless}
use Rattle.mi_model.specs.PhaseRows.{Touches, by_rows}
use Rattle.mi_model.specs.Plain.{ArePlain}
use Rattle.mi_model.specs.Prune.{Path, Seat, goes, pruning}
use Rattle.mi_laws.specs.PlainLaws.{HasProductCode}
use Rattle.mi_laws.proofs.PlainCountLemmas.{AreOnce, clear_once}

-- ---- answers that are Ok

-- what holds of a first answer carries over to the second
pub bound : {A B : Type 0} → (P : A → Type 0) (Q : B → Type 0) (x : Result A Fault) (f : A → Result B Fault) → IfOk x P → ((a : A) → P a → IfOk (f a) Q) → IfOk (x >>= f) Q
bound P Q (Ok a) f p h = h a p
bound P Q (Err fault) f p h = tt

-- whatever the first answer is
pub behind : {A B : Type 0} → (Q : B → Type 0) (x : Result A Fault) (f : A → Result B Fault) → ((a : A) → IfOk (f a) Q) → IfOk (x >>= f) Q
behind Q (Ok a) f h = h a
behind Q (Err fault) f h = tt

pub unrefused : {A : Type 0} → (Q : A → Type 0) (fault : Option Fault) (x : Result A Fault) → IfOk x Q → IfOk (unless fault x) Q
unrefused Q None x h = h
unrefused Q (Some fault) x h = tt

pub chosen : {A : Type 0} → (Q : A → Type 0) (b : Bool) (x y : A) → Q x → Q y → Q (cond b x y)
chosen Q true x y p r = p
chosen Q false x y p r = r

pub at_ok : {A : Type 0} → (Q : A → Type 0) (x : Result A Fault) (a : A) → x ≡ Ok a → IfOk x Q → Q a
at_ok Q (Ok b) a e h = subst Q (same b a e) h
  where
    same : {A : Type 0} (b a : A) → ◌≡◌ {A = Result A Fault} (Ok b) (Ok a) → b ≡ a
    same b a e = cc
at_ok Q (Err fault) a e h = cc

-- ---- plain rows

-- over any machine the row names a name at most once
abbrev pub IsPlainRow : RowEffect → Type 0
IsPlainRow row = (m : Machine) → IfOk (row m) AreOnce

abbrev pub ArePlainRows : List RowEffect → Type 0
ArePlainRows rows = AllByRecursion IsPlainRow rows

-- the rows of a phase, in any world
abbrev pub IsPlainPhase : Effect → Type 0
IsPlainPhase effect = (w : World) → HasProductCode w.given.rows → IfOk (effect w) ArePlainRows

pub each_plain : {R : Type 0} → (row : R → RowEffect) (rows : List R) → ((r : R) → IsPlainRow (row r)) → ArePlainRows (map row rows)
each_plain row [] each = tt
each_plain row (r ∷ rows) each = (each r, each_plain row rows each)

pub all-append : {A : Type 0} → (P : A → Type 0) (a b : List A) → AllByRecursion P a → AllByRecursion P b → AllByRecursion P (a ++ b)
all-append P [] b first second = second
all-append P (x ∷ a) b first second = (first.0, all-append P a b first.1 second)

pub and_plain : (a b : List RowEffect) → ArePlainRows a → ArePlainRows b → ArePlainRows (a ++ b)
and_plain a b first second = all-append IsPlainRow a b first second

pub pruning_plain : (seat : Name → Seat) (touched protected : List Path) → IsPlainRow (pruning seat touched protected)
pruning_plain seat touched protected m = clear_once (goes seat (keys m) touched protected)

-- ---- one after the other

-- what each row touches, over whatever the rows before it leave
abbrev pub AreAllOnce : List Touches → Type 0
AreAllOnce rows = AllByRecursion AreOnce rows

pub rows_once : (m : Machine) (rows : List RowEffect) → ArePlainRows rows → IfOk (by_rows m rows) AreAllOnce
rows_once m [] plain = tt
rows_once m (row ∷ rows) plain =
    bound AreOnce AreAllOnce (row m) (λ ts. by_rows (after_touches m ts) rows >>= λ more. Ok (ts ∷ more)) (plain.0 m) (λ ts once.
    bound AreAllOnce AreAllOnce (by_rows (after_touches m ts) rows) (λ more. Ok (ts ∷ more)) (rows_once (after_touches m ts) rows plain.1) (λ more rest. (once, rest)))

pub plain_over : (m : Machine) (rows : List Touches) → AreAllOnce rows → ArePlain m rows
plain_over m [] all = tt
plain_over m (ts ∷ rows) all = (all.0 m, plain_over (after_touches m ts) rows all.1)

pub plain_front : (m : Machine) (a b : List Touches) → AreAllOnce (a ++ b) → ArePlain m a
plain_front m [] b all = tt
plain_front m (ts ∷ a) b all = (all.0 m, plain_front (after_touches m ts) a b all.1)
