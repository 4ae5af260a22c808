-- Reading fields from left to right, with the first fault that is met.
use Rattle.std.specs.Prelude.{◌≡◌, ℕ, zero, suc, ◌==◌, nat_lt, Bool, true, if◌then◌else◌, List, [], ◌∷◌, length, take, drop, Option, Some, None, Result, Ok, Err}
use Rattle.std.specs.Int.{Width, w16, w32, byte_len, from_be_bytes}
use Rattle.std.specs.Str.{is_utf8, bytes_eq}
use Rattle.mi_text.specs.Fold.{folded}
use Rattle.mi_text.specs.declared.version.Version.{Version}
use Rattle.mi_base.specs.declared.rec_error.RecFault.{RecFault}
use Rattle.mi_base.specs.declared.rec_error.RecFault.TheVariants.{Short, Extra, Field}
use Rattle.mi_base.specs.declared.rec_error.RecError.{RecError}
use Rattle.mi_base.specs.declared.rec_error.RecError.TheVariants as error
use Rattle.mi_base.specs.declared.entry.RegValue.{RegValue}
use Rattle.mi_base.specs.declared.entry.RegValue.TheVariants as value
use Rattle.mi_base.specs.declared.reading.Order.{Order}
use Rattle.mi_base.specs.declared.reading.Order.TheVariants.{Any, Rising}
use Rattle.mi_base.specs.Limits.{text_below, is_above}

infixl 10 ◌>>=◌
abbrev pub ◌>>=◌ : {A B : Type 0} → Result A RecFault → (A → Result B RecFault) → Result B RecFault
(Ok x) >>= f = f x
(Err e) >>= f = Err e

abbrev pub Fails : {Y : Type 0} → RecError → Result Y RecFault → Type 0
Fails error.NoMemory read = Unit {0}
Fails (error.Fault f) read = read ≡ Err f

-- What a function returned, seen by view, is what reading gives, unless memory ran out.
abbrev pub Gives : {X Y : Type 0} → (X → Y) → Result X RecError → Result Y RecFault → Type 0
Gives view (Ok x) read = read ≡ Ok (view x)
Gives view (Err e) read = Fails e read

abbrev pub number_at : Width → List ℕ → Result (ℕ × List ℕ) RecFault
number_at w bytes = if nat_lt (length bytes) (byte_len w) then Err Short else Ok (from_be_bytes w (take (byte_len w) bytes), drop (byte_len w) bytes)

unfoldable pub bytes_at : List ℕ → Result (List ℕ × List ℕ) RecFault
bytes_at bytes = do
  n ← number_at w32 bytes
  if nat_lt (length n.1) n.0 then Err Short else Ok (take n.0 n.1, drop n.0 n.1)

unfoldable pub text_at : List ℕ → Result (List ℕ × List ℕ) RecFault
text_at bytes = do
  t ← bytes_at bytes
  if is_utf8 t.0 then Ok t else Err Field

-- a text that folds to what a name says
unfoldable pub shown_at : List ℕ → List ℕ → Result (List ℕ × List ℕ) RecFault
shown_at named bytes = do
  t ← text_at bytes
  if bytes_eq (folded t.0) named then Ok t else Err Field

-- so many items, each of which may follow the one before
unfoldable pub items_at : {X : Type 0} → (List ℕ → Result (X × List ℕ) RecFault) → (Option X → X → Bool) → Option X → ℕ → List ℕ → Result (List X × List ℕ) RecFault
items_at read may_follow last zero bytes = Ok ([], bytes)
items_at read may_follow last (suc n) bytes = do
  first ← read bytes
  if may_follow last first.0 then (items_at read may_follow (Some first.0) n first.1 >>= λ others. Ok (first.0 ∷ others.0, others.1)) else Err Field

abbrev pub text_follows : Order → Option (List ℕ) → List ℕ → Bool
text_follows Any last text = true
text_follows Rising last text = is_above text_below last text

-- a count, and as many texts
unfoldable pub texts_at : Order → List ℕ → Result (List (List ℕ) × List ℕ) RecFault
texts_at order bytes = number_at w16 bytes >>= λ n. items_at text_at (text_follows order) None n.0 n.1

-- a count, and as many numbers, each above the one before
unfoldable pub rising_numbers_at : List ℕ → Result (List ℕ × List ℕ) RecFault
rising_numbers_at bytes = number_at w16 bytes >>= λ n. items_at (number_at w16) (is_above nat_lt) None n.0 n.1

unfoldable pub four_numbers_at : List ℕ → Result (Version × List ℕ) RecFault
four_numbers_at bytes = do
  major ← number_at w16 bytes
  minor ← number_at w16 major.1
  build ← number_at w16 minor.1
  revision ← number_at w16 build.1
  Ok (record { major = major.0; minor = minor.0; build = build.0; revision = revision.0 }, revision.1)

unfoldable pub version_at : List ℕ → Result (Option Version × List ℕ) RecFault
version_at [] = Err Short
version_at (zero ∷ bytes) = Ok (None, bytes)
version_at (suc zero ∷ bytes) = four_numbers_at bytes >>= λ v. Ok (Some v.0, v.1)
version_at (suc (suc b) ∷ bytes) = Err Field

-- what a value of this kind holds
abbrev pub payload_at : ℕ → List ℕ → Result (RegValue × List ℕ) RecFault
payload_at kind bytes =
    if kind == 1 then (text_at bytes >>= λ t. Ok (value.Text t.0, t.1))
    else if kind == 2 then (text_at bytes >>= λ t. Ok (value.Expand t.0, t.1))
    else if kind == 3 then (number_at w32 bytes >>= λ n. Ok (value.Int n.0, n.1))
    else if kind == 4 then (bytes_at bytes >>= λ b. Ok (value.Binary b.0, b.1))
    else if kind == 5 then (texts_at Any bytes >>= λ ts. Ok (value.List ts.0, ts.1))
    else Err Field

unfoldable pub value_at : List ℕ → Result (RegValue × List ℕ) RecFault
value_at [] = Err Short
value_at (kind ∷ bytes) = payload_at kind bytes

-- all is read
abbrev pub ended : {A : Type 0} → A × List ℕ → Result A RecFault
ended x = if length x.1 == 0 then Ok x.0 else Err Extra
