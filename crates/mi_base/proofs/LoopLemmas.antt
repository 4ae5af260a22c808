-- Reading items one after the other, as a loop does; and the test of UTF-8.
use Rattle.std.proofs.Common.{◌≡◌, ℕ, suc, ◌-◌, ◌+◌, ◌≤◌, ◌<◌, Bool, true, false, List, [], ◌∷◌, ◌++◌, Option, Some, Result, Ok, Err, refl, sym, ap, ◌∙◌, append_assoc, arith, inl, inr}
use Rattle.std.specs.Prelude.{slice_get, length}
use Rattle.std.specs.Str.{is_utf8, IsUtf8}
use Rattle.std.proofs.lemmas.Bool.{cases_Bool}
use Rattle.std.proofs.lemmas.Str.{IsUtf8-from_is_utf8, is_utf8-from_IsUtf8}
use Rattle.std.proofs.lemmas.List.{append-nil, length-append}
use Rattle.mi_base.specs.declared.rec_error.RecFault.{RecFault}
use Rattle.mi_base.specs.declared.rec_error.RecFault.TheVariants.{Field}
use Rattle.mi_base.specs.declared.rec_error.RecError.{RecError}
use Rattle.mi_base.specs.declared.rec_error.RecError.TheVariants as error
use Rattle.mi_base.specs.Reading.{◌>>=◌, Fails, bytes_at, text_at, items_at}

pub not_utf8 : (bs : List ℕ) → (IsUtf8 bs → ⊥) → is_utf8 bs ≡ false
not_utf8 bs h = elim (cases_Bool (is_utf8 bs)) [ inl e ↦ absurd (h (IsUtf8-from_is_utf8 bs e)) | inr e ↦ e ]

pub text_read : (bytes text rest : List ℕ) → bytes_at bytes ≡ Ok (text, rest) → IsUtf8 text → text_at bytes ≡ Ok (text, rest)
unfolding text_at
text_read bytes text rest e u = let t : is_utf8 text ≡ true = is_utf8-from_IsUtf8 text u in rw (e, t) refl

pub text_refused : (bytes text rest : List ℕ) → bytes_at bytes ≡ Ok (text, rest) → (IsUtf8 text → ⊥) → text_at bytes ≡ Err Field
unfolding text_at
text_refused bytes text rest e u = let t : is_utf8 text ≡ false = not_utf8 text u in rw (e, t) refl

-- the item that was read last, if there is one
abbrev pub last_of : {X : Type 0} → List X → Option X
last_of xs = slice_get xs (length xs - 1)

at_end : {X : Type 0} (xs : List X) (x : X) → slice_get (xs ++ x ∷ []) (length xs) ≡ Some x
at_end [] x = refl
at_end (y ∷ ys) x = at_end ys x

last-pushed : {X : Type 0} (xs : List X) (x : X) → last_of (xs ++ x ∷ []) ≡ Some x
last-pushed xs x = let n : length (xs ++ x ∷ []) - 1 ≡ length xs = omega (arith, length-append xs (x ∷ [])) in ap (slice_get (xs ++ x ∷ [])) n ∙ at_end xs x

module _ {X : Type 0} (read : List ℕ → Result (X × List ℕ) RecFault) (may_follow : Option X → X → Bool) where
  -- what was read before, and what is still read
  abbrev pub with_front : List X → Result (List X × List ℕ) RecFault → Result (List X × List ℕ) RecFault
  with_front front others = others >>= λ x. Ok (front ++ x.0, x.1)

  abbrev pub Reads : List X → ℕ → List ℕ → Result (List X × List ℕ) RecFault → Type 0
  Reads front count bytes total = with_front front (items_at read may_follow (last_of front) count bytes) ≡ total

  regroup : (front : List X) (n : X) (others : Result (List X × List ℕ) RecFault) → with_front front (others >>= λ x. Ok (n ∷ x.0, x.1)) ≡ with_front (front ++ n ∷ []) others
  regroup front n (Ok x) = ap (λ (ns : List X). Ok (ns, x.1)) (sym (append_assoc front (n ∷ []) x.0))
  regroup front n (Err f) = refl

  pub goes_on : (front : List X) (count i : ℕ) (bytes : List ℕ) (n : X) (after : List ℕ) (total : Result (List X × List ℕ) RecFault) → i < count → read bytes ≡ Ok (n, after)
      → may_follow (last_of front) n ≡ true → Reads front (count - i) bytes total → Reads (front ++ n ∷ []) (count - (i + 1)) after total
  unfolding items_at
  goes_on front count i bytes n after total lt h right so_far =
      let k : count - i ≡ suc (count - (i + 1)) = omega arith in
      let one : with_front front (items_at read may_follow (last_of front) (count - i) bytes) ≡ with_front (front ++ n ∷ []) (items_at read may_follow (Some n) (count - (i + 1)) after)
      = rw (k, h, right) (regroup front n (items_at read may_follow (Some n) (count - (i + 1)) after)) in
      ap (λ (last : Option X). with_front (front ++ n ∷ []) (items_at read may_follow last (count - (i + 1)) after)) (last-pushed front n) ∙ sym one ∙ so_far

  pub ends : (e : RecError) (front : List X) (count i : ℕ) (bytes : List ℕ) (total : Result (List X × List ℕ) RecFault) → i < count → Fails e (read bytes)
      → Reads front (count - i) bytes total → Fails e total
  unfolding items_at
  ends error.NoMemory front count i bytes total lt h so_far = tt
  ends (error.Fault f) front count i bytes total lt h so_far =
      let k : count - i ≡ suc (count - (i + 1)) = omega arith in
      let one : with_front front (items_at read may_follow (last_of front) (count - i) bytes) ≡ Err f = rw (k, h) refl in
      sym so_far ∙ one

  pub refused : (front : List X) (count i : ℕ) (bytes : List ℕ) (n : X) (after : List ℕ) (total : Result (List X × List ℕ) RecFault) → i < count → read bytes ≡ Ok (n, after)
      → may_follow (last_of front) n ≡ false → Reads front (count - i) bytes total → total ≡ Err Field
  unfolding items_at
  refused front count i bytes n after total lt h wrong so_far =
      let k : count - i ≡ suc (count - (i + 1)) = omega arith in
      let one : with_front front (items_at read may_follow (last_of front) (count - i) bytes) ≡ Err Field = rw (k, h, wrong) refl in
      sym so_far ∙ one

  pub is_done : (front : List X) (count i : ℕ) (bytes : List ℕ) (total : Result (List X × List ℕ) RecFault) → count ≤ i → Reads front (count - i) bytes total → total ≡ Ok (front, bytes)
  unfolding items_at
  is_done front count i bytes total le so_far =
      let k : count - i ≡ 0 = omega arith in
      let one : with_front front (items_at read may_follow (last_of front) (count - i) bytes) ≡ Ok (front, bytes) = rw k (ap (λ (ns : List X). Ok (ns, bytes)) (append-nil front)) in
      sym so_far ∙ one
