-- A field that is read is the field that was written, and what was written is read again.
use Rattle.std.proofs.Common.{◌≡◌, ℕ, zero, suc, ◌^◌, ◌<◌, ◌≤◌, Bool, true, false, cond, ltb, eqb, List, [], ◌∷◌, ◌++◌, length, get_or, take, drop, Option, Some, None, Result, Ok, Err, refl, sym, ap, subst, ◌∙◌, append_assoc, arith}
use Rattle.std.specs.Prelude.{nat_lt}
use Rattle.std.specs.Int.{Width, w16, w32, w64, byte_len, from_be_bytes, to_be_bytes}
use Rattle.std.specs.List.{flat_map, list_all, AllByRecursion}
use Rattle.std.specs.Str.{is_utf8, IsUtf8, bytes_eq}
use Rattle.std.proofs.lemmas.Bool.{ltb-true, ltb-false, le-ltb, lt-ltb, eqb-true}
use Rattle.std.proofs.lemmas.Bool.Decides.{nat_tests}
use Rattle.std.proofs.lemmas.List.{take_at, drop_at, append-nil, nil_from_length, take-append-drop, length-append, length-take}
use Rattle.std.proofs.lemmas.List.Concat.{flat_map-cons}
use Rattle.std.proofs.lemmas.Nat.{be_bytes_2, be_bytes_4, be_bytes_8, from_be_bytes-to_be_bytes_2, from_be_bytes-to_be_bytes_4, from_be_bytes-to_be_bytes_8}
use Rattle.std.proofs.lemmas.Slice.Eq.{bytes_eq-Decides}
use Rattle.std.proofs.lemmas.Str.{IsUtf8-from_is_utf8, is_utf8-from_IsUtf8}
use Rattle.mi_text.specs.Fold.{folded}
use Rattle.mi_text.specs.declared.version.Version.{Version}
use Rattle.mi_base.specs.declared.rec_error.RecFault.{RecFault}
use Rattle.mi_base.specs.declared.rec_error.RecFault.TheVariants.{Short, Extra, Field}
use Rattle.mi_base.specs.declared.reading.Order.{Order}
use Rattle.mi_base.specs.declared.reading.Order.TheVariants.{Any}
use Rattle.mi_base.specs.declared.entry.RegValue.{RegValue}
use Rattle.mi_base.specs.declared.entry.RegValue.TheVariants as value
use Rattle.mi_base.specs.Fields.{string, strings, numbers, four_numbers, version, payload}
use Rattle.mi_base.specs.Limits.{are_bytes, is_short, are_few, is_chain, is_above, fits_value, IsVersion, IsVersionOrNone, IsRegValue}
use Rattle.mi_base.specs.Reading.{◌>>=◌, number_at, bytes_at, text_at, shown_at, items_at, texts_at, text_follows, rising_numbers_at, four_numbers_at, version_at, payload_at, value_at, ended}
use Rattle.mi_base.proofs.ByteLemmas.{both, and_true, bytes-append, bytes_front, by_index, number_bytes, text_bytes, joined_bytes}

-- ---- steps that did not fail

pub bind_ok : {A B : Type 0} (r : Result A RecFault) (f : A → Result B RecFault) (y : B) → (r >>= f) ≡ Ok y → (x : A) × (r ≡ Ok x) × (f x ≡ Ok y)
bind_ok (Ok x) f y e = (x, refl, e)
bind_ok (Err d) f y e = absurd cc

pub guard_ok : {A : Type 0} (b : Bool) (d : RecFault) (r : Result A RecFault) (y : A) → cond b (Err d) r ≡ Ok y → (b ≡ false) × (r ≡ Ok y)
guard_ok true d r y e = absurd cc
guard_ok false d r y e = (refl, e)

pub guard_passed : {A : Type 0} (b : Bool) (d : RecFault) (r : Result A RecFault) (y : A) → cond b r (Err d) ≡ Ok y → (b ≡ true) × (r ≡ Ok y)
guard_passed true d r y e = (refl, e)
guard_passed false d r y e = absurd cc

abbrev done : {A : Type 0} → A → Result A RecFault
done x = Ok x

pub ok_is : {A : Type 0} (x y : A) → done x ≡ done y → x ≡ y
ok_is x y e = cc

pub refused : {A : Type 0} (d : RecFault) (x : A) → Err d ≡ done x → ⊥
refused d x e = cc

-- all is read
pub ended_ok : {A : Type 0} (x : A) (rest : List ℕ) (y : A) → ended (x, rest) ≡ Ok y → (rest ≡ []) × (x ≡ y)
ended_ok x rest y e = let g = guard_passed (eqb (length rest) 0) Extra (Ok x) y e in (nil_from_length rest (eqb-true _ _ g.0), ok_is x y g.1)

-- ---- a field both ways

-- what a reader took from the front
pub record Takes (bytes text rest : List ℕ) : Type 0 where
  pub parts : bytes ≡ text ++ rest
  pub rest_fits : are_bytes rest ≡ true

pub Takes-then : (a x b y c : List ℕ) → Takes a x b → Takes b y c → Takes a (x ++ y) c
Takes-then a x b y c p q = record { parts = p.parts ∙ ap (λ (t : List ℕ). x ++ t) q.parts ∙ sym (append_assoc x y c); rest_fits = q.rest_fits }

-- two fields, one behind the other
pub glue : (a x b y c : List ℕ) → a ≡ x ++ b → b ≡ y ++ c → a ≡ (x ++ y) ++ c
glue a x b y c p q = p ∙ ap (λ (t : List ℕ). x ++ t) q ∙ sym (append_assoc x y c)

pub glue_end : (a x b : List ℕ) → a ≡ x ++ b → b ≡ [] → a ≡ x
glue_end a x b p q = p ∙ ap (λ (t : List ℕ). x ++ t) q ∙ append-nil x

-- what is read is right and is written so, and what is right is read as it was written
pub record IsField {X : Type 0} (read : List ℕ → Result (X × List ℕ) RecFault) (write : X → List ℕ) (Right : X → Type 0) : Type 0 where
  pub takes : (bytes : List ℕ) (x : X) (rest : List ℕ) → are_bytes bytes ≡ true → read bytes ≡ Ok (x, rest) → Takes bytes (write x) rest × Right x
  pub again : (x : X) (rest : List ℕ) → Right x → read (write x ++ rest) ≡ Ok (x, rest)
  pub bytes : (x : X) → Right x → are_bytes (write x) ≡ true

-- one field, and what is read behind it
pub record Step {X Y : Type 0} (write : X → List ℕ) (Right : X → Type 0) (next : X × List ℕ → Result Y RecFault) (bytes : List ℕ) (y : Y) : Type 0 where
  pub value : X
  pub rest : List ℕ
  pub parts : bytes ≡ write value ++ rest
  pub rest_fits : are_bytes rest ≡ true
  pub right : Right value
  pub more : next (value, rest) ≡ Ok y

pub step : {X Y : Type 0} (read : List ℕ → Result (X × List ℕ) RecFault) (write : X → List ℕ) (Right : X → Type 0) → IsField read write Right
    → (next : X × List ℕ → Result Y RecFault) (bytes : List ℕ) (y : Y) → are_bytes bytes ≡ true → (read bytes >>= next) ≡ Ok y → Step write Right next bytes y
step read write Right field next bytes y fits e =
    let b = bind_ok (read bytes) next y e in
    let t = field.takes bytes (b.0).0 (b.0).1 fits b.1 in
    record { value = (b.0).0; rest = (b.0).1; parts = t.0.parts; rest_fits = t.0.rest_fits; right = t.1; more = b.2 }

-- a last field
pub at_end : {X : Type 0} (read : List ℕ → Result (X × List ℕ) RecFault) (write : X → List ℕ) (Right : X → Type 0) → IsField read write Right → (x : X) → Right x → read (write x) ≡ Ok (x, [])
at_end read write Right field x right = ap read (sym (append-nil (write x))) ∙ field.again x [] right

-- ---- numbers

pub record IsWide (w : Width) (limit : ℕ) : Type 0 where
  pub len : (n : ℕ) → length (to_be_bytes w n) ≡ byte_len w
  pub back : (bytes : List ℕ) → length bytes ≡ byte_len w → ((i : ℕ) → get_or bytes i 0 < 256) → to_be_bytes w (from_be_bytes w bytes) ≡ bytes
  pub again : (n : ℕ) → n < limit → from_be_bytes w (to_be_bytes w n) ≡ n
  pub below : (bytes : List ℕ) → ((i : ℕ) → get_or bytes i 0 < 256) → from_be_bytes w bytes < limit

wide16 : IsWide w16 (2 ^ 16)
wide16 = record {
  len = λ n. refl;
  back = λ bytes len fits. be_bytes_2 bytes _ len fits refl;
  again = λ n lt. from_be_bytes-to_be_bytes_2 n lt;
  below = λ bytes fits. omega (arith, fits 0, fits 1);
}

wide32 : IsWide w32 (2 ^ 32)
wide32 = record {
  len = λ n. refl;
  back = λ bytes len fits. be_bytes_4 bytes _ len fits refl;
  again = λ n lt. from_be_bytes-to_be_bytes_4 n lt;
  below = λ bytes fits. omega (arith, fits 0, fits 1, fits 2, fits 3);
}

wide64 : IsWide w64 (2 ^ 64)
wide64 = record {
  len = λ n. refl;
  back = λ bytes len fits. be_bytes_8 bytes _ len fits refl;
  again = λ n lt. from_be_bytes-to_be_bytes_8 n lt;
  below = λ bytes fits. omega (arith, fits 0, fits 1, fits 2, fits 3, fits 4, fits 5, fits 6, fits 7);
}

pub front_bytes : (n : ℕ) (bytes : List ℕ) → are_bytes bytes ≡ true → (are_bytes (take n bytes) ≡ true) × (are_bytes (drop n bytes) ≡ true)
front_bytes n bytes e = bytes_front (take n bytes) (drop n bytes) (ap are_bytes (take-append-drop n bytes) ∙ e)

number : (w : Width) (limit : ℕ) → IsWide w limit → IsField (number_at w) (to_be_bytes w) (λ n. n < limit)
number w limit wide = record { takes = takes; again = again; bytes = λ n lt. number_bytes w n }
  where
    takes : (bytes : List ℕ) (n : ℕ) (rest : List ℕ) → are_bytes bytes ≡ true → number_at w bytes ≡ Ok (n, rest) → Takes bytes (to_be_bytes w n) rest × (n < limit)
    takes bytes n rest fits e =
        let g = guard_ok (ltb (length bytes) (byte_len w)) Short (Ok (from_be_bytes w (take (byte_len w) bytes), drop (byte_len w) bytes)) (n, rest) e in
        let long : byte_len w ≤ length bytes = ltb-false _ _ g.0 in
        let pair = ok_is (from_be_bytes w (take (byte_len w) bytes), drop (byte_len w) bytes) (n, rest) g.1 in
        let n-is : from_be_bytes w (take (byte_len w) bytes) ≡ n = ap (λ (p : ℕ × List ℕ). p.0) pair in
        let rest-is : drop (byte_len w) bytes ≡ rest = ap (λ (p : ℕ × List ℕ). p.1) pair in
        let halves = front_bytes (byte_len w) bytes fits in
        let each = by_index (take (byte_len w) bytes) halves.0 in
        let front : to_be_bytes w n ≡ take (byte_len w) bytes = rw (← n-is) (wide.back (take (byte_len w) bytes) (omega (arith, length-take (byte_len w) bytes)) each) in
        (record { parts = rw (front, ← rest-is) (sym (take-append-drop (byte_len w) bytes)); rest_fits = ap are_bytes (sym rest-is) ∙ halves.1 }, rw (← n-is) (wide.below (take (byte_len w) bytes) each))

    again : (n : ℕ) (rest : List ℕ) → n < limit → number_at w (to_be_bytes w n ++ rest) ≡ Ok (n, rest)
    again n rest lt =
        let len = wide.len n in
        let long : ltb (length (to_be_bytes w n ++ rest)) (byte_len w) ≡ false = le-ltb _ _ (omega (arith, length-append (to_be_bytes w n) rest)) in
        rw (long, take_at (to_be_bytes w n) rest (byte_len w) len, drop_at (to_be_bytes w n) rest (byte_len w) len, wide.again n lt) refl

pub number16 : IsField (number_at w16) (to_be_bytes w16) (λ n. n < 2 ^ 16)
number16 = number w16 (2 ^ 16) wide16

pub number32 : IsField (number_at w32) (to_be_bytes w32) (λ n. n < 2 ^ 32)
number32 = number w32 (2 ^ 32) wide32

pub number64 : IsField (number_at w64) (to_be_bytes w64) (λ n. n < 2 ^ 64)
number64 = number w64 (2 ^ 64) wide64

-- ---- bytes and texts

abbrev pub FitsBytes : List ℕ → Type 0
FitsBytes b = (is_short b ≡ true) × (are_bytes b ≡ true)

abbrev pub FitsText : List ℕ → Type 0
FitsText t = (is_short t ≡ true) × IsUtf8 t

pub bytes_field : IsField bytes_at string FitsBytes
unfolding bytes_at
bytes_field = record { takes = takes; again = again; bytes = λ b fits. bytes-append (to_be_bytes w32 (length b)) b (number_bytes w32 (length b)) fits.1 }
  where
    takes : (bytes text rest : List ℕ) → are_bytes bytes ≡ true → bytes_at bytes ≡ Ok (text, rest) → Takes bytes (string text) rest × FitsBytes text
    takes bytes text rest fits e =
        let s = step (number_at w32) (to_be_bytes w32) (λ n. n < 2 ^ 32) number32 (λ n. cond (ltb (length n.1) n.0) (Err Short) (Ok (take n.0 n.1, drop n.0 n.1))) bytes (text, rest) fits e in
        let g = guard_ok (ltb (length s.rest) s.value) Short (Ok (take s.value s.rest, drop s.value s.rest)) (text, rest) s.more in
        let long : s.value ≤ length s.rest = ltb-false _ _ g.0 in
        let len : length (take s.value s.rest) ≡ s.value = omega (arith, length-take s.value s.rest) in
        let halves = front_bytes s.value s.rest s.rest_fits in
        let second : Takes s.rest (take s.value s.rest) (drop s.value s.rest) = record { parts = sym (take-append-drop s.value s.rest); rest_fits = halves.1 } in
        let first : Takes bytes (to_be_bytes w32 s.value) s.rest = record { parts = s.parts; rest_fits = s.rest_fits } in
        let both_parts = Takes-then bytes (to_be_bytes w32 s.value) s.rest (take s.value s.rest) (drop s.value s.rest) first second in
        let whole : Takes bytes (string (take s.value s.rest)) (drop s.value s.rest) = subst (λ (k : ℕ). Takes bytes (to_be_bytes w32 k ++ take s.value s.rest) (drop s.value s.rest)) (sym len) both_parts in
        let small : is_short (take s.value s.rest) ≡ true = lt-ltb _ _ (rw len s.right) in
        subst (λ (p : List ℕ × List ℕ). Takes bytes (string p.0) p.1 × FitsBytes p.0) (ok_is (take s.value s.rest, drop s.value s.rest) (text, rest) g.1) (whole, (small, halves.0))

    again : (text rest : List ℕ) → FitsBytes text → bytes_at (string text ++ rest) ≡ Ok (text, rest)
    again text rest fits =
        let long : ltb (length (text ++ rest)) (length text) ≡ false = le-ltb _ _ (omega (arith, length-append text rest)) in
        rw (number32.again (length text) (text ++ rest) (ltb-true _ _ fits.0), long, take_at text rest (length text) refl, drop_at text rest (length text) refl) refl

pub text_field : IsField text_at string FitsText
unfolding text_at
text_field = record { takes = takes; again = again; bytes = λ t fits. bytes-append (to_be_bytes w32 (length t)) t (number_bytes w32 (length t)) (text_bytes t fits.1) }
  where
    takes : (bytes text rest : List ℕ) → are_bytes bytes ≡ true → text_at bytes ≡ Ok (text, rest) → Takes bytes (string text) rest × FitsText text
    takes bytes text rest fits e =
        let b = bind_ok (bytes_at bytes) (λ t. cond (is_utf8 t.0) (Ok t) (Err Field)) (text, rest) e in
        let g = guard_passed (is_utf8 (b.0).0) Field (Ok b.0) (text, rest) b.2 in
        let u = bytes_field.takes bytes (b.0).0 (b.0).1 fits b.1 in
        subst (λ (p : List ℕ × List ℕ). Takes bytes (string p.0) p.1 × FitsText p.0) (ok_is b.0 (text, rest) g.1) (u.0, (u.1.0, IsUtf8-from_is_utf8 (b.0).0 g.0))

    again : (text rest : List ℕ) → FitsText text → text_at (string text ++ rest) ≡ Ok (text, rest)
    again text rest fits = let t : is_utf8 text ≡ true = is_utf8-from_IsUtf8 text fits.1 in rw (bytes_field.again text rest (fits.0, text_bytes text fits.1), t) refl

-- a shown text, that folds to what a name says
abbrev pub FitsShown : List ℕ → List ℕ → Type 0
FitsShown named t = FitsText t × (folded t ≡ named)

pub shown_field : (named : List ℕ) → IsField (shown_at named) string (FitsShown named)
unfolding shown_at
shown_field named = record { takes = takes; again = again; bytes = λ t fits. text_field.bytes t fits.0 }
  where
    takes : (bytes text rest : List ℕ) → are_bytes bytes ≡ true → shown_at named bytes ≡ Ok (text, rest) → Takes bytes (string text) rest × FitsShown named text
    takes bytes text rest fits e =
        let b = bind_ok (text_at bytes) (λ t. cond (bytes_eq (folded t.0) named) (Ok t) (Err Field)) (text, rest) e in
        let g = guard_passed (bytes_eq (folded (b.0).0) named) Field (Ok b.0) (text, rest) b.2 in
        let u = text_field.takes bytes (b.0).0 (b.0).1 fits b.1 in
        subst (λ (p : List ℕ × List ℕ). Takes bytes (string p.0) p.1 × FitsShown named p.0) (ok_is b.0 (text, rest) g.1) (u.0, (u.1, (bytes_eq-Decides _ _).0 g.0))

    again : (text rest : List ℕ) → FitsShown named text → shown_at named (string text ++ rest) ≡ Ok (text, rest)
    again text rest fits = let t : bytes_eq (folded text) named ≡ true = (bytes_eq-Decides _ _).1 fits.1 in rw (text_field.again text rest fits.0, t) refl

-- ---- counted items

module _ {X : Type 0} (read : List ℕ → Result (X × List ℕ) RecFault) (write : X → List ℕ) (Right : X → Type 0) (field : IsField read write Right) (may_follow : Option X → X → Bool) where
  abbrev Items : ℕ → Option X → List ℕ → List X × List ℕ → Type 0
  Items n last bytes x = Takes bytes (flat_map write x.0) x.1 × (length x.0 ≡ n) × AllByRecursion Right x.0 × (is_chain may_follow last x.0 ≡ true)

  items_take : (n : ℕ) (last : Option X) (bytes : List ℕ) (x : List X × List ℕ) → are_bytes bytes ≡ true → items_at read may_follow last n bytes ≡ Ok x → Items n last bytes x
  unfolding items_at
  items_take zero last bytes x fits e = subst (Items 0 last bytes) (ok_is ([], bytes) x e) (record { parts = refl; rest_fits = fits }, refl, tt, refl)
  items_take (suc n) last bytes x fits e =
      let s = step read write Right field (λ first. cond (may_follow last first.0) (items_at read may_follow (Some first.0) n first.1 >>= λ others. Ok (first.0 ∷ others.0, others.1)) (Err Field)) bytes x fits e in
      let g = guard_passed (may_follow last s.value) Field (items_at read may_follow (Some s.value) n s.rest >>= λ others. Ok (s.value ∷ others.0, others.1)) x s.more in
      let b = bind_ok (items_at read may_follow (Some s.value) n s.rest) (λ others. Ok (s.value ∷ others.0, others.1)) x g.1 in
      let others = items_take n (Some s.value) s.rest b.0 s.rest_fits b.1 in
      let made : List X × List ℕ = (s.value ∷ b.0.0, b.0.1) in
      let first : Takes bytes (write s.value) s.rest = record { parts = s.parts; rest_fits = s.rest_fits } in
      subst (Items (suc n) last bytes) (ok_is made x b.2) (rw flat_map-cons (Takes-then bytes (write s.value) s.rest (flat_map write b.0.0) b.0.1 first others.0), ap suc others.1, (s.right, others.2), and_true _ _ g.0 others.3)

  items_again : (xs : List X) (last : Option X) (rest : List ℕ) → AllByRecursion Right xs → is_chain may_follow last xs ≡ true → items_at read may_follow last (length xs) (flat_map write xs ++ rest) ≡ Ok (xs, rest)
  unfolding items_at
  items_again [] last rest fits chain = refl
  items_again (x ∷ xs) last rest fits chain =
      let c = both (may_follow last x) (is_chain may_follow (Some x) xs) chain in
      let regrouped : flat_map write (x ∷ xs) ++ rest ≡ write x ++ (flat_map write xs ++ rest) = ap (λ (y : List ℕ). y ++ rest) (flat_map-cons write x xs) ∙ append_assoc (write x) (flat_map write xs) rest in
      ap (items_at read may_follow last (suc (length xs))) regrouped ∙ rw (field.again x (flat_map write xs ++ rest) fits.0, c.0, items_again xs (Some x) rest fits.1 c.1) refl

  -- a count and as many items
  abbrev FitsItems : List X → Type 0
  FitsItems xs = (are_few xs ≡ true) × AllByRecursion Right xs × (is_chain may_follow None xs ≡ true)

  abbrev counted_at : List ℕ → Result (List X × List ℕ) RecFault
  counted_at bytes = number_at w16 bytes >>= λ n. items_at read may_follow None n.0 n.1

  abbrev counted : List X → List ℕ
  counted xs = to_be_bytes w16 (length xs) ++ flat_map write xs

  pub counted_field : IsField counted_at counted FitsItems
  counted_field = record { takes = takes; again = again; bytes = λ xs fits. bytes-append (to_be_bytes w16 (length xs)) (flat_map write xs) (number_bytes w16 (length xs)) (joined_bytes write Right (λ x r. field.bytes x r) xs fits.1) }
    where
      takes : (bytes : List ℕ) (xs : List X) (rest : List ℕ) → are_bytes bytes ≡ true → counted_at bytes ≡ Ok (xs, rest) → Takes bytes (counted xs) rest × FitsItems xs
      takes bytes xs rest fits e =
          let s = step (number_at w16) (to_be_bytes w16) (λ n. n < 2 ^ 16) number16 (λ n. items_at read may_follow None n.0 n.1) bytes (xs, rest) fits e in
          let i = items_take s.value None s.rest (xs, rest) s.rest_fits s.more in
          let first : Takes bytes (to_be_bytes w16 s.value) s.rest = record { parts = s.parts; rest_fits = s.rest_fits } in
          let whole = Takes-then bytes (to_be_bytes w16 s.value) s.rest (flat_map write xs) rest first i.0 in
          let few : length xs < 2 ^ 16 = rw i.1 s.right in
          (subst (λ (n : ℕ). Takes bytes (to_be_bytes w16 n ++ flat_map write xs) rest) (sym i.1) whole, (lt-ltb _ _ few, i.2, i.3))

      again : (xs : List X) (rest : List ℕ) → FitsItems xs → counted_at (counted xs ++ rest) ≡ Ok (xs, rest)
      again xs rest fits =
          let regrouped : counted xs ++ rest ≡ to_be_bytes w16 (length xs) ++ (flat_map write xs ++ rest) = append_assoc (to_be_bytes w16 (length xs)) (flat_map write xs) rest in
          ap counted_at regrouped ∙ rw (number16.again (length xs) (flat_map write xs ++ rest) (ltb-true _ _ fits.0)) (items_again xs None rest fits.1 fits.2)

abbrev pub FitsTexts : Order → List (List ℕ) → Type 0
FitsTexts order ts = (are_few ts ≡ true) × AllByRecursion FitsText ts × (is_chain (text_follows order) None ts ≡ true)

pub texts_field : (order : Order) → IsField (texts_at order) strings (FitsTexts order)
unfolding texts_at
texts_field order = counted_field text_at string FitsText text_field (text_follows order)

abbrev pub FitsNumbers : List ℕ → Type 0
FitsNumbers ns = (are_few ns ≡ true) × AllByRecursion (λ n. n < 2 ^ 16) ns × (is_chain (is_above nat_lt) None ns ≡ true)

pub numbers_field : IsField rising_numbers_at numbers FitsNumbers
unfolding rising_numbers_at
numbers_field = counted_field (number_at w16) (to_be_bytes w16) (λ n. n < 2 ^ 16) number16 (is_above nat_lt)

-- ---- versions

pub four_field : IsField four_numbers_at four_numbers IsVersion
unfolding four_numbers_at
four_field = record { takes = takes; again = again; bytes = bytes }
  where
    takes : (bytes : List ℕ) (v : Version) (rest : List ℕ) → are_bytes bytes ≡ true → four_numbers_at bytes ≡ Ok (v, rest) → Takes bytes (four_numbers v) rest × IsVersion v
    takes bytes v rest fits e =
        let a = step (number_at w16) (to_be_bytes w16) (λ n. n < 2 ^ 16) number16 (λ major. number_at w16 major.1 >>= λ minor. number_at w16 minor.1 >>= λ build. number_at w16 build.1 >>= λ revision. Ok (record { major = major.0; minor = minor.0; build = build.0; revision = revision.0 }, revision.1)) bytes (v, rest) fits e in
        let b = step (number_at w16) (to_be_bytes w16) (λ n. n < 2 ^ 16) number16 (λ minor. number_at w16 minor.1 >>= λ build. number_at w16 build.1 >>= λ revision. Ok (record { major = a.value; minor = minor.0; build = build.0; revision = revision.0 }, revision.1)) a.rest (v, rest) a.rest_fits a.more in
        let c = step (number_at w16) (to_be_bytes w16) (λ n. n < 2 ^ 16) number16 (λ build. number_at w16 build.1 >>= λ revision. Ok (record { major = a.value; minor = b.value; build = build.0; revision = revision.0 }, revision.1)) b.rest (v, rest) b.rest_fits b.more in
        let d = step (number_at w16) (to_be_bytes w16) (λ n. n < 2 ^ 16) number16 (λ revision. Ok (record { major = a.value; minor = b.value; build = c.value; revision = revision.0 }, revision.1)) c.rest (v, rest) c.rest_fits c.more in
        let made : Version = record { major = a.value; minor = b.value; build = c.value; revision = d.value } in
        let right : IsVersion made = record { major = a.right; minor = b.right; build = c.right; revision = d.right } in
        let joined : (to_be_bytes w16 a.value ++ (to_be_bytes w16 b.value ++ (to_be_bytes w16 c.value ++ to_be_bytes w16 d.value))) ++ d.rest ≡ to_be_bytes w16 a.value ++ (to_be_bytes w16 b.value ++ (to_be_bytes w16 c.value ++ (to_be_bytes w16 d.value ++ d.rest))) = simp append_assoc in
        let parts : bytes ≡ four_numbers made ++ d.rest = a.parts ∙ ap (λ (t : List ℕ). to_be_bytes w16 a.value ++ t) (b.parts ∙ ap (λ (t : List ℕ). to_be_bytes w16 b.value ++ t) (c.parts ∙ ap (λ (t : List ℕ). to_be_bytes w16 c.value ++ t) d.parts)) ∙ sym joined in
        subst (λ (p : Version × List ℕ). Takes bytes (four_numbers p.0) p.1 × IsVersion p.0) (ok_is (made, d.rest) (v, rest) d.more) (record { parts = parts; rest_fits = d.rest_fits }, right)

    again : (v : Version) (rest : List ℕ) → IsVersion v → four_numbers_at (four_numbers v ++ rest) ≡ Ok (v, rest)
    again v rest is =
        let joined : four_numbers v ++ rest ≡ to_be_bytes w16 v.major ++ (to_be_bytes w16 v.minor ++ (to_be_bytes w16 v.build ++ (to_be_bytes w16 v.revision ++ rest))) = simp append_assoc in
        ap four_numbers_at joined ∙ rw (number16.again v.major (to_be_bytes w16 v.minor ++ (to_be_bytes w16 v.build ++ (to_be_bytes w16 v.revision ++ rest))) is.major, number16.again v.minor (to_be_bytes w16 v.build ++ (to_be_bytes w16 v.revision ++ rest)) is.minor, number16.again v.build (to_be_bytes w16 v.revision ++ rest) is.build, number16.again v.revision rest is.revision) refl

    bytes : (v : Version) → IsVersion v → are_bytes (four_numbers v) ≡ true
    bytes v is =
        bytes-append (to_be_bytes w16 v.major) (to_be_bytes w16 v.minor ++ (to_be_bytes w16 v.build ++ to_be_bytes w16 v.revision)) (number_bytes w16 v.major)
        (bytes-append (to_be_bytes w16 v.minor) (to_be_bytes w16 v.build ++ to_be_bytes w16 v.revision) (number_bytes w16 v.minor) (bytes-append (to_be_bytes w16 v.build) (to_be_bytes w16 v.revision) (number_bytes w16 v.build) (number_bytes w16 v.revision)))

behind : (kind : ℕ) (bytes text rest : List ℕ) → Takes bytes text rest → Takes (kind ∷ bytes) (kind ∷ text) rest
behind kind bytes text rest t = record { parts = ap (λ (w : List ℕ). kind ∷ w) t.parts; rest_fits = t.rest_fits }

behind_first : (b : ℕ) (bytes : List ℕ) → are_bytes (b ∷ bytes) ≡ true → are_bytes bytes ≡ true
behind_first b bytes e = (both _ _ e).1

pub version_field : IsField version_at version IsVersionOrNone
unfolding version_at
version_field = record { takes = takes; again = again; bytes = bytes }
  where
    some : (bytes : List ℕ) (v : Option Version) (rest : List ℕ) → are_bytes bytes ≡ true → ◌>>=◌ {B = Option Version × List ℕ} (four_numbers_at bytes) (λ w. Ok (Some w.0, w.1)) ≡ Ok (v, rest) → Takes (1 ∷ bytes) (version v) rest × IsVersionOrNone v
    some bytes v rest fits e =
        let s = step four_numbers_at four_numbers IsVersion four_field (λ w. Ok (Some w.0, w.1)) bytes (v, rest) fits e in
        let first : Takes bytes (four_numbers s.value) s.rest = record { parts = s.parts; rest_fits = s.rest_fits } in
        subst (λ (p : Option Version × List ℕ). Takes (1 ∷ bytes) (version p.0) p.1 × IsVersionOrNone p.0) (ok_is (Some s.value, s.rest) (v, rest) s.more) (behind 1 bytes (four_numbers s.value) s.rest first, s.right)

    takes : (bytes : List ℕ) (v : Option Version) (rest : List ℕ) → are_bytes bytes ≡ true → version_at bytes ≡ Ok (v, rest) → Takes bytes (version v) rest × IsVersionOrNone v
    takes [] v rest fits e = absurd (refused Short (v, rest) e)
    takes (zero ∷ bytes) v rest fits e =
        let none : Option Version = None in
        subst (λ (p : Option Version × List ℕ). Takes (0 ∷ bytes) (version p.0) p.1 × IsVersionOrNone p.0) (ok_is (none, bytes) (v, rest) e) (record { parts = refl; rest_fits = behind_first 0 bytes fits }, tt)
    takes (suc zero ∷ bytes) v rest fits e = some bytes v rest (behind_first 1 bytes fits) e
    takes (suc (suc b) ∷ bytes) v rest fits e = absurd (refused Field (v, rest) e)

    again : (v : Option Version) (rest : List ℕ) → IsVersionOrNone v → version_at (version v ++ rest) ≡ Ok (v, rest)
    again None rest is = refl
    again (Some v) rest is = rw (four_field.again v rest is) refl

    bytes : (v : Option Version) → IsVersionOrNone v → are_bytes (version v) ≡ true
    bytes None is = refl
    bytes (Some v) is = four_field.bytes v is

-- ---- values

abbrev pub FitsValue : RegValue → Type 0
FitsValue v = (fits_value v ≡ true) × IsRegValue v

no_kind : (k : ℕ) (bytes : List ℕ) → 5 < k → payload_at k bytes ≡ Err Field
no_kind k bytes lt =
    let a : eqb k 1 ≡ false = grind (arith, nat_tests) in
    let b : eqb k 2 ≡ false = grind (arith, nat_tests) in
    let c : eqb k 3 ≡ false = grind (arith, nat_tests) in
    let d : eqb k 4 ≡ false = grind (arith, nat_tests) in
    let f : eqb k 5 ≡ false = grind (arith, nat_tests) in
    rw (a, b, c, d, f) refl

-- each text is short and UTF-8
split_texts : (ts : List (List ℕ)) → AllByRecursion FitsText ts → (list_all is_short ts ≡ true) × AllByRecursion IsUtf8 ts
split_texts [] all = (refl, tt)
split_texts (t ∷ ts) all = let rest = split_texts ts all.1 in (and_true _ _ all.0.0 rest.0, (all.0.1, rest.1))

pub join_texts : (ts : List (List ℕ)) → list_all is_short ts ≡ true → AllByRecursion IsUtf8 ts → AllByRecursion FitsText ts
join_texts [] short all = tt
join_texts (t ∷ ts) short all = let s = both _ _ short in ((s.0, all.0), join_texts ts s.1 all.1)

pub texts_short : (ts : List (List ℕ)) → AllByRecursion FitsText ts → list_all is_short ts ≡ true
texts_short ts all = (split_texts ts all).0

pub texts_utf8 : (ts : List (List ℕ)) → AllByRecursion FitsText ts → AllByRecursion IsUtf8 ts
texts_utf8 ts all = (split_texts ts all).1

any_chain : (last : Option (List ℕ)) (ts : List (List ℕ)) → is_chain (text_follows Any) last ts ≡ true
any_chain last [] = refl
any_chain last (t ∷ ts) = any_chain (Some t) ts

pub value_field : IsField value_at payload FitsValue
unfolding value_at
value_field = record { takes = takes; again = again; bytes = bytes }
  where
    Took : List ℕ → RegValue × List ℕ → Type 0
    Took bytes x = Takes bytes (payload x.0) x.1 × FitsValue x.0

    made : {X : Type 0} (kind : ℕ) (read : List ℕ → Result (X × List ℕ) RecFault) (write : X → List ℕ) (Right : X → Type 0) (field : IsField read write Right) (make : X → RegValue)
        → ((x : X) → payload (make x) ≡ kind ∷ write x) → ((x : X) → Right x → FitsValue (make x))
        → (bytes : List ℕ) (y : RegValue × List ℕ) → are_bytes bytes ≡ true → (read bytes >>= λ t. Ok (make t.0, t.1)) ≡ Ok y → Took (kind ∷ bytes) y
    made kind read write Right field make spelled fits_made bytes y fits e =
        let s = step read write Right field (λ t. Ok (make t.0, t.1)) bytes y fits e in
        let first : Takes bytes (write s.value) s.rest = record { parts = s.parts; rest_fits = s.rest_fits } in
        let whole : Takes (kind ∷ bytes) (payload (make s.value)) s.rest = subst (λ (t : List ℕ). Takes (kind ∷ bytes) t s.rest) (sym (spelled s.value)) (behind kind bytes (write s.value) s.rest first) in
        subst (Took (kind ∷ bytes)) (ok_is (make s.value, s.rest) y s.more) (whole, fits_made s.value s.right)

    takes : (bytes : List ℕ) (v : RegValue) (rest : List ℕ) → are_bytes bytes ≡ true → value_at bytes ≡ Ok (v, rest) → Takes bytes (payload v) rest × FitsValue v
    takes [] v rest fits e = absurd (refused Short (v, rest) e)
    takes (zero ∷ bytes) v rest fits e = absurd (refused Field (v, rest) e)
    takes (suc zero ∷ bytes) v rest fits e = made 1 text_at string FitsText text_field (λ t. value.Text t) (λ t. refl) (λ t r. r) bytes (v, rest) (behind_first 1 bytes fits) e
    takes (suc (suc zero) ∷ bytes) v rest fits e = made 2 text_at string FitsText text_field (λ t. value.Expand t) (λ t. refl) (λ t r. r) bytes (v, rest) (behind_first 2 bytes fits) e
    takes (suc (suc (suc zero)) ∷ bytes) v rest fits e = made 3 (number_at w32) (to_be_bytes w32) (λ n. n < 2 ^ 32) number32 (λ n. value.Int n) (λ n. refl) (λ n r. (refl, r)) bytes (v, rest) (behind_first 3 bytes fits) e
    takes (suc (suc (suc (suc zero))) ∷ bytes) v rest fits e = made 4 bytes_at string FitsBytes bytes_field (λ b. value.Binary b) (λ b. refl) (λ b r. r) bytes (v, rest) (behind_first 4 bytes fits) e
    takes (suc (suc (suc (suc (suc zero)))) ∷ bytes) v rest fits e =
        made 5 (texts_at Any) strings (FitsTexts Any) (texts_field Any) (λ ts. value.List ts) (λ ts. refl) (λ ts r. (and_true _ _ r.0 (texts_short ts r.1), texts_utf8 ts r.1)) bytes (v, rest) (behind_first 5 bytes fits) e
    takes (suc (suc (suc (suc (suc (suc k))))) ∷ bytes) v rest fits e =
        absurd (refused Field (v, rest) (sym (no_kind (suc (suc (suc (suc (suc (suc k)))))) bytes (omega arith)) ∙ e))

    again : (v : RegValue) (rest : List ℕ) → FitsValue v → value_at (payload v ++ rest) ≡ Ok (v, rest)
    again (value.Text t) rest fits = rw (text_field.again t rest fits) refl
    again (value.Expand t) rest fits = rw (text_field.again t rest fits) refl
    again (value.Int n) rest fits = rw (number32.again n rest fits.1) refl
    again (value.Binary b) rest fits = rw (bytes_field.again b rest fits) refl
    again (value.List ts) rest fits = let s = both _ _ fits.0 in rw ((texts_field Any).again ts rest (s.0, join_texts ts s.1 fits.1, any_chain None ts)) refl

    bytes : (v : RegValue) → FitsValue v → are_bytes (payload v) ≡ true
    bytes (value.Text t) fits = text_field.bytes t fits
    bytes (value.Expand t) fits = text_field.bytes t fits
    bytes (value.Int n) fits = number_bytes w32 n
    bytes (value.Binary b) fits = bytes_field.bytes b fits
    bytes (value.List ts) fits = let s = both _ _ fits.0 in (texts_field Any).bytes ts (s.0, join_texts ts s.1 fits.1, any_chain None ts)
