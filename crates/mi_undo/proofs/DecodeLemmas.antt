-- Reading a note of an entry.
use Rattle.std.proofs.Common.{◌≡◌, ◌≢◌, ℕ, zero, suc, ◌+◌, ◌-◌, ◌≤◌, ◌<◌, Bool, true, false, not, ◌&&◌, cond, nat_le, List, [], ◌∷◌, length, take, drop, Option, Some, None, refl, sym, ap, ◌∙◌, arith, length-drop}
use Rattle.std.specs.Option.{option_map, option_and_then}
use Rattle.std.specs.Int.{w32, w64, from_be_bytes}
use Rattle.std.specs.Str.{is_utf8, IsUtf8}
use Rattle.std.proofs.lemmas.Str.{is_utf8-from_IsUtf8, IsUtf8-from_is_utf8}
use Rattle.std.proofs.lemmas.Bool.{le-leb, leb-true}
use Rattle.std.proofs.lemmas.List.{drop-drop}
use Rattle.mi_undo.specs.Names.{is_inside}
use Rattle.mi_undo.specs.Notes.{Note, split_at, text_at, blob_at, note_at}
use Rattle.mi_undo.specs.Reading.{head_at, as_name, good_name, if_good, good_note, span_placed}
use Rattle.mi_undo.specs.declared.kept.Span.{Span}

both : (a b : Bool) → a ≡ true → b ≡ true → (a && b) ≡ true
both true b p q = q
both false b p q = absurd (cc)

not_text : (t : List ℕ) → ¬ (IsUtf8 t) → is_utf8 t ≡ false
not_text t bad = elim (is_utf8 t) as (λ b. is_utf8 t ≡ b → b ≡ false) [ true ↦ λ e. absurd (bad (IsUtf8-from_is_utf8 t e)) | false ↦ λ e. refl ] refl

-- so many bytes were there
pub whole : (n : ℕ) (rest : List ℕ) → length (take n rest) ≡ n → nat_le n (length rest) ≡ true
whole n rest is = le-leb n (length rest) (long n rest is)
  where
    long : (n : ℕ) (rest : List ℕ) → length (take n rest) ≡ n → n ≤ length rest
    long zero rest is = omega arith
    long (suc n) [] is = absurd (omega (arith, is))
    long (suc n) (b ∷ rest) is = let less : length (take n rest) ≡ n = omega (arith, is) in omega (arith, long n rest less)

pub split_whole : (n : ℕ) (rest bytes : List ℕ) → bytes ≡ take n rest → length bytes ≡ n → split_at n rest ≡ Some (bytes, drop n rest)
split_whole n rest bytes is long =
    ap (λ b. cond b (Some (take n rest, drop n rest)) None) (whole n rest (ap (λ (l : List ℕ). length l) (sym is) ∙ long))
    ∙ ap (λ (l : List ℕ). Some (l, drop n rest)) (sym is)

module _ (len : ℕ) (rest bytes : List ℕ) (some : 1 ≤ len) (few : len ≤ 1024) (is : bytes ≡ take len rest) (long : length bytes ≡ len) where
  name_is : good_name len rest ≡ as_name (Some (bytes, drop len rest))
  name_is = ap (λ b. cond b (as_name (split_at len rest)) None) (both (nat_le 1 len) (nat_le len 1024) (le-leb 1 len some) (le-leb len 1024 few)) ∙ ap as_name (split_whole len rest bytes is long)

  pub name_no_text : ¬ (IsUtf8 bytes) → None ≡ good_name len rest
  name_no_text bad = sym (name_is ∙ ap (λ b. cond (b && not (is_inside bytes)) (Some bytes) None) (not_text bytes bad))

  pub name_good : (name : List ℕ) → name ≡ bytes → IsUtf8 bytes → is_inside name ≡ false → Some name ≡ good_name len rest
  name_good name same text out =
      ap Some same ∙ sym (name_is ∙ ap (λ b. cond b (Some bytes) None) (both (is_utf8 bytes) (not (is_inside bytes)) (is_utf8-from_IsUtf8 bytes text) (ap not (ap is_inside (sym same) ∙ out))))

-- the length of old bytes isn't there
pub blob_none : (bytes : List ℕ) → None ≡ option_map (λ (p : List ℕ × List ℕ). from_be_bytes w64 p.0) (split_at 8 bytes) → blob_at bytes ≡ None
unfolding blob_at
blob_none bytes is = at (split_at 8 bytes) is
  where
    at : (o : Option (List ℕ × List ℕ)) → None ≡ option_map (λ (p : List ℕ × List ℕ). from_be_bytes w64 p.0) o → option_and_then (λ (p : List ℕ × List ℕ). split_at (from_be_bytes w64 p.0) p.1) o ≡ None
    at None e = refl
    at (Some p) e = absurd (cc)

eight : (bytes : List ℕ) (n : ℕ) → Some n ≡ option_map (λ (p : List ℕ × List ℕ). from_be_bytes w64 p.0) (split_at 8 bytes) → blob_at bytes ≡ split_at n (drop 8 bytes)
unfolding blob_at
eight bytes n is =
    elim (nat_le 8 (length bytes)) as (λ b. Some n ≡ option_map (λ (p : List ℕ × List ℕ). from_be_bytes w64 p.0) (cond b (Some (take 8 bytes, drop 8 bytes)) None)
    → option_and_then (λ (p : List ℕ × List ℕ). split_at (from_be_bytes w64 p.0) p.1) (cond b (Some (take 8 bytes, drop 8 bytes)) None) ≡ split_at n (drop 8 bytes)) [
      | true ↦ λ e. let same : from_be_bytes w64 (take 8 bytes) ≡ n = cc in ap (λ (k : ℕ). split_at k (drop 8 bytes)) same
      | false ↦ λ e. absurd (cc)
    ] is

short_of : (n : ℕ) (rest : List ℕ) → length rest < n → split_at n rest ≡ None
short_of n rest less = ap (λ b. cond b (Some (take n rest, drop n rest)) None) (elim (nat_le n (length rest)) as (λ b. nat_le n (length rest) ≡ b → b ≡ false) [ true ↦ λ e. absurd (let le : n ≤ length rest = leb-true n (length rest) e in omega (arith, le, less)) | false ↦ λ e. refl ] refl)

module _ (at n total : ℕ) (bytes : List ℕ) (is : Some n ≡ option_map (λ (p : List ℕ × List ℕ). from_be_bytes w64 p.0) (split_at 8 (drop at bytes))) (all : total ≡ length bytes) where
  rest_is : blob_at (drop at bytes) ≡ split_at n (drop (at + 8) bytes)
  rest_is = eight (drop at bytes) n is ∙ ap (λ (l : List ℕ). split_at n l) (drop-drop 8 at bytes)

  pub blob_short : (total - (at + 8)) < n → blob_at (drop at bytes) ≡ None
  blob_short less = rest_is ∙ short_of n (drop (at + 8) bytes) (omega (arith, less, all, length-drop (at + 8) bytes))

  pub blob_there : n ≤ total - (at + 8) → blob_at (drop at bytes) ≡ span_placed bytes (Some (record { at = at + 8; end = at + 8 + n }))
  blob_there fits =
      let inside : nat_le n (length (drop (at + 8) bytes)) ≡ true = le-leb n (length (drop (at + 8) bytes)) (omega (arith, fits, all, length-drop (at + 8) bytes)) in
      let long : n ≡ (at + 8 + n) - (at + 8) = omega arith in
      rest_is
      ∙ ap (λ b. cond b (Some (take n (drop (at + 8) bytes), drop n (drop (at + 8) bytes))) None) inside
      ∙ ap (λ (k : ℕ). Some (take k (drop (at + 8) bytes), drop n (drop (at + 8) bytes))) long
      ∙ ap (λ (l : List ℕ). Some (take ((at + 8 + n) - (at + 8)) (drop (at + 8) bytes), l)) (drop-drop n (at + 8) bytes)

head_none : (bytes : List ℕ) → None ≡ head_at bytes → note_at bytes ≡ None
unfolding note_at text_at
head_none [] e = refl
head_none (zero ∷ []) e = refl
head_none (zero ∷ a ∷ []) e = refl
head_none (zero ∷ a ∷ b ∷ []) e = refl
head_none (zero ∷ a ∷ b ∷ c ∷ []) e = refl
head_none (suc zero ∷ []) e = refl
head_none (suc zero ∷ a ∷ []) e = refl
head_none (suc zero ∷ a ∷ b ∷ []) e = refl
head_none (suc zero ∷ a ∷ b ∷ c ∷ []) e = refl
head_none (suc (suc t) ∷ []) e = refl
head_none (suc (suc t) ∷ a ∷ []) e = refl
head_none (suc (suc t) ∷ a ∷ b ∷ []) e = refl
head_none (suc (suc t) ∷ a ∷ b ∷ c ∷ []) e = refl
head_none (t ∷ a ∷ b ∷ c ∷ d ∷ rest) e = absurd (cc)

abbrev of_tag : ℕ → Option (List ℕ × List ℕ) → Option (Note × List ℕ)
of_tag zero o = option_map (λ p. (record { name = p.0; was = None }, p.1)) o
of_tag (suc zero) o = option_and_then (λ p. option_map (λ b. (record { name = p.0; was = Some b.0 }, b.1)) (blob_at p.1)) o
of_tag (suc (suc t)) o = None

abbrev tag_of : Option (ℕ × ℕ) → ℕ
tag_of None = 0
tag_of (Some p) = p.0

abbrev length_of : Option (ℕ × ℕ) → ℕ
length_of None = 0
length_of (Some p) = p.1

-- a note by its tag and its name
note_by : (t len : ℕ) (bytes : List ℕ) → Some (t, len) ≡ head_at bytes → note_at bytes ≡ of_tag t (split_at len (drop 5 bytes))
unfolding note_at text_at
note_by t len [] e = absurd (cc)
note_by t len (x ∷ []) e = absurd (cc)
note_by t len (x ∷ a ∷ []) e = absurd (cc)
note_by t len (x ∷ a ∷ b ∷ []) e = absurd (cc)
note_by t len (x ∷ a ∷ b ∷ c ∷ []) e = absurd (cc)
note_by t len (x ∷ a ∷ b ∷ c ∷ d ∷ rest) e =
    let tag : x ≡ t = sym (ap tag_of e) in
    let length_is : from_be_bytes w32 (a ∷ b ∷ c ∷ d ∷ []) ≡ len = sym (ap length_of e) in
    by_tag x ∙ ap (λ (k : ℕ). of_tag x (split_at k rest)) length_is ∙ ap (λ (k : ℕ). of_tag k (split_at len rest)) tag
  where
    four : split_at 4 (a ∷ b ∷ c ∷ d ∷ rest) ≡ Some (a ∷ b ∷ c ∷ d ∷ [], rest)
    four = split_whole 4 (a ∷ b ∷ c ∷ d ∷ rest) (a ∷ b ∷ c ∷ d ∷ []) refl refl

    by_tag : (x : ℕ) → note_at (x ∷ a ∷ b ∷ c ∷ d ∷ rest) ≡ of_tag x (split_at (from_be_bytes w32 (a ∷ b ∷ c ∷ d ∷ [])) rest)
    by_tag zero = ap (λ (o : Option (List ℕ × List ℕ)). of_tag 0 (option_and_then (λ (p : List ℕ × List ℕ). split_at (from_be_bytes w32 p.0) p.1) o)) four
    by_tag (suc zero) = ap (λ (o : Option (List ℕ × List ℕ)). of_tag 1 (option_and_then (λ (p : List ℕ × List ℕ). split_at (from_be_bytes w32 p.0) p.1) o)) four
    by_tag (suc (suc t)) = refl

good_is : (o : Option (Note × List ℕ)) (bytes : List ℕ) → note_at bytes ≡ o → good_note bytes ≡ if_good o
unfolding good_note
good_is o bytes is = ap if_good is

pub no_head : (bytes : List ℕ) → None ≡ head_at bytes → good_note bytes ≡ None
no_head bytes is = good_is None bytes (head_none bytes is)

abbrev can_be : List ℕ → Bool
can_be name = nat_le 1 (length name) && nat_le (length name) 1024 && is_utf8 name && not (is_inside name)

take_long : (n : ℕ) (rest : List ℕ) → n ≤ length rest → length (take n rest) ≡ n
take_long zero rest le = refl
take_long (suc n) [] le = absurd (omega arith)
take_long (suc n) (b ∷ rest) le = let less : length (take n rest) ≡ n = take_long n rest (omega arith) in omega (arith, less)

no_name_by : (x u v : Bool) (t : List ℕ) → None ≡ cond x (cond (u && v) (Some t) None) None → ((x && u) && v) ≡ false
no_name_by true true true t is = absurd (cc)
no_name_by true true false t is = refl
no_name_by true false v t is = refl
no_name_by false u v t is = refl

name_by : (x u v : Bool) (t name : List ℕ) → Some name ≡ cond x (cond (u && v) (Some t) None) None → (name ≡ t) × (((x && u) && v) ≡ true)
name_by true true true t name is = (cc, refl)
name_by true true false t name is = absurd (cc)
name_by true false v t name is = absurd (cc)
name_by false u v t name is = absurd (cc)

abbrev BadName : Option (List ℕ × List ℕ) → Type 0
BadName None = Unit {0}
BadName (Some p) = can_be p.0 ≡ false

module _ (len : ℕ) (rest : List ℕ) where
  can_be_long : nat_le len (length rest) ≡ true → can_be (take len rest) ≡ (nat_le 1 len && nat_le len 1024 && is_utf8 (take len rest) && not (is_inside (take len rest)))
  can_be_long fits = ap (λ (k : ℕ). nat_le 1 k && nat_le k 1024 && is_utf8 (take len rest) && not (is_inside (take len rest))) (take_long len rest (leb-true len (length rest) fits))

  bad_name : None ≡ good_name len rest → BadName (split_at len rest)
  bad_name is =
      elim (nat_le len (length rest)) as (λ b. nat_le len (length rest) ≡ b → None ≡ cond (nat_le 1 len && nat_le len 1024) (as_name (cond b (Some (take len rest, drop len rest)) None)) None → BadName (cond b (Some (take len rest, drop len rest)) None)) [
        | true ↦ λ e h. can_be_long e ∙ no_name_by (nat_le 1 len && nat_le len 1024) (is_utf8 (take len rest)) (not (is_inside (take len rest))) (take len rest) h
        | false ↦ λ e h. tt
      ] refl is

  none_either : (b : Bool) (name : List ℕ) → ◌≡◌ {A = Option (List ℕ)} (Some name) (cond b None None) → ⊥
  none_either true name h = cc
  none_either false name h = cc

  the_name : (name : List ℕ) → Some name ≡ good_name len rest → (split_at len rest ≡ Some (name, drop len rest)) × (can_be name ≡ true)
  the_name name is =
      elim (nat_le len (length rest)) as (λ b. nat_le len (length rest) ≡ b → Some name ≡ cond (nat_le 1 len && nat_le len 1024) (as_name (cond b (Some (take len rest, drop len rest)) None)) None → (◌≡◌ {A = Option (List ℕ × List ℕ)} (cond b (Some (take len rest, drop len rest)) None) (Some (name, drop len rest))) × (can_be name ≡ true)) [
        | true ↦ λ e h.
            let p = name_by (nat_le 1 len && nat_le len 1024) (is_utf8 (take len rest)) (not (is_inside (take len rest))) (take len rest) name h in
            (ap (λ (l : List ℕ). Some (l, drop len rest)) (sym p.0), ap can_be p.0 ∙ can_be_long e ∙ p.1)
        | false ↦ λ e h. absurd (none_either (nat_le 1 len && nat_le len 1024) name h)
      ] refl is

bad_tag : (t : ℕ) (o : Option (List ℕ × List ℕ)) → BadName o → if_good (of_tag t o) ≡ None
bad_tag zero None bad = refl
bad_tag zero (Some p) bad = ap (λ b. cond b (Some (record { name = p.0; was = None }, p.1)) None) bad
bad_tag (suc zero) None bad = refl
bad_tag (suc zero) (Some p) bad = at (blob_at p.1)
  where
    at : (b : Option (List ℕ × List ℕ)) → if_good (option_map (λ b. (record { name = p.0; was = Some b.0 }, b.1)) b) ≡ None
    at None = refl
    at (Some b) = ap (λ c. cond c (Some (record { name = p.0; was = Some b.0 }, b.1)) None) bad
bad_tag (suc (suc t)) o bad = refl

good_absence : (name rest : List ℕ) → can_be name ≡ true → if_good (of_tag 0 (Some (name, rest))) ≡ Some (record { name = name; was = None }, rest)
good_absence name rest can = ap (λ b. cond b (Some (record { name = name; was = None }, rest)) None) can

good_bytes : (name : List ℕ) (o : Option (List ℕ × List ℕ)) → can_be name ≡ true → if_good (option_map (λ b. (record { name = name; was = Some b.0 }, b.1)) o) ≡ option_map (λ b. (record { name = name; was = Some b.0 }, b.1)) o
good_bytes name None can = refl
good_bytes name (Some b) can = ap (λ c. cond c (Some (record { name = name; was = Some b.0 }, b.1)) None) can

module _ (t len : ℕ) (bytes : List ℕ) (head : Some (t, len) ≡ head_at bytes) where
  -- a name in front of it can't be noted
  pub no_name : None ≡ good_name len (drop 5 bytes) → good_note bytes ≡ None
  no_name bad = good_is (of_tag t (split_at len (drop 5 bytes))) bytes (note_by t len bytes head) ∙ bad_tag t (split_at len (drop 5 bytes)) (bad_name len (drop 5 bytes) bad)

  pub good_absent : (name : List ℕ) → t ≡ 0 → Some name ≡ good_name len (drop 5 bytes) → good_note bytes ≡ Some (record { name = name; was = None }, drop len (drop 5 bytes))
  good_absent name is good =
      let there = the_name len (drop 5 bytes) name good in
      good_is (of_tag t (split_at len (drop 5 bytes))) bytes (note_by t len bytes head)
      ∙ ap (λ (k : ℕ). if_good (of_tag k (split_at len (drop 5 bytes)))) is
      ∙ ap (λ (o : Option (List ℕ × List ℕ)). if_good (of_tag 0 o)) there.0
      ∙ good_absence name (drop len (drop 5 bytes)) there.1

  pub good_held : (name : List ℕ) (o : Option (List ℕ × List ℕ)) → t ≡ 1 → Some name ≡ good_name len (drop 5 bytes) → blob_at (drop len (drop 5 bytes)) ≡ o → good_note bytes ≡ option_map (λ b. (record { name = name; was = Some b.0 }, b.1)) o
  good_held name o is good blob =
      let there = the_name len (drop 5 bytes) name good in
      good_is (of_tag t (split_at len (drop 5 bytes))) bytes (note_by t len bytes head)
      ∙ ap (λ (k : ℕ). if_good (of_tag k (split_at len (drop 5 bytes)))) is
      ∙ ap (λ (p : Option (List ℕ × List ℕ)). if_good (of_tag 1 p)) there.0
      ∙ ap (λ (b : Option (List ℕ × List ℕ)). if_good (option_map (λ b. (record { name = name; was = Some b.0 }, b.1)) b)) blob
      ∙ good_bytes name o there.1

  pub no_tag : t ≢ 0 → t ≢ 1 → good_note bytes ≡ None
  no_tag zero_not one_not =
      good_is (of_tag t (split_at len (drop 5 bytes))) bytes (note_by t len bytes head) ∙ ap if_good (other t zero_not one_not)
    where
      other : (t : ℕ) → t ≢ 0 → t ≢ 1 → of_tag t (split_at len (drop 5 bytes)) ≡ None
      other zero a b = absurd (a refl)
      other (suc zero) a b = absurd (b refl)
      other (suc (suc t)) a b = refl

module _ (at len t : ℕ) (bytes later : List ℕ) (head : Some (t, len) ≡ head_at (drop at bytes)) (same : later ≡ bytes) where
  name_at : (o : Option (List ℕ)) → o ≡ good_name len (drop (at + 5) later) → o ≡ good_name len (drop 5 (drop at bytes))
  name_at o is = is ∙ ap (λ (l : List ℕ). good_name len (drop (at + 5) l)) same ∙ ap (λ (l : List ℕ). good_name len l) (sym (drop-drop 5 at bytes))

  pub unnamed : None ≡ good_name len (drop (at + 5) later) → good_note (drop at bytes) ≡ None
  unnamed bad = no_name t len (drop at bytes) head (name_at None bad)

  pub untagged : t ≢ 0 → t ≢ 1 → good_note (drop at bytes) ≡ None
  untagged a b = no_tag t len (drop at bytes) head a b

  rest_at : (k : ℕ) → k ≡ len → drop len (drop 5 (drop at bytes)) ≡ drop (at + 5 + k) bytes
  rest_at k is = ap (λ (l : List ℕ). drop len l) (drop-drop 5 at bytes) ∙ drop-drop len (at + 5) bytes ∙ ap (λ (j : ℕ). drop (at + 5 + j) bytes) (sym is)

  pub placed_absent : (name : List ℕ) (k : ℕ) → k ≡ len → t ≡ 0 → Some name ≡ good_name len (drop (at + 5) later) → good_note (drop at bytes) ≡ Some (record { name = name; was = None }, drop (at + 5 + k) bytes)
  placed_absent name k is tag good = good_absent t len (drop at bytes) head name tag (name_at (Some name) good) ∙ ap (λ (l : List ℕ). Some (record { name = name; was = None }, l)) (rest_at k is)

  pub placed_held : (name last : List ℕ) (k : ℕ) (o : Option Span) → k ≡ len → t ≡ 1 → Some name ≡ good_name len (drop (at + 5) later) → last ≡ bytes → blob_at (drop (at + 5 + k) last) ≡ span_placed last o
      → good_note (drop at bytes) ≡ option_map (λ b. (record { name = name; was = Some b.0 }, b.1)) (span_placed bytes o)
  placed_held name last k o is tag good same_last blob =
      good_held t len (drop at bytes) head name (span_placed bytes o) tag (name_at (Some name) good)
      (ap blob_at (rest_at k is) ∙ ap (λ (l : List ℕ). blob_at (drop (at + 5 + k) l)) (sym same_last) ∙ blob ∙ ap (λ (l : List ℕ). span_placed l o) same_last)
