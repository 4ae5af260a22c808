-- The head of a file that is read from a front of its record is the one that the whole record has.
use Rattle.std.proofs.Common.{◌≡◌, ℕ, zero, suc, ◌+◌, ◌-◌, ◌<◌, ◌≤◌, Bool, true, false, cond, min, ltb, eqb, List, [], ◌∷◌, ◌++◌, length, take, drop, Option, Some, None, Result, Ok, Err, refl, sym, ap, subst, ◌∙◌, arith, inl, inr, ◌⊎◌}
use Rattle.std.specs.Prelude.{nat_lt}
use Rattle.std.specs.Int.{Width, w16, w32, w64, byte_len, from_be_bytes, to_be_bytes}
use Rattle.std.specs.List.{flat_map}
use Rattle.std.proofs.lemmas.Bool.{cases_Bool, cases_lt, ltb-true, lt-ltb, le-ltb}
use Rattle.std.proofs.lemmas.List.{take-append-le, take-append-drop, length-append, length-take, length-drop}
use Rattle.std.proofs.Math.Seq.{take-length}
use Rattle.std.proofs.lemmas.Slice.Eq.{bytes_eq-Decides}
use Rattle.mi_text.specs.Fold.{folded}
use Rattle.mi_text.specs.Path.{is_file_path}
use Rattle.mi_text.specs.declared.version.Version.{Version}
use Rattle.mi_base.specs.declared.rec_error.RecFault.{RecFault}
use Rattle.mi_base.specs.declared.rec_error.RecFault.TheVariants.{Short, Field}
use Rattle.mi_base.specs.declared.entry.FileHead.{FileHead}
use Rattle.mi_base.specs.Fields.{numbers, version}
use Rattle.mi_base.specs.Limits.{are_bytes, is_above}
use Rattle.mi_base.specs.Reading.{◌>>=◌, Gives, number_at, items_at, rising_numbers_at, four_numbers_at, version_at}
use Rattle.mi_base.specs.declared.rec_error.RecError.{RecError}
use Rattle.mi_base.specs.Records.{drive_shown, names_file, is_shown_file, shown_file_at, head_at, path_in, head_in, head_for, file_head_of}
use Rattle.mi_base.proofs.ByteLemmas.{both}
use Rattle.mi_base.proofs.FieldLemmas.{bind_ok, guard_ok, guard_passed, ok_is, refused, number16, number32, number64, front_bytes, FitsNumbers, numbers_field, version_field}
use Rattle.mi_text.proofs.PathLemmas.{file_is}
use Rattle.mi_base.proofs.FoldLemmas.{length-folded, file_short}

-- ---- what is left is no longer

pub number_shorter : (w : Width) (bytes : List ℕ) (x : ℕ × List ℕ) → number_at w bytes ≡ Ok x → length x.1 ≤ length bytes
number_shorter w bytes x e =
    let g = guard_ok (ltb (length bytes) (byte_len w)) Short (Ok (from_be_bytes w (take (byte_len w) bytes), drop (byte_len w) bytes)) x e in
    subst (λ (p : ℕ × List ℕ). length p.1 ≤ length bytes) (ok_is _ x g.1) (omega (arith, length-drop (byte_len w) bytes))

items_shorter : (last : Option ℕ) (n : ℕ) (bytes : List ℕ) (x : List ℕ × List ℕ) → items_at (number_at w16) (is_above nat_lt) last n bytes ≡ Ok x → length x.1 ≤ length bytes
unfolding items_at
items_shorter last zero bytes x e = subst (λ (p : List ℕ × List ℕ). length p.1 ≤ length bytes) (ok_is _ x e) (omega arith)
items_shorter last (suc n) bytes x e =
    let b = bind_ok (number_at w16 bytes) _ x e in
    let g = guard_passed (is_above nat_lt last (b.0).0) Field _ x b.2 in
    let c = bind_ok (items_at (number_at w16) (is_above nat_lt) (Some (b.0).0) n (b.0).1) (λ others. Ok ((b.0).0 ∷ others.0, others.1)) x g.1 in
    let one = number_shorter w16 bytes b.0 b.1 in
    let two = items_shorter (Some (b.0).0) n (b.0).1 c.0 c.1 in
    subst (λ (p : List ℕ × List ℕ). length p.1 ≤ length bytes) (ok_is _ x c.2) (omega arith)

pub numbers_shorter : (bytes : List ℕ) (x : List ℕ × List ℕ) → rising_numbers_at bytes ≡ Ok x → length x.1 ≤ length bytes
unfolding rising_numbers_at
numbers_shorter bytes x e =
    let b = bind_ok (number_at w16 bytes) _ x e in
    let one = number_shorter w16 bytes b.0 b.1 in
    let two = items_shorter None (b.0).0 (b.0).1 x b.2 in
    omega arith

four_shorter : (bytes : List ℕ) (x : Version × List ℕ) → four_numbers_at bytes ≡ Ok x → length x.1 ≤ length bytes
unfolding four_numbers_at
four_shorter bytes x e =
    let a = bind_ok (number_at w16 bytes) _ x e in
    let b = bind_ok (number_at w16 (a.0).1) _ x a.2 in
    let c = bind_ok (number_at w16 (b.0).1) _ x b.2 in
    let d = bind_ok (number_at w16 (c.0).1) _ x c.2 in
    let sa = number_shorter w16 bytes a.0 a.1 in
    let sb = number_shorter w16 (a.0).1 b.0 b.1 in
    let sc = number_shorter w16 (b.0).1 c.0 c.1 in
    let sd = number_shorter w16 (c.0).1 d.0 d.1 in
    subst (λ (p : Version × List ℕ). length p.1 ≤ length bytes) (ok_is _ x d.2) (omega arith)

pub version_shorter : (bytes : List ℕ) (x : Option Version × List ℕ) → version_at bytes ≡ Ok x → length x.1 ≤ length bytes
unfolding version_at
version_shorter [] x e = absurd (refused Short x e)
version_shorter (zero ∷ bytes) x e = subst (λ (p : Option Version × List ℕ). length p.1 ≤ suc (length bytes)) (ok_is _ x e) (omega arith)
version_shorter (suc zero ∷ bytes) x e =
    let b = bind_ok (four_numbers_at bytes) _ x e in
    let one = four_shorter bytes b.0 b.1 in
    subst (λ (p : Option Version × List ℕ). length p.1 ≤ suc (length bytes)) (ok_is _ x b.2) (omega arith)
version_shorter (suc (suc b) ∷ bytes) x e = absurd (refused Field x e)

pub shown_shorter : (more : ℕ) (path bytes : List ℕ) (x : List ℕ × List ℕ) → shown_file_at more path bytes ≡ Ok x → length x.1 ≤ length bytes
unfolding shown_file_at
shown_shorter more path bytes x e =
    let b = bind_ok (number_at w32 bytes) _ x e in
    let g = guard_ok (ltb (length (b.0).1 + more) (b.0).0) Short _ x b.2 in
    let h = guard_passed (is_shown_file path (take (b.0).0 (b.0).1)) Field _ x g.1 in
    let one = number_shorter w32 bytes b.0 b.1 in
    subst (λ (p : List ℕ × List ℕ). length p.1 ≤ length bytes) (ok_is _ x h.1) (omega (arith, length-drop (b.0).0 (b.0).1))

-- ---- with more bytes behind

abbrev pub widened : {X : Type 0} → List ℕ → Result (X × List ℕ) RecFault → Result (X × List ℕ) RecFault
widened extra r = r >>= λ x. Ok (x.0, x.1 ++ extra)

-- a reader that has so many bytes reads the same with more behind them
abbrev Looks : {X : Type 0} → (List ℕ → Result (X × List ℕ) RecFault) → ℕ → Type 0
Looks read need = (bytes extra : List ℕ) → are_bytes bytes ≡ true → need ≤ length bytes → read (bytes ++ extra) ≡ widened extra (read bytes)

-- one reader behind the other
chain : {X Y : Type 0} (r r2 : Result (X × List ℕ) RecFault) (extra : List ℕ) → r2 ≡ widened extra r → (k k2 : X × List ℕ → Result (Y × List ℕ) RecFault)
    → ((x : X) (rest : List ℕ) → r ≡ Ok (x, rest) → k2 (x, rest ++ extra) ≡ widened extra (k (x, rest))) → (r2 >>= k2) ≡ widened extra (r >>= k)
chain {X = X} r r2 extra same k k2 h = ap (λ t. t >>= k2) same ∙ by r refl
  where
    by : (s : Result (X × List ℕ) RecFault) → r ≡ s → (widened extra s >>= k2) ≡ widened extra (s >>= k)
    by (Ok x) e = h x.0 x.1 e
    by (Err f) e = refl

drop-append-le : (n : ℕ) (xs ys : List ℕ) → n ≤ length xs → drop n (xs ++ ys) ≡ drop n xs ++ ys
drop-append-le zero xs ys le = refl
drop-append-le (suc n) [] ys le = absurd (let z : ⊥ = omega arith in z)
drop-append-le (suc n) (x ∷ xs) ys le = drop-append-le n xs ys (omega arith)

number_looks : (w : Width) → Looks (number_at w) (byte_len w)
number_looks w bytes extra good le =
    let long : ltb (length bytes) (byte_len w) ≡ false = le-ltb _ _ le in
    let wide : ltb (length (bytes ++ extra)) (byte_len w) ≡ false = le-ltb _ _ (omega (arith, length-append bytes extra)) in
    let front : take (byte_len w) (bytes ++ extra) ≡ take (byte_len w) bytes = take-append-le (byte_len w) bytes extra le in
    let back = drop-append-le (byte_len w) bytes extra le in
    rw (long, wide, front, back) refl

four_looks : Looks four_numbers_at 8
unfolding four_numbers_at
four_looks bytes extra good le =
    chain (number_at w16 bytes) (number_at w16 (bytes ++ extra)) extra (number_looks w16 bytes extra good (omega arith)) _ _ (λ a r1 ea.
    let t1 = (number16.takes bytes a r1 good ea).0 in
    let n1 = ap length t1.parts in
    chain (number_at w16 r1) (number_at w16 (r1 ++ extra)) extra (number_looks w16 r1 extra t1.rest_fits (omega (arith, length-append (to_be_bytes w16 a) r1))) _ _ (λ b r2 eb.
    let t2 = (number16.takes r1 b r2 t1.rest_fits eb).0 in
    let n2 = ap length t2.parts in
    chain (number_at w16 r2) (number_at w16 (r2 ++ extra)) extra (number_looks w16 r2 extra t2.rest_fits (omega (arith, length-append (to_be_bytes w16 a) r1, length-append (to_be_bytes w16 b) r2))) _ _ (λ c r3 ec.
    let t3 = (number16.takes r2 c r3 t2.rest_fits ec).0 in
    let n3 = ap length t3.parts in
    chain (number_at w16 r3) (number_at w16 (r3 ++ extra)) extra (number_looks w16 r3 extra t3.rest_fits (omega (arith, length-append (to_be_bytes w16 a) r1, length-append (to_be_bytes w16 b) r2, length-append (to_be_bytes w16 c) r3))) _ _ (λ d r4 ed. refl))))

version_looks : Looks version_at 9
unfolding version_at
version_looks [] extra good le = absurd (let z : ⊥ = omega arith in z)
version_looks (zero ∷ bytes) extra good le = refl
version_looks (suc zero ∷ bytes) extra good le =
    chain (four_numbers_at bytes) (four_numbers_at (bytes ++ extra)) extra (four_looks bytes extra (both (ltb 1 256) (are_bytes bytes) good).1 (omega arith)) (λ v. Ok (Some v.0, v.1)) (λ v. Ok (Some v.0, v.1)) (λ v rest e. refl)
version_looks (suc (suc b) ∷ bytes) extra good le = refl

with_first : (x : ℕ) (extra : List ℕ) (r r2 : Result (List ℕ × List ℕ) RecFault) → r2 ≡ widened extra r → (r2 >>= λ others. Ok (x ∷ others.0, others.1)) ≡ widened extra (r >>= λ others. Ok (x ∷ others.0, others.1))
with_first x extra r r2 same = ap (λ t. t >>= λ others. Ok (x ∷ others.0, others.1)) same ∙ by r
  where
    by : (r : Result (List ℕ × List ℕ) RecFault) → (widened extra r >>= λ others. Ok (x ∷ others.0, others.1)) ≡ widened extra (r >>= λ others. Ok (x ∷ others.0, others.1))
    by (Ok y) = refl
    by (Err f) = refl

when : (b : Bool) (extra : List ℕ) (r r2 : Result (List ℕ × List ℕ) RecFault) → r2 ≡ widened extra r → cond b r2 (Err Field) ≡ widened extra (cond b r (Err Field))
when true extra r r2 e = e
when false extra r r2 e = refl

items_look : (n : ℕ) (last : Option ℕ) (bytes extra : List ℕ) → are_bytes bytes ≡ true → n + n ≤ length bytes → items_at (number_at w16) (is_above nat_lt) last n (bytes ++ extra) ≡ widened extra (items_at (number_at w16) (is_above nat_lt) last n bytes)
unfolding items_at
items_look zero last bytes extra good le = refl
items_look (suc n) last bytes extra good le =
    chain (number_at w16 bytes) (number_at w16 (bytes ++ extra)) extra (number_looks w16 bytes extra good (omega arith)) _ _ (λ a rest ea.
    let t = (number16.takes bytes a rest good ea).0 in
    let k = ap length t.parts in
    let others = items_look n (Some a) rest extra t.rest_fits (omega (arith, length-append (to_be_bytes w16 a) rest)) in
    when (is_above nat_lt last a) extra _ _ (with_first a extra (items_at (number_at w16) (is_above nat_lt) (Some a) n rest) (items_at (number_at w16) (is_above nat_lt) (Some a) n (rest ++ extra)) others))

numbers_looks : Looks rising_numbers_at 131072
unfolding rising_numbers_at
numbers_looks bytes extra good le =
    chain (number_at w16 bytes) (number_at w16 (bytes ++ extra)) extra (number_looks w16 bytes extra good (omega arith)) _ _ (λ n rest e.
    let t = number16.takes bytes n rest good e in
    let k = ap length t.0.parts in
    let small = t.1 in
    items_look n None rest extra t.0.rest_fits (omega (arith, length-append (to_be_bytes w16 n) rest)))

-- ---- how much each field takes

length-two : (ns : List ℕ) → length (flat_map (to_be_bytes w16) ns) ≡ length ns + length ns
length-two [] = refl
length-two (n ∷ ns) = omega (arith, length-two ns)

numbers_long : (ns : List ℕ) → FitsNumbers ns → length (numbers ns) ≤ 131072
numbers_long ns f = let few = ltb-true _ _ f.0 in omega (arith, length-append (to_be_bytes w16 (length ns)) (flat_map (to_be_bytes w16) ns), length-two ns)

version_long : (v : Option Version) → length (version v) ≤ 9
version_long None = omega arith
version_long (Some v) = omega arith

no_file : is_file_path [] ≡ true → ⊥
no_file e = let f = file_is [] e in let n = ap length f.text in let k = ap length f.in_folder.text in absurd (let z : ⊥ = omega (arith, length-append f.folder f.name) in z)

path_short : (path : List ℕ) → names_file path ≡ true → length path ≤ 259
unfolding names_file
path_short path e = by path (both _ _ e).1
  where
    with_drive : (b : ℕ) (bs : List ℕ) (t : Bool) → is_file_path (cond t (67 ∷ bs) []) ≡ true → length (b ∷ bs) ≤ 259
    with_drive b bs true h = file_short (67 ∷ bs) h
    with_drive b bs false h = absurd (no_file h)

    by : (p : List ℕ) → is_file_path (drive_shown p) ≡ true → length p ≤ 259
    by [] h = omega arith
    by (b ∷ bs) h = with_drive b bs (eqb b 99) h

-- a shown path is as long as the path
shown_long : (path t : List ℕ) → is_shown_file path t ≡ true → length t ≡ length path
shown_long path t e = let same = (bytes_eq-Decides (folded t) path).0 (both _ _ (both _ _ e).0).1 in sym (length-folded t) ∙ ap length same

not_shown : (path t : List ℕ) → length path < length t → is_shown_file path t ≡ false
not_shown path t lt = elim (cases_Bool (is_shown_file path t)) [ inl is ↦ let n = shown_long path t is in absurd (let z : ⊥ = omega arith in z) | inr is_not ↦ is_not ]

-- ---- the shown path

abbrev shown_of : List ℕ → ℕ → ℕ × List ℕ → Result (List ℕ × List ℕ) RecFault
shown_of path more n = cond (ltb (length n.1 + more) n.0) (Err Short) (cond (is_shown_file path (take n.0 n.1)) (Ok (take n.0 n.1, drop n.0 n.1)) (Err Field))

shown_of_same : (path rest extra : List ℕ) (n more : ℕ) → length path ≤ 259 → 131360 ≤ length rest → length extra ≡ more → shown_of path 0 (n, rest ++ extra) ≡ widened extra (shown_of path more (n, rest))
shown_of_same path rest extra n more short long is = by (cases_lt (length rest + more) n) (cases_lt (length rest) n)
  where
    same : (t : Bool) → cond t (Ok (take n rest, drop n rest ++ extra)) (Err Field) ≡ widened extra (cond t (Ok (take n rest, drop n rest)) (Err Field))
    same true = refl
    same false = refl

    whole : length (rest ++ extra) ≡ length rest + more
    whole = omega (arith, length-append rest extra)

    by : (length rest + more < n) ⊎ (n ≤ length rest + more) → (length rest < n) ⊎ (n ≤ length rest) → shown_of path 0 (n, rest ++ extra) ≡ widened extra (shown_of path more (n, rest))
    by (inl past) _ =
        let a : ltb (length (rest ++ extra) + 0) n ≡ true = lt-ltb _ _ (let w = whole in omega arith) in
        let b : ltb (length rest + more) n ≡ true = lt-ltb _ _ past in
        rw (a, b) refl
    by (inr within) (inl past) =
        let a : ltb (length (rest ++ extra) + 0) n ≡ false = le-ltb _ _ (let w = whole in omega arith) in
        let b : ltb (length rest + more) n ≡ false = le-ltb _ _ within in
        let c : is_shown_file path (take n (rest ++ extra)) ≡ false = not_shown path (take n (rest ++ extra)) (let w = whole in omega (arith, length-take n (rest ++ extra))) in
        let d : is_shown_file path (take n rest) ≡ false = not_shown path (take n rest) (omega (arith, length-take n rest)) in
        rw (a, b, c, d) refl
    by (inr within) (inr inside) =
        let a : ltb (length (rest ++ extra) + 0) n ≡ false = le-ltb _ _ (let w = whole in omega arith) in
        let b : ltb (length rest + more) n ≡ false = le-ltb _ _ within in
        let c : take n (rest ++ extra) ≡ take n rest = take-append-le n rest extra inside in
        let d = drop-append-le n rest extra inside in
        rw (a, b, c, d) (same (is_shown_file path (take n rest)))

shown_same : (path bytes extra : List ℕ) (more : ℕ) → are_bytes bytes ≡ true → length path ≤ 259 → 131364 ≤ length bytes → length extra ≡ more → shown_file_at 0 path (bytes ++ extra) ≡ widened extra (shown_file_at more path bytes)
unfolding shown_file_at
shown_same path bytes extra more good short long is =
    chain (number_at w32 bytes) (number_at w32 (bytes ++ extra)) extra (number_looks w32 bytes extra good (omega arith)) _ _ (λ n rest e.
    let t = (number32.takes bytes n rest good e).0 in
    let k = ap length t.parts in
    shown_of_same path rest extra n more short (omega (arith, length-append (to_be_bytes w32 n) rest)) is)

-- what is left behind a shown path
shown_left : (path bytes : List ℕ) (more : ℕ) (t rest : List ℕ) → are_bytes bytes ≡ true → length path ≤ 259 → 131364 ≤ length bytes → shown_file_at more path bytes ≡ Ok (t, rest) → (are_bytes rest ≡ true) × (131101 ≤ length rest)
unfolding shown_file_at
shown_left path bytes more t rest good short long e =
    let b = bind_ok (number_at w32 bytes) (shown_of path more) (t, rest) e in
    let n = (b.0).0 in
    let after = (b.0).1 in
    let k = (number32.takes bytes n after good b.1).0 in
    let len = ap length k.parts in
    let all : 131360 ≤ length after = omega (arith, length-append (to_be_bytes w32 n) after) in
    let g = guard_ok (ltb (length after + more) n) Short (cond (is_shown_file path (take n after)) (Ok (take n after, drop n after)) (Err Field)) (t, rest) b.2 in
    let h = guard_passed (is_shown_file path (take n after)) Field (Ok (take n after, drop n after)) (t, rest) g.1 in
    let same : length (take n after) ≡ length path = shown_long path (take n after) h.0 in
    let few : n ≤ 259 = omega (arith, length-take n after) in
    subst (λ (p : List ℕ × List ℕ). (are_bytes p.1 ≡ true) × (131101 ≤ length p.1)) (ok_is (take n after, drop n after) (t, rest) h.1) ((front_bytes n after k.rest_fits).1, omega (arith, length-drop n after))

-- ---- the head

long_head : (path bytes extra : List ℕ) (more : ℕ) → are_bytes bytes ≡ true → length path ≤ 259 → 131364 ≤ length bytes → length extra ≡ more → head_at 0 path (bytes ++ extra) ≡ widened extra (head_at more path bytes)
unfolding head_at
long_head path bytes extra more good short long is =
    chain (shown_file_at more path bytes) (shown_file_at 0 path (bytes ++ extra)) extra (shown_same path bytes extra more good short long is) _ _ (λ s r0 e0.
    let t0 = shown_left path bytes more s r0 good short long e0 in
    chain (version_at r0) (version_at (r0 ++ extra)) extra (version_looks r0 extra t0.0 (let m = t0.1 in omega arith)) _ _ (λ v r1 e1.
    let t1 = version_field.takes r0 v r1 t0.0 e1 in
    let n1 : 131092 ≤ length r1 = let m = t0.1 in let k = ap length t1.0.parts in omega (arith, length-append (version v) r1, version_long v) in
    chain (rising_numbers_at r1) (rising_numbers_at (r1 ++ extra)) extra (numbers_looks r1 extra t1.0.rest_fits (omega arith)) _ _ (λ l r2 e2.
    let t2 = numbers_field.takes r1 l r2 t1.0.rest_fits e2 in
    let n2 : 20 ≤ length r2 = let k = ap length t2.0.parts in omega (arith, length-append (numbers l) r2, numbers_long l t2.1) in
    chain (number_at w64 r2) (number_at w64 (r2 ++ extra)) extra (number_looks w64 r2 extra t2.0.rest_fits (omega arith)) _ _ (λ c r3 e3.
    let t3 = (number64.takes r2 c r3 t2.0.rest_fits e3).0 in
    let n3 : 12 ≤ length r3 = let k = ap length t3.parts in omega (arith, length-append (to_be_bytes w64 c) r3) in
    chain (number_at w64 r3) (number_at w64 (r3 ++ extra)) extra (number_looks w64 r3 extra t3.rest_fits (omega arith)) _ _ (λ m r4 e4.
    let t4 = (number64.takes r3 m r4 t3.rest_fits e4).0 in
    let n4 : 4 ≤ length r4 = let k = ap length t4.parts in omega (arith, length-append (to_be_bytes w64 m) r4) in
    chain (number_at w32 r4) (number_at w32 (r4 ++ extra)) extra (number_looks w32 r4 extra t4.rest_fits (omega arith)) _ _ (λ a r5 e5.
    made (ltb a 8) (λ n. record { shown = s; version = v; languages = l; created = c; modified = m; attributes = a; length = n }) r5))))))
  where
    made : (b : Bool) (head : ℕ → FileHead) (rest : List ℕ) → cond b (Ok (head (length (rest ++ extra) + 0), rest ++ extra)) (Err Field) ≡ widened extra (cond b (Ok (head (length rest + more), rest)) (Err Field))
    made true head rest = let n : length (rest ++ extra) + 0 ≡ length rest + more = omega (arith, length-append rest extra) in ap (λ k. Ok (head k, rest ++ extra)) n
    made false head rest = refl

abbrev pub head_alone : Result (FileHead × List ℕ) RecFault → Result FileHead RecFault
head_alone r = r >>= λ h. Ok h.0

alone_widened : (extra : List ℕ) (r : Result (FileHead × List ℕ) RecFault) → head_alone (widened extra r) ≡ head_alone r
alone_widened extra (Ok x) = refl
alone_widened extra (Err f) = refl

pub front_head : (path front whole : List ℕ) (record_len : ℕ) → names_file path ≡ true → are_bytes front ≡ true → length front ≤ record_len → min record_len 131364 ≤ length front
    → length whole ≡ record_len → take (length front) whole ≡ front → head_alone (head_at 0 path whole) ≡ head_alone (head_at (record_len - length front) path front)
front_head path front whole record_len named good within enough len start = by (cases_lt (length front) 131364)
  where
    by : (length front < 131364) ⊎ (131364 ≤ length front) → head_alone (head_at 0 path whole) ≡ head_alone (head_at (record_len - length front) path front)
    by (inl all) =
        let full : record_len ≡ length front = omega arith in
        let as_long : length whole ≡ length front = omega arith in let same : whole ≡ front = sym (ap (λ n. take n whole) (sym as_long) ∙ take-length whole) ∙ start in
        let none : record_len - length front ≡ 0 = omega arith in
        ap (λ (t : List ℕ). head_alone (head_at 0 path t)) same ∙ ap (λ k. head_alone (head_at k path front)) (sym none)
    by (inr long) =
        let extra : List ℕ = drop (length front) whole in
        let parts : whole ≡ front ++ extra = sym (take-append-drop (length front) whole) ∙ ap (λ (t : List ℕ). t ++ extra) start in
        let more : length extra ≡ record_len - length front = omega (arith, length-drop (length front) whole) in
        ap (λ (t : List ℕ). head_alone (head_at 0 path t)) parts
        ∙ ap head_alone (long_head path front extra (record_len - length front) good (path_short path named) long more)
        ∙ alone_widened extra (head_at (record_len - length front) path front)

-- what is read from the front is what the whole record has
pub front_gives : (r : Result FileHead RecError) (name path front whole : List ℕ) (record_len : ℕ) → path_in name ≡ Some path → are_bytes front ≡ true → length front ≤ record_len → min record_len 131364 ≤ length front
    → length whole ≡ record_len → take (length front) whole ≡ front → Gives (λ h. h) r (head_in (record_len - length front) path front) → Gives (λ h. h) r (file_head_of name whole)
unfolding file_head_of
front_gives r name path front whole record_len at good within enough len start given =
    subst (Gives (λ h. h) r) (sym (ap (λ o. head_for o whole) at ∙ same)) given
  where
    same : head_in 0 path whole ≡ head_in (record_len - length front) path front
    same = elim (cases_Bool (names_file path)) [
      | inl named ↦ rw named (front_head path front whole record_len named good within enough len start)
      | inr other ↦ rw other refl
    ]

pub no_head : (name whole : List ℕ) → path_in name ≡ None → file_head_of name whole ≡ Err Field
unfolding file_head_of
no_head name whole at = ap (λ o. head_for o whole) at
