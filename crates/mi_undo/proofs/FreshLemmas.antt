-- Names that aren't noted yet.
use Rattle.std.proofs.Common.{◌≡◌, ⊎_elim, ℕ, zero, suc, ◌+◌, ◌≤◌, ◌<◌, Bool, true, false, not, ◌&&◌, ◌||◌, nat_le, ◌==◌, cond, List, [], ◌∷◌, ◌++◌, length, take, get_or, map, Contains, Some, None, is_none, refl, sym, ap, subst, ◌∙◌, arith, append_assoc}
use Rattle.std.proofs.lemmas.List.{append-nil, take_more}
use Rattle.std.proofs.lemmas.Bool.{le-leb, eqb-true}
use Rattle.std.proofs.lemmas.Str.{is_utf8-from_IsUtf8}
use Rattle.std.specs.Str.{is_utf8, IsUtf8}
use Rattle.std.specs.BTreeSet.{BTreeSet, contains, Updates}
use Rattle.mi_text.specs.Maps.{name_cmp, same_name, is_among}
use Rattle.mi_text.proofs.MapLemmas.{from_same, same_itself, is_among-append}
use Rattle.mi_volume.specs.Maps.{Map}
use Rattle.mi_volume.proofs.MapLemmas.{name_cases, same_name-other}
use Rattle.mi_undo.specs.Area.{Knows, AreOutside, notes_in, place_names, entries_for}
use Rattle.mi_undo.specs.declared.kept.Place.{Place}
use Rattle.mi_undo.proofs.NotesOf.{is_note-outside}
use Rattle.mi_undo.specs.Names.{is_inside}
use Rattle.mi_undo.specs.Notes.{Note, note_of, notes_for, new_names, is_note, are_new}
use Rattle.mi_undo.specs.Entry.{AreGood, note_for}

-- one name more
pub new_names-push : (seen xs : List (List ℕ)) (n : List ℕ) → new_names seen (xs ++ n ∷ []) ≡ new_names seen xs ++ new_names (seen ++ new_names seen xs) (n ∷ [])
new_names-push seen [] n = ap (λ (l : List (List ℕ)). new_names l (n ∷ [])) (sym (append-nil seen))
new_names-push seen (x ∷ xs) n =
    elim (is_among x seen) as (λ b. cond b (new_names seen (xs ++ n ∷ [])) (x ∷ new_names (seen ++ x ∷ []) (xs ++ n ∷ []))
    ≡ cond b (new_names seen xs) (x ∷ new_names (seen ++ x ∷ []) xs) ++ new_names (seen ++ cond b (new_names seen xs) (x ∷ new_names (seen ++ x ∷ []) xs)) (n ∷ [])) [
      | true ↦ new_names-push seen xs n
      | false ↦ ap (λ (l : List (List ℕ)). x ∷ l) (new_names-push (seen ++ x ∷ []) xs n ∙ ap (λ (l : List (List ℕ)). new_names (seen ++ x ∷ []) xs ++ new_names l (n ∷ [])) (append_assoc seen (x ∷ []) (new_names (seen ++ x ∷ []) xs)))
    ]

pub new_names-old : (seen : List (List ℕ)) (n : List ℕ) → is_among n seen ≡ true → new_names seen (n ∷ []) ≡ []
new_names-old seen n is = ap (λ b. cond b [] (n ∷ [])) is

pub new_names-new : (seen : List (List ℕ)) (n : List ℕ) → is_among n seen ≡ false → new_names seen (n ∷ []) ≡ n ∷ []
new_names-new seen n is = ap (λ b. cond b [] (n ∷ [])) is

-- whether a name is noted, by its notes and by their names
pub unnoted-among : (ns : List Note) (q : List ℕ) → is_none (note_of ns q) ≡ not (is_among q (map (λ n. n.name) ns))
unnoted-among [] q = refl
unnoted-among (n ∷ ns) q =
    elim (same_name q n.name) as (λ b. is_none (cond b (Some n.was) (note_of ns q)) ≡ not (b || is_among q (map (λ m. m.name) ns))) [ true ↦ refl | false ↦ unnoted-among ns q ]

both : (a b : Bool) → a ≡ true → b ≡ true → (a && b) ≡ true
both true b p q = q
both false b p q = absurd (cc)

-- the notes of new names are new
pub notes_are_new : (m : Map) (before : List Note) (seen names : List (List ℕ)) → map (λ n. n.name) before ≡ seen → AreGood (new_names seen names) → are_new before (notes_for m (new_names seen names)) ≡ true
notes_are_new m before seen [] is good = refl
notes_are_new m before seen (n ∷ names) is good =
    elim (is_among n seen) as (λ b. is_among n seen ≡ b → AreGood (cond b (new_names seen names) (n ∷ new_names (seen ++ n ∷ []) names)) → are_new before (notes_for m (cond b (new_names seen names) (n ∷ new_names (seen ++ n ∷ []) names))) ≡ true) [
      | true ↦ λ at g. notes_are_new m before seen names is g
      | false ↦ λ at g.
          both (is_note (note_for m n) && is_none (note_of before n)) (are_new (before ++ note_for m n ∷ []) (notes_for m (new_names (seen ++ n ∷ []) names)))
          (both (is_note (note_for m n)) (is_none (note_of before n)) g.0 (unnoted-among before n ∙ ap (λ (l : List (List ℕ)). not (is_among n l)) is ∙ ap not at))
          (notes_are_new m (before ++ note_for m n ∷ []) (seen ++ n ∷ []) names (names-push before n ∙ ap (λ (l : List (List ℕ)). l ++ n ∷ []) is) g.1)
    ] refl good
  where
    names-push : (ns : List Note) (x : List ℕ) → map (λ y. y.name) (ns ++ note_for m x ∷ []) ≡ map (λ y. y.name) ns ++ x ∷ []
    names-push [] x = refl
    names-push (y ∷ ns) x = ap (λ (l : List (List ℕ)). y.name ∷ l) (names-push ns x)

pub good-push : (xs : List (List ℕ)) (n : List ℕ) → AreGood xs → AreGood (n ∷ []) → AreGood (xs ++ n ∷ [])
good-push [] n good one = one
good-push (x ∷ xs) n good one = (good.0, good-push xs n good.1 one)

same_name-flip : (x q : List ℕ) → same_name x q ≡ same_name q x
same_name-flip x q = ⊎_elim
    (λ (is : q ≡ x). ap (λ (y : List ℕ). same_name x y) is ∙ same_itself x ∙ sym (ap (λ (y : List ℕ). same_name y x) is ∙ same_itself x))
    (λ ne. same_name-other x q (λ e. ne (sym e)) ∙ sym (same_name-other q x ne))
    (name_cases q x)

-- the set with one name more
pub knows_more : (old new : BTreeSet (List ℕ)) (names xs : List (List ℕ)) (x : List ℕ) → Knows old (names ++ new_names names xs) → Updates name_cmp old new x true → Knows new (names ++ new_names names (xs ++ x ∷ []))
knows_more old new names xs x knows updates q =
    updates.0 q ∙ ap (λ b. cond b true (contains name_cmp old q)) (same_name-flip x q) ∙ ap (λ b. cond (same_name q x) true b) (knows q)
    ∙ at (is_among x (names ++ new_names names xs)) refl
    ∙ ap (λ (l : List (List ℕ)). is_among q l) (append_assoc names (new_names names xs) (new_names (names ++ new_names names xs) (x ∷ [])))
    ∙ ap (λ (l : List (List ℕ)). is_among q (names ++ l)) (sym (new_names-push names xs x))
  where
    or_true : (a b : Bool) → cond a true b ≡ (b || (a || false))
    or_true true true = refl
    or_true true false = refl
    or_true false true = refl
    or_true false false = refl

    already : (b : Bool) → same_name q x ≡ b → is_among x (names ++ new_names names xs) ≡ true → cond b true (is_among q (names ++ new_names names xs)) ≡ is_among q (names ++ new_names names xs)
    already true is there = sym (ap (λ (y : List ℕ). is_among y (names ++ new_names names xs)) (from_same q x is) ∙ there)
    already false is there = refl

    at : (b : Bool) → is_among x (names ++ new_names names xs) ≡ b → cond (same_name q x) true (is_among q (names ++ new_names names xs)) ≡ is_among q ((names ++ new_names names xs) ++ new_names (names ++ new_names names xs) (x ∷ []))
    at true there = already (same_name q x) refl there
        ∙ sym (ap (λ (l : List (List ℕ)). is_among q ((names ++ new_names names xs) ++ l)) (new_names-old (names ++ new_names names xs) x there) ∙ ap (λ (l : List (List ℕ)). is_among q l) (append-nil (names ++ new_names names xs)))
    at false there = or_true (same_name q x) (is_among q (names ++ new_names names xs))
        ∙ sym (ap (λ (l : List (List ℕ)). is_among q ((names ++ new_names names xs) ++ l)) (new_names-new (names ++ new_names names xs) x there) ∙ is_among-append q (names ++ new_names names xs) (x ∷ []))

pub knows_nothing : (seen : BTreeSet (List ℕ)) (names : List (List ℕ)) → Knows seen names → Knows seen (names ++ [])
knows_nothing seen names knows = subst (λ (l : List (List ℕ)). Knows seen l) (sym (append-nil names)) knows

pub fresh_more : (seen : BTreeSet (List ℕ)) (names xs fresh : List (List ℕ)) (x : List ℕ) (added : Bool) → Knows seen (names ++ new_names names xs) → added ≡ not (contains name_cmp seen x) → added ≡ true → fresh ≡ new_names names xs → fresh ++ x ∷ [] ≡ new_names names (xs ++ x ∷ [])
fresh_more seen names xs fresh x added knows is new so_far =
    let unknown : is_among x (names ++ new_names names xs) ≡ false = not_true (is_among x (names ++ new_names names xs)) (sym (ap not (knows x)) ∙ sym is ∙ new) in
    ap (λ (l : List (List ℕ)). l ++ x ∷ []) so_far ∙ ap (λ (l : List (List ℕ)). new_names names xs ++ l) (sym (new_names-new (names ++ new_names names xs) x unknown)) ∙ sym (new_names-push names xs x)
  where
    not_true : (a : Bool) → not a ≡ true → a ≡ false
    not_true true e = absurd (cc)
    not_true false e = refl

pub fresh_same : (seen : BTreeSet (List ℕ)) (names xs fresh : List (List ℕ)) (x : List ℕ) (added : Bool) → Knows seen (names ++ new_names names xs) → added ≡ not (contains name_cmp seen x) → added ≡ false → fresh ≡ new_names names xs → fresh ≡ new_names names (xs ++ x ∷ [])
fresh_same seen names xs fresh x added knows is old so_far =
    let known : is_among x (names ++ new_names names xs) ≡ true = not_false (is_among x (names ++ new_names names xs)) (sym (ap not (knows x)) ∙ sym is ∙ old) in
    so_far ∙ sym (append-nil (new_names names xs)) ∙ ap (λ (l : List (List ℕ)). new_names names xs ++ l) (sym (new_names-old (names ++ new_names names xs) x known)) ∙ sym (new_names-push names xs x)
  where
    not_false : (a : Bool) → not a ≡ false → a ≡ true
    not_false true e = refl
    not_false false e = absurd (cc)

pub is_good : (n : List ℕ) → 1 ≤ length n → length n ≤ 1024 → IsUtf8 n → is_inside n ≡ false → AreGood (n ∷ [])
is_good n some few text out = (both (nat_le 1 (length n) && nat_le (length n) 1024 && is_utf8 n) (not (is_inside n)) (both (nat_le 1 (length n) && nat_le (length n) 1024) (is_utf8 n) (both (nat_le 1 (length n)) (nat_le (length n) 1024) (le-leb 1 (length n) some) (le-leb (length n) 1024 few)) (is_utf8-from_IsUtf8 n text)) (ap not out), tt)

pub take_next : (names : List (List ℕ)) (i : ℕ) (n : List ℕ) → i < length names → n ≡ get_or names i n → take (i + 1) names ≡ take i names ++ n ∷ []
take_next names i n below is = take_more names i n below ∙ ap (λ (x : List ℕ). take i names ++ x ∷ []) (sym is)

pub good_outside : (names : List (List ℕ)) → AreGood names → AreOutside names
good_outside [] good = tt
good_outside (n ∷ names) good = (is_note-outside (record { name = n; was = None }) good.0, good_outside names good.1)

pub names_in : (d : Map) (places : List Place) → map (λ n. n.name) (notes_in d places) ≡ place_names places
names_in d [] = refl
names_in d (p ∷ places) = ap (λ (l : List (List ℕ)). p.name ∷ l) (names_in d places)

pub nothing_new : (fresh : List (List ℕ)) → true ≡ (length fresh == 0) → fresh ≡ []
nothing_new [] is = refl
nothing_new (n ∷ fresh) is = absurd (omega (arith, eqb-true (length (n ∷ fresh)) 0 (sym is)))

pub some_new : (fresh : List (List ℕ)) → false ≡ (length fresh == 0) → fresh ≡ [] → ⊥
some_new [] is none = absurd (cc)
some_new (n ∷ fresh) is none = cc

pub one_entry : (fresh : List (List ℕ)) → false ≡ (length fresh == 0) → entries_for fresh ≡ 1
one_entry [] is = absurd (cc)
one_entry (n ∷ fresh) is = refl

module _ (m : Map) (places : List Place) (names fresh : List (List ℕ)) (are : fresh ≡ new_names (place_names places) names) (good : AreGood fresh) where
  pub fresh_are_new : are_new (notes_in m places) (notes_for m fresh) ≡ true
  fresh_are_new =
      subst (λ (l : List (List ℕ)). are_new (notes_in m places) (notes_for m l) ≡ true) (sym are)
      (notes_are_new m (notes_in m places) (place_names places) names (names_in m places) (subst AreGood are good))

pub knows_same : (old new : BTreeSet (List ℕ)) (names : List (List ℕ)) → new ≡ old → Knows old names → Knows new names
knows_same old new names is knows = subst (λ (s : BTreeSet (List ℕ)). Knows s names) (sym is) knows

pub outside-append : (xs ys : List (List ℕ)) → AreOutside xs → AreOutside ys → AreOutside (xs ++ ys)
outside-append [] ys a b = b
outside-append (x ∷ xs) ys a b = (a.0, outside-append xs ys a.1 b)

pub new_outside_names : (seen names : List (List ℕ)) → AreOutside names → AreOutside (new_names seen names)
new_outside_names seen [] out = tt
new_outside_names seen (n ∷ names) out =
    elim (is_among n seen) as (λ b. AreOutside (cond b (new_names seen names) (n ∷ new_names (seen ++ n ∷ []) names))) [ true ↦ new_outside_names seen names out.1 | false ↦ (out.0, new_outside_names (seen ++ n ∷ []) names out.1) ]

pub contains_outside : (names : List (List ℕ)) (x : List ℕ) → AreOutside names → Contains names x → is_inside x ≡ false
contains_outside names x out among = at names among.0 out among.1 among.2
  where
    at : (names : List (List ℕ)) (k : ℕ) → AreOutside names → k < length names → get_or names k x ≡ x → is_inside x ≡ false
    at [] k out below is = absurd (omega arith)
    at (n ∷ names) zero out below is = ap is_inside (sym is) ∙ out.0
    at (n ∷ names) (suc k) out below is = at names k out.1 (omega arith) is

-- the set with one name that is new
pub knows_new : (old new : BTreeSet (List ℕ)) (names : List (List ℕ)) (x : List ℕ) (added : Bool) → Knows old names → added ≡ not (contains name_cmp old x) → added ≡ true → Updates name_cmp old new x true → Knows new (names ++ x ∷ [])
knows_new old new names x added knows is is_new updates =
    let unknown : is_among x names ≡ false = not_true (is_among x names) (sym (ap not (knows x)) ∙ sym is ∙ is_new) in
    subst (λ (l : List (List ℕ)). Knows new (names ++ l)) (new_names-new names x unknown)
    (knows_more old new names [] x (subst (λ (l : List (List ℕ)). Knows old l) (sym (append-nil names)) knows) updates)
  where
    not_true : (a : Bool) → not a ≡ true → a ≡ false
    not_true true e = absurd (cc)
    not_true false e = refl

pub knows_placed : (s : BTreeSet (List ℕ)) (places later : List Place) (p : Place) → later ≡ places ++ p ∷ [] → Knows s (place_names places ++ p.name ∷ []) → Knows s (place_names later)
knows_placed s places later p is knows = subst (λ (l : List (List ℕ)). Knows s l) (sym (ap place_names is ∙ names-push places)) knows
  where
    names-push : (ps : List Place) → place_names (ps ++ p ∷ []) ≡ place_names ps ++ p.name ∷ []
    names-push [] = refl
    names-push (q ∷ ps) = ap (λ (l : List (List ℕ)). q.name ∷ l) (names-push ps)
