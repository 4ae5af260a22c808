-- Records, one after the other.
use Rattle.std.proofs.Common.{◌≡◌, ℕ, zero, suc, ◌+◌, ◌<◌, Bool, true, false, cond, ◌||◌, List, [], ◌∷◌, ◌++◌, length, map, take, get_or, Contains, Option, Some, None, refl, sym, ap, subst, ◌∙◌, arith}
use Rattle.std.specs.Prelude.{is_some}
use Rattle.std.specs.List.{All}
use Rattle.mi_text.specs.Maps.{Name, same_name, is_among, tabulated, set_to}
use Rattle.mi_text.proofs.MapLemmas.{same_itself, from_same, is_among-append, among-keys, get-tabulated}
use Rattle.mi_volume.specs.Maps.{Map}
use Rattle.mi_changes.specs.Changes.{Change, written}
use Rattle.mi_source.specs.Paths.{Files}
use Rattle.mi_source.specs.Paths as paths
use Rattle.mi_base.specs.Spelling.{head_bytes}
use Rattle.mi_script.specs.declared.rec.Rec.{Rec}
use Rattle.mi_script.specs.declared.rec.Rec.TheVariants.{Put, Drop, Copy, Dup}
use Rattle.mi_script.specs.Scripts.{name_at, last_bytes, change_of, after_script, touched_names}
use Rattle.mi_undo.specs.Names.{is_inside}
use Rattle.mi_undo.specs.Notes.{new_names}
use Rattle.mi_undo.specs.Stands.{outside}
use Rattle.mi_undo.specs.Area.{AreOutside}
use Rattle.mi_undo.proofs.OutsideLemmas.{outside_set_to}
use Rattle.mi_runner.specs.Records.{MayCarry}
use Rattle.mi_runner.proofs.StepLemmas.{held_outside}
use Rattle.mi_runner.proofs.SizeLemmas.{next_is}

-- ---- the map after records

-- the map after one record
abbrev pub after_one : Files → Map → Rec → Map
after_one files d r = written d (change_of files d r ∷ [])

pub after-push : (files : Files) (d : Map) (rs : List Rec) (r : Rec) → after_script files d (rs ++ r ∷ []) ≡ after_one files (after_script files d rs) r
after-push files d [] r = refl
after-push files d (x ∷ rs) r = after-push files (after_one files d x) rs r

change_outside : (files : Files) (h : Map) (r : Rec) → MayCarry r → change_of files h r ≡ change_of files (outside h) r
change_outside files h (Put name bytes) may = refl
change_outside files h (Drop name) may = refl
change_outside files h (Copy name head file path n) may = refl
change_outside files h (Dup name head from) may = ap (λ (o : Option (List ℕ)). record { at = name; after = Some (head_bytes head ++ last_bytes head.length (paths.bytes_or_none o)) }) (held_outside h from may.2)

at_name : (files : Files) (h : Map) (r : Rec) → (change_of files h r).at ≡ name_at r
at_name files h (Put name bytes) = refl
at_name files h (Drop name) = refl
at_name files h (Copy name head file path n) = refl
at_name files h (Dup name head from) = refl

-- a record of names outside the area changes what is outside
pub one_outside : (files : Files) (h : Map) (r : Rec) → MayCarry r → is_inside (name_at r) ≡ false → outside (after_one files h r) ≡ after_one files (outside h) r
one_outside files h r may out =
    outside_set_to h (change_of files h r).at (change_of files h r).after (ap is_inside (at_name files h r) ∙ out)
    ∙ ap (λ (c : Change (List ℕ)). set_to (outside h) c.at c.after) (change_outside files h r may)

-- one record more
pub next_map : (files : Files) (h m k : Map) (rs : List Rec) (i : ℕ) (r : Rec) → i < length rs → r ≡ get_or rs i r → MayCarry r → is_inside (name_at r) ≡ false → outside m ≡ after_script files (outside h) (take i rs) → k ≡ after_one files m r → outside k ≡ after_script files (outside h) (take (i + 1) rs)
next_map files h m k rs i r below is may out so_far put =
    ap outside put ∙ one_outside files m r may out ∙ ap (λ (x : Map). after_one files x r) so_far
    ∙ sym (after-push files (outside h) (take i rs) r) ∙ ap (after_script files (outside h)) (sym (next_is rs i r below is))

-- ---- names

-- a name that a record changes is among those that the records change
pub is_among-touched : (rs : List Rec) (q : Name) → is_among q (touched_names rs) ≡ is_among q (map name_at rs)
unfolding touched_names
is_among-touched rs q = sym (among-keys (tabulated (λ n. Some n) (map name_at rs)) q) ∙ ap is_some (get-tabulated (λ n. Some n) (map name_at rs) q) ∙ step (is_among q (map name_at rs))
  where
    step : (b : Bool) → is_some (cond b (Some q) None) ≡ b
    step true = refl
    step false = refl

pub among_at : (rs : List Rec) (k : ℕ) (r : Rec) → k < length rs → r ≡ get_or rs k r → is_among (name_at r) (map name_at rs) ≡ true
among_at [] k r below is = absurd (omega arith)
among_at (x ∷ rs) zero r below is = ap (λ (y : Rec). same_name (name_at r) (name_at y) || is_among (name_at r) (map name_at rs)) (sym is) ∙ ap (λ b. b || is_among (name_at r) (map name_at rs)) (same_itself (name_at r))
among_at (x ∷ rs) (suc k) r below is = let rest = among_at rs k r (omega arith) is in ap (λ b. same_name (name_at r) (name_at x) || b) rest ∙ or_true (same_name (name_at r) (name_at x))
  where
    or_true : (b : Bool) → (b || true) ≡ true
    or_true true = refl
    or_true false = refl

pub contains : (names : List Name) (q : Name) → is_among q names ≡ true → Contains names q
contains [] q among = absurd (cc)
contains (n ∷ names) q among =
    elim (same_name q n) as (λ b. same_name q n ≡ b → (b || is_among q names) ≡ true → Contains (n ∷ names) q) [
      | true ↦ λ is yes. (0, omega arith, sym (from_same q n is))
      | false ↦ λ is yes. let rest = contains names q yes in (suc rest.0, omega (arith, rest.1), rest.2)
    ] refl among

-- a name that is noted, or among those that are noted now
pub noted_now : (names seen : List Name) (q : Name) → is_among q names ≡ true → is_among q (seen ++ new_names seen names) ≡ true
noted_now [] seen q among = absurd (cc)
noted_now (n ∷ names) seen q among =
    elim (is_among n seen) as (λ b. is_among n seen ≡ b → is_among q (seen ++ cond b (new_names seen names) (n ∷ new_names (seen ++ n ∷ []) names)) ≡ true) [
      | true ↦ λ old. elim (same_name q n) as (λ b. same_name q n ≡ b → is_among q (seen ++ new_names seen names) ≡ true) [
        | true ↦ λ is. is_among-append q seen (new_names seen names) ∙ ap (λ b. b || is_among q (new_names seen names)) (ap (λ (x : Name). is_among x seen) (from_same q n is) ∙ old)
        | false ↦ λ is. noted_now names seen q (sym (ap (λ b. b || is_among q names) is) ∙ among)
      ] refl
      | false ↦ λ new. elim (same_name q n) as (λ b. same_name q n ≡ b → is_among q (seen ++ n ∷ new_names (seen ++ n ∷ []) names) ≡ true) [
        | true ↦ λ is. is_among-append q seen (n ∷ new_names (seen ++ n ∷ []) names) ∙ ap (λ b. is_among q seen || (b || is_among q (new_names (seen ++ n ∷ []) names))) is ∙ or_true (is_among q seen)
        | false ↦ λ is. ap (is_among q) (moved seen n (new_names (seen ++ n ∷ []) names)) ∙ noted_now names (seen ++ n ∷ []) q (sym (ap (λ b. b || is_among q names) is) ∙ among)
      ] refl
    ] refl
  where
    or_true : (b : Bool) → (b || true) ≡ true
    or_true true = refl
    or_true false = refl

    moved : (xs : List Name) (x : Name) (ys : List Name) → xs ++ x ∷ ys ≡ (xs ++ x ∷ []) ++ ys
    moved [] x ys = refl
    moved (y ∷ xs) x ys = ap (λ (l : List Name). y ∷ l) (moved xs x ys)

-- each of these is outside the area
pub outside_at : (names : List Name) (q : Name) → AreOutside names → is_among q names ≡ true → is_inside q ≡ false
outside_at [] q out among = absurd (cc)
outside_at (n ∷ names) q out among =
    elim (same_name q n) as (λ b. same_name q n ≡ b → (b || is_among q names) ≡ true → is_inside q ≡ false) [
      | true ↦ λ is yes. ap is_inside (from_same q n is) ∙ out.0
      | false ↦ λ is yes. outside_at names q out.1 yes
    ] refl among

pub noted_outside : (names : List Name) (x : Name) → AreOutside names → Contains names x → is_inside x ≡ false
noted_outside names x out among = at names among.0 out among.1 among.2
  where
    at : (names : List Name) (k : ℕ) → AreOutside names → k < length names → get_or names k x ≡ x → is_inside x ≡ false
    at [] k out below is = absurd (omega arith)
    at (n ∷ names) zero out below is = ap is_inside (sym is) ∙ out.0
    at (n ∷ names) (suc k) out below is = at names k out.1 (omega arith) is

-- what holds of all records holds of this one
pub at_item : (P : Rec → Type 0) (rs : List Rec) (k : ℕ) (r : Rec) → All P rs → k < length rs → r ≡ get_or rs k r → P r
at_item P rs k r all below is = subst P (sym is) (all k r below)

named_at : (rs : List Rec) (k : ℕ) (d : Rec) → k < length rs → is_among (name_at (get_or rs k d)) (map name_at rs) ≡ true
named_at [] k d below = absurd (omega arith)
named_at (x ∷ rs) zero d below = ap (λ b. b || is_among (name_at x) (map name_at rs)) (same_itself (name_at x))
named_at (x ∷ rs) (suc k) d below = ap (λ b. same_name (name_at (get_or rs k d)) (name_at x) || b) (named_at rs k d (omega arith)) ∙ or_true (same_name (name_at (get_or rs k d)) (name_at x))
  where
    or_true : (b : Bool) → (b || true) ≡ true
    or_true true = refl
    or_true false = refl

-- once the touched names are noted, each record's name is
pub all_are_noted : (rs : List Rec) (names old noted : List Name) → names ≡ touched_names rs → noted ≡ old ++ new_names old names → All (λ r. Contains noted (name_at r)) rs
all_are_noted rs names old noted is noted_is k d below =
    subst (λ (l : List Name). Contains l (name_at (get_or rs k d))) (sym noted_is)
    (contains (old ++ new_names old names) (name_at (get_or rs k d))
    (noted_now names old (name_at (get_or rs k d)) (ap (is_among (name_at (get_or rs k d))) is ∙ is_among-touched rs (name_at (get_or rs k d)) ∙ named_at rs k d below)))
