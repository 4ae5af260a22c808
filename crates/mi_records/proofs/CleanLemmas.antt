-- A key from which all was taken that goes with it, and rows behind that: nothing more goes with it.
use Rattle.std.proofs.Common.{◌≡◌, Bool, true, false, cond, not, ◌&&◌, ◌||◌, List, [], ◌∷◌, Option, Some, None, refl, sym, ap, subst, ◌∙◌}
use Rattle.std.specs.Prelude.{filter, nat_eq, is_some}
use Rattle.std.specs.List.{starts_with, list_any}
use Rattle.std.specs.FinMap.{get, keys}
use Rattle.std.specs.Ordering.{is_eq}
use Rattle.std.specs.BTreeSet.{BTreeSet, contains}
use Rattle.mi_text.specs.Maps.{Name, name_cmp, same_name, is_among}
use Rattle.mi_text.proofs.ByteLemmas.{both}
use Rattle.mi_text.proofs.MapLemmas.{among-keys, from_same, same_itself}
use Rattle.mi_base.specs.declared.entry.Entry.{Entry}
use Rattle.mi_base.specs.Machine.{Machine}
use Rattle.mi_source.specs.Paths.{Files}
use Rattle.mi_changes.specs.Touches.{Touch, Set, Clear, left_at, by_touch}
use Rattle.mi_changes.proofs.TouchLemmas.{get-by_touch}
use Rattle.mi_script.specs.declared.rec.Rec.{Rec}
use Rattle.mi_model.specs.Texts.{Text}
use Rattle.mi_model.specs.Prune.{Path, Seat, Holder, Leaf, Apart, key_seat}
use Rattle.mi_model.specs.RegistryGuards.{is_value_at, seat_goes_with_key, goes_with_key, place_of_key, unguarded}
use Rattle.mi_model.specs.RegistryRows.{RegistryPlace, Says, KeyAlone, Makes, Removes, MakesAndRemoves, Writes, name_of_value}
use Rattle.mi_model.specs.RemoveRegistryValues.{less_added, value_less, taken_at}
use Rattle.mi_regval.specs.ListTexts.{added_items}
use Rattle.mi_steps.specs.Follows.{Follows}
use Rattle.mi_steps.proofs.FollowLemmas.{cleared, started}
use Rattle.mi_records.proofs.SeatLemmas.{and_none}
use Rattle.mi_records.specs.Removing.{NothingGoes, AreClear}

-- ---- names among names

record Found (test : Name → Bool) (names : List Name) : Type 0 where
  name : Name
  passes : test name ≡ true
  among : is_among name names ≡ true

or_true : (a : Bool) → (a || true) ≡ true
or_true true = refl
or_true false = refl

found : (test : Name → Bool) (names : List Name) → list_any test names ≡ true → Found test names
found test [] is = cc
found test (n ∷ names) is = elim (test n) as (λ b. test n ≡ b → (b || list_any test names) ≡ true → Found test (n ∷ names)) [
  | true ↦ λ at some. record { name = n; passes = at; among = ap (λ b. b || is_among n names) (same_itself n) }
  | false ↦ λ at some. let f = found test names some in record { name = f.name; passes = f.passes; among = ap (λ b. same_name f.name n || b) f.among ∙ or_true (same_name f.name n) }
] refl is

any_of : (test : Name → Bool) (names : List Name) (q : Name) → test q ≡ true → is_among q names ≡ true → list_any test names ≡ true
any_of test [] q at among = cc
any_of test (n ∷ names) q at among = elim (same_name q n) as (λ b. same_name q n ≡ b → (b || is_among q names) ≡ true → (test n || list_any test names) ≡ true) [
  | true ↦ λ is some. ap (λ b. b || list_any test names) (ap test (sym (from_same q n is)) ∙ at)
  | false ↦ λ is some. ap (λ b. test n || b) (any_of test names q at some) ∙ or_true (test n)
] refl among

-- ---- less that is held

module _ (guarded : Name → Bool) (key : Path) where
  below_alike : (path : Path) (s b c : Bool) → (b ≡ true → c ≡ true) → (s && not b) ≡ false → (s && not c) ≡ false
  below_alike path false b c then is = refl
  below_alike path true true c then is = ap not (then refl)
  below_alike path true false c then is = cc

  -- what doesn't go doesn't go either where less is held, but the same guarded values
  less_goes : (held less : List Name) → ((other : Name) (path : Path) → guarded other ≡ true → is_value_at path (key_seat other) ≡ true → is_among other held ≡ true → is_among other less ≡ true)
      → (q : Name) → goes_with_key guarded held key q ≡ false → goes_with_key guarded less key q ≡ false
  unfolding goes_with_key
  less_goes held less stays q is = by_seat (key_seat q) is
    where
      keeps_so : (path : Path) → list_any (λ other. guarded other && is_value_at path (key_seat other)) held ≡ true → list_any (λ other. guarded other && is_value_at path (key_seat other)) less ≡ true
      keeps_so path some =
          let f = found (λ other. guarded other && is_value_at path (key_seat other)) held some in
          let parts = both (guarded f.name) (is_value_at path (key_seat f.name)) f.passes in
          any_of (λ other. guarded other && is_value_at path (key_seat other)) less f.name f.passes (stays f.name path parts.0 parts.1 f.among)

      by_seat : (s : Seat) → seat_goes_with_key guarded held key q s ≡ false → seat_goes_with_key guarded less key q s ≡ false
      by_seat (Holder path) is = below_alike path (starts_with nat_eq path key) _ _ (keeps_so path) is
      by_seat (Leaf path) is = is
      by_seat Apart is = refl

-- ---- touches that only take away, and no guarded value

pub record TakesOnly (guarded : Name → Bool) (ts : List (Touch Entry)) : Type 0 where
  pub taken : (q : Name) (old : Option Entry) → is_some (left_at q ts old) ≡ true → is_some old ≡ true
  pub stays : (q : Name) (path : Path) (old : Option Entry) → guarded q ≡ true → is_value_at path (key_seat q) ≡ true → is_some old ≡ true → is_some (left_at q ts old) ≡ true

module _ (guarded : Name → Bool) (m n : Machine) (ts : List (Touch Entry)) (only : TakesOnly guarded ts) (is : n ≡ by_touch m ts) where
  left_is : (q : Name) → is_some (get n q) ≡ is_some (left_at q ts (get m q))
  left_is q = ap (λ k. is_some (get k q)) is ∙ ap is_some (get-by_touch m ts q)

  was_held : (q : Name) → is_among q (keys n) ≡ true → is_among q (keys m) ≡ true
  was_held q among = sym (among-keys m q) ∙ only.taken q (get m q) (sym (left_is q) ∙ among-keys n q ∙ among)

  still_held : (q : Name) (path : Path) → guarded q ≡ true → is_value_at path (key_seat q) ≡ true → is_among q (keys m) ≡ true → is_among q (keys n) ≡ true
  still_held q path guard value among = sym (among-keys n q) ∙ left_is q ∙ only.stays q path (get m q) guard value (among-keys m q ∙ among)

  pub goes_no_more : (key : Path) → NothingGoes guarded m key → NothingGoes guarded n key
  goes_no_more key none q among = less_goes guarded key (keys m) (keys n) still_held q (none q (was_held q among))

-- ---- a key that is cleared

by_clear : (b : Bool) (old : Option Entry) → is_some (cond b None old) ≡ true → (b ≡ false) × (is_some old ≡ true)
by_clear true old is = cc
by_clear false old is = (refl, is)

guarded_stays : (guarded : Name → Bool) (held : List Name) (key : Path) (q : Name) (path : Path) → guarded q ≡ true → is_value_at path (key_seat q) ≡ true → goes_with_key guarded held key q ≡ false
unfolding goes_with_key
guarded_stays guarded held key q path guard value = by_seat (key_seat q) value
  where
    by_seat : (s : Seat) → is_value_at path s ≡ true → seat_goes_with_key guarded held key q s ≡ false
    by_seat (Leaf l) value = ap (λ b. starts_with nat_eq l key && not b) guard ∙ and_none (starts_with nat_eq l key)
    by_seat (Holder h) value = cc
    by_seat Apart value = refl

pub clear_takes : (guarded : Name → Bool) (held : List Name) (key : Path) → TakesOnly guarded (Clear (goes_with_key guarded held key) ∷ [])
clear_takes guarded held key = record {
  taken = λ q old is. (by_clear (goes_with_key guarded held key q) old is).1;
  stays = λ q path old guard value is. ap (λ b. is_some (cond b None old)) (guarded_stays guarded held key q path guard value) ∙ is;
}

pub clear_leaves : (guarded : Name → Bool) (m n : Machine) (key : Path) → n ≡ by_touch m (Clear (goes_with_key guarded (keys m) key) ∷ []) → NothingGoes guarded n key
clear_leaves guarded m n key is q among =
    let ts = Clear (goes_with_key guarded (keys m) key) ∷ [] in
    let only = clear_takes guarded (keys m) key in
    let left : is_some (left_at q ts (get m q)) ≡ true = sym (left_is guarded m n ts only is q) ∙ among-keys n q ∙ among in
    less_goes guarded key (keys m) (keys n) (still_held guarded m n ts only is) q (by_clear (goes_with_key guarded (keys m) key q) (get m q) left).0

none_pass : (p : Name → Bool) (names : List Name) → ((q : Name) → is_among q names ≡ true → p q ≡ false) → [] ≡ filter p names
none_pass p [] none = refl
none_pass p (n ∷ names) none =
    none_pass p names (λ q among. none q (ap (λ b. same_name q n || b) among ∙ or_true (same_name q n)))
    ∙ sym (ap (λ b. cond b (n ∷ filter p names) (filter p names)) (none n (ap (λ b. b || is_among n names) (same_itself n))))

-- a key that was cleared is cleared by nothing
pub clear_again : (guarded : Name → Bool) (files : Files) (m : Machine) (h : List Rec) (key : Path) → NothingGoes guarded m key → Follows files m m h h (Clear (goes_with_key guarded (keys m) key) ∷ [])
clear_again guarded files m h key none = cleared files m m h h (goes_with_key guarded (keys m) key) [] (none_pass (goes_with_key guarded (keys m) key) (keys m) none) (started files m h)

-- ---- rows

nothing_takes : (guarded : Name → Bool) → TakesOnly guarded []
nothing_takes guarded = record { taken = λ q old is. is; stays = λ q path old guard value is. is }

none_less : (added : Option (List Name)) → less_added added None ≡ None
none_less None = refl
none_less (Some items) = refl

less_was : (text : Text) (old : Option Entry) → is_some (value_less text old) ≡ true → is_some old ≡ true
unfolding value_less
less_was text None is = let clash : false ≡ true = sym (ap is_some (none_less (added_items text))) ∙ is in cc
less_was text (Some e) is = refl

set_takes : (guarded : Name → Bool) (name : Name) (f : Option Entry → Option Entry) → guarded name ≡ false → ((old : Option Entry) → is_some (f old) ≡ true → is_some old ≡ true) → TakesOnly guarded (Set name f ∷ [])
set_takes guarded name f free was = record {
  taken = λ q old is. by_name (same_name q name) old is;
  stays = λ q path old guard value is. ap (λ b. is_some (cond b (f old) old)) (other q guard) ∙ is;
}
  where
    by_name : (b : Bool) (old : Option Entry) → is_some (cond b (f old) old) ≡ true → is_some old ≡ true
    by_name true old is = was old is
    by_name false old is = is

    other : (q : Name) → guarded q ≡ true → same_name q name ≡ false
    other q guard = elim (same_name q name) as (λ t. same_name q name ≡ t → t ≡ false) [
      | true ↦ λ same. let clash : true ≡ false = sym guard ∙ ap guarded (from_same q name same) ∙ free in cc
      | false ↦ λ is. refl
    ] refl

-- what a row of Registry takes
pub row_takes_only : (guarded : Name → Bool) (p : RegistryPlace) (held : List Name) (says : Says) → TakesOnly guarded (taken_at guarded p held says)
row_takes_only guarded p held KeyAlone = nothing_takes guarded
row_takes_only guarded p held Makes = nothing_takes guarded
row_takes_only guarded p held Removes = clear_takes guarded held (place_of_key p)
row_takes_only guarded p held MakesAndRemoves = clear_takes guarded held (place_of_key p)
row_takes_only guarded p held (Writes text) = by_guard (guarded (name_of_value p)) refl
  where
    by_guard : (b : Bool) → guarded (name_of_value p) ≡ b → TakesOnly guarded (cond b [] (Set (name_of_value p) (value_less text) ∷ []))
    by_guard true is = nothing_takes guarded
    by_guard false is = set_takes guarded (name_of_value p) (value_less text) is (less_was text)

-- a name that is dropped, which nothing guards
pub drop_takes : (name : Name) → TakesOnly unguarded (Set name (λ old. None) ∷ [])
drop_takes name = set_takes unguarded name (λ old. None) refl (λ old is. cc)

-- ---- the keys that were cleared

pub still_clear : (guarded : Name → Bool) (m n : Machine) (ts : List (Touch Entry)) (set : BTreeSet Path) → TakesOnly guarded ts → n ≡ by_touch m ts → AreClear guarded m set → AreClear guarded n set
still_clear guarded m n ts set only is clear key has = goes_no_more guarded m n ts only is key (clear key has)

pub one_clear : (guarded : Name → Bool) (m n : Machine) (set new : BTreeSet Path) (key at : Path) → key ≡ at → ((p : Path) → contains name_cmp new p ≡ cond (is_eq (name_cmp key p)) true (contains name_cmp set p))
    → n ≡ by_touch m (Clear (goes_with_key guarded (keys m) at) ∷ []) → AreClear guarded m set → AreClear guarded n new
one_clear guarded m n set new key at same grown is clear p has = by_key (is_eq (name_cmp key p)) refl (sym (grown p) ∙ has)
  where
    by_key : (b : Bool) → same_name key p ≡ b → cond b true (contains name_cmp set p) ≡ true → NothingGoes guarded n p
    by_key true this was = subst (NothingGoes guarded n) (sym same ∙ from_same key p this) (clear_leaves guarded m n at is)
    by_key false other was = goes_no_more guarded m n (Clear (goes_with_key guarded (keys m) at) ∷ []) (clear_takes guarded (keys m) at) is p (clear p was)
