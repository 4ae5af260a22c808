-- Keys that are made, one after the other, and plans that calls leave.
use Rattle.std.proofs.Common.{◌≡◌, ℕ, suc, ◌+◌, ◌-◌, ◌<◌, true, false, cond, List, [], ◌∷◌, ◌++◌, length, map, take, drop, Option, Some, None, refl, sym, ap, ◌∙◌, subst, arith, add-one, append_assoc}
use Rattle.std.specs.Prelude.{◌==◌, ◌&&◌, is_none, is_some, option_map, nat_lt, Result, Ok, Err, OnOk}
use Rattle.std.proofs.lemmas.Bool.Decides.{nat_tests}
use Rattle.std.specs.List.{slice_index_or, slice_range}
use Rattle.std.specs.FinMap.{get}
use Rattle.std.proofs.lemmas.List.{map-append}
use Rattle.std.proofs.Math.Seq.{drop-cons, drop-length, take-length}
use Rattle.mi_text.specs.Maps.{Name, Map}
use Rattle.mi_base.specs.declared.entry.Entry.{Entry}
use Rattle.mi_base.specs.declared.entry.Entry.TheVariants.{Key}
use Rattle.mi_base.specs.Limits.{fits, is_key}
use Rattle.mi_base.specs.Machine.{Machine, as_key}
use Rattle.mi_base.specs.Names.{key_name}
use Rattle.mi_source.specs.Paths.{Files}
use Rattle.mi_changes.specs.Touches.{Set}
use Rattle.mi_image.specs.Items.{Items, entry_over, machine_over}
use Rattle.mi_image.specs.declared.item.Item.{Item}
use Rattle.mi_script.specs.declared.rec.Rec.{Rec}
use Rattle.mi_script.specs.Spelled.{is_file_name}
use Rattle.mi_model.specs.Parents.{or_new, key_touch, key_with_parents}
use Rattle.mi_steps.specs.declared.plan.Plan.{Plan}
use Rattle.mi_steps.specs.Follows.{Follows, put_touch}
use Rattle.mi_steps.proofs.FollowLemmas.{started, joined, same_touch, no_step}
use Rattle.mi_steps.proofs.StepLemmas.{grows_not, grows_on, get-over}
use Rattle.mi_records.specs.Keeps.{Keeps}
use Rattle.mi_records.proofs.PartLemmas.{ends_from, cut_at, keys_at_ends}

-- ---- what calls leave

pub keeps_not : (p : Plan) → Keeps p p
keeps_not p = record { there = λ held files there. there; former = refl; grows = grows_not p.script }

pub keeps_on : (a b c : Plan) → Keeps a b → Keeps b c → Keeps a c
keeps_on a b c first second = record {
  there = λ held files there. second.there held files (first.there held files there);
  former = second.former ∙ first.former;
  grows = grows_on a.script b.script c.script first.grows second.grows;
}

pub if_ok : {A E : Type 0} {P Q : Type 0} (r : Result A E) → OnOk r P → (P → Q) → OnOk r Q
if_ok (Ok x) is then = then is
if_ok (Err e) is then = tt

-- ---- an entry that is put where nothing stands

none_at : (o : Option Entry) → is_none o ≡ true → (e : Entry) → Some e ≡ or_new e o
none_at None is e = refl
none_at (Some x) is e = cc

some_at : (o : Option Entry) → is_none o ≡ false → (e : Entry) → or_new e o ≡ o
some_at None is e = cc
some_at (Some x) is e = refl

no_file : (q : Name) (o : Option Entry) → is_file_name q ≡ false → (is_file_name q && is_some o) ≡ false
no_file q o plain = ap (λ b. b && is_some o) plain

none_over : (held files : Map (List ℕ)) (items : Items) (q : Name) → is_none (get (machine_over held files items) q) ≡ is_none (get items q)
none_over held files items q = ap is_none (get-over held files items q) ∙ by_item (get items q)
  where
    by_item : (o : Option Item) → is_none (option_map (entry_over held files) o) ≡ is_none o
    by_item None = refl
    by_item (Some i) = refl

pub put_there : (held files : Map (List ℕ)) (items : Items) (h : List Rec) (q : Name) (e : Entry) → is_file_name q ≡ false → is_none (get items q) ≡ false
    → Follows files (machine_over held files items) (machine_over held files items) h h (Set q (or_new e) ∷ [])
put_there held files items h q e plain there =
    let m = machine_over held files items in
    no_step files m h q (or_new e) (no_file q (or_new e (get m q)) plain) (some_at (get m q) (none_over held files items q ∙ there) e)

pub put_new : (held files : Map (List ℕ)) (items : Items) (n : Machine) (h i : List Rec) (q : Name) (e : Entry) → is_none (get items q) ≡ true
    → Follows files (machine_over held files items) n h i (put_touch q e ∷ []) → Follows files (machine_over held files items) n h i (Set q (or_new e) ∷ [])
put_new held files items n h i q e none put =
    let m = machine_over held files items in
    same_touch files m n h i q (λ old. Some e) (or_new e) (none_at (get m q) (none_over held files items q ∙ none) e) put

-- a key that is there
key_at : (o : Option Entry) → is_some (as_key o) ≡ true → (e : Entry) → or_new e o ≡ o
key_at None is e = cc
key_at (Some x) is e = refl

plain_key : (root : ℕ) (key : List ℕ) → is_file_name (key_name root key) ≡ false
unfolding key_name
plain_key root key = refl

pub key_fits : (root : ℕ) (key : List ℕ) → root < 4 → is_key key ≡ true → fits (Key root key) ≡ true
unfolding fits
key_fits root key small is = let root_is : nat_lt root 4 ≡ true = grind (arith, nat_tests) in rw (root_is, is) refl

pub key_there : (files : Files) (m : Machine) (h : List Rec) (root : ℕ) (key : List ℕ) → is_some (as_key (get m (key_name root key))) ≡ true → Follows files m m h h (key_touch root key ∷ [])
key_there files m h root key there =
    no_step files m h (key_name root key) (or_new (Key root key)) (no_file (key_name root key) (or_new (Key root key) (get m (key_name root key))) (plain_key root key)) (key_at (get m (key_name root key)) there (Key root key))

-- ---- the keys down to a key

pub record Along (files : Files) (a b : Machine) (h i : List Rec) (root : ℕ) (key : List ℕ) (place : ℕ) : Type 0 where
  pub before : List ℕ
  pub ends : ends_from 0 key ≡ before ++ ends_from place (drop place key)
  pub follows : Follows files a b h i (map (key_touch root) (cut_at key before))

pub along_start : (files : Files) (a : Machine) (h : List Rec) (root : ℕ) (key : List ℕ) → Along files a a h h root key 0
along_start files a h root key = record { before = []; ends = refl; follows = started files a h }

module _ (files : Files) (a b : Machine) (h i : List Rec) (root : ℕ) (key : List ℕ) (place : ℕ) (along : Along files a b h i root key place) where
  -- a place that isn't an end
  pub along_pass : place < length key → (slice_index_or key place 0 == 92) ≡ false → Along files a b h i root key (place + 1)
  along_pass lt inner = record {
    before = along.before;
    ends = along.ends ∙ ap (λ (l : List ℕ). along.before ++ l) (next (drop-cons key place 0 lt));
    follows = along.follows;
  }
    where
      next : drop place key ≡ slice_index_or key place 0 ∷ drop (suc place) key → ends_from place (drop place key) ≡ ends_from (place + 1) (drop (place + 1) key)
      next e = ap (ends_from place) e ∙ ap (λ b. cond b (place ∷ ends_from (place + 1) (drop (suc place) key)) (ends_from (place + 1) (drop (suc place) key))) inner ∙ ap (λ n. ends_from (place + 1) (drop n key)) (sym (add-one place))

  one_key : (c : Machine) (j : List Rec) (end : ℕ) → Follows files b c i j (key_touch root (take end key) ∷ []) → Follows files a c h j (map (key_touch root) (cut_at key (along.before ++ end ∷ [])))
  one_key c j end one = subst (λ ts. Follows files a c h j ts)
      (sym (ap (map (key_touch root)) (map-append (λ p. take p key) along.before (end ∷ [])) ∙ map-append (key_touch root) (cut_at key along.before) (take end key ∷ [])))
      (joined files a b c h i j (map (key_touch root) (cut_at key along.before)) (key_touch root (take end key) ∷ []) along.follows one)

  -- an end
  pub along_end : (c : Machine) (j : List Rec) → place < length key → (slice_index_or key place 0 == 92) ≡ true → Follows files b c i j (key_touch root (take place key) ∷ []) → Along files a c h j root key (place + 1)
  along_end c j lt slash one = record {
    before = along.before ++ place ∷ [];
    ends = along.ends ∙ ap (λ (l : List ℕ). along.before ++ l) (next (drop-cons key place 0 lt)) ∙ sym (append_assoc along.before (place ∷ []) (ends_from (place + 1) (drop (place + 1) key)));
    follows = one_key c j place one;
  }
    where
      next : drop place key ≡ slice_index_or key place 0 ∷ drop (suc place) key → ends_from place (drop place key) ≡ place ∷ ends_from (place + 1) (drop (place + 1) key)
      next e = ap (ends_from place) e ∙ ap (λ b. cond b (place ∷ ends_from (place + 1) (drop (suc place) key)) (ends_from (place + 1) (drop (suc place) key))) slash ∙ ap (λ n. place ∷ ends_from (place + 1) (drop n key)) (sym (add-one place))

  -- the key itself
  pub along_all : (c : Machine) (j : List Rec) → place ≡ length key → is_key key ≡ true → Follows files b c i j (key_touch root key ∷ []) → Follows files a c h j (key_with_parents root key)
  along_all c j at is one = subst (λ keys. Follows files a c h j (map (key_touch root) keys)) (ap (cut_at key) (sym last) ∙ keys_at_ends key is)
      (one_key c j (length key) (subst (λ (k : List ℕ). Follows files b c i j (key_touch root k ∷ [])) (sym (take-length key)) one))
    where
      last : ends_from 0 key ≡ along.before ++ length key ∷ []
      last = along.ends ∙ ap (λ p. along.before ++ ends_from p (drop p key)) at ∙ ap (λ (l : List ℕ). along.before ++ ends_from (length key) l) (drop-length key)

no_less : (n : ℕ) → n - 0 ≡ n
no_less n = omega arith

pub front_at : (key : List ℕ) (place : ℕ) → slice_range key 0 place ≡ take place key
front_at key place = ap (λ n. take n key) (no_less place)
