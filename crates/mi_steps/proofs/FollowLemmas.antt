-- How pieces of a plan go on.
use Rattle.std.proofs.Common.{◌≡◌, ℕ, Bool, true, false, cond, List, [], ◌∷◌, ◌++◌, map, filter, Option, Some, None, refl, sym, ap, subst, ◌∙◌, append_assoc}
use Rattle.std.proofs.lemmas.List.{append-nil}
use Rattle.std.specs.Prelude.{option_map, is_some, not, ◌&&◌}
use Rattle.std.specs.FinMap.{get, keys}
use Rattle.std.proofs.lemmas.Slice.Eq.{bytes_eq-Decides}
use Rattle.mi_text.specs.Maps.{Name, Map, set_to}
use Rattle.mi_text.proofs.MapLemmas.{get-map_values}
use Rattle.mi_base.specs.declared.entry.Entry.{Entry}
use Rattle.mi_base.specs.Machine.{Machine, volume_of}
use Rattle.mi_base.specs.Spelling.{record_of}
use Rattle.mi_source.specs.Paths.{Files}
use Rattle.mi_changes.specs.Touches.{Touch, Set, Clear, by_touch}
use Rattle.mi_changes.specs.Changes.{Change, written, gone, changes}
use Rattle.mi_changes.proofs.TouchLemmas.{by_touch-append}
use Rattle.mi_changes.proofs.ChangeLemmas.{written-changes, changes-append}
use Rattle.mi_script.specs.declared.rec.Rec.{Rec}
use Rattle.mi_script.specs.declared.rec.Rec.TheVariants.{Drop}
use Rattle.mi_script.specs.Scripts.{change_of, script_changes, after_script}
use Rattle.mi_script.specs.Spelled.{is_file_name, writes_file, same_record, is_left_out, spelled_changes}
use Rattle.mi_script.proofs.SpellLemmas.{set_same, written-spelled, spelled-append, script-append}
use Rattle.mi_model.specs.StatedSizes.{StateSizes}
use Rattle.mi_model_laws.proofs.SpellLemmas.{sizes_joined}
use Rattle.mi_steps.specs.Follows.{Follows, drop_touch}

pub get-volume_of : (m : Machine) (q : Name) → get (volume_of m) q ≡ option_map record_of (get m q)
unfolding volume_of
get-volume_of m q = get-map_values record_of m q

-- the script takes the map of the one machine to that of the other
pub after_follows : (files : Files) (m n : Machine) (h i : List Rec) (ts : List (Touch Entry)) → (f : Follows files m n h i ts) → after_script files (volume_of m) f.records ≡ volume_of n
after_follows files m n h i ts f =
    ap (written (volume_of m)) f.spells
    ∙ written-spelled m (changes m ts)
    ∙ ap volume_of (written-changes m ts ∙ sym f.machine)

pub started : (files : Files) (m : Machine) (h : List Rec) → Follows files m m h h []
started files m h = record { machine = refl; records = []; grows = sym (append-nil h); spells = refl; sizes = λ have. refl }

pub joined : (files : Files) (a b c : Machine) (h i j : List Rec) (ts us : List (Touch Entry)) → Follows files a b h i ts → Follows files b c i j us → Follows files a c h j (ts ++ us)
joined files a b c h i j ts us first second = record {
  machine = second.machine ∙ ap (λ m. by_touch m us) first.machine ∙ sym (by_touch-append a ts us);
  records = first.records ++ second.records;
  grows = second.grows ∙ ap (λ (x : List Rec). x ++ second.records) first.grows ∙ append_assoc h first.records second.records;
  spells =
      script-append files (volume_of a) first.records second.records
      ∙ ap (λ d. script_changes files (volume_of a) first.records ++ script_changes files d second.records) (after_follows files a b h i ts first)
      ∙ ap (λ (cs : List (Change (List ℕ))). cs ++ script_changes files (volume_of b) second.records) first.spells
      ∙ ap (λ (cs : List (Change (List ℕ))). spelled_changes (volume_of a) (changes a ts) ++ cs) second.spells
      ∙ ap (λ d. spelled_changes (volume_of a) (changes a ts) ++ spelled_changes d (changes b us)) (sym at_b)
      ∙ sym (spelled-append (volume_of a) (changes a ts) (changes b us))
      ∙ ap (λ k. spelled_changes (volume_of a) (changes a ts ++ changes k us)) first.machine
      ∙ ap (spelled_changes (volume_of a)) (sym (changes-append a ts us));
  sizes = sizes_joined files (volume_of a) first.records second.records first.sizes (subst (λ d. StateSizes files d second.records) (sym (after_follows files a b h i ts first)) second.sizes);
}
  where
    at_b : written (volume_of a) (spelled_changes (volume_of a) (changes a ts)) ≡ volume_of b
    at_b = written-spelled a (changes a ts) ∙ ap volume_of (written-changes a ts ∙ sym first.machine)

-- touches that make the same changes
pub same_changes : (files : Files) (m n : Machine) (h i : List Rec) (ts us : List (Touch Entry)) → changes m ts ≡ changes m us → Follows files m n h i ts → Follows files m n h i us
same_changes files m n h i ts us same f = record {
  machine = f.machine ∙ sym (written-changes m ts) ∙ ap (written m) same ∙ written-changes m us;
  records = f.records;
  grows = f.grows;
  spells = f.spells ∙ ap (spelled_changes (volume_of m)) same;
  sizes = f.sizes;
}

-- a touch that leaves the same, as it is there
pub same_touch : (files : Files) (m n : Machine) (h i : List Rec) (q : Name) (f g : Option Entry → Option Entry) → f (get m q) ≡ g (get m q) → Follows files m n h i (Set q f ∷ []) → Follows files m n h i (Set q g ∷ [])
same_touch files m n h i q f g same = same_changes files m n h i (Set q f ∷ []) (Set q g ∷ []) (ap (λ (o : Option Entry). record { at = q; after = o } ∷ []) same)

-- ---- one name

-- a record, or none
one_record : (files : Files) (d : Map (List ℕ)) (b : Bool) (r : Rec) → StateSizes files d (r ∷ []) → StateSizes files d (cond b [] (r ∷ []))
one_record files d true r states = λ have. refl
one_record files d false r states = states

-- A name is set. The record is left out where `b` says that nothing changes.
pub set_one : (files : Files) (m : Machine) (h : List Rec) (q : Name) (e : Entry) (f : Option Entry → Option Entry) (b : Bool) (r : Rec)
    → f (get m q) ≡ Some e
    → change_of files (volume_of m) r ≡ record { at = q; after = Some (record_of e) }
    → is_left_out (record { at = q; after = Some (record_of e) }) (get (volume_of m) q) ≡ b
    → StateSizes files (volume_of m) (r ∷ [])
    → Follows files m (set_to m q (Some e)) h (h ++ cond b [] (r ∷ [])) (Set q f ∷ [])
set_one files m h q e f b r gives change left_out states = record {
  machine = ap (set_to m q) (sym gives);
  records = cond b [] (r ∷ []);
  grows = refl;
  spells =
      one (volume_of m) b
      ∙ ap (λ (c : Change (List ℕ)). cond b [] (c ∷ [])) change
      ∙ ap (λ (t : Bool). cond t [] (record { at = q; after = Some (record_of e) } ∷ [])) (sym left_out)
      ∙ sym (append-nil (cond (is_left_out (record { at = q; after = Some (record_of e) }) (get (volume_of m) q)) [] (record { at = q; after = Some (record_of e) } ∷ [])))
      ∙ ap (λ (o : Option Entry). spelled_changes (volume_of m) (record { at = q; after = o } ∷ [])) (sym gives);
  sizes = one_record files (volume_of m) b r states;
}
  where
    one : (d : Map (List ℕ)) (b : Bool) → script_changes files d (cond b [] (r ∷ [])) ≡ cond b [] (change_of files d r ∷ [])
    one d true = refl
    one d false = refl

same_itself : (o : Option (List ℕ)) → same_record o o ≡ true
same_itself None = refl
same_itself (Some b) = (bytes_eq-Decides b b).1 refl

file_recorded : (q : Name) (o : Option Entry) → writes_file q (option_map record_of o) ≡ writes_file q o
file_recorded q None = refl
file_recorded q (Some e) = refl

-- A touch that changes nothing and writes no file is no step.
pub no_step : (files : Files) (m : Machine) (h : List Rec) (q : Name) (f : Option Entry → Option Entry) → writes_file q (f (get m q)) ≡ false → f (get m q) ≡ get m q → Follows files m m h h (Set q f ∷ [])
no_step files m h q f plain same = record {
  machine = sym (set_same m q (f (get m q)) (sym same));
  records = [];
  grows = sym (append-nil h);
  spells = sym (ap (λ (b : Bool). cond b [] (record { at = q; after = option_map record_of (f (get m q)) } ∷ []) ++ []) left_out);
  sizes = λ have. refl;
}
  where
    left_out : is_left_out (record { at = q; after = option_map record_of (f (get m q)) }) (get (volume_of m) q) ≡ true
    left_out =
        ap (λ (b : Bool). not b && same_record (option_map record_of (f (get m q))) (get (volume_of m) q)) (file_recorded q (f (get m q)) ∙ plain)
        ∙ ap (λ (o : Option Entry). same_record (option_map record_of o) (get (volume_of m) q)) same
        ∙ ap (same_record (option_map record_of (get m q))) (get-volume_of m q)
        ∙ same_itself (option_map record_of (get m q))

no_file_left : (b : Bool) → (b && false) ≡ false
no_file_left true = refl
no_file_left false = refl

-- what is held is dropped
pub drop_held : (files : Files) (m : Machine) (h : List Rec) (q : Name) → is_some (get m q) ≡ true → Follows files m (set_to m q None) h (h ++ Drop q ∷ []) (drop_touch q ∷ [])
drop_held files m h q held = record {
  machine = refl;
  records = Drop q ∷ [];
  grows = refl;
  spells = sym (ap (λ (t : Bool). cond t [] (gone q ∷ []) ++ []) left_in);
  sizes = λ have. refl;
}
  where
    differs : (o : Option Entry) → is_some o ≡ true → same_record None (option_map record_of o) ≡ false
    differs None is = absurd cc
    differs (Some e) is = refl

    left_in : is_left_out (gone q) (get (volume_of m) q) ≡ false
    left_in =
        ap (λ (b : Bool). not b && same_record None (get (volume_of m) q)) (no_file_left (is_file_name q))
        ∙ ap (same_record None) (get-volume_of m q)
        ∙ differs (get m q) held

-- where nothing is held, a drop is no step
pub drop_nothing : (files : Files) (m : Machine) (h : List Rec) (q : Name) → is_some (get m q) ≡ false → Follows files m m h h (drop_touch q ∷ [])
drop_nothing files m h q none = no_step files m h q (λ old. None) (no_file_left (is_file_name q)) (is_none (get m q) none)
  where
    is_none : (o : Option Entry) → is_some o ≡ false → None ≡ o
    is_none None is = refl
    is_none (Some e) is = absurd cc

-- ---- names that a test takes

changes-drops : (m : Machine) (names : List Name) → changes m (map drop_touch names) ≡ map gone names
changes-drops m [] = refl
changes-drops m (n ∷ names) = ap (λ (cs : List (Change Entry)). gone n ∷ cs) (changes-drops (set_to m n None) names)

-- to drop the held names that pass a test, one by one in byte order, is to clear them
pub cleared : (files : Files) (m n : Machine) (h i : List Rec) (p : Name → Bool) (names : List Name) → names ≡ filter p (keys m) → Follows files m n h i (map drop_touch names) → Follows files m n h i (Clear p ∷ [])
cleared files m n h i p names is = same_changes files m n h i (map drop_touch names) (Clear p ∷ [])
    (changes-drops m names ∙ ap (map gone) is ∙ sym (append-nil (map gone (filter p (keys m)))))
