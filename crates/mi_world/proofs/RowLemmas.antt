-- Tables that are made of rows, from the last row to the first.
use Rattle.std.proofs.Common.{◌≡◌, ℕ, zero, suc, ◌+◌, ◌-◌, ◌<◌, ◌≤◌, ◌&&◌, ◌||◌, Bool, true, false, cond, List, [], ◌∷◌, map, length, take, drop, get_or, Option, Some, None, refl, sym, ap, ◌∙◌, subst, add-one, arith}
use Rattle.std.specs.Prelude.{slice_get, filter, is_some, option_map, Result, Ok, Err, OnOk}
use Rattle.std.specs.List.{list_any}
use Rattle.std.proofs.lemmas.List.{length-map, take_more, at_drop_all}
use Rattle.std.proofs.lemmas.Map.Text.{is_eq-slice_cmp}
use Rattle.std.specs.Str.{bytes_eq}
use Rattle.std.specs.FinMap.{get, insert, empty, get-insert, get-empty}
use Rattle.mi_text.specs.Maps.{Name, Map, name_cmp, same_name, is_among}
use Rattle.mi_text.specs.declared.guid.Guid.{Guid}
use Rattle.mi_base.specs.Machine.{Machine}
use Rattle.mi_text.proofs.MapLemmas.{names_total, is_among-append}
use Rattle.mi_schema.specs.declared.typed_rows.FeatureComponentsRow.{FeatureComponentsRow}
use Rattle.mi_schema.specs.declared.typed_rows.ComponentRow.{ComponentRow}
use Rattle.mi_schema.specs.declared.typed_rows.PropertyRow.{PropertyRow}
use Rattle.mi_schema.specs.TableRows.{Rows, row_of, product_code}
use Rattle.mi_model.specs.States.{is_present, is_present_by, features_of}
use Rattle.mi_world.specs.Ground.{ground, recorded_in, is_held, is_set, present_by}
use Rattle.mi_world.specs.Rows.{AreTold, named_row}
use Rattle.mi_world.specs.Known.{AreHeld, is_held_by, ArePresent}

-- ---- from place to place

pub drop-there : {X : Type 0} (xs : List X) (k : ℕ) (x : X) → slice_get xs k ≡ Some x → drop k xs ≡ x ∷ drop (suc k) xs
drop-there [] k x e = cc
drop-there (y ∷ ys) zero x e = let same : y ≡ x = cc in ap (λ z. z ∷ ys) same
drop-there (y ∷ ys) (suc k) x e = drop-there ys k x e

pub drop-none : {X : Type 0} (xs : List X) (k : ℕ) → slice_get xs k ≡ None → drop k xs ≡ drop (suc k) xs
drop-none [] zero e = refl
drop-none [] (suc k) e = refl
drop-none (y ∷ ys) zero e = cc
drop-none (y ∷ ys) (suc k) e = drop-none ys k e

drop-all : {X : Type 0} (xs : List X) → drop (length xs) xs ≡ []
drop-all [] = refl
drop-all (x ∷ xs) = drop-all xs

-- the rows behind the last
pub drop-behind : {K R : Type 0} (es : List (K × R)) (n : ℕ) → n ≡ length es → drop n (map (λ (e : K × R). e.1) es) ≡ []
drop-behind {K} {R} es n at = ap (λ k. drop k (map (λ (e : K × R). e.1) es)) (at ∙ sym (length-map es (λ (e : K × R). e.1))) ∙ drop-all (map (λ (e : K × R). e.1) es)

pub below : (P : ℕ → Type 0) (k : ℕ) → 0 < k → P k → P ((k - 1) + 1)
below P k lt p = subst P (above k lt) p
  where
    above : (n : ℕ) → 0 < n → n ≡ (n - 1) + 1
    above n h = omega arith

pub at_end : (P : ℕ → Type 0) (k : ℕ) → k ≤ 0 → P k → P 0
at_end P k le p = subst P (none k le) p
  where
    none : (n : ℕ) → n ≤ 0 → n ≡ 0
    none n h = omega arith

pub if_ok : {A E : Type 0} {P Q : Type 0} (r : Result A E) → OnOk r P → (P → Q) → OnOk r Q
if_ok (Ok x) h f = f h
if_ok (Err e) h f = tt

-- ---- tables

module _ {R X : Type 0} (key : R → Name) (tells : R → X) where
  pub told_start : {K : Type 0} (es : List (K × R)) (n : ℕ) (m : Map X) → n ≡ length es → m ≡ empty → AreTold key tells (map (λ (e : K × R). e.1) es) n m
  told_start es n m at none q =
      ap (λ (x : Map X). get x q) none ∙ get-empty name_cmp q ∙ sym (ap (λ rs. option_map tells (row_of key rs q)) (drop-behind es n at))

  first : (b : Bool) (r : R) (o : Option R) → cond b (Some (tells r)) (option_map tells o) ≡ option_map tells (cond b (Some r) o)
  first true r o = refl
  first false r o = refl

  pub told_more : (rows : List R) (k : ℕ) (old new : Map X) (r : R) → slice_get rows k ≡ Some r → new ≡ insert old (key r) (tells r) → AreTold key tells rows (k + 1) old → AreTold key tells rows k new
  told_more rows k old new r there is told q =
      ap (λ (x : Map X). get x q) is ∙ get-insert names_total old (key r) (tells r) q
      ∙ ap (cond (same_name q (key r)) (Some (tells r))) (told q ∙ ap (λ n. option_map tells (row_of key (drop n rows) q)) (add-one k))
      ∙ first (same_name q (key r)) r (row_of key (drop (suc k) rows) q)
      ∙ sym (ap (λ rs. option_map tells (row_of key rs q)) (drop-there rows k r there))

  pub told_none : (rows : List R) (k : ℕ) (m : Map X) → slice_get rows k ≡ None → AreTold key tells rows (k + 1) m → AreTold key tells rows k m
  told_none rows k m there told q =
      told q ∙ ap (λ n. option_map tells (row_of key (drop n rows) q)) (add-one k) ∙ sym (ap (λ rs. option_map tells (row_of key rs q)) (drop-none rows k there))

-- the same of other tellings that agree
pub told_as : {R X : Type 0} (key : R → Name) (f g : R → X) (rows : List R) (k : ℕ) (m : Map X) → ((r : R) → f r ≡ g r) → AreTold key f rows k m → AreTold key g rows k m
told_as key f g rows k m same told q = told q ∙ as_option (row_of key (drop k rows) q)
  where
    as_option : (o : Option _) → option_map f o ≡ option_map g o
    as_option None = refl
    as_option (Some r) = ap Some (same r)

-- ---- components that features hold

held_in : List FeatureComponentsRow → Map Bool → Name → Bool
held_in rows names c = list_any (is_set names) (map (λ (r : FeatureComponentsRow). r.feature) (filter (λ (r : FeatureComponentsRow). same_name c r.component) rows))

held_row : (names : Map Bool) (c : Name) (r : FeatureComponentsRow) (rows : List FeatureComponentsRow) (b : Bool) → same_name c r.component ≡ b
    → ((b && is_set names r.feature) || held_in rows names c) ≡ held_in (r ∷ rows) names c
unfolding held_in
held_row names c r rows true e =
    ap (λ t. list_any (is_set names) (map (λ (r : FeatureComponentsRow). r.feature) (cond t (r ∷ filter (λ (r : FeatureComponentsRow). same_name c r.component) rows) (filter (λ (r : FeatureComponentsRow). same_name c r.component) rows)))) (sym e)
held_row names c r rows false e =
    ap (λ t. list_any (is_set names) (map (λ (r : FeatureComponentsRow). r.feature) (cond t (r ∷ filter (λ (r : FeatureComponentsRow). same_name c r.component) rows) (filter (λ (r : FeatureComponentsRow). same_name c r.component) rows)))) (sym e)

pub held_start : {K : Type 0} (es : List (K × FeatureComponentsRow)) (n : ℕ) (names held : Map Bool) → n ≡ length es → held ≡ empty → AreHeld (map (λ (e : K × FeatureComponentsRow). e.1) es) n names held
unfolding held_in
held_start es n names held at none c =
    ap (λ (m : Map Bool). is_some (get m c)) none ∙ ap is_some (get-empty name_cmp c) ∙ sym (ap (λ rs. held_in rs names c) (drop-behind es n at))

pub held_more : (rows : List FeatureComponentsRow) (k : ℕ) (names old new : Map Bool) (r : FeatureComponentsRow) → slice_get rows k ≡ Some r → ((q : Name) → is_set new q ≡ is_held_by names r old q)
    → AreHeld rows (k + 1) names old → AreHeld rows k names new
unfolding held_in
held_more rows k names old new r there is held c =
    is c
    ∙ ap (λ b. (same_name c r.component && is_set names r.feature) || b) (held c ∙ ap (λ n. held_in (drop n rows) names c) (add-one k))
    ∙ held_row names c r (drop (suc k) rows) (same_name c r.component) refl
    ∙ sym (ap (λ rs. held_in rs names c) (drop-there rows k r there))

pub held_none : (rows : List FeatureComponentsRow) (k : ℕ) (names held : Map Bool) → slice_get rows k ≡ None → AreHeld rows (k + 1) names held → AreHeld rows k names held
unfolding held_in
held_none rows k names held there are c = are c ∙ ap (λ n. held_in (drop n rows) names c) (add-one k) ∙ sym (ap (λ rs. held_in rs names c) (drop-none rows k there))

-- ---- names in a table

one_set : (b : Bool) (o : Option Bool) → is_some (cond b (Some true) o) ≡ (is_some o || (b || false))
one_set true None = refl
one_set true (Some x) = refl
one_set false None = refl
one_set false (Some x) = refl

pub names_more : (names : List Name) (i : ℕ) (d : Name) → i < length names → (old new : Map Bool) → new ≡ insert old (get_or names i d) true → ((q : Name) → is_set old q ≡ is_among q (take i names))
    → (q : Name) → is_set new q ≡ is_among q (take (i + 1) names)
names_more names i d lt old new is so_far q =
    ap (λ (m : Map Bool). is_some (get m q)) is ∙ ap is_some (get-insert names_total old (get_or names i d) true q)
    ∙ one_set (same_name q (get_or names i d)) (get old q)
    ∙ ap (λ b. b || (same_name q (get_or names i d) || false)) (so_far q)
    ∙ sym (is_among-append q (take i names) (get_or names i d ∷ []))
    ∙ sym (ap (is_among q) (take_more names i d lt))

pub none_set : (m : Map Bool) → m ≡ empty → (q : Name) → is_set m q ≡ false
none_set m is q = ap (λ (x : Map Bool). is_some (get x q)) is ∙ ap is_some (get-empty name_cmp q)

no_more : (b c : Bool) → c ≡ ((b && false) || c)
no_more true c = refl
no_more false c = refl

pub held_not : (names held : Map Bool) (r : FeatureComponentsRow) → is_set names r.feature ≡ false → (q : Name) → is_set held q ≡ is_held_by names r held q
held_not names held r isnt q = no_more (same_name q r.component) (is_set held q) ∙ ap (λ b. (same_name q r.component && b) || is_set held q) (sym isnt)

set_one : (b : Bool) (o : Option Bool) → is_some (cond b (Some true) o) ≡ ((b && true) || is_some o)
set_one true o = refl
set_one false o = refl

pub held_so : (names held new : Map Bool) (r : FeatureComponentsRow) → is_set names r.feature ≡ true → new ≡ insert held r.component true → (q : Name) → is_set new q ≡ is_held_by names r held q
held_so names held new r is put q =
    ap (λ (m : Map Bool). is_some (get m q)) put ∙ ap is_some (get-insert names_total held r.component true q)
    ∙ set_one (same_name q r.component) (get held q)
    ∙ ap (λ b. (same_name q r.component && b) || is_set held q) (sym is)

-- ---- what was there

pub were_present : (rows : Rows) (m : Machine) (names held : Map Bool) → ((q : Name) → is_set names q ≡ is_among q (recorded_in rows m)) → ((c : Name) → is_set held c ≡ is_held rows (is_set names) c)
    → (flags : Map Bool) → ArePresent rows.component m (product_code rows) held 0 flags → AreTold (λ (r : ComponentRow). r.component) (is_present (ground rows m)) rows.component 0 flags
unfolding is_present
were_present rows m names held recorded holds flags told =
    told_as (λ (r : ComponentRow). r.component) (λ r. present_by m (product_code rows) (is_set held) r r.component_id) (is_present (ground rows m)) rows.component 0 flags each told
  where
    by_id : (r : ComponentRow) (o : Option Guid) → present_by m (product_code rows) (is_set held) r o ≡ is_present_by (ground rows m) r.component o
    by_id r (Some id) = refl
    by_id r None = holds r.component ∙ (λ i. list_any (λ f. recorded f i) (features_of rows r.component))

    each : (r : ComponentRow) → present_by m (product_code rows) (is_set held) r r.component_id ≡ is_present (ground rows m) r
    each r = by_id r r.component_id

-- the rows of a package by their keys
pub from_start : {R X : Type 0} (key : R → Name) (tells : R → X) (rows : List R) (m : Map X) → AreTold key tells rows 0 m → (q : Name) → get m q ≡ option_map tells (row_of key rows q)
from_start key tells rows m told = told

-- ---- values of the Property table

pub passed : (rows : List PropertyRow) (k : ℕ) (name : Name) (r : PropertyRow) → slice_get rows k ≡ Some r → same_name name r.property ≡ false → row_of (λ (p : PropertyRow). p.property) (drop k rows) name ≡ row_of (λ (p : PropertyRow). p.property) (drop (k + 1) rows) name
passed rows k name r there other =
    ap (λ rs. row_of (λ (p : PropertyRow). p.property) rs name) (drop-there rows k r there)
    ∙ ap (λ b. cond b (Some r) (row_of (λ (p : PropertyRow). p.property) (drop (suc k) rows) name)) other
    ∙ sym (ap (λ n. row_of (λ (p : PropertyRow). p.property) (drop n rows) name) (add-one k))

pub passed_none : (rows : List PropertyRow) (k : ℕ) (name : Name) → slice_get rows k ≡ None → row_of (λ (p : PropertyRow). p.property) (drop k rows) name ≡ row_of (λ (p : PropertyRow). p.property) (drop (k + 1) rows) name
passed_none rows k name there = ap (λ rs. row_of (λ (p : PropertyRow). p.property) rs name) (drop-none rows k there) ∙ sym (ap (λ n. row_of (λ (p : PropertyRow). p.property) (drop n rows) name) (add-one k))

pub reached : (rows : List PropertyRow) (k : ℕ) (name : Name) (r : PropertyRow) → slice_get rows k ≡ Some r → same_name name r.property ≡ true → row_of (λ (p : PropertyRow). p.property) (drop k rows) name ≡ Some r
reached rows k name r there same =
    ap (λ rs. row_of (λ (p : PropertyRow). p.property) rs name) (drop-there rows k r there)
    ∙ ap (λ b. cond b (Some r) (row_of (λ (p : PropertyRow). p.property) (drop (suc k) rows) name)) same

pub none_left : (rows : List PropertyRow) (k : ℕ) (name : Name) → length rows ≤ k → row_of (λ (p : PropertyRow). p.property) (drop k rows) name ≡ None
none_left rows k name le = at_drop_all (λ rs. row_of (λ (p : PropertyRow). p.property) rs name) rows k le

pub found_here : (rows : List PropertyRow) (k : ℕ) (name : Name) (r : PropertyRow) → named_row name (slice_get rows k) ≡ Some r → row_of (λ (p : PropertyRow). p.property) (drop k rows) name ≡ Some r
found_here rows k name r is =
    elim (slice_get rows k) as (λ o. slice_get rows k ≡ o → named_row name o ≡ Some r → row_of (λ (p : PropertyRow). p.property) (drop k rows) name ≡ Some r) [
      | None ↦ λ e h. cc
      | Some s ↦ λ e h.
          elim (bytes_eq name s.property) as (λ b. bytes_eq name s.property ≡ b → cond b (Some s) None ≡ Some r → row_of (λ (p : PropertyRow). p.property) (drop k rows) name ≡ Some r) [
            | true ↦ λ t h. let same : s ≡ r = cc in reached rows k name s e (is_eq-slice_cmp name s.property ∙ t) ∙ ap Some same
            | false ↦ λ t h. cc
          ] refl h
    ] refl is

pub not_here : (rows : List PropertyRow) (k : ℕ) (name : Name) → named_row name (slice_get rows k) ≡ None → row_of (λ (p : PropertyRow). p.property) (drop k rows) name ≡ row_of (λ (p : PropertyRow). p.property) (drop (k + 1) rows) name
not_here rows k name is =
    elim (slice_get rows k) as (λ o. slice_get rows k ≡ o → named_row name o ≡ None → row_of (λ (p : PropertyRow). p.property) (drop k rows) name ≡ row_of (λ (p : PropertyRow). p.property) (drop (k + 1) rows) name) [
      | None ↦ λ e h. passed_none rows k name e
      | Some s ↦ λ e h.
          elim (bytes_eq name s.property) as (λ b. bytes_eq name s.property ≡ b → cond b (Some s) None ≡ None → row_of (λ (p : PropertyRow). p.property) (drop k rows) name ≡ row_of (λ (p : PropertyRow). p.property) (drop (k + 1) rows) name) [
            | true ↦ λ t h. cc
            | false ↦ λ t h. passed rows k name s e (is_eq-slice_cmp name s.property ∙ t)
          ] refl h
    ] refl is
