-- Where no feature is installed after a run, no component is made local, and each that is there and has an id is made absent.
use Rattle.std.proofs.Common.{◌≡◌, ℕ, zero, suc, Bool, true, false, cond, ◌||◌, List, [], ◌∷◌, length, Option, Some, None, refl, sym, ap, ◌∙◌}
use Rattle.std.specs.Prelude.{◌&&◌, not, codes, filter}
use Rattle.std.specs.List.{list_any}
use Rattle.mi_text.specs.Maps.{is_among}
use Rattle.mi_text.specs.Lookups.{Lookups}
use Rattle.mi_schema.specs.TableRows.{Rows}
use Rattle.mi_schema.specs.declared.typed_rows.ComponentRow.{ComponentRow}
use Rattle.mi_schema.specs.declared.typed_rows.FeatureRow.{FeatureRow}
use Rattle.mi_model.specs.Texts.{Text}
use Rattle.mi_model.specs.World.{Request, Local, Absent, Reinstall, Action, MakeLocal, MakeAbsent}
use Rattle.mi_model.specs.FeatureLists.{line_within}
use Rattle.mi_model.specs.Features as feature
use Rattle.mi_model.specs.Features.{request_of, is_local_after}
use Rattle.mi_model.specs.States.{features_of}
use Rattle.mi_model.specs.Components.{has_id, owners_of, action_of, is_enabled, asks, is_asked_for, is_wanted}

-- ---- a feature that is asked to be reinstalled is recorded

abbrev is_reinstall : Option Request → Bool
is_reinstall (Some Reinstall) = true
is_reinstall other = false

module _ (rows : Rows) (L : Lookups) (recorded : Option (List Text)) (level : ℕ) (f : FeatureRow) where
  not_added : (b : Bool) (r : Option Request) → is_reinstall r ≡ false → is_reinstall (cond b (Some Local) r) ≡ false
  not_added true r e = refl
  not_added false r e = e

  not_removed : (b : Bool) (r : Option Request) → is_reinstall r ≡ false → is_reinstall (cond b (Some Absent) r) ≡ false
  not_removed true r e = refl
  not_removed false r e = e

  reinstalled : (none rec listed : Bool) (r : Option Request) → is_reinstall r ≡ false → is_reinstall (cond (none && rec && listed) (Some Reinstall) r) ≡ true → rec ≡ true
  reinstalled true true listed r e is = refl
  reinstalled true false listed r e is = let both = sym e ∙ is in cc
  reinstalled false rec listed r e is = let both = sym e ∙ is in cc

  by_lists_recorded : is_reinstall (feature.by_lists rows L recorded level f) ≡ true → feature.is_recorded_feature rows L recorded level f ≡ true
  by_lists_recorded is =
      reinstalled _ (feature.is_recorded_feature rows L recorded level f) _ _
      (not_added (feature.is_added rows L recorded level (L.property (codes "ADDDEFAULT")) f) _
      (not_removed (feature.is_removed rows L recorded level (L.property (codes "REMOVE")) f) _
      (not_added (feature.is_added rows L recorded level (L.property (codes "ADDLOCAL")) f) None refl))) is

  own_recorded : (b : Bool) → is_reinstall (cond b (Some Local) (feature.by_lists rows L recorded level f)) ≡ true → feature.is_recorded_feature rows L recorded level f ≡ true
  own_recorded true is = cc
  own_recorded false is = by_lists_recorded is

  followed : (own above : Option Request) → is_reinstall (feature.followed_or rows L recorded level own above) ≡ true → is_reinstall own ≡ true
  followed own None is = is
  followed own (Some Local) is = cc
  followed own (Some Absent) is = cc
  followed own (Some Reinstall) is = is

  in_line : (b : Bool) (above : Option Request) → is_reinstall (cond b (feature.followed_or rows L recorded level (feature.own_request rows L recorded level f) above) (feature.own_request rows L recorded level f)) ≡ true
      → is_reinstall (feature.own_request rows L recorded level f) ≡ true
  in_line true above is = followed (feature.own_request rows L recorded level f) above is
  in_line false above is = is

  line_recorded : (n : ℕ) → is_reinstall (feature.request_in rows L recorded level (line_within rows n (Some f))) ≡ true → feature.is_recorded_feature rows L recorded level f ≡ true
  line_recorded zero is = cc
  line_recorded (suc n) is = own_recorded _ (in_line (feature.follows rows L recorded level f) _ is)

  request_recorded : is_reinstall (request_of rows L recorded level f) ≡ true → feature.is_recorded_feature rows L recorded level f ≡ true
  unfolding request_of
  request_recorded is = line_recorded (length rows.feature) is

  -- what is asked to be local or reinstalled is installed after the run
  asked_after : (c : ComponentRow) (r : Option Request) → request_of rows L recorded level f ≡ r → asks rows L (request_of rows L recorded level) (is_local_after rows L recorded level) (λ c. false) c r ≡ true → is_local_after rows L recorded level f ≡ true
  unfolding is_local_after
  asked_after c (Some Local) is asked = ap (λ r. feature.is_local rows L recorded level r || (feature.is_recorded_feature rows L recorded level f && not (feature.is_absent rows L recorded level r))) is
  asked_after c (Some Reinstall) is asked =
      ap (λ r. feature.is_local rows L recorded level r || (feature.is_recorded_feature rows L recorded level f && not (feature.is_absent rows L recorded level r))) is
      ∙ ap (λ b. b && true) (request_recorded (ap is_reinstall is))
  asked_after c (Some Absent) is asked = cc
  asked_after c None is asked = cc

-- ---- lists

neither : (a b : Bool) → (a || b) ≡ false → (a ≡ false) × (b ≡ false)
neither true b e = cc
neither false b e = (refl, e)

filtered_one : {X : Type 0} (p : X → Bool) (x : X) (rest : List X) (b : Bool) → p x ≡ false → list_any p rest ≡ false → list_any p (cond b (x ∷ rest) rest) ≡ false
filtered_one p x rest true is none = ap (λ a. a || list_any p rest) is ∙ none
filtered_one p x rest false is none = none

none_filtered : {X : Type 0} (p t : X → Bool) (xs : List X) → list_any p xs ≡ false → list_any p (filter t xs) ≡ false
none_filtered p t [] e = refl
none_filtered p t (x ∷ xs) e = let both = neither (p x) (list_any p xs) e in filtered_one p x (filter t xs) (t x) both.0 (none_filtered p t xs both.1)

absent_of : (a b : Bool) → (a ≡ true → b ≡ true) → b ≡ false → a ≡ false
absent_of true b so isnt = let both = sym (so refl) ∙ isnt in cc
absent_of false b so isnt = refl

none_so : {X : Type 0} (p q : X → Bool) → ((x : X) → p x ≡ true → q x ≡ true) → (xs : List X) → list_any q xs ≡ false → list_any p xs ≡ false
none_so p q so [] e = refl
none_so p q so (x ∷ xs) e =
    let both = neither (q x) (list_any q xs) e in
    ap (λ a. a || list_any p xs) (absent_of (p x) (q x) (so x) both.0) ∙ none_so p q so xs both.1

-- ---- the action of each component, if no feature is installed after the run

abbrev pub gone_or_none : Bool → Option Action
gone_or_none b = cond b (Some MakeAbsent) None

module _ (rows : Rows) (L : Lookups) (recorded : Option (List Text)) (level : ℕ) (present : ComponentRow → Bool) (none : list_any (is_local_after rows L recorded level) rows.feature ≡ false) where
  not_wanted : (c : ComponentRow) → is_wanted rows L (request_of rows L recorded level) (is_local_after rows L recorded level) present c ≡ false
  not_wanted c = none_filtered (is_local_after rows L recorded level) (λ (f : FeatureRow). is_among f.feature (features_of rows c.component)) rows.feature none

  not_asked : (c : ComponentRow) → is_asked_for rows L (request_of rows L recorded level) (is_local_after rows L recorded level) present c ≡ false
  not_asked c =
      none_so (λ f. asks rows L (request_of rows L recorded level) (is_local_after rows L recorded level) present c (request_of rows L recorded level f)) (is_local_after rows L recorded level)
      (λ f asked. asked_after rows L recorded level f c (request_of rows L recorded level f) refl asked)
      (owners_of rows c) (not_wanted c)

  by_tests : (e i p asked wanted : Bool) → asked ≡ false → wanted ≡ false → cond (e && asked) (Some MakeLocal) (cond (i && p && not wanted) (Some MakeAbsent) None) ≡ gone_or_none (i && p)
  by_tests true true true false false a w = refl
  by_tests true true false false false a w = refl
  by_tests true false p false false a w = refl
  by_tests false true true false false a w = refl
  by_tests false true false false false a w = refl
  by_tests false false p false false a w = refl
  by_tests e i p true wanted a w = cc
  by_tests e i p false true a w = cc

  pub action_gone : (c : ComponentRow) → action_of rows L (request_of rows L recorded level) (is_local_after rows L recorded level) present c ≡ gone_or_none (has_id c && present c)
  unfolding action_of
  action_gone c = by_tests (is_enabled rows L (request_of rows L recorded level) (is_local_after rows L recorded level) present c) (has_id c) (present c) _ _ (not_asked c) (not_wanted c)
