-- What becomes of features by their lines.
use Rattle.std.proofs.Common.{◌≡◌, ℕ, zero, suc, ◌+◌, ◌<◌, ◌&&◌, ◌||◌, not, Bool, true, false, List, [], ◌∷◌, ◌++◌, length, map, take, get_or, Option, Some, None, refl, sym, ap, ◌∙◌, arith, add-one}
use Rattle.std.specs.Prelude.{slice_get, codes, Result, Ok, Err}
use Rattle.mi_base.specs.declared.answers.Fault.{Fault}
use Rattle.mi_fver.specs.declared.mode.Mode.{Mode}
use Rattle.mi_model.specs.FeatureLists.{lists_fault}
use Rattle.mi_model.specs.Refusals.{◌>>=◌, unless}
use Rattle.mi_model.specs.Selecting.{setting, install_level_of, reinstall_mode_of}
use Rattle.mi_text.specs.Lookups.{Lookups}
use Rattle.mi_schema.specs.declared.typed_rows.FeatureRow.{FeatureRow}
use Rattle.mi_schema.specs.TableRows.{Rows}
use Rattle.mi_model.specs.World as world
use Rattle.mi_model.specs.Texts.{Text}
use Rattle.mi_model.specs.Features as features
use Rattle.mi_wishes.specs.declared.choice.FeatureChoice.{FeatureChoice}
use Rattle.mi_wishes.specs.declared.choice.Request.{Request}
use Rattle.mi_wishes.specs.declared.own.Line.{Line}
use Rattle.mi_wishes.specs.declared.wishes.Wishes.{Wishes}
use Rattle.mi_wishes.specs.Choices.{told}
use Rattle.mi_wishes.specs.Lines.{line_to}
use Rattle.mi_features.specs.Requests.{is_kept_local, choice_kept, choice_to, requested}
use Rattle.mi_wishes.specs.Wishes.{AreWishes}
use Rattle.mi_wishes.proofs.ChainLemmas.{get-there}
use Rattle.mi_wishes.proofs.LineLemmas.{get_or_from}

pub with_local : (r : Option Request) (a b : Bool) → a ≡ b → ◌≡◌ {A = FeatureChoice} (record { request = r; local_after = a }) (record { request = r; local_after = b })
with_local r a b e = λ i. record { request = r; local_after = e i }

pub and_all : (r : Bool) → r ≡ (r && true)
and_all true = refl
and_all false = refl

pub and_none : (r : Bool) → false ≡ (r && false)
and_none true = refl
and_none false = refl

module _ (rows : Rows) (L : Lookups) (recorded : Option (List Text)) (level : ℕ) where
  local-kept : (o : Option world.Request) (r : Bool) → is_kept_local (told o) r ≡ (features.is_local rows L recorded level o || (r && not (features.is_absent rows L recorded level o)))
  local-kept None r = and_all r
  local-kept (Some world.Local) r = refl
  local-kept (Some world.Absent) r = and_none r
  local-kept (Some world.Reinstall) r = and_all r

  choice-kept : (w : Wishes) → AreWishes rows L recorded level w → (f : FeatureRow) → choice_kept w (line_to rows L recorded level f) f ≡ choice_to rows L recorded level f
  unfolding line_to features.is_local_after
  choice-kept w are f = with_local (told (features.request_of rows L recorded level f)) _ _ (
      ap (is_kept_local (told (features.request_of rows L recorded level f))) (are.recorded f.feature)
      ∙ local-kept (features.request_of rows L recorded level f) (features.is_recorded_feature rows L recorded level f))

  taken_more : {A B : Type 0} (f : A → B) (xs : List A) (k : ℕ) (x : A) → slice_get xs k ≡ Some x → map f (take (suc k) xs) ≡ map f (take k xs) ++ f x ∷ []
  taken_more f [] k x e = cc
  taken_more f (y ∷ xs) zero x e = let same : y ≡ x = cc in ap (λ z. f z ∷ []) same
  taken_more f (y ∷ xs) (suc k) x e = ap (λ l. f y ∷ l) (taken_more f xs k x e)

  -- one choice more
  pub choice_more : (w : Wishes) → AreWishes rows L recorded level w → (lines : List Line) (k : ℕ) (made new : List FeatureChoice) (v : FeatureChoice) (d : Line) → k < length rows.feature
      → ((f : FeatureRow) → slice_get rows.feature k ≡ Some f → slice_get lines k ≡ Some (line_to rows L recorded level f))
      → ((f : FeatureRow) → slice_get rows.feature k ≡ Some f → v ≡ choice_kept w (get_or lines k d) f)
      → new ≡ made ++ v ∷ [] → made ≡ map (choice_to rows L recorded level) (take k rows.feature) → new ≡ map (choice_to rows L recorded level) (take (k + 1) rows.feature)
  choice_more w are lines k made new v d lt line kept is so =
      let f = get-there rows.feature k lt in
      let here : v ≡ choice_to rows L recorded level f.0 = kept f.0 f.1 ∙ ap (λ (l : Line). choice_kept w l f.0) (get_or_from lines k (line_to rows L recorded level f.0) d (line f.0 f.1)) ∙ choice-kept w are f.0 in
      is ∙ ap (λ (l : List FeatureChoice). l ++ v ∷ []) so ∙ ap (λ (c : FeatureChoice). map (choice_to rows L recorded level) (take k rows.feature) ++ c ∷ []) here
      ∙ sym (taken_more (choice_to rows L recorded level) rows.feature k f.0 f.1) ∙ ap (λ n. map (choice_to rows L recorded level) (take n rows.feature)) (sym (add-one k))

pub taken_all : {A : Type 0} (xs : List A) (n : ℕ) → n ≡ length xs → take n xs ≡ xs
taken_all [] zero e = refl
taken_all [] (suc n) e = absurd (omega arith)
taken_all (x ∷ xs) zero e = absurd (omega arith)
taken_all (x ∷ xs) (suc n) e = ap (λ l. x ∷ l) (taken_all xs n (omega arith))

-- the answer where nothing is refused
pub requested_is : (rows : Rows) (L : Lookups) (recorded : Option (List Text)) (level : ℕ) (mode : Mode) (made : List FeatureChoice)
    → setting install_level_of L (codes "INSTALLLEVEL") ≡ Ok level → setting reinstall_mode_of L (codes "REINSTALLMODE") ≡ Ok mode → lists_fault rows L ≡ None → made ≡ map (choice_to rows L recorded level) rows.feature
    → requested rows L recorded ≡ Ok (made, mode)
requested_is rows L recorded level mode made at_level at_mode none is =
    ap (λ (r : Result ℕ Fault). r >>= λ (l : ℕ). setting reinstall_mode_of L (codes "REINSTALLMODE") >>= λ (m : Mode). unless (lists_fault rows L) (Ok (map (choice_to rows L recorded l) rows.feature, m))) at_level
    ∙ ap (λ (r : Result Mode Fault). r >>= λ (m : Mode). unless (lists_fault rows L) (Ok (map (choice_to rows L recorded level) rows.feature, m))) at_mode
    ∙ ap (λ (o : Option Fault). unless o (Ok (map (choice_to rows L recorded level) rows.feature, mode))) none
    ∙ ap (λ (l : List FeatureChoice). Ok (l, mode)) (sym is)

abbrev pub answered : Rows → Lookups → Option (List Text) → Result ℕ Fault → Result Mode Fault → Option Fault → Result (List FeatureChoice × Mode) Fault
answered rows L recorded a b o = do
  level ← a
  mode ← b
  unless o (Ok (map (choice_to rows L recorded level) rows.feature, mode))

-- what stands behind an answer
pub requested_says : (rows : Rows) (L : Lookups) (recorded : Option (List Text)) (made : List FeatureChoice) (mode : Mode) → requested rows L recorded ≡ Ok (made, mode)
    → (level : ℕ) × (setting install_level_of L (codes "INSTALLLEVEL") ≡ Ok level) × (setting reinstall_mode_of L (codes "REINSTALLMODE") ≡ Ok mode) × (lists_fault rows L ≡ None) × (made ≡ map (choice_to rows L recorded level) rows.feature)
requested_says rows L recorded made mode is = by (setting install_level_of L (codes "INSTALLLEVEL")) refl (setting reinstall_mode_of L (codes "REINSTALLMODE")) refl (lists_fault rows L) refl is
  where
    by : (a : Result ℕ Fault) → setting install_level_of L (codes "INSTALLLEVEL") ≡ a → (b : Result Mode Fault) → setting reinstall_mode_of L (codes "REINSTALLMODE") ≡ b → (o : Option Fault) → lists_fault rows L ≡ o
        → answered rows L recorded a b o ≡ Ok (made, mode)
        → (level : ℕ) × (setting install_level_of L (codes "INSTALLLEVEL") ≡ Ok level) × (setting reinstall_mode_of L (codes "REINSTALLMODE") ≡ Ok mode) × (lists_fault rows L ≡ None) × (made ≡ map (choice_to rows L recorded level) rows.feature)
    by (Err f) at_level b at_mode o none e = cc
    by (Ok level) at_level (Err f) at_mode o none e = cc
    by (Ok level) at_level (Ok m) at_mode (Some f) none e = cc
    by (Ok level) at_level (Ok m) at_mode None none e =
        let same : (map (choice_to rows L recorded level) rows.feature, m) ≡ (made, mode) = cc in
        (level, at_level, at_mode ∙ ap (λ (p : List FeatureChoice × Mode). Ok p.1) same, none, sym (ap (λ (p : List FeatureChoice × Mode). p.0) same))
