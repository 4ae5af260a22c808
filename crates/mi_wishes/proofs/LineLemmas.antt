-- What is said of a feature with its ancestors.
use Rattle.std.proofs.Common.{◌≡◌, ℕ, zero, suc, ◌<◌, ◌+◌, eqb, ◌&&◌, ◌||◌, not, Bool, true, false, List, [], ◌∷◌, length, map, Option, Some, None, refl, sym, ap, subst, ◌∙◌, arith, inl, inr, pos, ℤ, get_or, set, ◌≤◌, take, drop, ◌++◌}
use Rattle.std.specs.Prelude.{slice_get, slice_index, option_and_then, unwrap_or, codes, is_none, int_lt, int_le, if◌then◌else◌}
use Rattle.std.specs.List.{list_any, list_all}
use Rattle.std.specs.Ordering.{int_eq}
use Rattle.std.proofs.lemmas.Bool.{cases_Bool, eqb-true}
use Rattle.std.proofs.lemmas.List.{length-map}
use Rattle.mi_dirs.specs.Order.{parent_in, IsOrder}
use Rattle.mi_schema.proofs.CheckLemmas.{are_rows}
use Rattle.mi_wishes.specs.Chains.{parents_in}
use Rattle.mi_wishes.proofs.MarkLemmas.{get-set_same, get-set_other, not_eqb, earlier_place, get_any}
use Rattle.mi_text.specs.Maps.{same_name}
use Rattle.mi_text.specs.Lookups.{Lookups}
use Rattle.mi_text.proofs.MapLemmas.{from_same, same_itself}
use Rattle.mi_dirs.specs.Chains.{ends_in, root_or}
use Rattle.mi_schema.specs.declared.typed_rows.FeatureRow.{FeatureRow}
use Rattle.mi_schema.specs.TableRows.{Rows}
use Rattle.mi_model.specs.World as world
use Rattle.mi_model.specs.Texts.{Text}
use Rattle.mi_model.specs.FeatureLists.{is_listed, line_of, is_in_line}
use Rattle.mi_model.specs.Features as features
use Rattle.mi_wishes.specs.declared.choice.Request.{Request}
use Rattle.mi_wishes.specs.declared.choice.Request.TheVariants as request
use Rattle.mi_wishes.specs.declared.own.Own.{Own}
use Rattle.mi_wishes.specs.declared.own.Line.{Line}
use Rattle.mi_wishes.specs.declared.list.FeatureList.{FeatureList}
use Rattle.mi_wishes.specs.declared.wishes.Wishes.{Wishes}
use Rattle.mi_wishes.specs.Brought.{is_bringing, brings, is_brought}
use Rattle.mi_wishes.specs.Choices.{told}
use Rattle.mi_wishes.specs.Kept.{level_kept, names_kept, own_kept, line_above, line_kept, AreBrought}
use Rattle.mi_wishes.specs.Levels.{greatest, levels_in}
use Rattle.mi_wishes.specs.Lines as lines
use Rattle.mi_wishes.specs.Lines.{no_line, line_below, own_of, is_first, line_to, parent_row, line_up}
use Rattle.mi_wishes.specs.Lists.{IsList, none_is_set}
use Rattle.mi_wishes.specs.declared.lines.Brought.{Brought}
use Rattle.mi_model.specs.Conditions.{has}
use Rattle.mi_wishes.specs.Marks.{is_marked, climbed, IsMarkedUp}
use Rattle.mi_wishes.specs.Wishes.{AreWishes}
use Rattle.mi_wishes.proofs.ChainLemmas.{up, HasOwnKeys, line_step, order_rows, parent_row-up, get-below, get-there, get-map}

pub same_tests : (a b : Bool) → (a ≡ true → b ≡ true) → (b ≡ true → a ≡ true) → a ≡ b
same_tests true b f g = sym (f refl)
same_tests false true f g = g refl
same_tests false false f g = refl

pub or_true : (a b : Bool) → b ≡ true → (a || b) ≡ true
or_true true b e = refl
or_true false b e = e

pub and_both : (a b : Bool) → a ≡ true → b ≡ true → (a && b) ≡ true
and_both true b e f = f
and_both false b e f = e

pub and_left : (a b : Bool) → (a && b) ≡ true → a ≡ true
and_left true b e = refl
and_left false b e = e

pub and_right : (a b : Bool) → (a && b) ≡ true → b ≡ true
and_right true b e = e
and_right false b e = cc

pub any_there : {A : Type 0} (p : A → Bool) (xs : List A) (k : ℕ) (x : A) → slice_get xs k ≡ Some x → p x ≡ true → list_any p xs ≡ true
any_there p [] k x e h = cc
any_there p (y ∷ xs) zero x e h = let same : y ≡ x = cc in ap (λ z. p z || list_any p xs) same ∙ ap (λ b. b || list_any p xs) h
any_there p (y ∷ xs) (suc k) x e h = or_true (p y) (list_any p xs) (any_there p xs k x e h)

pub any_at : {A : Type 0} (p : A → Bool) (xs : List A) → list_any p xs ≡ true → (k : ℕ) × (x : A) × (slice_get xs k ≡ Some x) × (p x ≡ true)
any_at p [] e = cc
any_at p (x ∷ xs) e = elim (cases_Bool (p x)) [
  | inl on ↦ (0, x, refl, on)
  | inr off ↦ let rest = any_at p xs (sym (ap (λ b. b || list_any p xs) off) ∙ e) in (suc rest.0, rest.1, rest.2, rest.3)
]

-- ---- equal by their parts

line_parts : (a b : Line) → a.removed ≡ b.removed → a.within ≡ b.within → a.request ≡ b.request → a ≡ b
line_parts a b e f g = λ i. record { removed = e i; within = f i; request = g i }

own_parts : (a b : Own) → a.removed ≡ b.removed → a.added_local ≡ b.added_local → a.added_default ≡ b.added_default → a.reinstalled ≡ b.reinstalled → a.within ≡ b.within → a.follows ≡ b.follows → a ≡ b
own_parts a b e f g h i j = λ k. record { removed = e k; added_local = f k; added_default = g k; reinstalled = h k; within = i k; follows = j k }

-- ---- levels

greatest_or-greatest : (z : ℤ) (ns : List ℤ) → features.greatest_or z ns ≡ unwrap_or (greatest ns) z
greatest_or-greatest z [] = refl
greatest_or-greatest z (n ∷ ns) = refl

module _ (rows : Rows) (L : Lookups) (recorded : Option (List Text)) (level : ℕ) where
  pub level-kept : (w : Wishes) → AreWishes rows L recorded level w → (f : FeatureRow) → level_kept w f ≡ features.level_of rows L recorded level f
  level-kept w are f = ap (λ o. unwrap_or o f.level) (are.levels f.feature) ∙ sym (greatest_or-greatest f.level (levels_in L f.feature rows.condition))

  pub bringing-kept : (w : Wishes) → AreWishes rows L recorded level w → (text : Text) (l : FeatureList) → IsList text l → (f : FeatureRow) → is_bringing w l f ≡ brings rows L recorded level text f
  bringing-kept w are text l is f =
      ap (λ b. b && not (int_eq (level_kept w f) (pos 0))) (is f.feature) ∙ ap (λ z. is_listed text f && not (int_eq z (pos 0))) (level-kept w are f)

  -- ---- which features a list brings

  module _ (own : HasOwnKeys (λ (r : FeatureRow). r.feature) rows.feature) (ends : (k : ℕ) → k < length rows.feature → ends_in (up rows.feature) (length rows.feature) k ≡ true) (are : (k p : ℕ) → up rows.feature k ≡ Some p → p < length rows.feature) where
    step : (k : ℕ) (g : FeatureRow) → slice_get rows.feature k ≡ Some g → line_of rows g ≡ g ∷ line_up rows (parent_row rows g)
    step k g at = line_step rows k g at (ends k (get-below rows.feature k g at))

    -- a feature is in the line of each below it
    climbs_in : (n k place : ℕ) (g f : FeatureRow) → slice_get rows.feature k ≡ Some g → slice_get rows.feature place ≡ Some f → climbed (up rows.feature) n k ≡ Some place → is_in_line f (line_of rows g) ≡ true
    climbs_in zero k place g f at there e =
        let same : k ≡ place = cc in
        let one : Some g ≡ Some f = sym at ∙ ap (slice_get rows.feature) same ∙ there in
        let is : g ≡ f = cc in
        ap (is_in_line f) (step k g at) ∙ ap (λ (h : FeatureRow). same_name f.feature h.feature || is_in_line f (line_up rows (parent_row rows g))) is ∙ ap (λ b. b || is_in_line f (line_up rows (parent_row rows g))) (same_itself f.feature)
    climbs_in (suc n) k place g f at there e =
        ap (is_in_line f) (step k g at)
        ∙ or_true (same_name f.feature g.feature) (is_in_line f (line_up rows (parent_row rows g)))
        (ap (λ o. is_in_line f (line_up rows o)) (parent_row-up rows k g at) ∙ by (λ p h a c. climbs_in n p place h f a there c) (up rows.feature k) refl e)
      where
        there_is : (p : ℕ) → ((h : FeatureRow) → slice_get rows.feature p ≡ Some h → is_in_line f (line_of rows h) ≡ true) → p < length rows.feature → is_in_line f (line_up rows (slice_get rows.feature p)) ≡ true
        there_is p h lt = let x = get-there rows.feature p lt in ap (λ o. is_in_line f (line_up rows o)) x.1 ∙ h x.0 x.1

        by : ((p : ℕ) (h : FeatureRow) → slice_get rows.feature p ≡ Some h → climbed (up rows.feature) n p ≡ Some place → is_in_line f (line_of rows h) ≡ true)
            → (o : Option ℕ) → up rows.feature k ≡ o → option_and_then (climbed (up rows.feature) n) o ≡ Some place → is_in_line f (line_up rows (option_and_then (slice_get rows.feature) o)) ≡ true
        by h None is e = cc
        by h (Some p) is e = there_is p (λ x a. h p x a e) (are k p is)

    -- marks that have risen to parents have risen along lines
    marks_in : (marks : List Bool) → ((k p : ℕ) → k < length rows.feature → is_marked marks k ≡ true → up rows.feature k ≡ Some p → is_marked marks p ≡ true)
        → (m k place : ℕ) (g f : FeatureRow) → ends_in (up rows.feature) m k ≡ true → slice_get rows.feature k ≡ Some g → slice_get rows.feature place ≡ Some f → is_marked marks k ≡ true → is_in_line f (line_of rows g) ≡ true → is_marked marks place ≡ true
    marks_in marks rise zero k place g f end at there on e = cc
    marks_in marks rise (suc m) k place g f end at there on e = elim (cases_Bool (same_name f.feature g.feature)) [
      | inl same ↦ subst (λ (n : ℕ). is_marked marks n ≡ true) (own k place g f at there (sym (from_same f.feature g.feature same))) on
      | inr other ↦
          let behind : is_in_line f (line_up rows (option_and_then (slice_get rows.feature) (up rows.feature k))) ≡ true =
          sym (ap (λ o. is_in_line f (line_up rows o)) (parent_row-up rows k g at)) ∙ sym (ap (λ b. b || is_in_line f (line_up rows (parent_row rows g))) other) ∙ sym (ap (is_in_line f) (step k g at)) ∙ e in
          by (λ p h end at on e. marks_in marks rise m p place h f end at there on e) (up rows.feature k) refl end behind
    ]
      where
        by : ((p : ℕ) (h : FeatureRow) → ends_in (up rows.feature) m p ≡ true → slice_get rows.feature p ≡ Some h → is_marked marks p ≡ true → is_in_line f (line_of rows h) ≡ true → is_marked marks place ≡ true)
            → (o : Option ℕ) → up rows.feature k ≡ o → root_or (ends_in (up rows.feature) m) o ≡ true → is_in_line f (line_up rows (option_and_then (slice_get rows.feature) o)) ≡ true → is_marked marks place ≡ true
        by h None is end e = cc
        by h (Some p) is end e =
            let x = get-there rows.feature p (are k p is) in
            h p x.0 end x.1 (rise k p (get-below rows.feature k g at) on is) (sym (ap (λ o. is_in_line f (line_up rows o)) x.1) ∙ e)

    mapped_mark : (p : FeatureRow → Bool) (xs : List FeatureRow) (k : ℕ) → is_marked (map p xs) k ≡ true → (g : FeatureRow) × (slice_get xs k ≡ Some g) × (p g ≡ true)
    mapped_mark p [] k e = cc
    mapped_mark p (x ∷ xs) zero e = (x, refl, e)
    mapped_mark p (x ∷ xs) (suc k) e = mapped_mark p xs k e

    mapped_on : (p : FeatureRow → Bool) (xs : List FeatureRow) (k : ℕ) (g : FeatureRow) → slice_get xs k ≡ Some g → p g ≡ true → is_marked (map p xs) k ≡ true
    mapped_on p xs k g at e = ap (λ o. unwrap_or o false) (get-map p xs k g at) ∙ e

    pub brought-marks : (w : Wishes) (text : Text) (l : FeatureList) (marks : List Bool) → AreWishes rows L recorded level w → IsList text l → IsMarkedUp (up rows.feature) (length rows.feature) (map (is_bringing w l) rows.feature) marks
        → (place : ℕ) (f : FeatureRow) → slice_get rows.feature place ≡ Some f → is_marked marks place ≡ is_brought rows L recorded level text f
    brought-marks w text l marks are_w is m place f there = same_tests (is_marked marks place) (is_brought rows L recorded level text f) there_on here_on
      where
        test : FeatureRow → Bool
        test g = brings rows L recorded level text g && is_in_line f (line_of rows g)

        there_on : is_marked marks place ≡ true → is_brought rows L recorded level text f ≡ true
        there_on on =
            let from = m.only place on in
            let g = mapped_mark (is_bringing w l) rows.feature from.0 from.2 in
            any_there test rows.feature from.0 g.0 g.1 (and_both (brings rows L recorded level text g.0) (is_in_line f (line_of rows g.0)) (sym (bringing-kept w are_w text l is g.0) ∙ g.2) (climbs_in from.1 from.0 place g.0 f g.1 there from.3))

        here_on : is_brought rows L recorded level text f ≡ true → is_marked marks place ≡ true
        here_on e =
            let at = any_at test rows.feature e in
            let on = m.kept at.0 (mapped_on (is_bringing w l) rows.feature at.0 at.1 at.2 (bringing-kept w are_w text l is at.1 ∙ and_left (brings rows L recorded level text at.1) (is_in_line f (line_of rows at.1)) at.3)) in
            marks_in marks m.up (length rows.feature) at.0 place at.1 f (ends at.0 (get-below rows.feature at.0 at.1 at.2)) at.2 there on (and_right (brings rows L recorded level text at.1) (is_in_line f (line_of rows at.1)) at.3)

  -- ---- lines

  abbrev pub facts_in : List FeatureRow → Line
  facts_in line = record {
    removed = list_any (is_listed (L.property (codes "REMOVE"))) line;
    within = list_all (features.is_within_level rows L recorded level) line;
    request = told (features.request_in rows L recorded level line);
  }

  line-facts : (f : FeatureRow) → line_to rows L recorded level f ≡ facts_in (line_of rows f)
  unfolding line_to features.request_of
  line-facts f = refl

  lists-told : (a d r n m : Bool)
      → told (if is_none (if d then Some world.Local else if r then Some world.Absent else if a then Some world.Local else None) && n && m then Some world.Reinstall else (if d then Some world.Local else if r then Some world.Absent else if a then Some world.Local else None))
      ≡ (if d then Some request.Local else if r then Some request.Absent else if a then Some request.Local else if n && m then Some request.Reinstall else None)
  lists-told a true r n m = refl
  lists-told a false true n m = refl
  lists-told true false false n m = refl
  lists-told false false false true true = refl
  lists-told false false false true false = refl
  lists-told false false false false m = refl

  by_lists-told : (f : FeatureRow) → told (features.by_lists rows L recorded level f) ≡ lines.by_lists (own_of rows L recorded level f) (features.is_removed rows L recorded level (L.property (codes "REMOVE")) f)
  by_lists-told f = lists-told (features.is_added rows L recorded level (L.property (codes "ADDLOCAL")) f) (features.is_added rows L recorded level (L.property (codes "ADDDEFAULT")) f) (features.is_removed rows L recorded level (L.property (codes "REMOVE")) f)
      (features.is_recorded_feature rows L recorded level f) (is_listed (L.property (codes "REINSTALL")) f)

  asked-told : (first within : Bool) (all : Bool) (f : FeatureRow) (o : Option Request) → all ≡ within → told (features.by_lists rows L recorded level f) ≡ o → told (if first && all then Some world.Local else features.by_lists rows L recorded level f) ≡ (if first && within then Some request.Local else o)
  asked-told first within all f o same e = ap (λ b. told (if first && b then Some world.Local else features.by_lists rows L recorded level f)) same ∙ by (first && within)
    where
      by : (b : Bool) → told (if b then Some world.Local else features.by_lists rows L recorded level f) ≡ (if b then Some request.Local else o)
      by true = refl
      by false = e

  followed-told : (follows : Bool) (own above : Option world.Request) (o : Option Request) → told own ≡ o → told (if follows then features.followed_or rows L recorded level own above else own) ≡ (if follows then lines.followed o (told above) else o)
  followed-told true own None o e = e
  followed-told true own (Some world.Local) o e = refl
  followed-told true own (Some world.Absent) o e = refl
  followed-told true own (Some world.Reinstall) o e = e
  followed-told false own above o e = e

  -- a line below a line
  pub line-below : (f : FeatureRow) (above : List FeatureRow) → line_of rows f ≡ f ∷ above → line_to rows L recorded level f ≡ line_below (is_first rows L recorded level) (own_of rows L recorded level f) (facts_in above)
  line-below f above e = line-facts f ∙ ap facts_in e ∙ line_parts _ _ refl refl (
      followed-told (features.follows rows L recorded level f) (features.own_request rows L recorded level f) (features.request_in rows L recorded level above) _
      (asked-told (is_first rows L recorded level) _ (list_all (features.is_within_level rows L recorded level) (line_of rows f)) f _ (ap (list_all (features.is_within_level rows L recorded level)) e)
      (by_lists-told f ∙ ap (lines.by_lists (own_of rows L recorded level f)) (ap (list_any (is_listed (L.property (codes "REMOVE")))) e))))

pub line_same : (w : Wishes) (b : Brought) (place : ℕ) (above : Line) (r f : FeatureRow) (local by_default : Bool) → r ≡ f → is_marked b.local.items place ≡ local → is_marked b.by_default.items place ≡ by_default
    → line_below (w.lists.none && w.is_new) (own_kept w r local by_default) above ≡ line_kept w b place above f
line_same w b place above r f local by_default same l d =
    ap (λ (x : FeatureRow). line_below (w.lists.none && w.is_new) (own_kept w x local by_default) above) same
    ∙ ap (λ x. line_below (w.lists.none && w.is_new) (own_kept w f x by_default) above) (sym l)
    ∙ ap (λ x. line_below (w.lists.none && w.is_new) (own_kept w f (is_marked b.local.items place) x) above) (sym d)

-- ---- what is kept of a feature is what is said of it

swapped : (a b : Bool) → (a && b) ≡ (b && a)
swapped true true = refl
swapped true false = refl
swapped false true = refl
swapped false false = refl

module _ (rows : Rows) (L : Lookups) (recorded : Option (List Text)) (level : ℕ) (w : Wishes) (b : Brought) (are : AreWishes rows L recorded level w) (brought : AreBrought rows L recorded level b) where
  pub own-kept : (place : ℕ) (f : FeatureRow) → slice_get rows.feature place ≡ Some f → own_kept w f (is_marked b.local.items place) (is_marked b.by_default.items place) ≡ own_of rows L recorded level f
  own-kept place f at =
      let z : level_kept w f ≡ features.level_of rows L recorded level f = level-kept rows L recorded level w are f in
      own_parts _ _
      (are.lists.remove f.feature)
      (ap (λ (x : ℤ). not (int_eq x (pos 0)) && is_marked b.local.items place) z ∙ ap (λ x. not (int_eq (features.level_of rows L recorded level f) (pos 0)) && x) (brought.local place f at))
      (ap (λ (x : ℤ). not (int_eq x (pos 0)) && is_marked b.by_default.items place) z ∙ ap (λ x. not (int_eq (features.level_of rows L recorded level f) (pos 0)) && x) (brought.by_default place f at))
      (ap (λ x. x && names_kept w.lists.reinstall f) (are.recorded f.feature) ∙ ap (λ x. features.is_recorded_feature rows L recorded level f && x) (are.lists.reinstall f.feature))
      (ap (λ (x : ℤ). int_lt (pos 0) x && int_le x (pos w.install_level)) z ∙ ap (λ n. int_lt (pos 0) (features.level_of rows L recorded level f) && int_le (features.level_of rows L recorded level f) (pos n)) are.install_level)
      (ap (λ (x : ℤ). has 2 f.attributes && not (int_eq x (pos 0))) z)

  first-kept : (w.lists.none && w.is_new) ≡ is_first rows L recorded level
  first-kept = ap (λ x. x && w.is_new) are.lists.none ∙ ap (λ x. none_is_set L && x) are.is_new

  -- the line of a feature by the line of its parent
  pub line-kept : (place : ℕ) (f : FeatureRow) (above : Line) (up : List FeatureRow) → slice_get rows.feature place ≡ Some f → line_of rows f ≡ f ∷ up → above ≡ facts_in rows L recorded level up → line_kept w b place above f ≡ line_to rows L recorded level f
  line-kept place f above up at line is =
      ap (λ x. line_below x (own_kept w f (is_marked b.local.items place) (is_marked b.by_default.items place)) above) first-kept
      ∙ ap (λ (x : Own). line_below (is_first rows L recorded level) x above) (own-kept place f at)
      ∙ ap (λ (x : Line). line_below (is_first rows L recorded level) (own_of rows L recorded level f) x) is
      ∙ sym (line-below rows L recorded level f up line)

pub get_or_from : {A : Type 0} (xs : List A) (p : ℕ) (x d : A) → slice_get xs p ≡ Some x → get_or xs p d ≡ x
get_or_from [] p x d e = cc
get_or_from (y ∷ xs) zero x d e = let same : y ≡ x = cc in same
get_or_from (y ∷ xs) (suc p) x d e = get_or_from xs p x d e

-- the lines of these places of an order are there
pub record AreLines (rows : Rows) (L : Lookups) (recorded : Option (List Text)) (level : ℕ) (order : List ℕ) (upto : ℕ) (table : List Line) : Type 0 where
  pub at : (k : ℕ) (f : FeatureRow) → k < upto → slice_get rows.feature (slice_index order k) ≡ Some f → slice_get table (slice_index order k) ≡ Some (line_to rows L recorded level f)

module _ (rows : Rows) (L : Lookups) (recorded : Option (List Text)) (level : ℕ) where
  pub no_lines : (order : List ℕ) (table : List Line) → AreLines rows L recorded level order 0 table
  no_lines order table = record { at = λ k f lt at. absurd (omega arith) }

  lines_more : (order : List ℕ) (i : ℕ) (table : List Line) (v : Line) → AreLines rows L recorded level order i table → slice_index order i < length table
      → ((f : FeatureRow) → slice_get rows.feature (slice_index order i) ≡ Some f → v ≡ line_to rows L recorded level f) → AreLines rows L recorded level order (i + 1) (set table (slice_index order i) v)
  lines_more order i table v are lt right = record {
    at = λ k f below at. elim (cases_Bool (eqb (slice_index order k) (slice_index order i))) [
      | inl on ↦
          let same : slice_index order k ≡ slice_index order i = eqb-true (slice_index order k) (slice_index order i) on in
          ap (slice_get (set table (slice_index order i) v)) same ∙ get-set_same table (slice_index order i) v lt ∙ ap Some (right f (ap (slice_get rows.feature) (sym same) ∙ at))
      | inr off ↦
          let other = not_eqb (slice_index order k) (slice_index order i) off in
          get-set_other table (slice_index order i) (slice_index order k) v other ∙ are.at k f (earlier k other below) at
    ];
  }
    where
      earlier : (k : ℕ) → (slice_index order k ≡ slice_index order i → ⊥) → k < i + 1 → k < i
      earlier k other below = elim (cases_Bool (eqb k i)) [
        | inl on ↦ absurd (other (ap (slice_index order) (eqb-true k i on)))
        | inr off ↦ let ne = not_eqb k i off in omega (arith, ne, below)
      ]

  module _ (parents : List (Option ℕ)) (order : List ℕ) (is : parents ≡ parents_in rows.feature) (ordered : IsOrder (parent_in parents) (length parents) order) where
    -- what stands above a row
    above_facts : (i : ℕ) (table : List Line) → i < length order → AreLines rows L recorded level order i table → (o : Option ℕ) → parent_in parents (slice_index order i) ≡ o
        → line_above table o ≡ facts_in rows L recorded level (line_up rows (option_and_then (slice_get rows.feature) o))
    above_facts i table lt are None up_is = refl
    above_facts i table lt are (Some p) up_is =
        let at = earlier_place order i p (ordered.ordered.after i p lt up_is) in
        let same : length parents ≡ length rows.feature = ap length is ∙ length-map rows.feature _ in
        let small : slice_index order at.0 < length parents = ordered.ordered.within at.0 at.2 in
        let below : p < length rows.feature = subst (λ (n : ℕ). n < length rows.feature) at.3 (omega (arith, same, small)) in
        let h = get-there rows.feature p below in
        let there : slice_get table p ≡ Some (line_to rows L recorded level h.0) = ap (slice_get table) (sym at.3) ∙ are.at at.0 h.0 at.1 (ap (slice_get rows.feature) at.3 ∙ h.1) in
        get_or_from table p (line_to rows L recorded level h.0) no_line there ∙ line-facts rows L recorded level h.0 ∙ ap (λ q. facts_in rows L recorded level (line_up rows q)) (sym h.1)

    pub lines_next : (w : Wishes) (b : Brought) → AreWishes rows L recorded level w → AreBrought rows L recorded level b → (i : ℕ) (table : List Line) (above v : Line) (o : Option ℕ) → i < length order
        → AreLines rows L recorded level order i table → slice_index order i < length table → parent_in parents (slice_index order i) ≡ o → above ≡ line_above table o
        → ((f : FeatureRow) → slice_get rows.feature (slice_index order i) ≡ Some f → v ≡ line_kept w b (slice_index order i) above f) → AreLines rows L recorded level order (i + 1) (set table (slice_index order i) v)
    lines_next w b wishes brought i table above v o lt are there up_is above_is made = lines_more order i table v are there (λ f at.
        let r = slice_index order i in
        let below = get-below rows.feature r f at in
        let line = line_step rows r f at (order_rows rows.feature parents order is ordered r below) in
        let upper : line_up rows (parent_row rows f) ≡ line_up rows (option_and_then (slice_get rows.feature) o) =
        ap (line_up rows) (parent_row-up rows r f at ∙ ap (option_and_then (slice_get rows.feature)) (sym (ap (λ (ps : List (Option ℕ)). parent_in ps r) is) ∙ up_is)) in
        made f at ∙ line-kept rows L recorded level w b wishes brought r f above (line_up rows (parent_row rows f)) at line
        (above_is ∙ above_facts i table lt are o up_is ∙ sym (ap (facts_in rows L recorded level) upper)))

    -- all lines
    pub lines_all : (upto : ℕ) (table : List Line) → AreLines rows L recorded level order upto table → length order ≤ upto → (place : ℕ) (f : FeatureRow) → slice_get rows.feature place ≡ Some f → slice_get table place ≡ Some (line_to rows L recorded level f)
    lines_all upto table are le place f at =
        let same : length parents ≡ length rows.feature = ap length is ∙ length-map rows.feature _ in
        let below = get-below rows.feature place f at in
        let c = ordered.whole place (omega (arith, same, below)) in
        let l = c.1 in
        let here : slice_index order c.0 ≡ place = get_any order c.0 0 place c.1 ∙ c.2 in
        ap (slice_get table) (sym here) ∙ are.at c.0 f (omega (arith, l, le)) (ap (slice_get rows.feature) here ∙ at)

-- what is written back over a whole list
pub written_all : {A : Type 0} (items new : List A) (len : ℕ) → len ≡ length items → length new ≡ length items → take len (new ++ drop (length new) items) ≡ new
written_all items new len e f = ap (λ n. take n (new ++ drop (length new) items)) (e ∙ sym f) ∙ taken new (drop (length new) items)
  where
    taken : {A : Type 0} (xs ys : List A) → take (length xs) (xs ++ ys) ≡ xs
    taken [] ys = refl
    taken (x ∷ xs) ys = ap (λ l. x ∷ l) (taken xs ys)

module _ (rows : Rows) (L : Lookups) (recorded : Option (List Text)) (level : ℕ) (parents : List (Option ℕ)) (order : List ℕ) (is : parents ≡ parents_in rows.feature) (ordered : IsOrder (parent_in parents) (length parents) order)
    (own : HasOwnKeys (λ (r : FeatureRow). r.feature) rows.feature) where
  pub brought_all : (w : Wishes) (text : Text) (l : FeatureList) (old marks : List Bool) → AreWishes rows L recorded level w → IsList text l → old ≡ map (is_bringing w l) rows.feature → IsMarkedUp (parent_in parents) (length parents) old marks
      → (place : ℕ) (f : FeatureRow) → slice_get rows.feature place ≡ Some f → is_marked marks place ≡ is_brought rows L recorded level text f
  brought_all w text l old marks wishes list were m place f at =
      let same : length parents ≡ length rows.feature = ap length is ∙ length-map rows.feature _ in
      let one : IsMarkedUp (up rows.feature) (length parents) old marks = subst (λ (ps : List (Option ℕ)). IsMarkedUp (parent_in ps) (length parents) old marks) is m in
      let two : IsMarkedUp (up rows.feature) (length rows.feature) old marks = subst (λ (n : ℕ). IsMarkedUp (up rows.feature) n old marks) same one in
      let three : IsMarkedUp (up rows.feature) (length rows.feature) (map (is_bringing w l) rows.feature) marks = subst (λ (o : List Bool). IsMarkedUp (up rows.feature) (length rows.feature) o marks) were two in
      brought-marks rows L recorded level own (order_rows rows.feature parents order is ordered) rows_below w text l marks wishes list three place f at
    where
      rows_below : (k p : ℕ) → up rows.feature k ≡ Some p → p < length rows.feature
      rows_below k p e =
          let lt : p < length (parents_in rows.feature) = are_rows (λ (r : FeatureRow). r.feature) (λ (r : FeatureRow). r.feature_parent) rows.feature (parents_in rows.feature) refl k p e in
          let long : length (parents_in rows.feature) ≡ length rows.feature = length-map rows.feature _ in
          omega (arith, lt, long)
