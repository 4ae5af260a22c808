-- What is looked up in what is kept of features and components, by their names.
use Rattle.std.proofs.Common.{◌≡◌, ℕ, ◌&&◌, ◌||◌, Bool, true, false, cond, List, [], ◌∷◌, ◌++◌, map, Option, Some, None, refl, sym, ap, ◌∙◌, inl, inr, append_assoc}
use Rattle.std.specs.Prelude.{filter, find, option_map, unwrap_or, String, string_bytes}
use Rattle.std.specs.List.{AllByRecursion, IsDistinct}
use Rattle.std.specs.Map.{lookup, keys_of}
use Rattle.std.specs.Option.{option_map_or, option_flatten}
use Rattle.std.specs.Str.{bytes_eq}
use Rattle.std.specs.String.{string_eq}
use Rattle.std.specs.declared.alloc.Global.{Global}
use Rattle.std.proofs.lemmas.Bool.{cases_Bool}
use Rattle.mi_text.specs.Maps.{Name, same_name, is_among}
use Rattle.mi_text.proofs.MapLemmas.{from_same}
use Rattle.mi_schema.proofs.CheckLemmas.{same_is}
use Rattle.mi_fver.specs.declared.mode.Mode.{Mode}
use Rattle.mi_model.specs.World.{Selection}
use Rattle.mi_model.specs.States.{named}
use Rattle.mi_model.specs.Components.{is_made_local, is_made_absent}
use Rattle.mi_components.specs.declared.component.Action.{Action}
use Rattle.mi_components.specs.declared.component.Action.TheVariants as action
use Rattle.mi_wishes.specs.declared.choice.FeatureChoice.{FeatureChoice}
use Rattle.mi_select.specs.declared.selection.Chosen.{Chosen}
use Rattle.mi_components.specs.Actions.{action_to, as_action, is_local, is_absent}
use Rattle.mi_wishes.specs.Choices.{request_to}
use Rattle.mi_select.specs.Selections.{as_named, names_that, selection_of}

-- a name with what is kept of it
abbrev pub Named : Type 0 → Type 0
Named V = String Global × V

module _ {V : Type 0} where
  -- what a map has at a name
  abbrev kept_at : Name → List (Named V) → Option V
  kept_at q es = lookup (λ (k : String Global). bytes_eq q (string_bytes k)) es

  pub named-kept : {X : Type 0} (q : Name) (f : V → X) (es : List (Named V)) → named q (map (λ e. (e.0, f e.1)) (map as_named es)) ≡ option_map f (kept_at q es)
  named-kept q f [] = refl
  named-kept {X} q f (e ∷ es) =
      ap (λ b. option_map (λ (p : Name × X). p.1) (cond b (Some (string_bytes e.0, f e.1)) rest)) (sym (same_is q (string_bytes e.0)))
      ∙ by (bytes_eq q (string_bytes e.0)) (named-kept q f es)
    where
      rest : Option (Name × X)
      rest = find (λ (p : Name × X). same_name q p.0) (map (λ e. (e.0, f e.1)) (map as_named es))

      by : (b : Bool) → option_map (λ (p : Name × X). p.1) rest ≡ option_map f (kept_at q es) → option_map (λ (p : Name × X). p.1) (cond b (Some (string_bytes e.0, f e.1)) rest) ≡ option_map f (cond b (Some e.1) (kept_at q es))
      by true so = refl
      by false so = so

  -- ---- among the names that pass

  abbrev passing : Name → (V → Bool) → List (Named V) → Bool
  passing q test es = is_among q (names_that test (map as_named es))

  passing_more : (q : Name) (test : V → Bool) (e : Named V) (es : List (Named V)) → passing q test (e ∷ es) ≡ ((test e.1 && bytes_eq q (string_bytes e.0)) || passing q test es)
  passing_more q test e es = by (test e.1) ∙ ap (λ b. (test e.1 && b) || passing q test es) (sym (same_is q (string_bytes e.0)))
    where
      rest : List (Name × V)
      rest = filter (λ e. test e.1) (map as_named es)

      by : (b : Bool) → is_among q (map (λ (e : Name × V). e.0) (cond b (as_named e ∷ rest) rest)) ≡ ((b && same_name q (string_bytes e.0)) || passing q test es)
      by true = refl
      by false = refl

  none_passing : (q : Name) (test : V → Bool) (k : String Global) (es : List (Named V)) → q ≡ string_bytes k → AllByRecursion (λ (y : String Global). string_eq k y ≡ false) (keys_of es) → passing q test es ≡ false
  none_passing q test k [] is all = refl
  none_passing q test k (e ∷ es) is all =
      passing_more q test e es
      ∙ ap (λ b. (test e.1 && b) || passing q test es) (ap (λ (n : Name). bytes_eq n (string_bytes e.0)) is ∙ all.0)
      ∙ by (test e.1)
      ∙ none_passing q test k es is all.1
    where
      by : (b : Bool) → ((b && false) || passing q test es) ≡ passing q test es
      by true = refl
      by false = refl

  -- a name is among those that pass where what is kept at it passes
  pub among-kept : (q : Name) (test : V → Bool) (es : List (Named V)) → IsDistinct string_eq (keys_of es) → is_among q (names_that test (map as_named es)) ≡ option_map_or test (kept_at q es) false
  unfolding IsDistinct
  among-kept q test [] own = refl
  among-kept q test (e ∷ es) own = passing_more q test e es ∙ elim (cases_Bool (bytes_eq q (string_bytes e.0))) [
    | inl on ↦
        ap (λ b. (test e.1 && b) || passing q test es) on
        ∙ ap (λ b. (test e.1 && true) || b) (none_passing q test e.0 es (from_same q (string_bytes e.0) (sym (same_is q (string_bytes e.0)) ∙ on)) own.0)
        ∙ whole (test e.1)
        ∙ sym (ap (λ b. option_map_or test (cond b (Some e.1) (kept_at q es)) false) on)
    | inr off ↦
        ap (λ b. (test e.1 && b) || passing q test es) off
        ∙ rest (test e.1)
        ∙ among-kept q test es own.1
        ∙ sym (ap (λ b. option_map_or test (cond b (Some e.1) (kept_at q es)) false) off)
  ]
    where
      whole : (b : Bool) → ((b && true) || false) ≡ b
      whole true = refl
      whole false = refl

      rest : (b : Bool) → ((b && false) || passing q test es) ≡ passing q test es
      rest true = refl
      rest false = refl

-- ---- a loop over names that pass

module _ {V : Type 0} (test : V → Bool) where
  one_name : (x : Name × V) (xs : List (Name × V)) → names_that test (x ∷ xs) ≡ names_that test (x ∷ []) ++ names_that test xs
  one_name x xs = elim (test x.1) as (λ b. map (λ (e : Name × V). e.0) (cond b (x ∷ filter (λ e. test e.1) xs) (filter (λ e. test e.1) xs)) ≡ map (λ (e : Name × V). e.0) (cond b (x ∷ []) []) ++ names_that test xs) [ true ↦ refl | false ↦ refl ]

  pub names_more : (made new all : List Name) (s t : List (Named V)) (e : Named V) → made ++ names_that test (map as_named s) ≡ all → s ≡ e ∷ t → new ≡ made ++ names_that test (as_named e ∷ []) → new ++ names_that test (map as_named t) ≡ all
  names_more made new all s t e so next is =
      ap (λ (l : List Name). l ++ names_that test (map as_named t)) is
      ∙ append_assoc made (names_that test (as_named e ∷ [])) (names_that test (map as_named t))
      ∙ ap (λ (l : List Name). made ++ l) (sym (one_name (as_named e) (map as_named t)))
      ∙ sym (ap (λ (l : List (Named V)). made ++ names_that test (map as_named l)) next)
      ∙ so

-- ---- what the selection has at a name

module _ (features : List (String Global × FeatureChoice)) (components : List (String Global × Chosen)) (mode : Mode) (s : Selection) (is : selection_of (map as_named features) (map as_named components) mode ≡ s) (q : Name) where
  pub request-kept : (o : Option FeatureChoice) → o ≡ kept_at q features → option_flatten (option_map (λ (f : FeatureChoice). option_map request_to f.request) o) ≡ option_flatten (named q s.requests)
  unfolding selection_of
  request-kept o at =
      ap (λ (o : Option FeatureChoice). option_flatten (option_map (λ (f : FeatureChoice). option_map request_to f.request) o)) at
      ∙ sym (ap option_flatten (named-kept q (λ (f : FeatureChoice). option_map request_to f.request) features))
      ∙ ap (λ (t : Selection). option_flatten (named q t.requests)) is

  pub action-kept : (o : Option Chosen) → o ≡ kept_at q components → option_flatten (option_map (λ (c : Chosen). as_action c.choice.action) o) ≡ option_flatten (named q s.actions)
  unfolding selection_of
  action-kept o at =
      ap (λ (o : Option Chosen). option_flatten (option_map (λ (c : Chosen). as_action c.choice.action) o)) at
      ∙ sym (ap option_flatten (named-kept q (λ (c : Chosen). as_action c.choice.action) components))
      ∙ ap (λ (t : Selection). option_flatten (named q t.actions)) is

  pub path-kept : (o : Option Chosen) → o ≡ kept_at q components → unwrap_or (option_map (λ (c : Chosen). c.key_path) o) [] ≡ unwrap_or (named q s.key_paths) []
  unfolding selection_of
  path-kept o at =
      ap (λ (o : Option Chosen). unwrap_or (option_map (λ (c : Chosen). c.key_path) o) []) at
      ∙ sym (ap (λ (p : Option (List ℕ)). unwrap_or p []) (named-kept q (λ (c : Chosen). c.key_path) components))
      ∙ ap (λ (t : Selection). unwrap_or (named q t.key_paths) []) is

  module _ (own : IsDistinct string_eq (keys_of components)) where
    those : (test : Chosen → Bool) (o : Option Chosen) → o ≡ kept_at q components → option_map_or test o false ≡ is_among q (names_that test (map as_named components))
    those test o at = ap (λ (o : Option Chosen). option_map_or test o false) at ∙ sym (among-kept q test components own)

    pub coming-kept : (o : Option Chosen) → o ≡ kept_at q components → option_map_or (λ (c : Chosen). c.coming) o false ≡ is_among q s.coming
    unfolding selection_of
    coming-kept o at = those (λ c. c.coming) o at ∙ ap (λ (t : Selection). is_among q t.coming) is

    pub leaving-kept : (o : Option Chosen) → o ≡ kept_at q components → option_map_or (λ (c : Chosen). c.leaving) o false ≡ is_among q s.leaving
    unfolding selection_of
    leaving-kept o at = those (λ c. c.leaving) o at ∙ ap (λ (t : Selection). is_among q t.leaving) is

    pub kept-kept : (o : Option Chosen) → o ≡ kept_at q components → option_map_or (λ (c : Chosen). c.kept) o false ≡ is_among q s.kept
    unfolding selection_of
    kept-kept o at = those (λ c. c.kept) o at ∙ ap (λ (t : Selection). is_among q t.kept) is

-- ---- actions

pub local-told : (a : Option Action) → is_local a ≡ is_made_local (option_map action_to a)
local-told None = refl
local-told (Some action.MakeLocal) = refl
local-told (Some action.MakeAbsent) = refl

pub absent-told : (a : Option Action) → is_absent a ≡ is_made_absent (option_map action_to a)
absent-told None = refl
absent-told (Some action.MakeLocal) = refl
absent-told (Some action.MakeAbsent) = refl
