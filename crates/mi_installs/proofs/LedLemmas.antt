-- A row is written where one of those that it follows asks for it: by places, and by rows.
use Rattle.std.proofs.Common.{◌≡◌, ℕ, zero, suc, Bool, true, false, cond, ◌||◌, ◌&&◌, List, [], ◌∷◌, Option, Some, None, refl, sym, ap, ◌∙◌, inl, inr, ◌⊎◌}
use Rattle.std.specs.Prelude.{slice_get, option_map, option_and_then, unwrap_or, if◌then◌else◌}
use Rattle.std.specs.List.{list_any}
use Rattle.std.specs.Option.{option_flatten, option_map_or}
use Rattle.mi_dirs.specs.Chains.{along}
use Rattle.mi_dirs.specs.Order.{parent_in}
use Rattle.mi_installs.specs.Leads.{led_step}

-- what a row asks for, where it comes
abbrev pub asks : {R : Type 0} → (R → Bool) → (R → Bool) → R → Option Bool
asks comes called r = cond (comes r) (Some (called r)) None

module _ {R : Type 0} (comes called : R → Bool) (leader : R → Option R) where
  -- the leader of a row, where it comes
  abbrev pub coming_leader : R → Option R
  coming_leader r = option_and_then (λ (f : R). if comes f then Some f else None) (leader r)

  abbrev pub led_by : ℕ → R → List R
  led_by zero r = []
  led_by (suc n) r = r ∷ option_map_or (λ l. led_by n l) (coming_leader r) []

  step_is : (r : R) (leading : Option Bool) (rest : Bool) → unwrap_or leading false ≡ rest → led_step (asks comes called r) leading ≡ (comes r && (called r || rest))
  step_is r leading rest e = elim (comes r) as (λ b. led_step (cond b (Some (called r)) None) leading ≡ (b && (called r || rest))) [
    | true ↦ ap (λ (b : Bool). called r || b) e
    | false ↦ refl
  ]

  module _ (rows : List R) (leaders : List (Option ℕ)) (asked : List (Option Bool))
      (at : (k : ℕ) (r : R) → slice_get rows k ≡ Some r → slice_get asked k ≡ Some (asks comes called r))
      (led : (k : ℕ) (r : R) → slice_get rows k ≡ Some r → ((leader r ≡ None) × (parent_in leaders k ≡ None)) ⊎ ((j : ℕ) × (l : R) × (leader r ≡ Some l) × (parent_in leaders k ≡ Some j) × (slice_get rows j ≡ Some l))) where
    abbrev step : ℕ → Option Bool → Bool
    step k o = led_step (option_flatten (slice_get asked k)) o

    abbrev any : List R → Bool
    any rs = list_any called rs

    coming : (b : Bool) (n : ℕ) (l : R) → any (option_map_or (λ x. led_by n x) (cond b (Some l) None) []) ≡ (b && any (led_by n l))
    coming true n l = refl
    coming false n l = refl

    none_and : (b : Bool) → false ≡ (b && false)
    none_and true = refl
    none_and false = refl

    -- by as many steps
    pub along_is : (n k : ℕ) (r : R) → slice_get rows k ≡ Some r → along (parent_in leaders) step false n k ≡ (comes r && any (led_by n r))
    along_is zero k r e = none_and (comes r)
    along_is (suc n) k r e =
        ap (λ (o : Option (Option Bool)). led_step (option_flatten o) (option_map (λ p. along (parent_in leaders) step false n p) (parent_in leaders k))) (at k r e)
        ∙ step_is r (option_map (λ p. along (parent_in leaders) step false n p) (parent_in leaders k)) (any (option_map_or (λ l. led_by n l) (coming_leader r) []))
        (elim (led k r e) [
          | inl none ↦
              ap (λ (o : Option ℕ). unwrap_or (option_map (λ p. along (parent_in leaders) step false n p) o) false) none.1
              ∙ sym (ap (λ (o : Option R). any (option_map_or (λ l. led_by n l) (option_and_then (λ (f : R). if comes f then Some f else None) o) [])) none.0)
          | inr some ↦
              ap (λ (o : Option ℕ). unwrap_or (option_map (λ p. along (parent_in leaders) step false n p) o) false) some.3
              ∙ along_is n some.0 some.1 some.4
              ∙ sym (coming (comes some.1) n some.1)
              ∙ sym (ap (λ (o : Option R). any (option_map_or (λ l. led_by n l) (option_and_then (λ (f : R). if comes f then Some f else None) o) [])) some.2)
        ])
