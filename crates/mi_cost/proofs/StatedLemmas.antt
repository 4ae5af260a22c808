-- Scripts that state the sizes that their names get cost by that what their changes cost.
use Rattle.std.proofs.Common.{◌≡◌, ℕ, ◌+◌, ◌*◌, ◌-◌, true, false, cond, List, [], ◌∷◌, ◌++◌, map, refl, sym, ap, ◌∙◌, sum_by}
use Rattle.std.specs.Prelude.{max}
use Rattle.std.specs.List.{AllZip, list_all}
use Rattle.std.specs.FinMap.{get, keys}
use Rattle.std.proofs.lemmas.List.{map-append}
use Rattle.mi_text.specs.Maps.{Name, Map, same_name, is_among, set_to}
use Rattle.mi_text.proofs.MapLemmas.{from_same}
use Rattle.mi_volume.specs.Maps.{slot_size}
use Rattle.mi_source.specs.Paths.{Files}
use Rattle.mi_changes.specs.Changes.{Change}
use Rattle.mi_script.specs.declared.rec.Rec.{Rec}
use Rattle.mi_script.specs.declared.rec.Rec.TheVariants.{Put, Drop, Copy, Dup}
use Rattle.mi_script.specs.Scripts.{name_at, change_of, script_changes}
use Rattle.mi_model.specs.Cost.{note_size, set_of}
use Rattle.mi_model.specs.StatedSizes.{stated_size, all_records, greatest_stated, stated_cost_at, entries_in, stated_cost_of, stated_cost}
use Rattle.mi_cost.proofs.CostOfChanges.{Segment, all_changes, names_changed, greatest_size, cost_at, entries_of, cost_of_names, cost_of_changes}
use Rattle.mi_cost.proofs.NameLemmas.{sum_alike}

-- what a change leaves at its name
abbrev pub size_after : Change (List ℕ) → ℕ
size_after c = slot_size c.at c.after

-- the records have the names of the changes, and state the sizes that these leave
pub record States (rs : List Rec) (cs : Segment) : Type 0 where
  pub names : names_changed cs ≡ map name_at rs
  pub sizes : map size_after cs ≡ map stated_size rs

-- ---- the names of a script's changes

named : (files : Files) (d : Map (List ℕ)) (r : Rec) → (change_of files d r).at ≡ name_at r
named files d (Put name bytes) = refl
named files d (Drop name) = refl
named files d (Copy name h file path n) = refl
named files d (Dup name h from) = refl

pub script_names : (files : Files) (d : Map (List ℕ)) (rs : List Rec) → names_changed (script_changes files d rs) ≡ map name_at rs
script_names files d [] = refl
script_names files d (r ∷ rs) =
    let c = change_of files d r in
    ap (λ (n : Name). n ∷ names_changed (script_changes files (set_to d c.at c.after) rs)) (named files d r)
    ∙ ap (λ (names : List Name). name_at r ∷ names) (script_names files (set_to d c.at c.after) rs)

-- ---- one script behind another

pub all_state : (scripts : List (List Rec)) (segments : List Segment) → AllZip States scripts segments → States (all_records scripts) (all_changes segments)
all_state [] [] states = record { names = refl; sizes = refl }
all_state [] (cs ∷ segments) states = absurd states
all_state (rs ∷ scripts) [] states = absurd states
all_state (rs ∷ scripts) (cs ∷ segments) states =
    let rest = all_state scripts segments states.1 in
    record {
      names =
          map-append (λ (c : Change (List ℕ)). c.at) cs (all_changes segments)
          ∙ ap (λ (names : List Name). names ++ names_changed (all_changes segments)) states.0.names
          ∙ ap (λ (names : List Name). map name_at rs ++ names) rest.names
          ∙ sym (map-append name_at rs (all_records scripts));
      sizes =
          map-append size_after cs (all_changes segments)
          ∙ ap (λ (sizes : List ℕ). sizes ++ map size_after (all_changes segments)) states.0.sizes
          ∙ ap (λ (sizes : List ℕ). map stated_size rs ++ sizes) rest.sizes
          ∙ sym (map-append stated_size rs (all_records scripts));
    }

-- ---- the greatest sizes

greatest_alike : (q : Name) (rs : List Rec) (cs : Segment) → names_changed cs ≡ map name_at rs → map size_after cs ≡ map stated_size rs → greatest_stated q rs ≡ greatest_size q cs
greatest_alike q [] [] names sizes = refl
greatest_alike q [] (c ∷ cs) names sizes = absurd cc
greatest_alike q (r ∷ rs) [] names sizes = absurd cc
greatest_alike q (r ∷ rs) (c ∷ cs) names sizes =
    let at : c.at ≡ name_at r = cc in
    let size : slot_size c.at c.after ≡ stated_size r = cc in
    let other_names : names_changed cs ≡ map name_at rs = cc in
    let other_sizes : map size_after cs ≡ map stated_size rs = cc in
    let rest = greatest_size q cs in
    ap (λ (n : Name). cond (same_name q n) (max (stated_size r) (greatest_stated q rs)) (greatest_stated q rs)) (sym at)
    ∙ ap (λ (g : ℕ). cond (same_name q c.at) (max (stated_size r) g) g) (greatest_alike q rs cs other_names other_sizes)
    ∙ ap (λ (s : ℕ). cond (same_name q c.at) (max s rest) rest) (sym size)
    ∙ elim (same_name q c.at) as (λ b. same_name q c.at ≡ b → cond b (max (slot_size c.at c.after) rest) rest ≡ cond b (max (slot_size q c.after) rest) rest) [
      | true ↦ λ is. ap (λ (n : Name). max (slot_size n c.after) rest) (sym (from_same q c.at is))
      | false ↦ λ isnt. refl
    ] refl

-- ---- entries

entries_alike : (seen : List Name) (scripts : List (List Rec)) (segments : List Segment) → AllZip States scripts segments → entries_in seen scripts ≡ entries_of seen segments
entries_alike seen [] [] states = refl
entries_alike seen [] (cs ∷ segments) states = absurd states
entries_alike seen (rs ∷ scripts) [] states = absurd states
entries_alike seen (rs ∷ scripts) (cs ∷ segments) states =
    let names = names_changed cs in
    ap (λ (ns : List Name). cond (list_all (λ q. is_among q seen) ns) 0 1 + entries_in (seen ++ ns) scripts) (sym states.0.names)
    ∙ ap (λ (rest : ℕ). cond (list_all (λ q. is_among q seen) names) 0 1 + rest) (entries_alike (seen ++ names) scripts segments states.1)

-- ---- the whole

same_costs : (d : Map (List ℕ)) (scripts : List (List Rec)) (segments : List Segment) (names : List Name) → AllZip States scripts segments → stated_cost_of d scripts names ≡ cost_of_names d segments names
same_costs d scripts segments [] states = refl
same_costs d scripts segments (n ∷ names) states =
    let whole = all_state scripts segments states in
    let each : (q : Name) → stated_cost_at d (all_records scripts) q ≡ cost_at d (all_changes segments) q =
    λ q. ap (λ (g : ℕ). note_size q (get d q) + (g - slot_size q (get d q))) (greatest_alike q (all_records scripts) (all_changes segments) whole.names whole.sizes) in
    ap (λ (e : ℕ). 4 + 25 * e + sum_by (stated_cost_at d (all_records scripts)) (n ∷ names)) (entries_alike [] scripts segments states)
    ∙ ap (λ (s : ℕ). 4 + 25 * entries_of [] segments + s) (sum_alike (stated_cost_at d (all_records scripts)) (cost_at d (all_changes segments)) (n ∷ names) each)

-- scripts that state their sizes cost by that what their changes cost
pub states_the_cost : (d : Map (List ℕ)) (scripts : List (List Rec)) (segments : List Segment) → AllZip States scripts segments → stated_cost d scripts ≡ cost_of_changes d segments
unfolding stated_cost cost_of_changes
states_the_cost d scripts segments states =
    ap (λ (names : List Name). stated_cost_of d scripts (keys (set_of names))) (sym (all_state scripts segments states).names)
    ∙ same_costs d scripts segments (keys (set_of (names_changed (all_changes segments)))) states
