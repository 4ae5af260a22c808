-- The phase RemoveRegistryValues.
use Rattle.std.proofs.Common.{◌≡◌, ℕ, Bool, true, false, cond, List, [], ◌∷◌, ◌++◌, map, Bor, refl, sym, ap, ◌∙◌}
use Rattle.std.specs.Prelude.{filter, Ok}
use Rattle.std.specs.FinMap.{keys}
use Rattle.mi_text.specs.Lookups.{Lookups}
use Rattle.mi_text.specs.Maps.{Map}
use Rattle.mi_base.specs.declared.entry.Entry.{Entry}
use Rattle.mi_base.specs.Machine.{Machine}
use Rattle.mi_source.specs.Paths.{Files}
use Rattle.mi_changes.specs.Touches.{Touch, Clear}
use Rattle.mi_schema.specs.declared.package.Package.{Package}
use Rattle.mi_schema.specs.declared.typed_rows.RegistryRow.{RegistryRow}
use Rattle.mi_schema.specs.declared.typed_rows.RemoveRegistryRow.{RemoveRegistryRow}
use Rattle.mi_schema.specs.RowsOf.{rows_in}
use Rattle.mi_schema.specs.TableRows.{Numbered, in_key_order, Rows as TableRows}
use Rattle.mi_model.specs.World.{World, RowEffect}
use Rattle.mi_model.specs.Asked.{leaves, lookups}
use Rattle.mi_model.specs.ComponentRows.{is_local}
use Rattle.mi_model.specs.Prune.{Path, goes, key_seat}
use Rattle.mi_model.specs.RegistryGuards.{kept_keys, prune_keys}
use Rattle.mi_model.specs.RegistryRows.{registry_place, removal_place}
use Rattle.mi_model.specs.RemoveRegistryValues.{leaving_rows, removal_rows, remove_row, removal_row, keys_named, touched_keys, remove_registry_values}
use Rattle.mi_steps.specs.declared.plan.Plan.{Plan}
use Rattle.mi_steps.specs.Makes.{Makes, plan_machine}
use Rattle.mi_steps.specs.Rows.{FollowsRows}
use Rattle.mi_steps.proofs.RowLemmas.{row_more}
use Rattle.mi_records.specs.Choices.{Choices, IsAsked}
use Rattle.mi_records.specs.Order.{as_numbered}
use Rattle.mi_records.proofs.PhaseLemmas.{map-over}

-- ---- the rows that are taken

pub taken_seen : {R : Type 0} (test : R → Bool) (other : R → Bool) → ((r : R) → test r ≡ other r) → (rows : List (ℕ × Bor R)) → filter (λ (r : Numbered R). test r.row) (map as_numbered rows) ≡ map as_numbered (filter (λ r. other r.1.now) rows)
taken_seen test other same [] = refl
taken_seen {R} test other same (r ∷ rows) =
    ap (λ b. cond b (as_numbered r ∷ filter (λ (r : Numbered R). test r.row) (map as_numbered rows)) (filter (λ (r : Numbered R). test r.row) (map as_numbered rows))) (same r.1.now)
    ∙ elim (other r.1.now) as (λ b. cond b (as_numbered r ∷ filter (λ (r : Numbered R). test r.row) (map as_numbered rows)) (filter (λ (r : Numbered R). test r.row) (map as_numbered rows)) ≡ map as_numbered (cond b (r ∷ filter (λ r. other r.1.now) rows) (filter (λ r. other r.1.now) rows))) [
      | true ↦ ap (λ (ns : List (Numbered R)). as_numbered r ∷ ns) (taken_seen test other same rows)
      | false ↦ taken_seen test other same rows
    ]

module _ (L : Lookups) (c : Choices) (p : Package) (w : World) (asked : IsAsked L c p w) where
  pub leaving_are : (rows : List (ℕ × Bor RegistryRow)) → map as_numbered rows ≡ in_key_order (λ (r : RegistryRow). r.registry) (rows_in p).registry → map as_numbered (filter (λ r. c.leaving r.1.now.component) rows) ≡ leaving_rows w
  unfolding leaving_rows
  leaving_are rows is =
      sym (taken_seen (λ (r : RegistryRow). leaves w r.component) (λ (r : RegistryRow). c.leaving r.component) (λ r. asked.leaving r.component) rows)
      ∙ ap (λ (ns : List (Numbered RegistryRow)). filter (λ (r : Numbered RegistryRow). leaves w r.row.component) ns) (is ∙ ap (λ (rs : TableRows). in_key_order (λ (r : RegistryRow). r.registry) rs.registry) (sym asked.rows))

  pub local_are : (rows : List (ℕ × Bor RemoveRegistryRow)) → map as_numbered rows ≡ in_key_order (λ (r : RemoveRegistryRow). r.remove_registry) (rows_in p).remove_registry → map as_numbered (filter (λ r. c.local r.1.now.component) rows) ≡ removal_rows w
  unfolding removal_rows
  local_are rows is =
      sym (taken_seen (λ (r : RemoveRegistryRow). is_local w r.component) (λ (r : RemoveRegistryRow). c.local r.component) (λ r. asked.local r.component) rows)
      ∙ ap (λ (ns : List (Numbered RemoveRegistryRow)). filter (λ (r : Numbered RemoveRegistryRow). is_local w r.row.component) ns) (is ∙ ap (λ (rs : TableRows). in_key_order (λ (r : RemoveRegistryRow). r.remove_registry) rs.remove_registry) (sym asked.rows))

  -- the keys that they name
  pub keys_are : (leaving : List (ℕ × Bor RegistryRow)) (local : List (ℕ × Bor RemoveRegistryRow)) (first all : List Path)
      → map as_numbered leaving ≡ leaving_rows w → map as_numbered local ≡ removal_rows w
      → first ≡ keys_named (registry_place L) (map as_numbered leaving) → all ≡ first ++ keys_named (removal_place L) (map as_numbered local) → all ≡ touched_keys w
  keys_are leaving local first all one two first_is all_is =
      all_is
      ∙ ap (λ (l : List Path). l ++ keys_named (removal_place L) (map as_numbered local)) (first_is ∙ ap (keys_named (registry_place L)) one ∙ ap (λ (K : Lookups). keys_named (registry_place K) (leaving_rows w)) (sym asked.lookups))
      ∙ ap (λ (l : List Path). keys_named (registry_place (lookups w)) (leaving_rows w) ++ l) (ap (keys_named (removal_place L)) two ∙ ap (λ (K : Lookups). keys_named (removal_place K) (removal_rows w)) (sym asked.lookups))

-- ---- the rows of the phase

abbrev effects_of : World → List (ℕ × Bor RegistryRow) → List (ℕ × Bor RemoveRegistryRow) → List RowEffect
effects_of w leaving local = map (λ r. remove_row w (as_numbered r)) leaving ++ map (λ r. removal_row w (as_numbered r)) local

pub remove_effect : (w : World) (leaving : List (ℕ × Bor RegistryRow)) (local : List (ℕ × Bor RemoveRegistryRow)) → map as_numbered leaving ≡ leaving_rows w → map as_numbered local ≡ removal_rows w
    → remove_registry_values w ≡ Ok (effects_of w leaving local ++ prune_keys w (touched_keys w) ∷ [])
unfolding remove_registry_values
remove_effect w leaving local one two =
    ap (λ (ns : List (Numbered RegistryRow)). Ok (map (remove_row w) ns ++ map (removal_row w) (removal_rows w) ++ prune_keys w (touched_keys w) ∷ [])) (sym one)
    ∙ ap (λ (es : List RowEffect). Ok (es ++ map (removal_row w) (removal_rows w) ++ prune_keys w (touched_keys w) ∷ [])) (map-over (remove_row w) as_numbered leaving)
    ∙ ap (λ (ns : List (Numbered RemoveRegistryRow)). Ok (map (λ r. remove_row w (as_numbered r)) leaving ++ map (removal_row w) ns ++ prune_keys w (touched_keys w) ∷ [])) (sym two)
    ∙ ap (λ (es : List RowEffect). Ok (map (λ r. remove_row w (as_numbered r)) leaving ++ es ++ prune_keys w (touched_keys w) ∷ [])) (map-over (removal_row w) as_numbered local)

pub prunes : (w : World) (m : Machine) → prune_keys w (touched_keys w) m ≡ Ok (Clear (goes key_seat (keys m) (touched_keys w) (kept_keys w)) ∷ [])
unfolding prune_keys
prunes w m = refl

-- a phase whose rows and pruning were made
module _ (held : Map (List ℕ)) (files : Files) (a b c : Plan) (rows : List RowEffect) (last : RowEffect) (ts : List (Touch Entry)) where
  pub pruned_behind : FollowsRows files (plan_machine held files a) (plan_machine held files b) a.script b.script rows → last (plan_machine held files b) ≡ Ok ts → Makes held files b c ts
      → FollowsRows files (plan_machine held files a) (plan_machine held files c) a.script c.script (rows ++ last ∷ [])
  pruned_behind first gives made = row_more files (plan_machine held files a) (plan_machine held files b) a.script b.script rows first (plan_machine held files c) c.script last ts gives made
