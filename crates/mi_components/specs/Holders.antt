-- What features say of the components that they hold, by what is kept of the features. (FeatureComponents Table.)
use Rattle.std.specs.Prelude.{◌≡◌, ℕ, ◌&&◌, ◌||◌, Bool, true, false, List, map, slice_get, Option, Some, None, option_and_then, unwrap_or}
use Rattle.std.specs.List.{list_any}
use Rattle.std.specs.Ordering.{nat_cmp}
use Rattle.std.specs.Cmp.Lexicographic.{slice_cmp}
use Rattle.std.specs.BTreeMap.{BTreeMap, get_by}
use Rattle.std.specs.BTreeSet.{BTreeSet, contains}
use Rattle.std.specs.Borrow.{Bor}
use Rattle.mi_text.specs.Maps.{Name, name_cmp, same_name}
use Rattle.mi_schema.specs.declared.typed_rows.FeatureRow.{FeatureRow}
use Rattle.mi_schema.specs.declared.typed_rows.FeatureComponentsRow.{FeatureComponentsRow}
use Rattle.mi_schema.specs.Checks.{row_with}
use Rattle.mi_schema.specs.TableRows.{Rows}
use Rattle.mi_wishes.specs.declared.choice.FeatureChoice.{FeatureChoice}
use Rattle.mi_wishes.specs.declared.choice.Request.{Request}
use Rattle.mi_wishes.specs.declared.choice.Request.TheVariants.{Local, Absent, Reinstall}
use Rattle.mi_components.specs.declared.holders.Holders.{Holders}

abbrev pub is_local : Option Request → Bool
is_local (Some Local) = true
is_local (Some Absent) = false
is_local (Some Reinstall) = false
is_local None = false

abbrev pub is_reinstall : Option Request → Bool
is_reinstall (Some Local) = false
is_reinstall (Some Absent) = false
is_reinstall (Some Reinstall) = true
is_reinstall None = false

abbrev pub nobody : Holders
nobody = record { local = false; reinstalled = false; wanted = false; recorded = false }

abbrev pub both : Holders → Holders → Holders
both a b = record {
  local = a.local || b.local;
  reinstalled = a.reinstalled || b.reinstalled;
  wanted = a.wanted || b.wanted;
  recorded = a.recorded || b.recorded;
}

-- what a feature says by what becomes of it, and by whether it is recorded
abbrev pub says : Option FeatureChoice → Bool → Holders
says None recorded = record { local = false; reinstalled = false; wanted = false; recorded = recorded }
says (Some c) recorded = record { local = is_local c.request; reinstalled = is_reinstall c.request; wanted = c.local_after; recorded = recorded }

-- what becomes of the feature of this name, where the choices are in file order
abbrev pub choice_named : List FeatureRow → List FeatureChoice → Name → Option FeatureChoice
choice_named features choices q = option_and_then (slice_get choices) (row_with (map (λ (f : FeatureRow). f.feature) features) q)

-- what is kept of a component
abbrev pub held_at : BTreeMap (Bor (List ℕ)) Holders → Name → Holders
held_at held q = unwrap_or (get_by (λ k. slice_cmp nat_cmp q k.now) held) nobody

module _ (features : List FeatureRow) (choices : List FeatureChoice) (recorded : BTreeSet (List ℕ)) where
  abbrev pub said_in : FeatureComponentsRow → Holders
  said_in r = says (choice_named features choices r.feature) (contains name_cmp recorded r.feature)

  -- a row of the component says so
  abbrev pub any_says : (Holders → Bool) → List FeatureComponentsRow → Name → Bool
  any_says part rows q = list_any (λ (r : FeatureComponentsRow). same_name q r.component && part (said_in r)) rows

  abbrev pub all_say : List FeatureComponentsRow → Name → Holders
  all_say rows q = record {
    local = any_says (λ h. h.local) rows q;
    reinstalled = any_says (λ h. h.reinstalled) rows q;
    wanted = any_says (λ h. h.wanted) rows q;
    recorded = any_says (λ h. h.recorded) rows q;
  }

-- of each component what its rows say
abbrev pub AreHeld : Rows → List FeatureChoice → BTreeSet (List ℕ) → BTreeMap (Bor (List ℕ)) Holders → Type 0
AreHeld rows choices recorded held = (q : Name) → held_at held q ≡ all_say rows.feature choices recorded rows.feature_components q
