-- What becomes of each component. (Component Table; FeatureComponents Table.)
use Rattle.std.specs.Prelude.{ℕ, ◌==◌, ◌&&◌, ◌||◌, not, Bool, true, false, if◌then◌else◌, List, filter, Option, Some, None, is_some}
use Rattle.std.specs.List.{list_any}
use Rattle.mi_text.specs.Maps.{is_among}
use Rattle.mi_text.specs.Lookups.{Lookups}
use Rattle.mi_text.specs.declared.guid.Guid.{Guid}
use Rattle.mi_base.specs.declared.entry.Client.{Client}
use Rattle.mi_base.specs.Machine.{Machine}
use Rattle.mi_image.specs.Lists.{clients_with}
use Rattle.mi_schema.specs.declared.typed_rows.ComponentRow.{ComponentRow}
use Rattle.mi_schema.specs.declared.typed_rows.FeatureRow.{FeatureRow}
use Rattle.mi_schema.specs.TableRows.{Rows}
use Rattle.mi_model.specs.World.{Request, Local, Reinstall, Action, MakeLocal, MakeAbsent}
use Rattle.mi_model.specs.States.{features_of}
use Rattle.mi_model.specs.Conditions.{holds, has}

-- a row of the former machine's clients has this id, and isn't this product's
unfoldable pub has_other_client : Machine → ℕ → Option Guid → Bool
has_other_client m product None = false
has_other_client m product (Some id) = list_any (λ (c : Client). not (c.product.number == product)) (clients_with m id.number)

-- the features to which a component belongs
abbrev pub owners_of : Rows → ComponentRow → List FeatureRow
owners_of rows c = filter (λ (f : FeatureRow). is_among f.feature (features_of rows c.component)) rows.feature

abbrev pub has_id : ComponentRow → Bool
has_id c = is_some c.component_id

-- `request` is what is asked of a feature, and `local_after` whether it is installed after the run; `present` is whether the
-- component is there before it
module _ (rows : Rows) (L : Lookups) (request : FeatureRow → Option Request) (local_after : FeatureRow → Bool) (present : ComponentRow → Bool) where
  abbrev pub is_enabled : ComponentRow → Bool
  is_enabled c = holds L c.condition || (has_id c && present c)

  -- a request that asks for the component; one to reinstall asks for those with an id
  abbrev pub asks : ComponentRow → Option Request → Bool
  asks c (Some Local) = true
  asks c (Some Reinstall) = has_id c
  asks c other = false

  abbrev pub is_asked_for : ComponentRow → Bool
  is_asked_for c = list_any (λ f. asks c (request f)) (owners_of rows c)

  abbrev pub is_wanted : ComponentRow → Bool
  is_wanted c = list_any local_after (owners_of rows c)

  -- local where it is enabled and asked for; absent where it is there, has an id, and no feature of it is installed after the run
  unfoldable pub action_of : ComponentRow → Option Action
  action_of c =
      if is_enabled c && is_asked_for c then Some MakeLocal
      else if has_id c && present c && not (is_wanted c) then Some MakeAbsent
      else None

abbrev pub is_made_local : Option Action → Bool
is_made_local (Some MakeLocal) = true
is_made_local other = false

abbrev pub is_made_absent : Option Action → Bool
is_made_absent (Some MakeAbsent) = true
is_made_absent other = false

-- the component is installed: it is local, but not where attribute 128 is set and its key path is there
abbrev pub is_coming : ComponentRow → Option Action → Bool → Bool
is_coming c action key_path_there = is_made_local action && not (has 128 c.attributes && key_path_there)

-- what it brought is taken away: it is absent, isn't permanent (attribute 16), no other product and not the system is its client, and
-- by its count no others hold its file
abbrev pub is_leaving : ComponentRow → Option Action → Bool → Bool → Bool
is_leaving c action other_client other_count = is_made_absent action && not (has 16 c.attributes) && not other_client && not other_count

-- what it brought stays: it is local, or there and not leaving
abbrev pub is_kept : Option Action → Bool → Bool → Bool
is_kept action present leaving = is_made_local action || (present && not leaving)
