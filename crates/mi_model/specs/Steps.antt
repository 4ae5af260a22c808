-- What each begun action does. (Standard Actions Reference; Custom Action Types; Suggested InstallExecuteSequence. Which standard actions
-- have no effect, and the order of refusals, are this project's own.)
use Rattle.std.specs.Prelude.{ℕ, ◌==◌, ◌||◌, ◌&&◌, not, bit_and, Bool, List, [], ◌∷◌, map, find, codes, Option, Some, None, unwrap_or, Result, Ok, Err, if◌then◌else◌}
use Rattle.mi_text.specs.Maps.{Name, same_name, is_among}
use Rattle.mi_text.specs.Lookups.{Lookups}
use Rattle.mi_rows.specs.Values.{bits_of, lacks}
use Rattle.mi_schema.specs.declared.typed_rows.CustomActionRow.{CustomActionRow}
use Rattle.mi_model.specs.Texts.{Text}
use Rattle.mi_base.specs.declared.answers.Fault.{Fault}
use Rattle.mi_base.specs.declared.answers.Fault.TheVariants.{UnknownAction, Executable, SequenceOrder}
use Rattle.mi_schema.specs.TableRows.{Rows, Numbered, numbered_from}
use Rattle.mi_model.specs.World.{Effect}
use Rattle.mi_model.specs.Refusals.{◌>>=◌, expanded_or_empty}
use Rattle.mi_model.specs.Phases.{effect_of}
use Rattle.mi_model.specs.Sequence.{is_costed, is_finalized, is_inside}

-- What a begun action does.
pub data Step : Type 0 where
  -- nothing, but that it is begun
  Plain : Step
  -- it asks the launch conditions
  Launch : Step
  -- it resolves directories and selects
  Cost : Step
  -- its rows touch the machine
  Runs : (effect : Effect) → Step
  -- it ends a segment
  Ends : Step
  -- a property is set (type 51), a directory (type 35), or the run is refused (type 19)
  SetProperty : (name : Name) → (text : Text) → Step
  SetDirectory : (directory : Name) → (text : Text) → Step
  Fails : (text : Text) → Step

-- standard actions without effect here
unfoldable pub without_effect : List Name
without_effect = map codes (
    "AllocateRegistrySpace" ∷ "AppSearch" ∷ "BindImage" ∷ "CCPSearch" ∷ "CostInitialize" ∷ "DeleteServices" ∷ "DisableRollback" ∷ "ExecuteAction" ∷
    "FileCost" ∷ "FindRelatedProducts" ∷ "ForceReboot" ∷ "InstallODBC" ∷ "InstallSFPCatalogFile" ∷ "InstallServices" ∷ "InstallValidate" ∷
    "IsolateComponents" ∷ "MigrateFeatureStates" ∷ "MoveFiles" ∷ "MsiConfigureServices" ∷ "MsiPublishAssemblies" ∷ "MsiUnpublishAssemblies" ∷
    "PatchFiles" ∷ "PublishComponents" ∷ "PublishFeatures" ∷ "RegisterClassInfo" ∷ "RegisterComPlus" ∷ "RegisterExtensionInfo" ∷ "RegisterFonts" ∷
    "RegisterMIMEInfo" ∷ "RegisterProduct" ∷ "RegisterProgIdInfo" ∷ "RegisterTypeLibraries" ∷ "RegisterUser" ∷ "RemoveExistingProducts" ∷
    "RemoveIniValues" ∷ "RemoveODBC" ∷ "ResolveSource" ∷ "RMCCPSearch" ∷ "ScheduleReboot" ∷ "SelfRegModules" ∷ "SelfUnregModules" ∷
    "SetODBCFolders" ∷ "StartServices" ∷ "StopServices" ∷ "UnpublishComponents" ∷ "UnpublishFeatures" ∷ "UnregisterClassInfo" ∷ "UnregisterComPlus" ∷
    "UnregisterExtensionInfo" ∷ "UnregisterFonts" ∷ "UnregisterMIMEInfo" ∷ "UnregisterProgIdInfo" ∷ "UnregisterTypeLibraries" ∷ "ValidateProductID" ∷
    "WriteIniValues" ∷ [])

-- an action that stands where it may, and else where it doesn't
abbrev pub in_order : {A : Type 0} → Name → Bool → A → Result A Fault
in_order action stands x = if stands then Ok x else Err (SequenceOrder action)

-- ---- custom actions

-- the low six bits of the type
abbrev pub base_type : CustomActionRow → ℕ
base_type r = bit_and (bits_of r.kind) 63

-- types 19, 35 and 51 run here, and with bit 1024, which defers an action, none does
abbrev pub runs_here : CustomActionRow → Bool
runs_here r = ((base_type r == 19) || (base_type r == 35) || (base_type r == 51)) && lacks 1024 r.kind

-- a directory may be set between CostFinalize and InstallFinalize
abbrev pub stands_right : CustomActionRow → List Name → Bool
stands_right r begun = not (base_type r == 35) || (is_costed begun && not (is_finalized begun))

abbrev pub custom : CustomActionRow → Text → Step
custom r text =
    if base_type r == 19 then Fails text
    else if base_type r == 35 then SetDirectory (unwrap_or r.source []) text
    else SetProperty (unwrap_or r.source []) text

abbrev pub custom_step : Lookups → List Name → Name → Option (Numbered CustomActionRow) → Result Step Fault
custom_step L begun action None = Err (UnknownAction action)
custom_step L begun action (Some n) =
    if runs_here n.row
    then (in_order action (stands_right n.row begun) n.row >>= λ r. expanded_or_empty L (codes "CustomAction") n.number r.target >>= λ text. Ok (custom r text))
    else Err (Executable action)

abbrev pub custom_action : Rows → Name → Option (Numbered CustomActionRow)
custom_action rows action = find (λ (n : Numbered CustomActionRow). same_name action n.row.action) (numbered_from 1 rows.custom_action)

-- ---- which step an action is, behind those that are begun

abbrev pub phase_or : Rows → Lookups → List Name → Name → Option Effect → Result Step Fault
phase_or rows L begun action (Some effect) = in_order action (is_inside begun) (Runs effect)
phase_or rows L begun action None =
    if is_among action without_effect then Ok Plain else custom_step L begun action (custom_action rows action)

abbrev pub is_action : Name → Text → Bool
is_action action name = same_name action name

abbrev pub ends_segment : Name → Bool
ends_segment action = is_action action (codes "InstallExecute") || is_action action (codes "InstallExecuteAgain") || is_action action (codes "InstallFinalize")

unfoldable pub step_of : Rows → Lookups → List Name → Name → Result Step Fault
step_of rows L begun action =
    if is_action action (codes "LaunchConditions") then Ok Launch
    else if is_action action (codes "CostFinalize") then Ok Cost
    else if is_action action (codes "InstallInitialize") then in_order action (is_costed begun) Plain
    else if ends_segment action then in_order action (is_inside begun) Ends
    else phase_or rows L begun action (effect_of action)
