-- What is asked of features, or the first refusal. (ADDLOCAL, REMOVE, ADDSOURCE, ADDDEFAULT, REINSTALL, INSTALLLEVEL and REINSTALLMODE
-- Properties.)
use Rattle.std.specs.Prelude.{ℕ, Bool, true, false, List, map, codes, Option, Some, None, Result, Ok}
use Rattle.std.specs.BTreeSet.{contains}
use Rattle.mi_text.specs.Maps.{name_cmp}
use Rattle.mi_text.specs.Lookups.{Lookups}
use Rattle.mi_base.specs.declared.answers.Fault.{Fault}
use Rattle.mi_fver.specs.declared.mode.Mode.{Mode}
use Rattle.mi_schema.specs.declared.typed_rows.FeatureRow.{FeatureRow}
use Rattle.mi_schema.specs.TableRows.{Rows}
use Rattle.mi_model.specs.Texts.{Text}
use Rattle.mi_model.specs.FeatureLists.{lists_fault}
use Rattle.mi_model.specs.Features.{request_of, is_local_after}
use Rattle.mi_model.specs.Refusals.{◌>>=◌, unless}
use Rattle.mi_model.specs.Selecting.{setting, install_level_of, reinstall_mode_of}
use Rattle.mi_wishes.specs.declared.choice.FeatureChoice.{FeatureChoice}
use Rattle.mi_wishes.specs.declared.choice.Request.{Request}
use Rattle.mi_wishes.specs.declared.choice.Request.TheVariants.{Local, Absent, Reinstall}
use Rattle.mi_wishes.specs.declared.own.Line.{Line}
use Rattle.mi_features.specs.declared.asking.Asked.{Asked}
use Rattle.mi_wishes.specs.declared.wishes.Wishes.{Wishes}
use Rattle.mi_wishes.specs.Choices.{told}

abbrev pub is_kept_local : Option Request → Bool → Bool
is_kept_local (Some Local) recorded = true
is_kept_local (Some Absent) recorded = false
is_kept_local (Some Reinstall) recorded = recorded
is_kept_local None recorded = recorded

abbrev pub choice_kept : Wishes → Line → FeatureRow → FeatureChoice
choice_kept w line f = record { request = line.request; local_after = is_kept_local line.request (contains name_cmp w.recorded f.feature) }

-- what becomes of a feature
abbrev pub choice_to : Rows → Lookups → Option (List Text) → ℕ → FeatureRow → FeatureChoice
choice_to rows L recorded level f = record { request = told (request_of rows L recorded level f); local_after = is_local_after rows L recorded level f }

-- the refusals in their order: INSTALLLEVEL, REINSTALLMODE, and the lists
abbrev pub requested : Rows → Lookups → Option (List Text) → Result (List FeatureChoice × Mode) Fault
requested rows L recorded = do
  level ← setting install_level_of L (codes "INSTALLLEVEL")
  mode ← setting reinstall_mode_of L (codes "REINSTALLMODE")
  unless (lists_fault rows L) (Ok (map (choice_to rows L recorded level) rows.feature, mode))

-- what the program's answer tells
abbrev pub shown : Asked → List FeatureChoice × Mode
shown r = (r.features.items, r.mode)
