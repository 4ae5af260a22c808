-- What a run takes away: files and values, and by which rows. (RemoveFiles Action; RemoveRegistryValues Action; Component Table.)
use Rattle.std.specs.Prelude.{◌≡◌, ℕ, ◌&&◌, ◌||◌, not, Bool, true, Some, None}
use Rattle.std.specs.List.{list_any}
use Rattle.std.specs.FinMap.{get}
use Rattle.mi_text.specs.Maps.{Name, same_name}
use Rattle.mi_base.specs.declared.entry.Entry.{Entry}
use Rattle.mi_base.specs.Names.{file_name, value_name}
use Rattle.mi_schema.specs.TableRows.{product_code}
use Rattle.mi_schema.specs.declared.typed_rows.ComponentRow.{ComponentRow}
use Rattle.mi_model.specs.Texts.{Text}
use Rattle.mi_model.specs.World.{Given, World}
use Rattle.mi_model.specs.Asked.{leaves}
use Rattle.mi_model.specs.Conditions.{has}
use Rattle.mi_model.specs.Components.{has_other_client}
use Rattle.mi_model.specs.FilePaths.{is_guarded_file}
use Rattle.mi_model.specs.Walk.{Walked, walk, last_machine}
use Rattle.mi_model_laws.specs.FileLaws.{is_removed}
use Rattle.mi_model_laws.specs.CopyLaws.{is_copy_of_leaving}
use Rattle.mi_laws.specs.ValueLaws.{is_named_by_leaving, is_named_by_removal, is_count_of_leaving}
use Rattle.mi_laws.specs.Walks.{StandsAt}

-- a row of File or DuplicateFile of a leaving component names it, unguarded, or a row of RemoveFile in force
abbrev pub names_file : World → Name → Bool
names_file w q = is_removed w q || (is_copy_of_leaving w q && not (is_guarded_file w q))

-- a row of Registry of a leaving component names it, or its key, or one of RemoveRegistry of a local component, or it is its count
abbrev pub names_value : World → Name → Bool
names_value w q = is_named_by_leaving w q || is_named_by_removal w q || is_count_of_leaving w q

-- rows name it somewhere on the walk
pub record IsNamedBy (names : World → Name → Bool) (g : Given) (q : Name) : Type 0 where
  pub at : Walked
  pub on : StandsAt g at
  pub named : names at.world q ≡ true

-- an entry is there before the run, and none after it
pub record GoesInRun (g : Given) (q : Name) : Type 0 where
  pub entry : Entry
  pub stood : get g.former q ≡ Some entry
  pub gone : get (last_machine (walk g)) q ≡ None

-- the component of this row isn't permanent, and neither another product nor the system was its client
abbrev pub may_leave : Given → Name → ComponentRow → Bool
may_leave g c r = same_name c r.component && not (has 16 r.attributes) && not (has_other_client g.former (product_code g.rows) r.component_id)

abbrev pub component_may_leave : Given → Name → Bool
component_may_leave g c = list_any (may_leave g c) g.rows.component

-- of a walk that isn't refused
pub record RunsTakeByRows : Type 0 where
  pub files : (g : Given) (path : Text) → (walk g).refusal ≡ None → GoesInRun g (file_name path) → IsNamedBy names_file g (file_name path)
  pub values : (g : Given) (root : ℕ) (key name : Text) → (walk g).refusal ≡ None → GoesInRun g (value_name root key name) → IsNamedBy names_value g (value_name root key name)
  -- what it means that a component leaves, anywhere on the walk
  pub leaving : (g : Given) (w : Walked) (c : Name) → StandsAt g w → w.refusal ≡ None → leaves w.world c ≡ true → component_may_leave g c ≡ true
