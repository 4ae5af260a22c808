-- The clients of a component. (Component Table; ProcessComponents Action. The record of a client, and the system as the client of a
-- permanent component, are this project's own.)
use Rattle.std.specs.Prelude.{ℕ, if◌then◌else◌, List, [], ◌∷◌, map, Option, Some, None, is_some, option_and_then, unwrap_or, Result, Ok}
use Rattle.mi_text.specs.declared.guid.Guid.{Guid}
use Rattle.mi_base.specs.declared.entry.Entry.{Entry}
use Rattle.mi_base.specs.declared.entry.Entry.TheVariants.{Client}
use Rattle.mi_base.specs.Names.{client_name}
use Rattle.mi_schema.specs.declared.typed_rows.ComponentRow.{ComponentRow}
use Rattle.mi_model.specs.Texts.{Text}
use Rattle.mi_base.specs.declared.answers.Fault.{Fault}
use Rattle.mi_model.specs.World.{World, Selection, Action, MakeLocal, MakeAbsent}
use Rattle.mi_schema.specs.TableRows.{product_code}
use Rattle.mi_changes.specs.Touches.{Touch, Set}
use Rattle.mi_model.specs.Asked.{lookups, dirs_of}
use Rattle.mi_model.specs.States.{named}
use Rattle.mi_model.specs.Refusals.{◌>>=◌}
use Rattle.mi_model.specs.Conditions.{has}
use Rattle.mi_model.specs.KeyPaths.{key_path_of, key_path_text, value_row}
use Rattle.mi_model.specs.ComponentRows.{choice_of, action_in}

-- the key path as CostFinalize found it
abbrev pub found_path : World → ComponentRow → Text
found_path w c = unwrap_or (option_and_then (λ (s : Selection). named c.component s.key_paths) (choice_of w)) []

-- the key path that is recorded: that of a file or folder by the directories as they stand, that of a value as CostFinalize found it
unfoldable pub recorded_path : World → ComponentRow → Result Text Fault
recorded_path w c =
    if is_some (value_row w.given.rows c) then Ok (found_path w c)
    else key_path_of w.given.rows (dirs_of w) (lookups w) c >>= λ p. Ok (key_path_text p)

-- the system is a client with a code of all zeros
abbrev pub the_system : ℕ
the_system = 0

abbrev pub client : Guid → ℕ → Text → Entry
client id product path = Client (record { component = id; product = record { number = product }; key_path = path })

abbrev pub client_touch : Guid → Text → ℕ → Touch Entry
client_touch id path product = Set (client_name id.number product) (λ old. Some (client id product path))

-- a component with this id: this product's row goes, or is written, and with it the system's where the component is permanent
abbrev pub client_touches : World → ComponentRow → Guid → Option Action → Result (List (Touch Entry)) Fault
client_touches w c id (Some MakeAbsent) = Ok (Set (client_name id.number (product_code w.given.rows)) (λ old. None) ∷ [])
client_touches w c id (Some MakeLocal) = recorded_path w c >>= λ path. Ok (map (client_touch id path) (product_code w.given.rows ∷ (if has 16 c.attributes then the_system ∷ [] else [])))
client_touches w c id None = Ok []

abbrev pub of_id : World → ComponentRow → Option Guid → Result (List (Touch Entry)) Fault
of_id w c None = Ok []
of_id w c (Some id) = client_touches w c id (action_in w c.component)

unfoldable pub component_touches : World → ComponentRow → Result (List (Touch Entry)) Fault
component_touches w c = of_id w c c.component_id
