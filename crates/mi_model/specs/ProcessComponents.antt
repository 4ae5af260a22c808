-- ProcessComponents: the clients of components, and the counts of shared files. (ProcessComponents Action; Component Table.)
use Rattle.std.specs.Prelude.{◌++◌, ◌&&◌, Bool, if◌then◌else◌, List, [], ◌∷◌, map, Result, Ok}
use Rattle.std.specs.List.{list_any}
use Rattle.mi_base.specs.declared.entry.Entry.{Entry}
use Rattle.mi_base.specs.declared.answers.Fault.{Fault}
use Rattle.mi_schema.specs.declared.typed_rows.ComponentRow.{ComponentRow}
use Rattle.mi_schema.specs.TableRows.{Numbered, in_key_order}
use Rattle.mi_changes.specs.Touches.{Touch}
use Rattle.mi_model.specs.World.{World, Effect}
use Rattle.mi_model.specs.Asked.{leaves}
use Rattle.mi_model.specs.Refusals.{◌>>=◌}
use Rattle.mi_model.specs.ComponentRows.{action_in}
use Rattle.mi_model.specs.ClientRows.{component_touches}
use Rattle.mi_model.specs.CountRows.{counted_by}
use Rattle.mi_model.specs.SharedCounts.{shared_key, is_counted}
use Rattle.mi_model.specs.RegistryGuards.{prune_keys}
use Rattle.mi_model.specs.Prune.{Path, key_place}

-- a component's clients, then its count
unfoldable pub processed : World → ComponentRow → Result (List (Touch Entry)) Fault
processed w c = component_touches w c >>= λ clients. counted_by w c (action_in w c.component) >>= λ counts. Ok (clients ++ counts)

-- a component with a count leaves
abbrev pub takes_counts : World → Bool
takes_counts w = list_any (λ (c : ComponentRow). leaves w c.component && is_counted w.given.rows c) w.given.rows.component

abbrev pub touched_counts : World → List Path
touched_counts w = if takes_counts w then key_place 2 shared_key ∷ [] else []

-- the components in the order of their keys, then the keys that this leaves without use
unfoldable pub process_components : Effect
process_components w =
    Ok (map (λ (c : Numbered ComponentRow) m. processed w c.row) (in_key_order (λ (c : ComponentRow). c.component) w.given.rows.component) ++ prune_keys w (touched_counts w) ∷ [])
