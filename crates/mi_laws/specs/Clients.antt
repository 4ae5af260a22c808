-- The clients of a machine over its histories. (Component Table; ProcessComponents Action; PublishProduct Action.)
use Rattle.std.specs.Prelude.{◌≡◌, ◌⊎◌, ℕ, ◌<◌, ◌^◌, ◌==◌, ◌&&◌, true, Bool, false, List, codes, None, IsSome}
use Rattle.std.specs.List.{list_any, AllByRecursion}
use Rattle.std.specs.Option.{option_map_or}
use Rattle.std.specs.FinMap.{empty}
use Rattle.mi_text.specs.Maps.{Name, same_name, is_among}
use Rattle.mi_text.specs.declared.guid.Guid.{Guid}
use Rattle.mi_volume.specs.Maps.{Map}
use Rattle.mi_base.specs.Machine.{Machine, client_at, product_at}
use Rattle.mi_schema.specs.TableRows.{product_code}
use Rattle.mi_schema.specs.declared.typed_rows.ComponentRow.{ComponentRow}
use Rattle.mi_model.specs.World.{Given}
use Rattle.mi_model.specs.ClientRows.{the_system}
use Rattle.mi_model.specs.Asked.{leaves}
use Rattle.mi_model.specs.Walk.{walk, last_machine}
use Rattle.mi_laws.specs.Histories.{Event, IsHistory}
use Rattle.mi_laws.specs.Walks.{IsCommitted}
use Rattle.mi_laws.specs.Machines.{all_committed, machine_after}

-- ---- what holds of every machine

abbrev pub IsCode : ℕ → Type 0
IsCode n = n < 2 ^ 128

-- each client row is the system's, or names a recorded product
abbrev pub NamesProducts : Machine → Type 0
NamesProducts m = (id product : ℕ) → IsCode product → IsSome (client_at m id product) → (product ≡ the_system) ⊎ IsSome (product_at m product)

-- ---- the premises

-- a run has both phases, or neither
abbrev pub HasBothOrNeither : Given → Type 0
HasBothOrNeither g = is_among (codes "ProcessComponents") (walk g).begun ≡ is_among (codes "PublishProduct") (walk g).begun

-- All packages of a product's code have the same rows of Component. (Those of Feature and FeatureComponents may differ.)
abbrev pub HasRows : (ℕ → List ComponentRow) → Given → Type 0
HasRows rows g = g.rows.component ≡ rows (product_code g.rows)

-- ---- over histories

pub record ClientsNameProducts : Type 0 where
  pub clients : (rows : ℕ → List ComponentRow) (es : List Event) (d : Map) → IsHistory es d
      → AllByRecursion HasBothOrNeither (all_committed empty es)
      → AllByRecursion (HasRows rows) (all_committed empty es)
      → NamesProducts (machine_after es)

-- ---- the client rows of a component that leaves

-- a row of Component has this key and this id
abbrev pub has_id : Name → ℕ → ComponentRow → Bool
has_id component id r = same_name component r.component && option_map_or (λ (i : Guid). i.number == id) r.component_id false

-- If a run has ProcessComponents, no client row of the id of a component that leaves is left, whoever the client is.
abbrev pub LastClientsGo : Type 0
LastClientsGo = (g : Given) → IsCommitted g → is_among (codes "ProcessComponents") (walk g).begun ≡ true
    → (component : Name) (id product : ℕ) → IsCode product → leaves (walk g).world component ≡ true → list_any (has_id component id) g.rows.component ≡ true
    → client_at (last_machine (walk g)) id product ≡ None
