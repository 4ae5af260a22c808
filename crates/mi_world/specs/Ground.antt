-- A package and a former machine, as what is told of them alone. (This project's own.)
use Rattle.std.specs.Prelude.{ℕ, Bool, List, [], Option, Some, None, is_some, option_map, unwrap_or}
use Rattle.std.specs.List.{list_any}
use Rattle.std.specs.FinMap.{empty, get}
use Rattle.mi_text.specs.Maps.{Name, Map}
use Rattle.mi_text.specs.declared.guid.Guid.{Guid}
use Rattle.mi_base.specs.declared.entry.Product.{Product}
use Rattle.mi_base.specs.Machine.{Machine, client_at, product_at}
use Rattle.mi_schema.specs.TableRows.{Rows, product_code}
use Rattle.mi_schema.specs.declared.typed_rows.ComponentRow.{ComponentRow}
use Rattle.mi_model.specs.Texts.{Text}
use Rattle.mi_model.specs.World.{Given}
use Rattle.mi_model.specs.States.{features_of}

-- these rows and this machine, and else nothing
abbrev pub ground : Rows → Machine → Given
ground rows m = record { rows = rows; folder = []; words = []; files = empty; former = m; now = 0 }

-- the features that the product's record has
abbrev pub recorded_in : Rows → Machine → List Text
recorded_in rows m = unwrap_or (option_map (λ (p : Product). p.features) (product_at m (product_code rows))) []

-- a recorded feature holds the component
abbrev pub is_held : Rows → (Name → Bool) → Name → Bool
is_held rows recorded c = list_any recorded (features_of rows c)

-- these names are set in a table
abbrev pub is_set : {X : Type 0} → Map X → Name → Bool
is_set m q = is_some (get m q)

-- the product is the client of the component's code, or one without a code is among these
abbrev pub present_by : Machine → ℕ → (Name → Bool) → ComponentRow → Option Guid → Bool
present_by m code held c (Some id) = is_some (client_at m id.number code)
present_by m code held c None = held c.component
