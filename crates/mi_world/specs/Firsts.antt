-- What the properties at the start are made of. (Order of Property Precedence.)
use Rattle.std.specs.Prelude.{◌≡◌, List}
use Rattle.mi_text.specs.Maps.{Name}
use Rattle.mi_base.specs.Machine.{Machine}
use Rattle.mi_props.specs.Props.{Value}
use Rattle.mi_schema.specs.declared.package.Package.{Package}
use Rattle.mi_schema.specs.declared.typed_rows.PropertyRow.{PropertyRow}
use Rattle.mi_schema.specs.RowsOf.{rows_in}
use Rattle.mi_model.specs.World.{Given}

abbrev pub property_pair : PropertyRow → Name × Value
property_pair r = (r.property, r.value)

-- a walk is over this package, this former machine and these words
pub record Begins (g : Given) (loaded : Package) (m : Machine) (given : List (Name × Value)) : Type 0 where
  pub rows : rows_in loaded ≡ g.rows
  pub former : m ≡ g.former
  pub words : given ≡ g.words
