-- Where rows are plain: in each phase, and in a walk. (InstallExecuteSequence Table; Property Table; ProductCode Property. That no row
-- changes a name twice is this project's own.)
use Rattle.std.specs.Prelude.{◌≡◌, true, List, codes, Some, Ok}
use Rattle.mi_text.specs.Maps.{Name}
use Rattle.mi_schema.specs.declared.package.Package.{Package}
use Rattle.mi_schema.specs.Lawful.{IsLawful}
use Rattle.mi_schema.specs.RowsOf.{rows_in}
use Rattle.mi_schema.specs.TableRows.{Rows, table_value}
use Rattle.mi_rows.specs.Texts.{is_product_code}
use Rattle.mi_model.specs.World.{Given, World, Effect}
use Rattle.mi_model.specs.Phases.{effect_of}
use Rattle.mi_model.specs.PhaseRows.{Touches, phase_rows}
use Rattle.mi_model.specs.Walk.{walk}
use Rattle.mi_model.specs.Cost.{all_rows}
use Rattle.mi_model.specs.Plain.{ArePlain}

-- The product's code isn't all zeros. That code is the system's as a client: a permanent component would have one client twice.
abbrev pub HasProductCode : Rows → Type 0
HasProductCode rows = is_product_code (table_value rows (codes "ProductCode")) ≡ true

-- the rows of a phase
abbrev pub RowsArePlain : Type 0
RowsArePlain = (action : Name) (effect : Effect) (w : World) (rows : List Touches)
    → effect_of action ≡ Some effect → HasProductCode w.given.rows → phase_rows effect w ≡ Ok rows → ArePlain w.machine rows

-- the rows of the segments of a walk
abbrev pub WalksArePlain : Type 0
WalksArePlain = (g : Given) → HasProductCode g.rows → ArePlain g.former (all_rows (walk g).parts)

abbrev pub LawfulPackagesHaveCodes : Type 0
LawfulPackagesHaveCodes = (p : Package) → IsLawful p → HasProductCode (rows_in p)
