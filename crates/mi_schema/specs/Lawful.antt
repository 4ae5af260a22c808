-- Lawful packages. (Database Tables.)
use Rattle.std.specs.Prelude.{◌≡◌, None}
use Rattle.mi_schema.specs.declared.package.Package.{Package}
use Rattle.mi_text.specs.Maps.{Name}
use Rattle.mi_source.specs.Paths.{Files}
use Rattle.mi_schema.specs.Checks.{content_of, load_fault}
use Rattle.mi_schema.specs.RowsOf.{IsPackage}

-- a package is lawful where some files and a folder give it
pub record IsLawful (p : Package) : Type 0 where
  pub files : Files
  pub folder : Name
  pub right : load_fault files folder ≡ None
  pub is : IsPackage p (content_of files folder)
