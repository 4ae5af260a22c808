-- Words that the lemmas share.
use Rattle.std.specs.Prelude.{◌≡◌, ℕ, ◌≤◌, List, length, take, None}
use Rattle.std.specs.FinMap.{get}
use Rattle.mi_source.specs.Paths.{Files, bytes_or_none}
use Rattle.mi_schema.specs.declared.package.Package.{Package}
use Rattle.mi_schema.specs.Checks.{Content, package_fault, tables_fault}
use Rattle.mi_schema.specs.Tables.{tables}
use Rattle.mi_schema.specs.RowsOf.{IsPackage, rows_in}

-- a package holds the rows of some tables without a fault, which have none together either
pub record IsOfTables (p : Package) : Type 0 where
  pub content : Content
  pub right_tables : tables_fault content tables ≡ None
  pub is : IsPackage p content
  pub right : package_fault (rows_in p) ≡ None

-- while a file is read: these bytes are its front
pub record ReadSoFar (told : Type 0) (old new : Files) (before now : ℕ) (path bytes : List ℕ) : Type 0 where
  pub front : told → bytes ≡ take (length bytes) (bytes_or_none (get old path))
  pub same : new ≡ old
  pub counts : before ≤ now
