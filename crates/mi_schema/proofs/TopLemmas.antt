-- The checks of a whole package, one after the other.
use Rattle.std.proofs.Common.{◌≡◌, ℕ, ◌≤◌, Option, None, sym, ap, ◌∙◌}
use Rattle.mi_text.specs.Maps.{Name}
use Rattle.mi_source.specs.Counts.{Rose}
use Rattle.mi_source.specs.Paths.{Files}
use Rattle.mi_base.specs.declared.answers.Fault.{Fault}
use Rattle.mi_rows.specs.declared.error.LoadError.{LoadError}
use Rattle.mi_rows.specs.Reads.{Fails}
use Rattle.mi_schema.specs.Checks.{Content, missing_fault, tables_fault, package_fault, content_of, load_fault}
use Rattle.mi_schema.specs.Tables.{tables}
use Rattle.mi_rows.specs.Rows.{◌or_else◌}
use Rattle.mi_schema.specs.RowsOf.{rows_of_content}
use Rattle.mi_schema.specs.TableRows.{Rows}
use Rattle.mi_schema.proofs.LoadLemmas.{rose_since}
use Rattle.mi_rows.proofs.RowLemmas.{passed_on, fails_first, fails_then}

module _ (files mid : Files) (folder : Name) (same : mid ≡ files) where
  abbrev content : Content
  content = content_of files folder

  abbrev last : Option Fault
  last = package_fault (rows_of_content content)

  pub missing_fails : (failed : Type 0) (e : LoadError) → Fails failed (missing_fault content) e → Fails failed (load_fault files folder) e
  unfolding load_fault
  missing_fails failed e fails = fails_first failed (missing_fault content) (tables_fault content tables or_else last) e fails

  pub tables_fail : (before middle after : ℕ) (e : LoadError) → before ≤ middle → missing_fault content ≡ None → Fails (Rose middle after) (tables_fault (content_of mid folder) tables) e → Fails (Rose before after) (load_fault files folder) e
  unfolding load_fault
  tables_fail before middle after e le none fails =
      fails_then (Rose before after) (missing_fault content) (tables_fault content tables or_else last) e none
      (fails_first (Rose before after) (tables_fault content tables) last e
      (passed_on (Rose middle after) (Rose before after) (rose_since before middle after le) (tables_fault (content_of mid folder) tables) (tables_fault content tables) (λ f some. ap (λ (fs : Files). tables_fault (content_of fs folder) tables) (sym same) ∙ some) e fails))

  pub rows_fail : (failed : Type 0) (rows : Rows) (e : LoadError) → missing_fault content ≡ None → tables_fault content tables ≡ None → rows ≡ rows_of_content content → Fails ⊥ (package_fault rows) e → Fails failed (load_fault files folder) e
  unfolding load_fault
  rows_fail failed rows e none none_more is fails =
      fails_then failed (missing_fault content) (tables_fault content tables or_else last) e none
      (fails_then failed (tables_fault content tables) last e none_more
      (passed_on ⊥ failed (λ x. absurd x) (package_fault rows) last (λ f some. ap package_fault (sym is) ∙ some) e fails))

  pub no_fault : (rows : Rows) → missing_fault content ≡ None → tables_fault content tables ≡ None → rows ≡ rows_of_content content → package_fault rows ≡ None → load_fault files folder ≡ None
  unfolding load_fault
  no_fault rows none none_more is last_none =
      ap (λ (o : Option Fault). o or_else (tables_fault content tables or_else last)) none
      ∙ ap (λ (o : Option Fault). o or_else last) none_more
      ∙ ap package_fault (sym is) ∙ last_none
