use Rattle.std.proofs.Common.{sym, subst}
use Rattle.mi_schema.specs.declared.known.Known.{Known}
use Rattle.mi_rows.specs.Reads.{Answers}
use Rattle.mi_schema.specs.References.{rows_dangling}
use Rattle.mi_schema.specs.RowsOf.{rows_in}
use Rattle.mi_schema.proofs.reference.check_known.Goals as goal

pub returns-in-Component : goal.returns-in-Component
unfolding rows_in
returns-in-Component c = subst (λ (k : Known). Answers ⊥ (rows_dangling (rows_in c.args.loaded.now) k) (λ _. Unit {0}) c.check_table.result) (sym c.in-Component.is) c.check_table.ensures

pub returns-in-Condition : goal.returns-in-Condition
unfolding rows_in
returns-in-Condition c = subst (λ (k : Known). Answers ⊥ (rows_dangling (rows_in c.args.loaded.now) k) (λ _. Unit {0}) c.check_table-in-Condition.result) (sym c.in-Condition.is) c.check_table-in-Condition.ensures

pub returns-in-CreateFolder : goal.returns-in-CreateFolder
unfolding rows_in
returns-in-CreateFolder c = subst (λ (k : Known). Answers ⊥ (rows_dangling (rows_in c.args.loaded.now) k) (λ _. Unit {0}) c.check_table-in-CreateFolder.result) (sym c.in-CreateFolder.is) c.check_table-in-CreateFolder.ensures

pub returns-in-CustomAction : goal.returns-in-CustomAction
unfolding rows_in
returns-in-CustomAction c = subst (λ (k : Known). Answers ⊥ (rows_dangling (rows_in c.args.loaded.now) k) (λ _. Unit {0}) c.check_table-in-CustomAction.result) (sym c.in-CustomAction.is) c.check_table-in-CustomAction.ensures

pub returns-in-Directory : goal.returns-in-Directory
unfolding rows_in
returns-in-Directory c = subst (λ (k : Known). Answers ⊥ (rows_dangling (rows_in c.args.loaded.now) k) (λ _. Unit {0}) c.check_table-in-Directory.result) (sym c.in-Directory.is) c.check_table-in-Directory.ensures

pub returns-in-DuplicateFile : goal.returns-in-DuplicateFile
unfolding rows_in
returns-in-DuplicateFile c = subst (λ (k : Known). Answers ⊥ (rows_dangling (rows_in c.args.loaded.now) k) (λ _. Unit {0}) c.check_table-in-DuplicateFile.result) (sym c.in-DuplicateFile.is) c.check_table-in-DuplicateFile.ensures

pub returns-in-Environment : goal.returns-in-Environment
unfolding rows_in
returns-in-Environment c = subst (λ (k : Known). Answers ⊥ (rows_dangling (rows_in c.args.loaded.now) k) (λ _. Unit {0}) c.check_table-in-Environment.result) (sym c.in-Environment.is) c.check_table-in-Environment.ensures

pub returns-in-Feature : goal.returns-in-Feature
unfolding rows_in
returns-in-Feature c = subst (λ (k : Known). Answers ⊥ (rows_dangling (rows_in c.args.loaded.now) k) (λ _. Unit {0}) c.check_table-in-Feature.result) (sym c.in-Feature.is) c.check_table-in-Feature.ensures

pub returns-in-FeatureComponents : goal.returns-in-FeatureComponents
unfolding rows_in
returns-in-FeatureComponents c = subst (λ (k : Known). Answers ⊥ (rows_dangling (rows_in c.args.loaded.now) k) (λ _. Unit {0}) c.check_table-in-FeatureComponents.result) (sym c.in-FeatureComponents.is) c.check_table-in-FeatureComponents.ensures

pub returns-in-File : goal.returns-in-File
unfolding rows_in
returns-in-File c = subst (λ (k : Known). Answers ⊥ (rows_dangling (rows_in c.args.loaded.now) k) (λ _. Unit {0}) c.check_table-in-File.result) (sym c.in-File.is) c.check_table-in-File.ensures

pub returns-in-MsiFileHash : goal.returns-in-MsiFileHash
unfolding rows_in
returns-in-MsiFileHash c = subst (λ (k : Known). Answers ⊥ (rows_dangling (rows_in c.args.loaded.now) k) (λ _. Unit {0}) c.check_table-in-MsiFileHash.result) (sym c.in-MsiFileHash.is) c.check_table-in-MsiFileHash.ensures

pub returns-in-Registry : goal.returns-in-Registry
unfolding rows_in
returns-in-Registry c = subst (λ (k : Known). Answers ⊥ (rows_dangling (rows_in c.args.loaded.now) k) (λ _. Unit {0}) c.check_table-in-Registry.result) (sym c.in-Registry.is) c.check_table-in-Registry.ensures

pub returns-in-RemoveFile : goal.returns-in-RemoveFile
unfolding rows_in
returns-in-RemoveFile c = subst (λ (k : Known). Answers ⊥ (rows_dangling (rows_in c.args.loaded.now) k) (λ _. Unit {0}) c.check_table-in-RemoveFile.result) (sym c.in-RemoveFile.is) c.check_table-in-RemoveFile.ensures

pub returns-in-RemoveRegistry : goal.returns-in-RemoveRegistry
unfolding rows_in
returns-in-RemoveRegistry c = subst (λ (k : Known). Answers ⊥ (rows_dangling (rows_in c.args.loaded.now) k) (λ _. Unit {0}) c.check_table-in-RemoveRegistry.result) (sym c.in-RemoveRegistry.is) c.check_table-in-RemoveRegistry.ensures

pub returns-in-Shortcut : goal.returns-in-Shortcut
unfolding rows_in
returns-in-Shortcut c = subst (λ (k : Known). Answers ⊥ (rows_dangling (rows_in c.args.loaded.now) k) (λ _. Unit {0}) c.check_table-in-Shortcut.result) (sym c.in-Shortcut.is) c.check_table-in-Shortcut.ensures
