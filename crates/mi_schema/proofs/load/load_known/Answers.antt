use Rattle.std.proofs.Common.{IfErr, OnOk, refl, sym, subst}
use Rattle.mi_source.specs.Counts.{Rose}
use Rattle.mi_rows.specs.Reads.{Fails}
use Rattle.mi_rows.specs.Rows.{table_fault}
use Rattle.mi_schema.specs.declared.known.Known.{Known}
use Rattle.mi_schema.specs.declared.known.Known.TheVariants as known
use Rattle.mi_schema.specs.Checks.{content_of}
use Rattle.mi_schema.specs.Tables.{layout_of}
use Rattle.mi_schema.proofs.KnownTables as table
use Rattle.mi_rows.proofs.KeyLaws.{text_told, texts_told, text_number_told}
use Rattle.mi_schema.specs.Loaded.{IsPut}
use Rattle.mi_schema.proofs.LoadLemmas.{on_ok}
use Rattle.mi_schema.proofs.load.load_known.Goals as goal

pub load_table-requires-clause-is : goal.load_table-requires-clause-is
load_table-requires-clause-is g c = refl

pub load_table-requires-in-Condition-clause-is : goal.load_table-requires-in-Condition-clause-is
load_table-requires-in-Condition-clause-is g c = refl

pub load_table-requires-in-CreateFolder-clause-is : goal.load_table-requires-in-CreateFolder-clause-is
load_table-requires-in-CreateFolder-clause-is g c = refl

pub load_table-requires-in-CustomAction-clause-is : goal.load_table-requires-in-CustomAction-clause-is
load_table-requires-in-CustomAction-clause-is g c = refl

pub load_table-requires-in-Directory-clause-is : goal.load_table-requires-in-Directory-clause-is
load_table-requires-in-Directory-clause-is g c = refl

pub load_table-requires-in-DuplicateFile-clause-is : goal.load_table-requires-in-DuplicateFile-clause-is
load_table-requires-in-DuplicateFile-clause-is g c = refl

pub load_table-requires-in-Environment-clause-is : goal.load_table-requires-in-Environment-clause-is
load_table-requires-in-Environment-clause-is g c = refl

pub load_table-requires-in-Feature-clause-is : goal.load_table-requires-in-Feature-clause-is
load_table-requires-in-Feature-clause-is g c = refl

pub load_table-requires-in-FeatureComponents-clause-is : goal.load_table-requires-in-FeatureComponents-clause-is
load_table-requires-in-FeatureComponents-clause-is g c = refl

pub load_table-requires-in-File-clause-is : goal.load_table-requires-in-File-clause-is
load_table-requires-in-File-clause-is g c = refl

pub load_table-requires-clause-apart : goal.load_table-requires-clause-apart
load_table-requires-clause-apart g c = text_told table.component.columns refl

pub load_table-requires-in-Condition-clause-apart : goal.load_table-requires-in-Condition-clause-apart
load_table-requires-in-Condition-clause-apart g c = text_number_told table.condition.columns refl

pub load_table-requires-in-CreateFolder-clause-apart : goal.load_table-requires-in-CreateFolder-clause-apart
load_table-requires-in-CreateFolder-clause-apart g c = texts_told table.create_folder.columns refl

pub load_table-requires-in-CustomAction-clause-apart : goal.load_table-requires-in-CustomAction-clause-apart
load_table-requires-in-CustomAction-clause-apart g c = text_told table.custom_action.columns refl

pub load_table-requires-in-Directory-clause-apart : goal.load_table-requires-in-Directory-clause-apart
load_table-requires-in-Directory-clause-apart g c = text_told table.directory.columns refl

pub load_table-requires-in-DuplicateFile-clause-apart : goal.load_table-requires-in-DuplicateFile-clause-apart
load_table-requires-in-DuplicateFile-clause-apart g c = text_told table.duplicate_file.columns refl

pub load_table-requires-in-Environment-clause-apart : goal.load_table-requires-in-Environment-clause-apart
load_table-requires-in-Environment-clause-apart g c = text_told table.environment.columns refl

pub load_table-requires-in-Feature-clause-apart : goal.load_table-requires-in-Feature-clause-apart
load_table-requires-in-Feature-clause-apart g c = text_told table.feature.columns refl

pub load_table-requires-in-FeatureComponents-clause-apart : goal.load_table-requires-in-FeatureComponents-clause-apart
load_table-requires-in-FeatureComponents-clause-apart g c = texts_told table.feature_components.columns refl

pub load_table-requires-in-File-clause-apart : goal.load_table-requires-in-File-clause-apart
load_table-requires-in-File-clause-apart g c = text_told table.file.columns refl

pub returns-in-Component-clause-put : goal.returns-in-Component-clause-put
returns-in-Component-clause-put g c =
    subst (λ (k : Known). OnOk c.load_table.result (IsPut g.S.Source.told (content_of (g.S.Source.files c.args.src.now) c.args.folder.now) (layout_of k) c.args.loaded.now (record c.args.loaded.now { component = c.load_table.new.rows }))) (sym c.in-Component.is)
    (on_ok c.load_table.result c.load_table.ensures.read (λ read. record { found = read.found; same = read.same; right = read.right; holds = λ content h. elim [ known.Component ↦ read.are | other ↦ h other ] }))

pub returns-in-Condition-clause-put : goal.returns-in-Condition-clause-put
returns-in-Condition-clause-put g c =
    subst (λ (k : Known). OnOk c.load_table-in-Condition.result (IsPut g.S.Source.told (content_of (g.S.Source.files c.args.src.now) c.args.folder.now) (layout_of k) c.args.loaded.now (record c.args.loaded.now { condition = c.load_table-in-Condition.new.rows }))) (sym c.in-Condition.is)
    (on_ok c.load_table-in-Condition.result c.load_table-in-Condition.ensures.read (λ read. record { found = read.found; same = read.same; right = read.right; holds = λ content h. elim [ known.Condition ↦ read.are | other ↦ h other ] }))

pub returns-in-CreateFolder-clause-put : goal.returns-in-CreateFolder-clause-put
returns-in-CreateFolder-clause-put g c =
    subst (λ (k : Known). OnOk c.load_table-in-CreateFolder.result (IsPut g.S.Source.told (content_of (g.S.Source.files c.args.src.now) c.args.folder.now) (layout_of k) c.args.loaded.now (record c.args.loaded.now { create_folder = c.load_table-in-CreateFolder.new.rows }))) (sym c.in-CreateFolder.is)
    (on_ok c.load_table-in-CreateFolder.result c.load_table-in-CreateFolder.ensures.read (λ read. record { found = read.found; same = read.same; right = read.right; holds = λ content h. elim [ known.CreateFolder ↦ read.are | other ↦ h other ] }))

pub returns-in-CustomAction-clause-put : goal.returns-in-CustomAction-clause-put
returns-in-CustomAction-clause-put g c =
    subst (λ (k : Known). OnOk c.load_table-in-CustomAction.result (IsPut g.S.Source.told (content_of (g.S.Source.files c.args.src.now) c.args.folder.now) (layout_of k) c.args.loaded.now (record c.args.loaded.now { custom_action = c.load_table-in-CustomAction.new.rows }))) (sym c.in-CustomAction.is)
    (on_ok c.load_table-in-CustomAction.result c.load_table-in-CustomAction.ensures.read (λ read. record { found = read.found; same = read.same; right = read.right; holds = λ content h. elim [ known.CustomAction ↦ read.are | other ↦ h other ] }))

pub returns-in-Directory-clause-put : goal.returns-in-Directory-clause-put
returns-in-Directory-clause-put g c =
    subst (λ (k : Known). OnOk c.load_table-in-Directory.result (IsPut g.S.Source.told (content_of (g.S.Source.files c.args.src.now) c.args.folder.now) (layout_of k) c.args.loaded.now (record c.args.loaded.now { directory = c.load_table-in-Directory.new.rows }))) (sym c.in-Directory.is)
    (on_ok c.load_table-in-Directory.result c.load_table-in-Directory.ensures.read (λ read. record { found = read.found; same = read.same; right = read.right; holds = λ content h. elim [ known.Directory ↦ read.are | other ↦ h other ] }))

pub returns-in-DuplicateFile-clause-put : goal.returns-in-DuplicateFile-clause-put
returns-in-DuplicateFile-clause-put g c =
    subst (λ (k : Known). OnOk c.load_table-in-DuplicateFile.result (IsPut g.S.Source.told (content_of (g.S.Source.files c.args.src.now) c.args.folder.now) (layout_of k) c.args.loaded.now (record c.args.loaded.now { duplicate_file = c.load_table-in-DuplicateFile.new.rows }))) (sym c.in-DuplicateFile.is)
    (on_ok c.load_table-in-DuplicateFile.result c.load_table-in-DuplicateFile.ensures.read (λ read. record { found = read.found; same = read.same; right = read.right; holds = λ content h. elim [ known.DuplicateFile ↦ read.are | other ↦ h other ] }))

pub returns-in-Environment-clause-put : goal.returns-in-Environment-clause-put
returns-in-Environment-clause-put g c =
    subst (λ (k : Known). OnOk c.load_table-in-Environment.result (IsPut g.S.Source.told (content_of (g.S.Source.files c.args.src.now) c.args.folder.now) (layout_of k) c.args.loaded.now (record c.args.loaded.now { environment = c.load_table-in-Environment.new.rows }))) (sym c.in-Environment.is)
    (on_ok c.load_table-in-Environment.result c.load_table-in-Environment.ensures.read (λ read. record { found = read.found; same = read.same; right = read.right; holds = λ content h. elim [ known.Environment ↦ read.are | other ↦ h other ] }))

pub returns-in-Feature-clause-put : goal.returns-in-Feature-clause-put
returns-in-Feature-clause-put g c =
    subst (λ (k : Known). OnOk c.load_table-in-Feature.result (IsPut g.S.Source.told (content_of (g.S.Source.files c.args.src.now) c.args.folder.now) (layout_of k) c.args.loaded.now (record c.args.loaded.now { feature = c.load_table-in-Feature.new.rows }))) (sym c.in-Feature.is)
    (on_ok c.load_table-in-Feature.result c.load_table-in-Feature.ensures.read (λ read. record { found = read.found; same = read.same; right = read.right; holds = λ content h. elim [ known.Feature ↦ read.are | other ↦ h other ] }))

pub returns-in-FeatureComponents-clause-put : goal.returns-in-FeatureComponents-clause-put
returns-in-FeatureComponents-clause-put g c =
    subst (λ (k : Known). OnOk c.load_table-in-FeatureComponents.result (IsPut g.S.Source.told (content_of (g.S.Source.files c.args.src.now) c.args.folder.now) (layout_of k) c.args.loaded.now (record c.args.loaded.now { feature_components = c.load_table-in-FeatureComponents.new.rows }))) (sym c.in-FeatureComponents.is)
    (on_ok c.load_table-in-FeatureComponents.result c.load_table-in-FeatureComponents.ensures.read (λ read. record { found = read.found; same = read.same; right = read.right; holds = λ content h. elim [ known.FeatureComponents ↦ read.are | other ↦ h other ] }))

pub returns-in-File-clause-put : goal.returns-in-File-clause-put
returns-in-File-clause-put g c =
    subst (λ (k : Known). OnOk c.load_table-in-File.result (IsPut g.S.Source.told (content_of (g.S.Source.files c.args.src.now) c.args.folder.now) (layout_of k) c.args.loaded.now (record c.args.loaded.now { file = c.load_table-in-File.new.rows }))) (sym c.in-File.is)
    (on_ok c.load_table-in-File.result c.load_table-in-File.ensures.read (λ read. record { found = read.found; same = read.same; right = read.right; holds = λ content h. elim [ known.File ↦ read.are | other ↦ h other ] }))

pub returns-in-Component-clause-fault : goal.returns-in-Component-clause-fault
returns-in-Component-clause-fault g c =
    subst (λ (k : Known). g.S.Source.told → IfErr c.load_table.result (Fails (Rose (g.S.Source.faults c.args.src.now) (g.S.Source.faults c.load_table.new.src)) (table_fault (layout_of k) (content_of (g.S.Source.files c.args.src.now) c.args.folder.now (layout_of k).name)))) (sym c.in-Component.is) c.load_table.ensures.fault

pub returns-in-Condition-clause-fault : goal.returns-in-Condition-clause-fault
returns-in-Condition-clause-fault g c =
    subst (λ (k : Known). g.S.Source.told → IfErr c.load_table-in-Condition.result (Fails (Rose (g.S.Source.faults c.args.src.now) (g.S.Source.faults c.load_table-in-Condition.new.src)) (table_fault (layout_of k) (content_of (g.S.Source.files c.args.src.now) c.args.folder.now (layout_of k).name)))) (sym c.in-Condition.is) c.load_table-in-Condition.ensures.fault

pub returns-in-CreateFolder-clause-fault : goal.returns-in-CreateFolder-clause-fault
returns-in-CreateFolder-clause-fault g c =
    subst (λ (k : Known). g.S.Source.told → IfErr c.load_table-in-CreateFolder.result (Fails (Rose (g.S.Source.faults c.args.src.now) (g.S.Source.faults c.load_table-in-CreateFolder.new.src)) (table_fault (layout_of k) (content_of (g.S.Source.files c.args.src.now) c.args.folder.now (layout_of k).name)))) (sym c.in-CreateFolder.is) c.load_table-in-CreateFolder.ensures.fault

pub returns-in-CustomAction-clause-fault : goal.returns-in-CustomAction-clause-fault
returns-in-CustomAction-clause-fault g c =
    subst (λ (k : Known). g.S.Source.told → IfErr c.load_table-in-CustomAction.result (Fails (Rose (g.S.Source.faults c.args.src.now) (g.S.Source.faults c.load_table-in-CustomAction.new.src)) (table_fault (layout_of k) (content_of (g.S.Source.files c.args.src.now) c.args.folder.now (layout_of k).name)))) (sym c.in-CustomAction.is) c.load_table-in-CustomAction.ensures.fault

pub returns-in-Directory-clause-fault : goal.returns-in-Directory-clause-fault
returns-in-Directory-clause-fault g c =
    subst (λ (k : Known). g.S.Source.told → IfErr c.load_table-in-Directory.result (Fails (Rose (g.S.Source.faults c.args.src.now) (g.S.Source.faults c.load_table-in-Directory.new.src)) (table_fault (layout_of k) (content_of (g.S.Source.files c.args.src.now) c.args.folder.now (layout_of k).name)))) (sym c.in-Directory.is) c.load_table-in-Directory.ensures.fault

pub returns-in-DuplicateFile-clause-fault : goal.returns-in-DuplicateFile-clause-fault
returns-in-DuplicateFile-clause-fault g c =
    subst (λ (k : Known). g.S.Source.told → IfErr c.load_table-in-DuplicateFile.result (Fails (Rose (g.S.Source.faults c.args.src.now) (g.S.Source.faults c.load_table-in-DuplicateFile.new.src)) (table_fault (layout_of k) (content_of (g.S.Source.files c.args.src.now) c.args.folder.now (layout_of k).name)))) (sym c.in-DuplicateFile.is) c.load_table-in-DuplicateFile.ensures.fault

pub returns-in-Environment-clause-fault : goal.returns-in-Environment-clause-fault
returns-in-Environment-clause-fault g c =
    subst (λ (k : Known). g.S.Source.told → IfErr c.load_table-in-Environment.result (Fails (Rose (g.S.Source.faults c.args.src.now) (g.S.Source.faults c.load_table-in-Environment.new.src)) (table_fault (layout_of k) (content_of (g.S.Source.files c.args.src.now) c.args.folder.now (layout_of k).name)))) (sym c.in-Environment.is) c.load_table-in-Environment.ensures.fault

pub returns-in-Feature-clause-fault : goal.returns-in-Feature-clause-fault
returns-in-Feature-clause-fault g c =
    subst (λ (k : Known). g.S.Source.told → IfErr c.load_table-in-Feature.result (Fails (Rose (g.S.Source.faults c.args.src.now) (g.S.Source.faults c.load_table-in-Feature.new.src)) (table_fault (layout_of k) (content_of (g.S.Source.files c.args.src.now) c.args.folder.now (layout_of k).name)))) (sym c.in-Feature.is) c.load_table-in-Feature.ensures.fault

pub returns-in-FeatureComponents-clause-fault : goal.returns-in-FeatureComponents-clause-fault
returns-in-FeatureComponents-clause-fault g c =
    subst (λ (k : Known). g.S.Source.told → IfErr c.load_table-in-FeatureComponents.result (Fails (Rose (g.S.Source.faults c.args.src.now) (g.S.Source.faults c.load_table-in-FeatureComponents.new.src)) (table_fault (layout_of k) (content_of (g.S.Source.files c.args.src.now) c.args.folder.now (layout_of k).name)))) (sym c.in-FeatureComponents.is) c.load_table-in-FeatureComponents.ensures.fault

pub returns-in-File-clause-fault : goal.returns-in-File-clause-fault
returns-in-File-clause-fault g c =
    subst (λ (k : Known). g.S.Source.told → IfErr c.load_table-in-File.result (Fails (Rose (g.S.Source.faults c.args.src.now) (g.S.Source.faults c.load_table-in-File.new.src)) (table_fault (layout_of k) (content_of (g.S.Source.files c.args.src.now) c.args.folder.now (layout_of k).name)))) (sym c.in-File.is) c.load_table-in-File.ensures.fault
