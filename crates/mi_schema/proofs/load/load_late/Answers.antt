use Rattle.std.proofs.Common.{IfErr, OnOk, refl, sym, subst}
use Rattle.mi_source.specs.Counts.{Rose}
use Rattle.mi_rows.specs.Reads.{Fails}
use Rattle.mi_rows.specs.Rows.{table_fault}
use Rattle.mi_schema.specs.declared.known.Known.{Known}
use Rattle.mi_schema.specs.declared.known.Known.TheVariants as known
use Rattle.mi_schema.specs.Checks.{content_of}
use Rattle.mi_schema.specs.Tables.{layout_of}
use Rattle.mi_schema.proofs.KnownTables as table
use Rattle.mi_rows.proofs.KeyLaws.{text_told, number_told, upgrade_told}
use Rattle.mi_schema.specs.Loaded.{IsPut}
use Rattle.mi_schema.proofs.LoadLemmas.{on_ok}
use Rattle.mi_schema.proofs.load.load_late.Goals as goal

pub load_table-requires-clause-is : goal.load_table-requires-clause-is
load_table-requires-clause-is g c = refl

pub load_table-requires-in-LaunchCondition-clause-is : goal.load_table-requires-in-LaunchCondition-clause-is
load_table-requires-in-LaunchCondition-clause-is g c = refl

pub load_table-requires-in-MsiFileHash-clause-is : goal.load_table-requires-in-MsiFileHash-clause-is
load_table-requires-in-MsiFileHash-clause-is g c = refl

pub load_table-requires-in-Property-clause-is : goal.load_table-requires-in-Property-clause-is
load_table-requires-in-Property-clause-is g c = refl

pub load_table-requires-in-Registry-clause-is : goal.load_table-requires-in-Registry-clause-is
load_table-requires-in-Registry-clause-is g c = refl

pub load_table-requires-in-RemoveFile-clause-is : goal.load_table-requires-in-RemoveFile-clause-is
load_table-requires-in-RemoveFile-clause-is g c = refl

pub load_table-requires-in-RemoveRegistry-clause-is : goal.load_table-requires-in-RemoveRegistry-clause-is
load_table-requires-in-RemoveRegistry-clause-is g c = refl

pub load_table-requires-in-Shortcut-clause-is : goal.load_table-requires-in-Shortcut-clause-is
load_table-requires-in-Shortcut-clause-is g c = refl

pub load_table-requires-in-SummaryInformation-clause-is : goal.load_table-requires-in-SummaryInformation-clause-is
load_table-requires-in-SummaryInformation-clause-is g c = refl

pub load_table-requires-in-Upgrade-clause-is : goal.load_table-requires-in-Upgrade-clause-is
load_table-requires-in-Upgrade-clause-is g c = refl

pub load_table-requires-clause-apart : goal.load_table-requires-clause-apart
load_table-requires-clause-apart g c = text_told table.install_execute_sequence.columns refl

pub load_table-requires-in-LaunchCondition-clause-apart : goal.load_table-requires-in-LaunchCondition-clause-apart
load_table-requires-in-LaunchCondition-clause-apart g c = text_told table.launch_condition.columns refl

pub load_table-requires-in-MsiFileHash-clause-apart : goal.load_table-requires-in-MsiFileHash-clause-apart
load_table-requires-in-MsiFileHash-clause-apart g c = text_told table.msi_file_hash.columns refl

pub load_table-requires-in-Property-clause-apart : goal.load_table-requires-in-Property-clause-apart
load_table-requires-in-Property-clause-apart g c = text_told table.property.columns refl

pub load_table-requires-in-Registry-clause-apart : goal.load_table-requires-in-Registry-clause-apart
load_table-requires-in-Registry-clause-apart g c = text_told table.registry.columns refl

pub load_table-requires-in-RemoveFile-clause-apart : goal.load_table-requires-in-RemoveFile-clause-apart
load_table-requires-in-RemoveFile-clause-apart g c = text_told table.remove_file.columns refl

pub load_table-requires-in-RemoveRegistry-clause-apart : goal.load_table-requires-in-RemoveRegistry-clause-apart
load_table-requires-in-RemoveRegistry-clause-apart g c = text_told table.remove_registry.columns refl

pub load_table-requires-in-Shortcut-clause-apart : goal.load_table-requires-in-Shortcut-clause-apart
load_table-requires-in-Shortcut-clause-apart g c = text_told table.shortcut.columns refl

pub load_table-requires-in-SummaryInformation-clause-apart : goal.load_table-requires-in-SummaryInformation-clause-apart
load_table-requires-in-SummaryInformation-clause-apart g c = number_told table.summary_information.columns refl

pub load_table-requires-in-Upgrade-clause-apart : goal.load_table-requires-in-Upgrade-clause-apart
load_table-requires-in-Upgrade-clause-apart g c = upgrade_told table.upgrade.columns refl

pub returns-in-InstallExecuteSequence-clause-put : goal.returns-in-InstallExecuteSequence-clause-put
returns-in-InstallExecuteSequence-clause-put g c =
    subst (λ (k : Known). OnOk c.load_table.result (IsPut g.S.Source.told (content_of (g.S.Source.files c.args.src.now) c.args.folder.now) (layout_of k) c.args.loaded.now (record c.args.loaded.now { install_execute_sequence = c.load_table.new.rows }))) (sym c.in-InstallExecuteSequence.is)
    (on_ok c.load_table.result c.load_table.ensures.read (λ read. record { found = read.found; same = read.same; right = read.right; holds = λ content h. elim [ known.InstallExecuteSequence ↦ read.are | other ↦ h other ] }))

pub returns-in-LaunchCondition-clause-put : goal.returns-in-LaunchCondition-clause-put
returns-in-LaunchCondition-clause-put g c =
    subst (λ (k : Known). OnOk c.load_table-in-LaunchCondition.result (IsPut g.S.Source.told (content_of (g.S.Source.files c.args.src.now) c.args.folder.now) (layout_of k) c.args.loaded.now (record c.args.loaded.now { launch_condition = c.load_table-in-LaunchCondition.new.rows }))) (sym c.in-LaunchCondition.is)
    (on_ok c.load_table-in-LaunchCondition.result c.load_table-in-LaunchCondition.ensures.read (λ read. record { found = read.found; same = read.same; right = read.right; holds = λ content h. elim [ known.LaunchCondition ↦ read.are | other ↦ h other ] }))

pub returns-in-MsiFileHash-clause-put : goal.returns-in-MsiFileHash-clause-put
returns-in-MsiFileHash-clause-put g c =
    subst (λ (k : Known). OnOk c.load_table-in-MsiFileHash.result (IsPut g.S.Source.told (content_of (g.S.Source.files c.args.src.now) c.args.folder.now) (layout_of k) c.args.loaded.now (record c.args.loaded.now { msi_file_hash = c.load_table-in-MsiFileHash.new.rows }))) (sym c.in-MsiFileHash.is)
    (on_ok c.load_table-in-MsiFileHash.result c.load_table-in-MsiFileHash.ensures.read (λ read. record { found = read.found; same = read.same; right = read.right; holds = λ content h. elim [ known.MsiFileHash ↦ read.are | other ↦ h other ] }))

pub returns-in-Property-clause-put : goal.returns-in-Property-clause-put
returns-in-Property-clause-put g c =
    subst (λ (k : Known). OnOk c.load_table-in-Property.result (IsPut g.S.Source.told (content_of (g.S.Source.files c.args.src.now) c.args.folder.now) (layout_of k) c.args.loaded.now (record c.args.loaded.now { property = c.load_table-in-Property.new.rows }))) (sym c.in-Property.is)
    (on_ok c.load_table-in-Property.result c.load_table-in-Property.ensures.read (λ read. record { found = read.found; same = read.same; right = read.right; holds = λ content h. elim [ known.Property ↦ read.are | other ↦ h other ] }))

pub returns-in-Registry-clause-put : goal.returns-in-Registry-clause-put
returns-in-Registry-clause-put g c =
    subst (λ (k : Known). OnOk c.load_table-in-Registry.result (IsPut g.S.Source.told (content_of (g.S.Source.files c.args.src.now) c.args.folder.now) (layout_of k) c.args.loaded.now (record c.args.loaded.now { registry = c.load_table-in-Registry.new.rows }))) (sym c.in-Registry.is)
    (on_ok c.load_table-in-Registry.result c.load_table-in-Registry.ensures.read (λ read. record { found = read.found; same = read.same; right = read.right; holds = λ content h. elim [ known.Registry ↦ read.are | other ↦ h other ] }))

pub returns-in-RemoveFile-clause-put : goal.returns-in-RemoveFile-clause-put
returns-in-RemoveFile-clause-put g c =
    subst (λ (k : Known). OnOk c.load_table-in-RemoveFile.result (IsPut g.S.Source.told (content_of (g.S.Source.files c.args.src.now) c.args.folder.now) (layout_of k) c.args.loaded.now (record c.args.loaded.now { remove_file = c.load_table-in-RemoveFile.new.rows }))) (sym c.in-RemoveFile.is)
    (on_ok c.load_table-in-RemoveFile.result c.load_table-in-RemoveFile.ensures.read (λ read. record { found = read.found; same = read.same; right = read.right; holds = λ content h. elim [ known.RemoveFile ↦ read.are | other ↦ h other ] }))

pub returns-in-RemoveRegistry-clause-put : goal.returns-in-RemoveRegistry-clause-put
returns-in-RemoveRegistry-clause-put g c =
    subst (λ (k : Known). OnOk c.load_table-in-RemoveRegistry.result (IsPut g.S.Source.told (content_of (g.S.Source.files c.args.src.now) c.args.folder.now) (layout_of k) c.args.loaded.now (record c.args.loaded.now { remove_registry = c.load_table-in-RemoveRegistry.new.rows }))) (sym c.in-RemoveRegistry.is)
    (on_ok c.load_table-in-RemoveRegistry.result c.load_table-in-RemoveRegistry.ensures.read (λ read. record { found = read.found; same = read.same; right = read.right; holds = λ content h. elim [ known.RemoveRegistry ↦ read.are | other ↦ h other ] }))

pub returns-in-Shortcut-clause-put : goal.returns-in-Shortcut-clause-put
returns-in-Shortcut-clause-put g c =
    subst (λ (k : Known). OnOk c.load_table-in-Shortcut.result (IsPut g.S.Source.told (content_of (g.S.Source.files c.args.src.now) c.args.folder.now) (layout_of k) c.args.loaded.now (record c.args.loaded.now { shortcut = c.load_table-in-Shortcut.new.rows }))) (sym c.in-Shortcut.is)
    (on_ok c.load_table-in-Shortcut.result c.load_table-in-Shortcut.ensures.read (λ read. record { found = read.found; same = read.same; right = read.right; holds = λ content h. elim [ known.Shortcut ↦ read.are | other ↦ h other ] }))

pub returns-in-SummaryInformation-clause-put : goal.returns-in-SummaryInformation-clause-put
returns-in-SummaryInformation-clause-put g c =
    subst (λ (k : Known). OnOk c.load_table-in-SummaryInformation.result (IsPut g.S.Source.told (content_of (g.S.Source.files c.args.src.now) c.args.folder.now) (layout_of k) c.args.loaded.now (record c.args.loaded.now { summary_information = c.load_table-in-SummaryInformation.new.rows }))) (sym c.in-SummaryInformation.is)
    (on_ok c.load_table-in-SummaryInformation.result c.load_table-in-SummaryInformation.ensures.read (λ read. record { found = read.found; same = read.same; right = read.right; holds = λ content h. elim [ known.SummaryInformation ↦ read.are | other ↦ h other ] }))

pub returns-in-Upgrade-clause-put : goal.returns-in-Upgrade-clause-put
returns-in-Upgrade-clause-put g c =
    subst (λ (k : Known). OnOk c.load_table-in-Upgrade.result (IsPut g.S.Source.told (content_of (g.S.Source.files c.args.src.now) c.args.folder.now) (layout_of k) c.args.loaded.now (record c.args.loaded.now { upgrade = c.load_table-in-Upgrade.new.rows }))) (sym c.in-Upgrade.is)
    (on_ok c.load_table-in-Upgrade.result c.load_table-in-Upgrade.ensures.read (λ read. record { found = read.found; same = read.same; right = read.right; holds = λ content h. elim [ known.Upgrade ↦ read.are | other ↦ h other ] }))

pub returns-in-InstallExecuteSequence-clause-fault : goal.returns-in-InstallExecuteSequence-clause-fault
returns-in-InstallExecuteSequence-clause-fault g c =
    subst (λ (k : Known). g.S.Source.told → IfErr c.load_table.result (Fails (Rose (g.S.Source.faults c.args.src.now) (g.S.Source.faults c.load_table.new.src)) (table_fault (layout_of k) (content_of (g.S.Source.files c.args.src.now) c.args.folder.now (layout_of k).name)))) (sym c.in-InstallExecuteSequence.is) c.load_table.ensures.fault

pub returns-in-LaunchCondition-clause-fault : goal.returns-in-LaunchCondition-clause-fault
returns-in-LaunchCondition-clause-fault g c =
    subst (λ (k : Known). g.S.Source.told → IfErr c.load_table-in-LaunchCondition.result (Fails (Rose (g.S.Source.faults c.args.src.now) (g.S.Source.faults c.load_table-in-LaunchCondition.new.src)) (table_fault (layout_of k) (content_of (g.S.Source.files c.args.src.now) c.args.folder.now (layout_of k).name)))) (sym c.in-LaunchCondition.is) c.load_table-in-LaunchCondition.ensures.fault

pub returns-in-MsiFileHash-clause-fault : goal.returns-in-MsiFileHash-clause-fault
returns-in-MsiFileHash-clause-fault g c =
    subst (λ (k : Known). g.S.Source.told → IfErr c.load_table-in-MsiFileHash.result (Fails (Rose (g.S.Source.faults c.args.src.now) (g.S.Source.faults c.load_table-in-MsiFileHash.new.src)) (table_fault (layout_of k) (content_of (g.S.Source.files c.args.src.now) c.args.folder.now (layout_of k).name)))) (sym c.in-MsiFileHash.is) c.load_table-in-MsiFileHash.ensures.fault

pub returns-in-Property-clause-fault : goal.returns-in-Property-clause-fault
returns-in-Property-clause-fault g c =
    subst (λ (k : Known). g.S.Source.told → IfErr c.load_table-in-Property.result (Fails (Rose (g.S.Source.faults c.args.src.now) (g.S.Source.faults c.load_table-in-Property.new.src)) (table_fault (layout_of k) (content_of (g.S.Source.files c.args.src.now) c.args.folder.now (layout_of k).name)))) (sym c.in-Property.is) c.load_table-in-Property.ensures.fault

pub returns-in-Registry-clause-fault : goal.returns-in-Registry-clause-fault
returns-in-Registry-clause-fault g c =
    subst (λ (k : Known). g.S.Source.told → IfErr c.load_table-in-Registry.result (Fails (Rose (g.S.Source.faults c.args.src.now) (g.S.Source.faults c.load_table-in-Registry.new.src)) (table_fault (layout_of k) (content_of (g.S.Source.files c.args.src.now) c.args.folder.now (layout_of k).name)))) (sym c.in-Registry.is) c.load_table-in-Registry.ensures.fault

pub returns-in-RemoveFile-clause-fault : goal.returns-in-RemoveFile-clause-fault
returns-in-RemoveFile-clause-fault g c =
    subst (λ (k : Known). g.S.Source.told → IfErr c.load_table-in-RemoveFile.result (Fails (Rose (g.S.Source.faults c.args.src.now) (g.S.Source.faults c.load_table-in-RemoveFile.new.src)) (table_fault (layout_of k) (content_of (g.S.Source.files c.args.src.now) c.args.folder.now (layout_of k).name)))) (sym c.in-RemoveFile.is) c.load_table-in-RemoveFile.ensures.fault

pub returns-in-RemoveRegistry-clause-fault : goal.returns-in-RemoveRegistry-clause-fault
returns-in-RemoveRegistry-clause-fault g c =
    subst (λ (k : Known). g.S.Source.told → IfErr c.load_table-in-RemoveRegistry.result (Fails (Rose (g.S.Source.faults c.args.src.now) (g.S.Source.faults c.load_table-in-RemoveRegistry.new.src)) (table_fault (layout_of k) (content_of (g.S.Source.files c.args.src.now) c.args.folder.now (layout_of k).name)))) (sym c.in-RemoveRegistry.is) c.load_table-in-RemoveRegistry.ensures.fault

pub returns-in-Shortcut-clause-fault : goal.returns-in-Shortcut-clause-fault
returns-in-Shortcut-clause-fault g c =
    subst (λ (k : Known). g.S.Source.told → IfErr c.load_table-in-Shortcut.result (Fails (Rose (g.S.Source.faults c.args.src.now) (g.S.Source.faults c.load_table-in-Shortcut.new.src)) (table_fault (layout_of k) (content_of (g.S.Source.files c.args.src.now) c.args.folder.now (layout_of k).name)))) (sym c.in-Shortcut.is) c.load_table-in-Shortcut.ensures.fault

pub returns-in-SummaryInformation-clause-fault : goal.returns-in-SummaryInformation-clause-fault
returns-in-SummaryInformation-clause-fault g c =
    subst (λ (k : Known). g.S.Source.told → IfErr c.load_table-in-SummaryInformation.result (Fails (Rose (g.S.Source.faults c.args.src.now) (g.S.Source.faults c.load_table-in-SummaryInformation.new.src)) (table_fault (layout_of k) (content_of (g.S.Source.files c.args.src.now) c.args.folder.now (layout_of k).name)))) (sym c.in-SummaryInformation.is) c.load_table-in-SummaryInformation.ensures.fault

pub returns-in-Upgrade-clause-fault : goal.returns-in-Upgrade-clause-fault
returns-in-Upgrade-clause-fault g c =
    subst (λ (k : Known). g.S.Source.told → IfErr c.load_table-in-Upgrade.result (Fails (Rose (g.S.Source.faults c.args.src.now) (g.S.Source.faults c.load_table-in-Upgrade.new.src)) (table_fault (layout_of k) (content_of (g.S.Source.files c.args.src.now) c.args.folder.now (layout_of k).name)))) (sym c.in-Upgrade.is) c.load_table-in-Upgrade.ensures.fault
