use Rattle.std.proofs.Common.{sym, ap, ◌∙◌}
use Rattle.mi_schema.specs.Dangling.{keys_in}
use Rattle.mi_schema.specs.RowsOf.{rows_in}
use Rattle.mi_rows.specs.Values.{is_key_in}
use Rattle.mi_schema.proofs.CheckLemmas.{has_key}
use Rattle.mi_schema.proofs.package.Package.has.Goals as goal

pub returns-in-Component : goal.returns-in-Component
unfolding rows_in
returns-in-Component c =
    c.contains_key.ensures ∙ has_key c.args.key.now c.args.self.now.component.entries _ c.requires.component
    ∙ sym (ap (λ t. is_key_in (keys_in (rows_in c.args.self.now) t) c.args.key.now) c.in-Component.is)

pub returns-in-Directory : goal.returns-in-Directory
unfolding rows_in
returns-in-Directory c =
    c.contains_key-in-Directory.ensures ∙ has_key c.args.key.now c.args.self.now.directory.entries _ c.requires.directory
    ∙ sym (ap (λ t. is_key_in (keys_in (rows_in c.args.self.now) t) c.args.key.now) c.in-Directory.is)

pub returns-in-Feature : goal.returns-in-Feature
unfolding rows_in
returns-in-Feature c =
    c.contains_key-in-Feature.ensures ∙ has_key c.args.key.now c.args.self.now.feature.entries _ c.requires.feature
    ∙ sym (ap (λ t. is_key_in (keys_in (rows_in c.args.self.now) t) c.args.key.now) c.in-Feature.is)

pub returns-in-File : goal.returns-in-File
unfolding rows_in
returns-in-File c =
    c.contains_key-in-File.ensures ∙ has_key c.args.key.now c.args.self.now.file.entries _ c.requires.file
    ∙ sym (ap (λ t. is_key_in (keys_in (rows_in c.args.self.now) t) c.args.key.now) c.in-File.is)

pub returns-in-Registry : goal.returns-in-Registry
unfolding rows_in
returns-in-Registry c =
    c.contains_key-in-Registry.ensures ∙ has_key c.args.key.now c.args.self.now.registry.entries _ c.requires.registry
    ∙ sym (ap (λ t. is_key_in (keys_in (rows_in c.args.self.now) t) c.args.key.now) c.in-Registry.is)
