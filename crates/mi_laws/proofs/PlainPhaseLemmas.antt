-- All phases are plain.
use Rattle.std.specs.List.{AllByRecursion}
use Rattle.mi_text.specs.Maps.{Name}
use Rattle.mi_model.specs.World.{Effect}
use Rattle.mi_model.specs.Phases.{phases}
use Rattle.mi_laws.proofs.PlainRowLemmas.{IsPlainPhase}
use Rattle.mi_laws.proofs.PlainComponentLemmas.{process_components_plain}
use Rattle.mi_laws.proofs.PlainRegistryLemmas.{remove_registry_values_plain, write_registry_values_plain}
use Rattle.mi_laws.proofs.PlainFileLemmas.{remove_duplicate_files_plain, remove_files_plain, remove_folders_plain, create_folders_plain, install_files_plain, duplicate_files_plain}
use Rattle.mi_laws.proofs.PlainRecordLemmas.{remove_shortcuts_plain, remove_environment_strings_plain, create_shortcuts_plain, write_environment_strings_plain, publish_product_plain}

infixr 10 ◌and◌
◌and◌ : {A B : Type 0} → A → B → A × B
a and b = (a, b)

pub phases_plain : AllByRecursion (λ (p : Name × Effect). IsPlainPhase p.1) phases
unfolding phases
phases_plain =
    process_components_plain
    and remove_registry_values_plain
    and remove_shortcuts_plain
    and remove_environment_strings_plain
    and remove_duplicate_files_plain
    and remove_files_plain
    and remove_folders_plain
    and create_folders_plain
    and install_files_plain
    and duplicate_files_plain
    and create_shortcuts_plain
    and write_registry_values_plain
    and write_environment_strings_plain
    and publish_product_plain
    and tt
