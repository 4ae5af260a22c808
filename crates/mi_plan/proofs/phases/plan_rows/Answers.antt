-- Each phase, by its plan call.
use Rattle.std.proofs.Common.{refl, sym, subst}
use Rattle.mi_records.specs.Rows.{Phase as IsPlanned}
use Rattle.mi_seq.specs.declared.phase.Phase.{Phase}
use Rattle.mi_seq.specs.Meaning.{effect}
use Rattle.mi_world.specs.Seen.{world_over}
use Rattle.mi_plan.proofs.phases.plan_rows.Goals as goal

pub returns-in-ProcessComponents-clause-phase : goal.returns-in-ProcessComponents-clause-phase
returns-in-ProcessComponents-clause-phase c = λ held files g of there.
    let w = world_over held files g c.args.seen.now c.args.plan.now in
    subst (λ (p : Phase). IsPlanned held files c.args.plan.now c.plan_process_components.new.plan (effect p) w c.plan_process_components.result) (sym c.in-ProcessComponents.is)
    (c.plan_process_components.ensures.phase held files w (c.phases_ask.ensures held files g of c.requires.costed) refl)

pub returns-in-RemoveRegistryValues-clause-phase : goal.returns-in-RemoveRegistryValues-clause-phase
returns-in-RemoveRegistryValues-clause-phase c = λ held files g of there.
    let w = world_over held files g c.args.seen.now c.args.plan.now in
    subst (λ (p : Phase). IsPlanned held files c.args.plan.now c.plan_remove_registry.new.plan (effect p) w c.plan_remove_registry.result) (sym c.in-RemoveRegistryValues.is)
    (c.plan_remove_registry.ensures.phase held files w (c.phases_ask.ensures held files g of c.requires.costed) refl)

pub returns-in-WriteRegistryValues-clause-phase : goal.returns-in-WriteRegistryValues-clause-phase
returns-in-WriteRegistryValues-clause-phase c = λ held files g of there.
    let w = world_over held files g c.args.seen.now c.args.plan.now in
    subst (λ (p : Phase). IsPlanned held files c.args.plan.now c.plan_write_registry.new.plan (effect p) w c.plan_write_registry.result) (sym c.in-WriteRegistryValues.is)
    (c.plan_write_registry.ensures.phase held files w (c.phases_ask.ensures held files g of c.requires.costed) refl)

pub returns-in-PublishProduct-clause-phase : goal.returns-in-PublishProduct-clause-phase
returns-in-PublishProduct-clause-phase c = λ held files g of there.
    let w = world_over held files g c.args.seen.now c.args.plan.now in
    subst (λ (p : Phase). IsPlanned held files c.args.plan.now c.plan_publish_product.new.plan (effect p) w c.plan_publish_product.result) (sym c.in-PublishProduct.is)
    (c.plan_publish_product.ensures.phase held files w (c.phases_ask.ensures held files g of c.requires.costed) refl)

pub returns-in-RemoveDuplicateFiles-clause-phase : goal.returns-in-RemoveDuplicateFiles-clause-phase
returns-in-RemoveDuplicateFiles-clause-phase c = λ held files g of there.
    let w = world_over held files g c.args.seen.now c.args.plan.now in
    subst (λ (p : Phase). IsPlanned held files c.args.plan.now c.plan_remove_duplicate.new.plan (effect p) w c.plan_remove_duplicate.result) (sym c.in-RemoveDuplicateFiles.is)
    (c.plan_remove_duplicate.ensures.phase held files w (c.phases_ask.ensures held files g of c.requires.costed) refl)

pub returns-in-RemoveFiles-clause-phase : goal.returns-in-RemoveFiles-clause-phase
returns-in-RemoveFiles-clause-phase c = λ held files g of there.
    let w = world_over held files g c.args.seen.now c.args.plan.now in
    subst (λ (p : Phase). IsPlanned held files c.args.plan.now c.plan_remove_files.new.plan (effect p) w c.plan_remove_files.result) (sym c.in-RemoveFiles.is)
    (c.plan_remove_files.ensures.phase held files w (c.phases_ask.ensures held files g of c.requires.costed) refl)

pub returns-in-RemoveFolders-clause-phase : goal.returns-in-RemoveFolders-clause-phase
returns-in-RemoveFolders-clause-phase c = λ held files g of there.
    let w = world_over held files g c.args.seen.now c.args.plan.now in
    subst (λ (p : Phase). IsPlanned held files c.args.plan.now c.plan_remove_folders.new.plan (effect p) w c.plan_remove_folders.result) (sym c.in-RemoveFolders.is)
    (c.plan_remove_folders.ensures.phase held files w (c.phases_ask.ensures held files g of c.requires.costed) refl)

pub returns-in-CreateFolders-clause-phase : goal.returns-in-CreateFolders-clause-phase
returns-in-CreateFolders-clause-phase c = λ held files g of there.
    let w = world_over held files g c.args.seen.now c.args.plan.now in
    subst (λ (p : Phase). IsPlanned held files c.args.plan.now c.plan_create_folders.new.plan (effect p) w c.plan_create_folders.result) (sym c.in-CreateFolders.is)
    (c.plan_create_folders.ensures.phase held files w (c.phases_ask.ensures held files g of c.requires.costed) refl)

pub returns-in-DuplicateFiles-clause-phase : goal.returns-in-DuplicateFiles-clause-phase
returns-in-DuplicateFiles-clause-phase c = λ held files g of there.
    let w = world_over held files g c.args.seen.now c.args.plan.now in
    subst (λ (p : Phase). IsPlanned held files c.args.plan.now c.plan_duplicate.new.plan (effect p) w c.plan_duplicate.result) (sym c.in-DuplicateFiles.is)
    (c.plan_duplicate.ensures.phase held files w (c.phases_ask.ensures held files g of c.requires.costed) refl there)

pub returns-in-RemoveShortcuts-clause-phase : goal.returns-in-RemoveShortcuts-clause-phase
returns-in-RemoveShortcuts-clause-phase c = λ held files g of there.
    let w = world_over held files g c.args.seen.now c.args.plan.now in
    subst (λ (p : Phase). IsPlanned held files c.args.plan.now c.plan_remove_shortcuts.new.plan (effect p) w c.plan_remove_shortcuts.result) (sym c.in-RemoveShortcuts.is)
    (c.plan_remove_shortcuts.ensures.phase held files w (c.phases_ask.ensures held files g of c.requires.costed) refl)

pub returns-in-RemoveEnvironmentStrings-clause-phase : goal.returns-in-RemoveEnvironmentStrings-clause-phase
returns-in-RemoveEnvironmentStrings-clause-phase c = λ held files g of there.
    let w = world_over held files g c.args.seen.now c.args.plan.now in
    subst (λ (p : Phase). IsPlanned held files c.args.plan.now c.plan_remove_environment.new.plan (effect p) w c.plan_remove_environment.result) (sym c.in-RemoveEnvironmentStrings.is)
    (c.plan_remove_environment.ensures.phase held files w (c.phases_ask.ensures held files g of c.requires.costed) refl)

pub returns-in-CreateShortcuts-clause-phase : goal.returns-in-CreateShortcuts-clause-phase
returns-in-CreateShortcuts-clause-phase c = λ held files g of there.
    let w = world_over held files g c.args.seen.now c.args.plan.now in
    subst (λ (p : Phase). IsPlanned held files c.args.plan.now c.plan_create_shortcuts.new.plan (effect p) w c.plan_create_shortcuts.result) (sym c.in-CreateShortcuts.is)
    (c.plan_create_shortcuts.ensures.phase held files w (c.phases_ask.ensures held files g of c.requires.costed) refl)

pub returns-in-WriteEnvironmentStrings-clause-phase : goal.returns-in-WriteEnvironmentStrings-clause-phase
returns-in-WriteEnvironmentStrings-clause-phase c = λ held files g of there.
    let w = world_over held files g c.args.seen.now c.args.plan.now in
    subst (λ (p : Phase). IsPlanned held files c.args.plan.now c.plan_write_environment.new.plan (effect p) w c.plan_write_environment.result) (sym c.in-WriteEnvironmentStrings.is)
    (c.plan_write_environment.ensures.phase held files w (c.phases_ask.ensures held files g of c.requires.costed) refl)
