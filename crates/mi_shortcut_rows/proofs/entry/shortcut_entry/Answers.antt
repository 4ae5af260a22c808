-- Field by field, written out, so that an edit that turns it is refused at once (docs/CONTRIBUTING.md).
use Rattle.std.proofs.Common.{[], refl, sym, ap, ◌∙◌}
use Rattle.std.specs.Int.{w16}
use Rattle.std.specs.Option.{option_map_or}
use Rattle.std.proofs.lemmas.Int.{to_z-of_z}
use Rattle.mi_text.specs.Lookups.{Lookups}
use Rattle.mi_shortcut_rows.proofs.EntryLemmas.{entry_is}
use Rattle.mi_shortcut_rows.proofs.entry.shortcut_entry.Goals as goal

pub natural-requires : goal.natural-requires
natural-requires g c = c.requires.hotkey

pub icon_index-requires : goal.icon_index-requires
icon_index-requires g c = c.requires.icon_index

pub natural-requires-in-Ok : goal.natural-requires-in-Ok
natural-requires-in-Ok g c = c.requires.show_cmd

pub returns-in-Ok-clause-entry : goal.returns-in-Ok-clause-entry
returns-in-Ok-clause-entry g c = λ w same.
    let r = c.args.row.now in
    entry_is w r c.args.shown c.args.target c.args.arguments c.in-Ok.description c.in-Ok.icon c.in-Ok.folder c.natural.result c.natural-in-Ok.result _
    c.in-Ok.ensures.description c.natural.ensures c.in-Ok.ensures.icon (to_z-of_z w16 c.icon_index.result (record { sfits = c.icon_index.type_inv }) ∙ c.icon_index.ensures) c.natural-in-Ok.ensures
    (c.in-Ok.ensures.folder ∙ ap (λ (L : Lookups). option_map_or L.property r.wk_dir []) (sym same))

pub returns-in-Ok-clause-at : goal.returns-in-Ok-clause-at
returns-in-Ok-clause-at g c = record { shortcut = _; is = refl; shown = refl }
