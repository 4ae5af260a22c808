-- A shortcut of what stands in its record.
use Rattle.std.specs.Prelude.{ℕ, List}
use Rattle.mi_base.specs.declared.entry.Shortcut.{Shortcut}
use Rattle.mi_base.specs.declared.decode.Started.{Started}

abbrev pub shortcut_started : List ℕ → Started → Shortcut
shortcut_started shown s = record { shown = shown; target = s.target.now; arguments = s.arguments.now; description = s.description.now; hotkey = s.hotkey; icon = s.icon.now; icon_index = s.icon_index; show = s.show; folder = s.folder.now }
