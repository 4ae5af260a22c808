use Rattle.std.proofs.Common.{◌≡◌, map, take}
use Rattle.std.specs.List.{filter_map}
use Rattle.mi_model.specs.World.{World}
use Rattle.mi_records.specs.Choices.{IsAsked}
use Rattle.mi_records.specs.Order.{as_numbered}
use Rattle.mi_shortcuts.specs.Entries.{touched_by}
use Rattle.mi_shortcuts.proofs.uncreate.touched.Given as goal

abbrev pub invariant-loop-row : goal.invariant-loop-row
invariant-loop-row g l = (w : World) → IsAsked (g.S.Env.lookups l.seen) (g.S.Sees.choices l.seen) (g.S.Sees.rows l.seen) w → l.folders.items ≡ filter_map (touched_by w) (map as_numbered (take l.row-index l.rows))
