use Rattle.mi_schema.specs.declared.typed_rows.FileRow.{FileRow}
use Rattle.mi_model.specs.World.{World}
use Rattle.mi_model.specs.FilePaths.{file_named}
use Rattle.mi_records.specs.Choices.{IsAsked}
use Rattle.mi_files.proofs.FileGuardLemmas.{Guarding}
use Rattle.mi_files.proofs.guards.add_files.Given as goal

abbrev pub invariant-loop-row : goal.invariant-loop-row
invariant-loop-row g l = (w : World) → IsAsked (g.E.Env.lookups l.seen) (g.E.Sees.choices l.seen) (g.E.Sees.rows l.seen) w → Guarding FileRow w (λ r. r.component) (file_named w) w.given.rows.file l.fn.set l.set l.row-iterator
