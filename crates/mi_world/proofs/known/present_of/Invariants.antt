use Rattle.std.proofs.Common.{List, ℕ}
use Rattle.mi_text.specs.Maps.{Map}
use Rattle.mi_image.specs.Items.{machine_over}
use Rattle.mi_schema.specs.RowsOf.{rows_in}
use Rattle.mi_schema.specs.TableRows.{product_code}
use Rattle.mi_world.specs.Known.{ArePresent}
use Rattle.mi_world.proofs.known.present_of.Given as goal

abbrev pub invariant-loop-place : goal.invariant-loop-place
invariant-loop-place l = (base files : Map (List ℕ)) → ArePresent (rows_in l.loaded).component (machine_over base files l.image) (product_code (rows_in l.loaded)) l.held l.place l.flags

abbrev pub decreases-loop-place : goal.decreases-loop-place
decreases-loop-place l = l.place
