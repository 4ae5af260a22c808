use Rattle.std.proofs.Common.{◌≡◌, ℕ, List, ◌++◌, take}
use Rattle.mi_undo.specs.Notes.{new_names}
use Rattle.mi_undo.specs.Area.{Knows}
use Rattle.mi_undo.specs.Entry.{AreGood}
use Rattle.mi_undo.proofs.note.fresh_names.Given as goal

abbrev pub invariant-loop-name : goal.invariant-loop-name
invariant-loop-name l = record {
  fresh : (known : List (List ℕ)) → Knows l.fn.seen known → l.fresh.items ≡ new_names known (take l.name-index l.names);
  knows : (known : List (List ℕ)) → Knows l.fn.seen known → Knows l.seen (known ++ new_names known (take l.name-index l.names));
  good : AreGood l.fresh.items;
}
