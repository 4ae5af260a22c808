use Rattle.std.proofs.Common.{List, sym, subst, ◌∙◌}
use Rattle.mi_script.specs.declared.rec.Rec.{Rec}
use Rattle.mi_commands.specs.Room.{Lacks}
use Rattle.std.specs.Prelude.{None}
use Rattle.mi_commands.proofs.RoomLemmas.{none_fit, no_scripts}
use Rattle.mi_commands.proofs.room.lack_in.Goals as goal

pub returns-then-is_empty-clause-lacks : goal.returns-then-is_empty-clause-lacks
returns-then-is_empty-clause-lacks g c = λ v.
    let s = g.V.Volume.state c.args.vol.now in
    subst (λ (rs : List (List Rec)). Lacks s.capacity s.held rs None) (sym (no_scripts c.args.scripts.now (sym c.is_empty.ensures ∙ c.if-is_empty.true))) (none_fit s.capacity s.held (c.requires.room v).fits)
