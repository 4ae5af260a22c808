use Rattle.std.proofs.Common.{ℕ, List, refl, sym, ap, subst, ◌∙◌}
use Rattle.mi_undo.specs.Area.{AreOutside, Knows, place_names}
use Rattle.mi_undo.specs.declared.kept.Place.{Place}
use Rattle.mi_undo.proofs.BeginLemmas.{opens, begin_room}
use Rattle.mi_undo.proofs.area.begin.Goals as goal

pub returns-in-Ok-clause-fresh : goal.returns-in-Ok-clause-fresh
returns-in-Ok-clause-fresh g c =
    let none = ap (λ (l : List Place). place_names l) c.kept_from.ensures.places in
    record {
      is_working = record { working = refl; knows = subst (λ (l : List (List ℕ)). Knows c.kept_from.result.seen l) (sym none) c.kept_from.ensures.knows; outside = subst AreOutside (sym none) tt };
      names = none;
      entries = c.kept_from.ensures.entries;
    }

pub returns-in-Ok-clause-opens : goal.returns-in-Ok-clause-opens
returns-in-Ok-clause-opens g c = λ told.
    let begins = c.begin_area.ensures.begins told in
    opens (g.V.Volume.state c.args.vol.now) (g.V.Volume.state c.begin_area.new.vol) c.kept_from.result begins.goes (c.in-Ok.ensures.begins told).ok begins.outside
    (c.kept_from.ensures.marker ∙ c.in-Ok.ensures.name) c.kept_from.ensures.area c.kept_from.ensures.entries c.kept_from.ensures.places

pub returns-in-Err-clause-declines : goal.returns-in-Err-clause-declines
returns-in-Err-clause-declines g c = λ told.
    let begins = c.begin_area.ensures.begins told in
    record { goes = begins.goes; leaves = begins.leaves; outside = begins.outside; free = c.in-Err.ensures.free told }

pub returns-in-Ok-clause-room : goal.returns-in-Ok-clause-room
returns-in-Ok-clause-room g c = λ told.
    let s = g.V.Volume.state c.args.vol.now in let t = g.V.Volume.state c.begin_area.new.vol in
    record { takes = (c.in-Ok.ensures.begins told).takes; goes = λ fits. begin_room s t (c.begin_area.ensures.begins told).unnoted }

pub returns-in-Err-clause-room_declined : goal.returns-in-Err-clause-room_declined
returns-in-Err-clause-room_declined g c = λ told. begin_room (g.V.Volume.state c.args.vol.now) (g.V.Volume.state c.begin_area.new.vol) (c.begin_area.ensures.begins told).unnoted
