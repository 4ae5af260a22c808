use Rattle.mi_volume.specs.State.{Images}
use Rattle.mi_volume.proofs.Moments.{weaker}
use Rattle.mi_undo.specs.Stands.{StandsFor}
use Rattle.mi_undo.proofs.AreaRoom.{room_looked}
use Rattle.mi_undo.proofs.CommitLemmas.{works_stays, works_image, go_back_stays}
use Rattle.mi_undo.proofs.area.Open+V.size.Goals as goal

pub returns-clause-works : goal.returns-clause-works
returns-clause-works g c = λ told F w. record {
  goes = weaker _ _ (Images (g.V.Volume.state c.args.self.now.vol.now)) (StandsFor F) (works_image _ _ F w) c.size.ensures.moments;
  works = works_stays (g.V.Volume.state c.args.self.now.vol.now) (g.V.Volume.state c.size.new.self) _ F w (c.size.ensures.stays told);
}

pub returns-clause-can_go_back : goal.returns-clause-can_go_back
returns-clause-can_go_back g c = λ told F can. go_back_stays (g.V.Volume.state c.args.self.now.vol.now) (g.V.Volume.state c.size.new.self) _ F can (c.size.ensures.stays told)

pub returns-clause-room : goal.returns-clause-room
returns-clause-room g c = λ told F n can takes. room_looked (g.V.Volume.state c.args.self.now.vol.now) (g.V.Volume.state c.size.new.self) _ F n can c.size.ensures.moments (c.size.ensures.stays told) takes
