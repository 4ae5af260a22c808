use Rattle.mi_image.proofs.ListLemmas.{names_in}
use Rattle.mi_image.proofs.image.Image.names.Goals as goal

pub returns : goal.returns
returns c held files = names_in held files c.names_under.result c.self.inside.items c.args.self.now c.args.front.now c.self.view_is c.names_under.ensures.found c.names_under.ensures.ordered
