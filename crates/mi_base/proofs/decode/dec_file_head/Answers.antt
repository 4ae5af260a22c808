use Rattle.std.proofs.Common.{sym}
use Rattle.mi_base.proofs.ByteLemmas.{from_index}
use Rattle.mi_base.proofs.FrontLemmas.{front_gives, no_head}
use Rattle.mi_base.proofs.decode.dec_file_head.Goals as goal

pub returns-in-Some : goal.returns-in-Some
returns-in-Some c whole len start =
    front_gives c.head_in.result c.args.name.now c.in-Some.path.now c.args.front.now whole c.args.record_len (sym c.in-Some.ensures) (from_index c.args.front.now (λ i. (c.type_inv.front i).fits)) c.requires.within c.requires.enough len start c.head_in.ensures

pub returns-in-None : goal.returns-in-None
returns-in-None c whole len start = no_head c.args.name.now whole (sym c.in-None.ensures)
