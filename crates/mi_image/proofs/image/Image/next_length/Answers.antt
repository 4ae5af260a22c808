use Rattle.std.specs.Prelude.{string_bytes}
use Rattle.mi_image.proofs.LengthLemmas.{none_behind, next_is, none_till}
use Rattle.mi_image.proofs.image.Image.next_length.Goals as goal

pub returns-in-Some-clause-next : goal.returns-in-Some-clause-next
returns-in-Some-clause-next c = next_is c.args.self.now c.args.root c.args.size c.args.front.now (string_bytes c.in_ok-from.from) _ c.in-Some.item.now c.key_length.result c.key_length.ensures c.in_ok-from.ensures c.requires.size c.first_from.ensures.right c.in-Some.ensures.first

pub returns-in-Some-clause-none : goal.returns-in-Some-clause-none
returns-in-Some-clause-none c k within small till = none_till c.args.self.now c.args.root c.args.size k c.args.front.now (string_bytes c.in_ok-from.from) _ c.in-Some.item.now c.key_length.result c.key_length.ensures c.in_ok-from.ensures c.requires.size c.first_from.ensures.right c.in-Some.ensures.first within small till

pub returns-clause-none : goal.returns-clause-none
returns-clause-none c k within small till = none_behind c.args.self.now c.args.root c.args.size k c.args.front.now (string_bytes c.in_ok-from.from) c.in_ok-from.ensures c.requires.size small within c.in-None.ensures.none
