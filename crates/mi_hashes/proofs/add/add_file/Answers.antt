use Rattle.std.proofs.Common.{◌≡◌, Some, None}
use Rattle.std.specs.FinMap.{get}
use Rattle.mi_image.specs.declared.item.Item.TheVariants.{Head, Whole}
use Rattle.mi_image.proofs.EffectLemmas.{content_there}
use Rattle.mi_hashes.proofs.FileLemmas.{as_stated, found_at, missing_at, bytes_of_whole, bytes_of_none, holds_with, holds_same}
use Rattle.mi_hashes.proofs.add.add_file.Goals as goal

pub returns-in_ok-add_content-in-Some-Head-clause-adds : goal.returns-in_ok-add_content-in-Some-Head-clause-adds
returns-in_ok-add_content-in-Some-Head-clause-adds g c = λ told source there m holds.
    let held = (g.V.Volume.state c.args.vol.now).held in
    let files = g.S.Source.files c.args.src.now in
    let items = c.args.image.now in
    let q = c.args.name.now in
    let h = c.in-Some-Head.head in
    let content = c.in-Some-Head.content in
    let at : get items q ≡ Some (Head h content) = found_at items c.as_str.result.now q c.in-Some-Head.field-0.now (Head h content) c.in-Some-Head.ensures.value c.as_str.ensures.text c.in-Some-Head.field-0-is in
    holds_with _ m _ _ (content_there held files items q h content c.get.ensures.right at)
    (c.in_ok-add_content-in-Some-Head.ensures.adds told source (as_stated held files items q h content c.get.ensures.right there at) m holds)

pub returns-in-Some-Whole-clause-adds : goal.returns-in-Some-Whole-clause-adds
returns-in-Some-Whole-clause-adds g c = λ told source there m holds.
    let held = (g.V.Volume.state c.args.vol.now).held in
    let files = g.S.Source.files c.args.src.now in
    let items = c.args.image.now in
    let q = c.args.name.now in
    let e = c.in-Some-Whole.field-0-0 in
    let at : get items q ≡ Some (Whole e) = found_at items c.as_str.result.now q c.in-Some-Whole.field-0.now (Whole e) c.in-Some-Whole.ensures.value c.as_str.ensures.text c.in-Some-Whole.field-0-is in
    holds_same c.args.hasher.now m _ (bytes_of_whole held files items q e c.get.ensures.right at) holds

pub returns-in-None-clause-adds : goal.returns-in-None-clause-adds
returns-in-None-clause-adds g c = λ told source there m holds.
    let held = (g.V.Volume.state c.args.vol.now).held in
    let files = g.S.Source.files c.args.src.now in
    let items = c.args.image.now in
    let q = c.args.name.now in
    let at : get items q ≡ None = missing_at items c.as_str.result.now q c.in-None.ensures.value c.as_str.ensures.text in
    holds_same c.args.hasher.now m _ (bytes_of_none held files items q at) holds
