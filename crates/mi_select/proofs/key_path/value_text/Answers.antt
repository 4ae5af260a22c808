use Rattle.mi_select.proofs.KeyPathLemmas.{value_shown}
use Rattle.mi_select.proofs.key_path.value_text.Goals as goal

pub returns : goal.returns
returns c =
    value_shown c.args.place.now c.root-root.result c.key-key.result.now c.name-name.result.now _ c.in_ok-shown.shown
    c.root-root.ensures.root c.root-root.ensures.right c.key-key.ensures.key c.name-name.ensures.name c.in_ok-shown.ensures c.in_ok-text.ensures.ok
