-- The row tells its directory's.
use Rattle.std.proofs.Common.{◌≡◌, List, ℕ, sym, ap, ◌∙◌}
use Rattle.std.specs.FinMap.{get, insert, get-insert}
use Rattle.mi_text.specs.Maps.{Name, Map}
use Rattle.mi_text.proofs.MapLemmas.{names_total}
use Rattle.mi_image.specs.Items.{machine_over}
use Rattle.mi_world.proofs.RecallLemmas.{told_some_over}
use Rattle.mi_world.proofs.recall.tell.Goals as goal

pub returns-in_ok-put-in-Some : goal.returns-in_ok-put-in-Some
returns-in_ok-put-in-Some c = λ held files dir.
    let row = c.args.row.now in
    let path = c.in-Some.path.now in
    let put : c.put.new.self ≡ insert c.args.table.now row.directory path =
    c.in_ok-put-in-Some.ensures ∙ ap (λ (k : Name). insert c.args.table.now k c.in_ok-path-in-Some.path) c.as_str-in-Some.ensures ∙ ap (λ (v : List ℕ). insert c.args.table.now row.directory v) (c.in_ok-path-in-Some.ensures ∙ c.as_str.ensures) in
    ap (λ (t : Map (List ℕ)). get t dir) put ∙ get-insert names_total c.args.table.now row.directory path dir
    ∙ told_some_over (machine_over held files c.args.image.now) c.args.code.number row dir path (get c.args.table.now dir) (sym (c.in-Some.ensures held files))
