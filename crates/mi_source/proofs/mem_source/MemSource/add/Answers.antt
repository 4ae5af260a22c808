use Rattle.std.proofs.Common.{Some, List, ℕ, ap, ◌∙◌}
use Rattle.std.specs.FinMap.{insert}
use Rattle.std.specs.String.{string_bytes}
use Rattle.mi_text.specs.Maps.{Name}
use Rattle.mi_source.specs.MemSource.{files_in}
use Rattle.mi_source.proofs.FileLemmas.{stored}
use Rattle.mi_source.proofs.mem_source.MemSource.add.Goals as goal

pub returns-clause-ok : goal.returns-clause-ok
returns-clause-ok c =
    stored c.args.self.now.files c.insert.new.self (string_bytes c.in_ok-path.path) (Some c.in_ok-bytes.bytes) c.in_ok-insert.ensures.updates
    ∙ ap (λ (path : Name). insert (files_in c.args.self.now) path c.in_ok-bytes.bytes) c.in_ok-path.ensures.ok
    ∙ ap (λ (bytes : List ℕ). insert (files_in c.args.self.now) c.args.path.now bytes) c.in_ok-bytes.ensures
