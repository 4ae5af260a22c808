-- The empty text is no path.
use Rattle.std.proofs.Common.{List, ℕ, Bor, sym, ap, ◌∙◌, subst}
use Rattle.std.specs.Prelude.{Err}
use Rattle.mi_records.specs.Clients.{path_told}
use Rattle.mi_records.specs.Stops.{TellsBy}
use Rattle.mi_records.proofs.ClientLemmas.{path_none, path_some}
use Rattle.mi_records.proofs.key_path.path_of.Goals as goal

pub returns-then-is_empty : goal.returns-then-is_empty
returns-then-is_empty g c =
    subst (λ (text : List ℕ). TellsBy {A = Bor (List ℕ)} (λ path. path.now) (path_told text c.args.number) (Err c.bad_path.result)) c.file-path.ensures
    (path_none c.file-path.result.now c.args.number c.bad_path.result (sym c.is_empty.ensures ∙ c.if-is_empty.true) c.bad_path.ensures)

pub returns : goal.returns
returns g c = ap (λ (text : List ℕ). path_told text c.args.number) (sym c.file-path.ensures) ∙ path_some c.file-path.result.now c.args.number (sym c.is_empty.ensures ∙ c.if-is_empty.false)
