use Rattle.std.proofs.Common.{ℕ, List, drop, sym, ap, ◌∙◌, arith, length-drop}
use Rattle.std.proofs.lemmas.List.{take_all}
use Rattle.mi_undo.proofs.EntryNumbers.{entry_some, entry_none}
use Rattle.mi_undo.proofs.names.entry_number.Goals as goal

pub returns-clause-some : goal.returns-clause-some
returns-clause-some c =
    entry_some c.number_of.result c.args.name.now _ (take_all _ (drop 4 c.as_bytes.result.now) (omega (arith, length-drop 4 c.as_bytes.result.now)) ∙ ap (λ (l : List ℕ). drop 4 l) c.as_bytes.ensures.bytes)
    (sym c.is_entry_like.ensures ∙ c.if-not-is_entry_like.false) c.number_of.ensures.some

pub returns-clause-none : goal.returns-clause-none
returns-clause-none c =
    entry_none c.number_of.result c.args.name.now _ (take_all _ (drop 4 c.as_bytes.result.now) (omega (arith, length-drop 4 c.as_bytes.result.now)) ∙ ap (λ (l : List ℕ). drop 4 l) c.as_bytes.ensures.bytes)
    c.number_of.ensures.none
