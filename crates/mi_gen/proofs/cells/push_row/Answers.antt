use Rattle.std.proofs.Common.{◌≡◌, ◌∙◌, ◌++◌, [], ◌∷◌, List, ℕ, ap, map, append_assoc, append-nil, sym}
use Rattle.mi_idt.specs.Written.{written_cell, written_row}
use Rattle.mi_idt.proofs.Joins.{tabbed_is}
use Rattle.mi_gen.specs.Fields.{cell}
use Rattle.mi_gen.proofs.cells.push_row.Goals as goal

pub returns : goal.returns
returns c =
    let old : List ℕ = c.args.out.now.items in
    let row : List ℕ = written_row (map cell c.args.fields.now) in
    let fields : c.push_fields.new.out.items ≡ old ++ row = c.in_ok-push_fields.ensures ∙ ap (λ (l : List ℕ). old ++ l) (tabbed_is (map written_cell (map cell c.args.fields.now))) in
    c.in_ok-push_end.ensures ∙ ap (λ (l : List ℕ). l ++ 13 ∷ 10 ∷ []) fields
    ∙ append_assoc old row (13 ∷ 10 ∷ []) ∙ ap (λ (l : List ℕ). old ++ l) (sym (append-nil (row ++ 13 ∷ 10 ∷ [])))
