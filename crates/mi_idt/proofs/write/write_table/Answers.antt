use Rattle.std.proofs.Common.{◌≡◌, ◌∙◌, ◌++◌, sym, ap, subst, List, ℕ, length, map}
use Rattle.std.specs.List.{All}
use Rattle.mi_idt.specs.declared.table.Column.{Column}
use Rattle.mi_idt.specs.Fronts.{row_text, front_texts}
use Rattle.mi_idt.specs.Written.{with_ends}
use Rattle.mi_idt.specs.Means.{raw_row}
use Rattle.mi_idt.proofs.LayLaws.{wide}
use Rattle.mi_idt.proofs.Spelled.{rows_spelled}
use Rattle.mi_idt.proofs.WriteLemmas.{written_is}
use Rattle.mi_idt.proofs.WriteLaws.{written_spells}
use Rattle.mi_idt.proofs.write.write_table.Goals as goal

pub push_rows-requires : goal.push_rows-requires
push_rows-requires c = subst (λ (cs : List Column). All (λ r. length (raw_row r) ≡ length cs) c.deref-2.result.now) (sym c.deref.ensures.value) (subst (All (λ r. length (raw_row r) ≡ length c.args.table.now.columns.items)) (sym c.deref-2.ensures.value) (wide c.args.table.now.columns.items c.args.table.now.rows.items (rows_spelled c.requires.spelled.0 c.args.table.now c.requires.spelled.1)))

pub returns-clause-written : goal.returns-clause-written
returns-clause-written c =
    c.from_vec.ensures
    ∙ written_is c.args.table.now c.push_rows.new.out.items c.push_front.new.out.items
    (c.in_ok-push_front.ensures ∙ ap (λ (l : List ℕ). l ++ with_ends (front_texts c.args.table.now)) c.new-out.ensures.items)
    (c.in_ok-push_rows.ensures ∙ (λ i. c.push_front.new.out.items ++ with_ends (map (row_text (c.deref.ensures.value i)) (c.deref-2.ensures.value i))))

pub returns-clause-again : goal.returns-clause-again
returns-clause-again c = written_spells c.requires.spelled.0 c.args.table.now c.requires.spelled.1

pub returns-in_err-push_front-clause-again : goal.returns-in_err-push_front-clause-again
returns-in_err-push_front-clause-again c = written_spells c.requires.spelled.0 c.args.table.now c.requires.spelled.1

pub returns-in_err-push_rows-clause-again : goal.returns-in_err-push_rows-clause-again
returns-in_err-push_rows-clause-again c = written_spells c.requires.spelled.0 c.args.table.now c.requires.spelled.1
