use Rattle.std.proofs.Common.{sym, ap, ◌∙◌}
use Rattle.mi_dirs.specs.Rows.{row_with}
use Rattle.mi_dirs.proofs.OwnLemmas.{own_parent, other_parent, texts_same, texts_differ}
use Rattle.mi_dirs.proofs.own.parent_of.Goals as goal

pub returns-then-eq : goal.returns-then-eq
returns-then-eq c = λ rows h.
    own_parent rows c.args.row.now c.in-Some.parent c.in-Some.is
    (sym c.as_str.ensures ∙ texts_same c.as_str.result.now c.as_str-2.result.now (sym c.eq.ensures ∙ c.if-eq.true) ∙ c.as_str-2.ensures)

pub returns-in-Some-get : goal.returns-in-Some-get
returns-in-Some-get c = λ rows h.
    c.in-Some-get.ensures.value ∙ h c.as_str-3.result.now ∙ ap (row_with rows) c.as_str-3.ensures
    ∙ sym (other_parent rows c.args.row.now c.in-Some.parent c.in-Some.is
    (λ e. texts_differ c.as_str.result.now c.as_str-2.result.now (sym c.eq.ensures ∙ c.if-eq.false) (c.as_str.ensures ∙ e ∙ sym c.as_str-2.ensures)))
