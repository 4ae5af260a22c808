use Rattle.std.proofs.Common.{ℕ, List, [], ◌∷◌, ◌++◌, take, true, not, Vec, sym, ap, subst, ◌∙◌}
use Rattle.std.specs.declared.alloc.Global.{Global}
use Rattle.std.specs.BTreeSet.{Updates, contains}
use Rattle.mi_text.specs.Maps.{name_cmp}
use Rattle.mi_undo.specs.Notes.{new_names}
use Rattle.mi_undo.specs.Area.{Knows}
use Rattle.mi_undo.specs.Entry.{AreGood}
use Rattle.mi_undo.proofs.FreshLemmas.{knows_more, knows_nothing, fresh_more, fresh_same, good-push, take_next}
use Rattle.mi_undo.proofs.EntrySteps.{outside_at}
use Rattle.mi_undo.proofs.note.fresh_names.Goals as goal
use Rattle.mi_undo.proofs.note.fresh_names.Goals.{then-branch+in_ok-copy_of+in_ok-push, else-branch}

pub loop-name-init : goal.loop-name-init
loop-name-init c = record {
  fresh = λ known knows. c.new-fresh.ensures.items;
  knows = λ known knows. knows_nothing _ known knows;
  good = subst AreGood (sym c.new-fresh.ensures.items) tt;
}

pub loop-name-preserved : goal.loop-name-preserved
loop-name-preserved c =
    let next = take_next c.args.names.now c.loop-name.name-index c.name-item.result c.loop-name-test.true c.name-item.is in
    let same_key = c.in_ok-copy.ensures in
    let added = c.in_ok-insert.ensures.added ∙ ap (λ (x : List ℕ). not (contains name_cmp c.loop-name.seen x)) same_key in
    record {
      fresh = λ known knows. elim c.if-branch.branch [
        | then-branch+in_ok-copy_of+in_ok-push w ↦
            ap (λ (v : Vec (List ℕ) Global). v.items) w.fresh-is ∙ w.in_ok-push.ensures.items ∙ ap (λ (x : List ℕ). c.loop-name.fresh.items ++ x ∷ []) w.in_ok-copy_of.ensures.copy
            ∙ fresh_more c.loop-name.seen known (take c.loop-name.name-index c.args.names.now) c.loop-name.fresh.items c.name-item.result c.in_ok-insert.field-0 (c.loop-name.invariant.knows known knows) added w.if-branch.true (c.loop-name.invariant.fresh known knows)
            ∙ ap (λ (xs : List (List ℕ)). new_names known xs) (sym next)
        | else-branch w ↦
            ap (λ (v : Vec (List ℕ) Global). v.items) w.fresh-is
            ∙ fresh_same c.loop-name.seen known (take c.loop-name.name-index c.args.names.now) c.loop-name.fresh.items c.name-item.result c.in_ok-insert.field-0 (c.loop-name.invariant.knows known knows) added w.if-branch.false (c.loop-name.invariant.fresh known knows)
            ∙ ap (λ (xs : List (List ℕ)). new_names known xs) (sym next)
      ];
      knows = λ known knows.
          subst (λ (xs : List (List ℕ)). Knows c.insert.new.self (known ++ new_names known xs)) (sym next)
          (knows_more c.loop-name.seen c.insert.new.self known (take c.loop-name.name-index c.args.names.now) c.name-item.result (c.loop-name.invariant.knows known knows)
          (subst (λ (x : List ℕ). Updates name_cmp c.loop-name.seen c.insert.new.self x true) same_key c.in_ok-insert.ensures.updates));
      good = elim c.if-branch.branch [
        | then-branch+in_ok-copy_of+in_ok-push w ↦
            subst AreGood (sym (ap (λ (v : Vec (List ℕ) Global). v.items) w.fresh-is ∙ w.in_ok-push.ensures.items ∙ ap (λ (x : List ℕ). c.loop-name.fresh.items ++ x ∷ []) w.in_ok-copy_of.ensures.copy))
            (good-push c.loop-name.fresh.items c.name-item.result c.loop-name.invariant.good w.in_ok-copy_of.ensures.good)
        | else-branch w ↦ subst AreGood (sym (ap (λ (v : Vec (List ℕ) Global). v.items) w.fresh-is)) c.loop-name.invariant.good
      ];
    }

pub copy_of-requires : goal.copy_of-requires
copy_of-requires c = outside_at c.args.names.now c.loop-name.name-index c.name-item.result c.requires c.loop-name-test.true c.name-item.is
