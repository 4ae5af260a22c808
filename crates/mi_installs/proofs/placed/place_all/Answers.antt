-- Row by row.
use Rattle.std.proofs.Common.{List, [], ◌∷◌, map, sym, ap, subst, ◌∙◌, arith}
use Rattle.std.specs.Prelude.{Ok, All, Vec}
use Rattle.std.specs.declared.alloc.Global.{Global}
use Rattle.std.proofs.lemmas.List.{map-append}
use Rattle.std.proofs.lemmas.List.Elements.{All-from_recursion, All-push}
use Rattle.mi_model.specs.InstallFiles.{placed}
use Rattle.mi_model.specs.Refusals.{each}
use Rattle.mi_records.specs.Order.{as_numbered}
use Rattle.mi_installs.specs.declared.placed.Placed.{Placed}
use Rattle.mi_installs.specs.Placings.{as_placed, HasFilePath, HasLanguages}
use Rattle.mi_installs.proofs.PlacedLemmas.{each_more, each_refused, each_all, told_refused}
use Rattle.mi_installs.proofs.placed.place_all.Goals as goal

pub loop-row-init : goal.loop-row-init
loop-row-init g c = record {
  each = λ w asked. ap (λ (ps : List Placed). Ok (map as_placed ps)) (sym c.new-placed.ensures.items);
  files = subst (λ (ps : List Placed). All HasFilePath ps) (sym c.new-placed.ensures.items) (All-from_recursion HasFilePath [] tt);
  languages = subst (λ (ps : List Placed). All HasLanguages ps) (sym c.new-placed.ensures.items) (All-from_recursion HasLanguages [] tt);
}

pub loop-row-preserved : goal.loop-row-preserved
loop-row-preserved g c =
    let one = c.in-Ok.one in
    let before = c.loop-row.placed.items in
    record {
      each = λ w asked.
          each_more (placed w) as_numbered c.args.rows.now c.loop-row.row-index c.row-item.result c.loop-row-test.true c.row-item.is (map as_placed before) (c.loop-row.invariant.each w asked) (as_placed one) (c.in-Ok.ensures.placed w asked)
          ∙ ap Ok (sym (map-append as_placed before (one ∷ [])) ∙ ap (map as_placed) (sym c.in_ok-push-in-Ok.ensures));
      files = subst (λ (ps : List Placed). All HasFilePath ps) (sym c.in_ok-push-in-Ok.ensures) (All-push HasFilePath before one c.loop-row.invariant.files c.in-Ok.ensures.file);
      languages = subst (λ (ps : List Placed). All HasLanguages ps) (sym c.in_ok-push-in-Ok.ensures) (All-push HasLanguages before one c.loop-row.invariant.languages c.in-Ok.ensures.languages);
    }

pub returns-clause-placed : goal.returns-clause-placed
returns-clause-placed g c = λ w asked.
    each_all (placed w) as_numbered c.args.rows.now c.loop-row.row-index (Ok (map as_placed c.loop-row.placed.items)) (omega (arith, c.loop-row-test.false)) (c.loop-row.invariant.each w asked)

pub returns-in-Err-clause-placed : goal.returns-in-Err-clause-placed
returns-in-Err-clause-placed g c = λ w asked.
    told_refused {A = Placed} {C = Vec Placed Global} as_placed (λ (ps : Vec Placed Global). map as_placed ps.items) (placed w (as_numbered c.row-item.result)) (each (placed w) (map as_numbered c.args.rows.now)) c.in-Err.error
    (λ f. each_refused (placed w) as_numbered c.args.rows.now c.loop-row.row-index c.row-item.result c.loop-row-test.true c.row-item.is (map as_placed c.loop-row.placed.items) (c.loop-row.invariant.each w asked) f)
    (c.in-Err.ensures.placed w asked)
