use Rattle.std.proofs.Common.{◌≡◌, ◌∙◌, ℕ, Bool, List, Some, map, length, sym, ap, subst, arith}
use Rattle.std.specs.Prelude.{Err}
use Rattle.std.proofs.lemmas.List.{take_all, length-map}
use Rattle.mi_model.specs.FilePaths.{path_of_row}
use Rattle.mi_model.specs.FileVersions.{is_called_for, product_language}
use Rattle.mi_installs.specs.declared.placed.Placed.{Placed}
use Rattle.mi_installs.proofs.CallLemmas.{reads_first, reads_then, causes_before, seen_later, language_is, called_more, size_more}
use Rattle.mi_installs.proofs.deciding.called_for.Goals as goal

pub loop-placed-init : goal.loop-placed-init
loop-placed-init g c = record {
  called = λ w seen told src paths. c.new-called.ensures.items;
  size = ap length c.new-called.ensures.items;
  reads = reads_first g.V.Volume.told (g.V.Volume.state c.args.vol.now) (g.S.Source.files c.args.src.now) (g.S.Source.faults c.args.src.now);
}

pub loop-placed-preserved : goal.loop-placed-preserved
loop-placed-preserved g c =
    let state = g.V.Volume.state in
    let files = g.S.Source.files in
    let faults = g.S.Source.faults in
    let told_here = g.V.Volume.told in
    let rows : List Placed = c.args.rows.now in
    let i : ℕ = c.loop-placed.placed-index in
    let item : Placed = c.placed-item.result in
    let before = c.loop-placed.invariant.reads in
    record {
      called = λ w seen told src paths.
          let later = seen_later (g.E.Env.lookups c.args.seen.now) (g.E.Sees.choices c.args.seen.now) (g.E.Sees.rows c.args.seen.now) c.args.image.now w told_here (state c.args.vol.now) (state c.loop-placed.vol) (files c.args.src.now) (files c.loop-placed.src) (faults c.args.src.now) (faults c.loop-placed.src) before told seen in
          let path : path_of_row w item.row.now ≡ Some item.path = subst (λ (p : Placed). path_of_row w p.row.now ≡ Some p.path) (sym c.placed-item.is) (paths i item c.loop-placed-test.true) in
          let language : c.in_ok-language.language ≡ product_language w = language_is w (g.E.Sees.rows c.args.seen.now) c.package.result.now c.in_ok-language.language seen.asked.rows c.package.ensures c.in_ok-language.ensures in
          let one : c.in-Ok.one ≡ is_called_for w item.row.now = c.in-Ok.ensures.called w later told src path language in
          called_more (λ (p : Placed). is_called_for w p.row.now) rows i item c.loop-placed.called.items c.push.new.self.items c.in-Ok.one c.placed-item.is c.loop-placed-test.true (c.loop-placed.invariant.called w seen told src paths) one c.in_ok-push-in-Ok.ensures.items;
      size = size_more c.loop-placed.called.items c.push.new.self.items c.in-Ok.one i c.loop-placed.invariant.size c.in_ok-push-in-Ok.ensures.items;
      reads = reads_then told_here (state c.args.vol.now) (state c.loop-placed.vol) (state c.is_called_for.new.vol) (files c.args.src.now) (files c.loop-placed.src) (files c.is_called_for.new.src) (faults c.args.src.now) (faults c.loop-placed.src) (faults c.is_called_for.new.src) before c.is_called_for.ensures.reads;
    }

pub returns-in-Err-clause-causes : goal.returns-in-Err-clause-causes
returns-in-Err-clause-causes g c =
    let state = g.V.Volume.state in
    causes_before {A = Bool} g.V.Volume.told (state c.args.vol.now) (state c.loop-placed.vol) (state c.is_called_for.new.vol) (g.S.Source.files c.args.src.now) (g.S.Source.files c.loop-placed.src) (g.S.Source.faults c.args.src.now) (g.S.Source.faults c.loop-placed.src) (g.S.Source.faults c.is_called_for.new.src) c.loop-placed.invariant.reads (Err c.in-Err.error) c.in-Err.ensures.causes

pub returns-in-Err-clause-reads : goal.returns-in-Err-clause-reads
returns-in-Err-clause-reads g c =
    let state = g.V.Volume.state in
    let files = g.S.Source.files in
    let faults = g.S.Source.faults in
    reads_then g.V.Volume.told (state c.args.vol.now) (state c.loop-placed.vol) (state c.is_called_for.new.vol) (files c.args.src.now) (files c.loop-placed.src) (files c.is_called_for.new.src) (faults c.args.src.now) (faults c.loop-placed.src) (faults c.is_called_for.new.src) c.loop-placed.invariant.reads c.is_called_for.ensures.reads

pub returns-clause-called : goal.returns-clause-called
returns-clause-called g c = λ w seen told src paths.
    let whole = map (λ (p : Placed). is_called_for w p.row.now) c.args.rows.now in
    c.loop-placed.invariant.called w seen told src paths ∙ take_all c.loop-placed.placed-index whole (omega (arith, length-map c.args.rows.now (λ (p : Placed). is_called_for w p.row.now), c.loop-placed-test.false))
