use Rattle.std.proofs.Common.{◌≡◌, ◌∙◌, ◌-◌, refl, sym, ap, map, arith}
use Rattle.std.specs.FinMap.{from_entries}
use Rattle.std.specs.List.{range_with_len}
use Rattle.mi_source.specs.Paths.{Files}
use Rattle.mi_model.specs.Selftest.{content}
use Rattle.mi_gen.specs.Tables.{with_file}
use Rattle.mi_gen.proofs.ContentLemmas.{contents_from, one_before}
use Rattle.mi_gen.proofs.package.add_contents.Goals as goal

pub loop-file-init : goal.loop-file-init
loop-file-init c =
    let none : c.args.files - c.args.files ≡ 0 = omega arith in
    (c.requires ∙ ap (λ k. from_entries (map content (range_with_len c.args.files k))) (sym none), refl)

pub loop-file-preserved : goal.loop-file-preserved
loop-file-preserved c = (
  c.in_ok-add_content.ensures.files ∙ ap (λ (files : Files). with_file files (content (c.loop-file.file - 1))) c.loop-file.invariant.0
      ∙ one_before c.loop-file.file c.args.files (omega arith) (omega arith),
  c.in_ok-add_content.ensures.meter ∙ c.loop-file.invariant.1,
)

pub returns-in_err-add_content-clause-meter : goal.returns-in_err-add_content-clause-meter
returns-in_err-add_content-clause-meter c = c.in_err-add_content.ensures.meter ∙ c.loop-file.invariant.1

pub returns-clause-files : goal.returns-clause-files
returns-clause-files c =
    let first : c.loop-file.file ≡ 0 = omega arith in
    c.loop-file.invariant.0 ∙ ap (λ i. contents_from i c.args.files) first ∙ ap (λ k. from_entries (map content (range_with_len 0 k))) (omega arith)

pub returns-clause-meter : goal.returns-clause-meter
returns-clause-meter c = c.loop-file.invariant.1
