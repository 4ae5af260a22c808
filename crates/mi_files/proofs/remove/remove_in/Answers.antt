-- With a FileName, and without one.
use Rattle.std.proofs.Common.{sym, ap, ◌∙◌}
use Rattle.mi_model.specs.FilePaths.{is_guarded_file}
use Rattle.mi_text.specs.Fold.{folded}
use Rattle.mi_text.specs.FileNames.{long_name}
use Rattle.mi_records.proofs.KeyLemmas.{if_ok}
use Rattle.mi_files.proofs.TakeLemmas.{pattern_taken, nothing_taken, named_untouched, unnamed_touched, on_ok}
use Rattle.mi_files.proofs.remove.remove_in.Goals as goal

pub returns-in-Some-clause-makes : goal.returns-in-Some-clause-makes
returns-in-Some-clause-makes g c = λ held files w asked guards.
    let choices = g.E.Sees.choices c.args.seen.now in
    if_ok c.take_matching.result (c.take_matching.ensures.makes (is_guarded_file w) held files guards)
    (pattern_taken w c.args.row.now c.args.folder.now held files c.args.plan.now c.take_matching.new.plan c.in-Some.name c.long_name.result.now c.is_local.result c.in-Some.is
    (c.long_name.ensures ∙ ap long_name c.as_str.ensures)
    (c.is_local.ensures ∙ ap choices.local c.as_str-in-Some.ensures ∙ sym (asked.local c.args.row.now.component)))

pub returns-in-Some-clause-touched : goal.returns-in-Some-clause-touched
returns-in-Some-clause-touched g c = on_ok c.take_matching.result (named_untouched c.args.row.now.file_name c.in-Some.name c.args.folder.now c.args.touched.now.items c.in-Some.is)

pub returns-in_ok-push-in-None-clause-makes : goal.returns-in_ok-push-in-None-clause-makes
returns-in_ok-push-in-None-clause-makes g c = λ held files w asked guards. nothing_taken w c.args.row.now c.args.folder.now held files c.args.plan.now c.in-None.is

pub returns-in_ok-push-in-None-clause-touched : goal.returns-in_ok-push-in-None-clause-touched
returns-in_ok-push-in-None-clause-touched g c = unnamed_touched c.args.row.now.file_name c.args.folder.now c.in_ok-place-in-None.place c.args.touched.now.items c.push.new.self.items c.in-None.is (c.in_ok-place-in-None.ensures ∙ ap folded c.as_str-in-None.ensures.text) c.in_ok-push-in-None.ensures.items
