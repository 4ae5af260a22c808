-- File by file.
use Rattle.std.proofs.Common.{Some, None, ap, sym, ◌∙◌}
use Rattle.std.proofs.lemmas.List.{append-nil}
use Rattle.mi_base.specs.Names.{file_name}
use Rattle.mi_files.specs.Taking.{takes}
use Rattle.mi_files.proofs.MatchLemmas.{passed_one}
use Rattle.mi_files.proofs.matching.all_taken.Goals as goal
use Rattle.mi_files.proofs.matching.all_taken.Goals.{in-Some+in_ok-push, in_default}

pub loop-path-preserved : goal.loop-path-preserved
loop-path-preserved c = λ guarded guards.
    let t = c.args.taking in
    elim c.match-branch-2.branch [
      | in-Some+in_ok-push w ↦ passed_one (takes guarded t.local t.folder.now t.pattern.now) file_name c.args.paths.now c.loop-path.path-index c.path-item.result (Some w.in-Some.name) c.loop-path.names.items c.match-branch-2.names.items c.loop-path-test.true c.path-item.is (sym w.in-Some.is ∙ c.in_ok-name.ensures guarded guards) (c.loop-path.invariant guarded guards) (ap (λ v. v.items) w.names-is ∙ w.in_ok-push.ensures.items)
      | in_default w ↦ passed_one (takes guarded t.local t.folder.now t.pattern.now) file_name c.args.paths.now c.loop-path.path-index c.path-item.result None c.loop-path.names.items c.match-branch-2.names.items c.loop-path-test.true c.path-item.is (sym w.in_default.is ∙ c.in_ok-name.ensures guarded guards) (c.loop-path.invariant guarded guards) (ap (λ v. v.items) w.names-is ∙ sym (append-nil c.loop-path.names.items))
    ]
