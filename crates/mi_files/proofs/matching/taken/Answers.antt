-- It lies in the folder, or it doesn't.
use Rattle.std.proofs.Common.{◌≡◌, true, not, ◌||◌, sym, ◌∙◌}
use Rattle.std.proofs.lemmas.Result.{IfOk-weaker}
use Rattle.mi_base.specs.Names.{file_name}
use Rattle.mi_model.specs.RemoveFiles.{lies_in}
use Rattle.mi_files.proofs.MatchLemmas.{lies_told, lying, not_lying}
use Rattle.mi_files.proofs.matching.taken.Goals as goal

pub returns-then-branch : goal.returns-then-branch
returns-then-branch c = λ guarded guards.
    let t = c.args.taking in
    let q = file_name c.args.path.now in
    let lies : lies_in t.folder.now t.pattern.now q ≡ true = sym (lies_told t.folder.now t.pattern.now c.args.path.now c.args.folder.now c.in_ok-lies_in.field-0 c.requires c.in_ok-lies_in.ensures) ∙ c.if-branch.true in
    IfOk-weaker c.unguarded.result _ _ (λ name is. is ∙ lying (lies_in t.folder.now t.pattern.now q) (t.local || not (guarded q)) q lies) (c.unguarded.ensures guarded guards)

pub returns-else-branch : goal.returns-else-branch
returns-else-branch c = λ guarded guards.
    let t = c.args.taking in
    let q = file_name c.args.path.now in
    not_lying (lies_in t.folder.now t.pattern.now q) (t.local || not (guarded q)) q (sym (lies_told t.folder.now t.pattern.now c.args.path.now c.args.folder.now c.in_ok-lies_in.field-0 c.requires c.in_ok-lies_in.ensures) ∙ c.if-branch.false)
