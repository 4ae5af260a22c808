-- Of the files below the folder.
use Rattle.std.proofs.Common.{List, ℕ, map, ap, ◌∙◌}
use Rattle.std.specs.Prelude.{filter}
use Rattle.std.proofs.lemmas.Result.{IfOk-weaker}
use Rattle.mi_base.specs.Names.{file_name}
use Rattle.mi_files.specs.Taking.{takes}
use Rattle.mi_files.proofs.MatchLemmas.{taken_are}
use Rattle.mi_files.proofs.matching.names_taken.Goals as goal

pub returns : goal.returns
returns c = λ guarded held files guards.
    let t = c.args.taking in
    let passes = takes guarded t.local t.folder.now t.pattern.now in
    IfOk-weaker c.all_taken.result _ _ (λ names is.
    is ∙ ap (λ (paths : List (List ℕ)). filter passes (map file_name paths)) (c.as_slice.ensures.value ∙ c.in_ok-paths.ensures held files)
    ∙ taken_are guarded t.local t.folder.now t.pattern.now c.requires held files c.args.image.now c.stands_right.ensures)
    (c.all_taken.ensures guarded guards)
