-- The last backslash is where `rfind` finds it.
use Rattle.std.proofs.Common.{Some, None, ◌∙◌, lit<}
use Rattle.std.proofs.lemmas.Str.Pattern.{rfind_char}
use Rattle.mi_text.proofs.PathLemmas.{split_at_place, split_nowhere}
use Rattle.mi_files.proofs.names.split_last.Goals as goal

pub returns-in-Some : goal.returns-in-Some
returns-in-Some c =
    let found = rfind_char 92 c.args.text.now (Some c.in-Some.place) c.in-Some.ensures.cases (lit< tt) in
    let split = split_at_place c.args.text.now c.in-Some.place found.0 found.1 found.2 in
    (c.split_at.ensures.front ∙ split.0, c.split_at.ensures.back ∙ split.1)

pub returns-in-None : goal.returns-in-None
returns-in-None c = split_nowhere c.args.text.now (rfind_char 92 c.args.text.now None c.in-None.ensures.cases (lit< tt))
