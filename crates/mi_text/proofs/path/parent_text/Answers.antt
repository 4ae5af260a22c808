-- Up to the last backslash that isn't the last byte.
use Rattle.std.proofs.Common.{Some, None, sym, ◌∙◌, lit<}
use Rattle.std.proofs.lemmas.Str.Pattern.{strip_suffix_char}
use Rattle.mi_text.proofs.PathLemmas.{parent_of-drive, other_than_drive, parent_without_end, parent_open}
use Rattle.mi_text.proofs.path.parent_text.Goals as goal

pub returns-then-eq : goal.returns-then-eq
returns-then-eq c = parent_of-drive c.args.path.now (sym c.if-eq.ensures)

pub returns-in-Some : goal.returns-in-Some
returns-in-Some c =
    let text = strip_suffix_char 92 c.args.path.now (Some c.in-Some.front) c.in-Some.ensures.cases (lit< tt) in
    c.split_last.ensures.0 ∙ parent_without_end c.args.path.now c.in-Some.front.now (other_than_drive c.args.path.now (sym c.if-eq.ensures)) text

pub returns-in-None : goal.returns-in-None
returns-in-None c =
    let open_end = strip_suffix_char 92 c.args.path.now None c.in-None.ensures.cases (lit< tt) in
    c.split_last-in-None.ensures.0 ∙ parent_open c.args.path.now c.requires open_end
