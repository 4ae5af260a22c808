-- It fits as the head of the file does.
use Rattle.std.proofs.Common.{[], ap, ◌∙◌}
use Rattle.mi_base.specs.declared.entry.Entry.TheVariants as entry
use Rattle.mi_base.specs.declared.entry.FileHead.{FileHead}
use Rattle.mi_base.specs.Limits.{fits}
use Rattle.mi_base.specs.Records.{with_bytes}
use Rattle.mi_files.proofs.CopyLemmas.{copied_fits}
use Rattle.mi_files.proofs.duplicate.head_of_copy.Goals as goal

pub returns-in_ok-own-in-Some-clause-fits : goal.returns-in_ok-own-in-Some-clause-fits
returns-in_ok-own-in-Some-clause-fits c =
    ap (λ (h : FileHead). fits (entry.File (with_bytes h []))) c.in_ok-own-in-Some.ensures ∙ copied_fits c.in-Some.head.now c.args.path.now c.args.moment c.requires c.in-Some.ensures.fits
