use Rattle.std.proofs.Common.{Err, inl, ap, ◌∙◌}
use Rattle.mi_image.proofs.LookupLemmas.{none_there}
use Rattle.mi_hashes.proofs.FileLemmas.{too_long}
use Rattle.mi_hashes.proofs.hash.name_there.Goals as goal

pub returns-in-Err-Length : goal.returns-in-Err-Length
returns-in-Err-Length c =
    none_there c.args.image.now _ c.get.ensures.right
    (inl (too_long c.args.path.now c.as_str-2.result.now (c.as_str-2.ensures ∙ c.in_ok-text.ensures) (c.in-Err-Length.ensures.length.0 (ap Err c.in-Err-Length.field-0-is))))
