use Rattle.std.proofs.Common.{[], ap, sym, ◌∙◌}
use Rattle.md5.specs.Md5.{md5}
use Rattle.mi_base.specs.Names.{file_name}
use Rattle.mi_hashes.proofs.FileLemmas.{bytes_of_none}
use Rattle.mi_hashes.proofs.hash.hash_of.Goals as goal

pub returns-in_default-clause-hash : goal.returns-in_default-clause-hash
returns-in_default-clause-hash g c = λ told source there.
    let held = (g.V.Volume.state c.args.vol.now).held in
    let files = g.S.Source.files c.args.src.now in
    let nothing = rw c.in_default.is at c.in_ok-name.ensures in
    c.finalize.ensures [] c.new.ensures ∙ ap md5 (sym (bytes_of_none held files c.args.image.now (file_name c.args.path.now) nothing))
