use Rattle.std.proofs.Common.{◌≡◌, Bool, List, ℕ, ◌∙◌, ap}
use Rattle.std.specs.Option.{option_map}
use Rattle.std.specs.FinMap.{get}
use Rattle.std.specs.Str.{bytes_eq}
use Rattle.md5.specs.Md5.{md5}
use Rattle.mi_base.specs.Names.{file_name}
use Rattle.mi_image.specs.Items.{bytes_of_file, machine_over}
use Rattle.mi_schema.specs.RowsOf.{rows_in}
use Rattle.mi_model.specs.FileVersions.{hash_bytes, has_same_hash}
use Rattle.mi_installs.proofs.CallLemmas.{if_ok, hash_is, no_hash, bytes_there}
use Rattle.mi_installs.proofs.hashes.has_same_hash.Goals as goal

pub returns-in-Some-clause-same : goal.returns-in-Some-clause-same
returns-in-Some-clause-same g c = λ w r f same_rows same_key told src there at.
    let bytes : List ℕ = bytes_of_file (get (machine_over (g.V.Volume.state c.args.vol.now).held (g.S.Source.files c.args.src.now) c.args.image.now) (file_name c.args.path.now)) in
    if_ok c.has_hash.result (λ (b : Bool). b ≡ bytes_eq (md5 bytes) c.in-Some.stated) (λ (b : Bool). b ≡ has_same_hash w r f)
    (λ b e. e ∙ hash_is w r f (rows_in c.args.loaded.now) c.args.file.now same_rows same_key c.in-Some.stated bytes c.in-Some.ensures (bytes_there _ f at))
    (c.has_hash.ensures.same told src there)

pub returns-in-None-clause-same : goal.returns-in-None-clause-same
returns-in-None-clause-same g c = λ w r f same_rows same_key told src there at. no_hash w r f (rows_in c.args.loaded.now) c.args.file.now same_rows same_key c.in-None.ensures

pub returns-in-Some-clause-untouched : goal.returns-in-Some-clause-untouched
returns-in-Some-clause-untouched g c = λ unstated. let none = c.in-Some.ensures ∙ ap (option_map hash_bytes) unstated in absurd cc
