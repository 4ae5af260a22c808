use Rattle.std.proofs.Common.{◌≡◌, map, take}
use Rattle.std.specs.List.{filter_map}
use Rattle.mi_idt.specs.Fields.{number_within}
use Rattle.mi_model.specs.FileVersions.{rising}
use Rattle.mi_file_rows.proofs.versions.numbers_in.Given as goal

abbrev pub invariant-loop-part : goal.invariant-loop-part
invariant-loop-part l = l.numbers.keys ≡ rising (filter_map (number_within 65535) (take l.part-index (map (λ b. b.now) l.parts)))
