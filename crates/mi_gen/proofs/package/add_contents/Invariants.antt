use Rattle.std.proofs.Common.{◌≡◌}
use Rattle.mi_source.specs.MemSource.{files_in, meter_of}
use Rattle.mi_gen.proofs.ContentLemmas.{contents_from}
use Rattle.mi_gen.proofs.package.add_contents.Given as goal

abbrev pub invariant-loop-file : goal.invariant-loop-file
invariant-loop-file l = (files_in l.source ≡ contents_from l.file l.files) × (meter_of l.source ≡ meter_of l.fn.source)
