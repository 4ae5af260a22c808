-- What a generated source holds.
use Rattle.mi_source.specs.Paths.{Files}
use Rattle.mi_source.specs.MemSource.{files_in}
use Rattle.mi_gen.specs.declared.generated.Generated.{Generated}

-- the files that it holds
abbrev pub held : Generated → Files
held g = files_in g.files
