-- How faults are handed on.
use Rattle.mi_source.specs.declared.fault.SrcFault.{SrcFault}
use Rattle.mi_source.specs.declared.fault.SrcFault.TheVariants as source
use Rattle.mi_volume.specs.declared.volume.VolFault.{VolFault}
use Rattle.mi_volume.specs.declared.volume.VolFault.TheVariants as volume
use Rattle.mi_hashes.specs.declared.fault.HashError.{HashError}
use Rattle.mi_hashes.specs.declared.fault.HashError.TheVariants.{NoMemory, Source, Volume}

abbrev pub fault_of_volume : VolFault → HashError
fault_of_volume volume.NoMemory = NoMemory
fault_of_volume volume.Failed = Volume

abbrev pub fault_of_source : SrcFault → HashError
fault_of_source source.NoMemory = NoMemory
fault_of_source source.Failed = Source
