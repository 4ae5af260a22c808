-- How faults are handed on.
use Rattle.mi_volume.specs.declared.volume.VolFault.{VolFault}
use Rattle.mi_volume.specs.declared.volume.VolFault.TheVariants as volume
use Rattle.mi_image.specs.declared.fault.ImageError.{ImageError}
use Rattle.mi_image.specs.declared.fault.ImageError.TheVariants.{NoMemory, Fault}

abbrev pub volume_fault : VolFault → ImageError
volume_fault volume.NoMemory = NoMemory
volume_fault volume.Failed = Fault
