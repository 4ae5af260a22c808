-- How faults are handed on (this project's own).
use Rattle.mi_volume.specs.declared.volume.VolFault.{VolFault}
use Rattle.mi_volume.specs.declared.volume.VolFault.TheVariants as volume
use Rattle.mi_image.specs.declared.fault.ImageError.{ImageError}
use Rattle.mi_image.specs.declared.fault.ImageError.TheVariants as image
use Rattle.mi_hashes.specs.declared.fault.HashError.{HashError}
use Rattle.mi_hashes.specs.declared.fault.HashError.TheVariants as hash
use Rattle.mi_show.specs.declared.fault.ShowError.{ShowError}
use Rattle.mi_show.specs.declared.fault.ShowError.TheVariants.{NoMemory, Fault, BadImage}
use Rattle.mi_show.specs.declared.fault.SideFault.{SideFault}
use Rattle.mi_show.specs.declared.fault.SideFault.TheVariants as side
use Rattle.mi_show.specs.declared.fault.DiffError.{DiffError}
use Rattle.mi_show.specs.declared.fault.DiffError.TheVariants as diff

abbrev pub fault_of_volume : VolFault → ShowError
fault_of_volume volume.NoMemory = NoMemory
fault_of_volume volume.Failed = Fault

abbrev pub fault_of_image : ImageError → ShowError
fault_of_image image.NoMemory = NoMemory
fault_of_image image.Fault = Fault
fault_of_image (image.BadImage name) = BadImage name

abbrev pub fault_of_hash : HashError → ShowError
fault_of_hash hash.NoMemory = NoMemory
fault_of_hash hash.Source = Fault
fault_of_hash hash.Volume = Fault

abbrev pub of_image : ImageError → DiffError
of_image image.NoMemory = diff.NoMemory
of_image image.Fault = diff.Fault
of_image (image.BadImage name) = diff.BadImage name

abbrev pub of_side : SideFault → DiffError
of_side side.NoMemory = diff.NoMemory
of_side side.Fault = diff.Fault
of_side side.Other = diff.OtherFault
