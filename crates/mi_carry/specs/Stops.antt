-- Why a part of a walk isn't carried out.
use Rattle.mi_undo.specs.declared.fault.OpFault.{OpFault}
use Rattle.mi_undo.specs.declared.fault.OpFault.TheVariants as op
use Rattle.mi_runner.specs.declared.fault.RunFault.{RunFault}
use Rattle.mi_runner.specs.declared.fault.RunFault.TheVariants as run
use Rattle.mi_base.specs.declared.answers.Cause.TheVariants.{VolumeFault, SourceFault, Table}
use Rattle.mi_base.specs.declared.answers.Fault.TheVariants.{SizeDiffers}
use Rattle.mi_carry.specs.declared.stop.Stop.{Stop}
use Rattle.mi_carry.specs.declared.stop.Stop.TheVariants.{NoMemory, Refuse}

-- a fault of the area as a stop: its room is counted before it is begun, so that Full is a fault of the volume
abbrev pub stop_of_op : OpFault → Stop
stop_of_op op.NoMemory = NoMemory
stop_of_op op.Fault = Refuse VolumeFault
stop_of_op op.Full = Refuse VolumeFault

-- a fault of a segment as a stop
abbrev pub stop_of_run : RunFault → Stop
stop_of_run run.NoMemory = NoMemory
stop_of_run run.Source = Refuse SourceFault
stop_of_run run.Volume = Refuse VolumeFault
stop_of_run run.Full = Refuse VolumeFault
stop_of_run (run.SizeDiffers file stated found) = Refuse (Table (SizeDiffers file stated found))
