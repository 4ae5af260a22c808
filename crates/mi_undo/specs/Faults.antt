-- Faults of the volume as faults of the area.
use Rattle.mi_volume.specs.declared.volume.PutFault.{PutFault}
use Rattle.mi_volume.specs.declared.volume.PutFault.TheVariants as put
use Rattle.mi_volume.specs.declared.volume.VolFault.{VolFault}
use Rattle.mi_volume.specs.declared.volume.VolFault.TheVariants as vol
use Rattle.mi_undo.specs.declared.fault.OpFault.{OpFault}
use Rattle.mi_undo.specs.declared.fault.OpFault.TheVariants as op
use Rattle.mi_undo.specs.declared.fault.BackFault.{BackFault}
use Rattle.mi_undo.specs.declared.fault.BackFault.TheVariants as back
use Rattle.mi_undo.specs.declared.fault.UndoError.{UndoError}
use Rattle.mi_undo.specs.declared.fault.UndoError.TheVariants as undo

abbrev pub put_fault_of : PutFault → OpFault
put_fault_of put.NoMemory = op.NoMemory
put_fault_of put.Failed = op.Fault
put_fault_of put.Full = op.Full

abbrev pub vol_fault_of : VolFault → OpFault
vol_fault_of vol.NoMemory = op.NoMemory
vol_fault_of vol.Failed = op.Fault

abbrev pub back_fault_of : OpFault → BackFault
back_fault_of op.NoMemory = back.NoMemory
back_fault_of op.Fault = back.Fault
back_fault_of op.Full = back.Full

abbrev pub undo_error_of : VolFault → UndoError
undo_error_of vol.NoMemory = undo.NoMemory
undo_error_of vol.Failed = undo.Fault
