-- The letters under which a row's file is brought. (REINSTALLMODE Property.)
use Rattle.std.specs.Prelude.{◌||◌, Bool, true, if◌then◌else◌}
use Rattle.mi_fver.specs.declared.mode.Mode.{Mode}
use Rattle.mi_model.specs.FileVersions.{writes_some}

-- those of the run, where the row's component was present or one of them asks for files, and with `o` where not
abbrev pub mode_where : Bool → Mode → Mode
mode_where present mode = if present || writes_some mode then mode else record mode { o = true }
