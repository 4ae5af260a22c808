-- What runs here of custom actions, and where it may stand. (CustomAction table; Summary List of All Custom Action Types.)
use Rattle.std.specs.Prelude.{ℕ, ℤ, ◌==◌, ◌&&◌, not, bit_and, Bool, true, List, Option, Some, None, if◌then◌else◌}
use Rattle.mi_text.specs.Maps.{Name}
use Rattle.mi_rows.specs.Values.{bits_of, lacks}
use Rattle.mi_model.specs.Sequence.{is_costed, is_finalized}
use Rattle.mi_seq_rows.specs.declared.custom.Custom.{Custom}
use Rattle.mi_seq_rows.specs.declared.custom.Custom.TheVariants.{Error, SetDir, SetProperty}

abbrev pub by_base : ℕ → Option Custom
by_base base = if base == 19 then Some Error else if base == 35 then Some SetDir else if base == 51 then Some SetProperty else None

-- what runs here
abbrev pub kind_of : ℤ → Option Custom
kind_of kind = if lacks 1024 kind then by_base (bit_and (bits_of kind) 63) else None

abbrev pub may_stand : Custom → List Name → Bool
may_stand SetDir begun = is_costed begun && not (is_finalized begun)
may_stand Error begun = true
may_stand SetProperty begun = true
