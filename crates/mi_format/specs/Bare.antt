-- The open marks alone, as a scan keeps them that makes nothing of tokens.
use Rattle.std.specs.Prelude.{List, map, reverse}
use Rattle.mi_format.specs.declared.token.Kind.{Kind}
use Rattle.mi_format.specs.Scan.{Maker, Frame, State}

abbrev pub bare : Maker (Unit {0})
bare = record { nothing = tt; single = λ t. tt; group = λ k x. tt; beside = λ x y. tt }

abbrev pub bare_frame : Kind → Frame (Unit {0})
bare_frame k = record { kind = k; before = tt }

-- the kinds of the open marks, the innermost last
abbrev pub bare_state : List Kind → State (Unit {0})
bare_state kinds = record { frames = map bare_frame (reverse kinds); current = tt }
