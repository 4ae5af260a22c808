-- The machine of a history. (Installation; Rollback Installation.)
use Rattle.std.specs.Prelude.{ℕ, List, [], ◌∷◌, ◌++◌, fold, codes, Result, Ok, Err}
use Rattle.std.specs.List.{AllByRecursion}
use Rattle.std.specs.FinMap.{empty}
use Rattle.mi_volume.specs.Maps.{Map}
use Rattle.mi_base.specs.Machine.{Machine}
use Rattle.mi_base.specs.declared.answers.Kind.{Kind}
use Rattle.mi_base.specs.declared.answers.Kind.TheVariants as kind
use Rattle.mi_model.specs.World.{Given}
use Rattle.mi_model.specs.Walk.{walk, last_machine}
use Rattle.mi_model.specs.Words.{Command, Package, Selftest, Clients, Products, Recover, command_of}
use Rattle.mi_model.specs.Selftest.{selftest_files}
use Rattle.mi_model.specs.PackageOutcome.{given_of}
use Rattle.mi_laws.specs.Histories.{Call, Left, Former, After, Event, Answered, Stopped, Settling, IsAfter, IsMachineOf, IsHistory}
use Rattle.mi_laws.specs.Walks.{IsCommitted}

-- what a command walks over, on this machine
abbrev pub given_by : Call → Machine → Command → List Given
given_by c m (Package recorded folder words) = given_of c.files folder words m c.now ∷ []
given_by c m (Selftest files words) = given_of (selftest_files files) (codes "self") words m c.now ∷ []
given_by c m Clients = []
given_by c m Products = []
given_by c m Recover = []

abbrev pub walked_over : Call → Machine → Result Command ℕ → List Given
walked_over c m (Ok command) = given_by c m command
walked_over c m (Err place) = []

-- what the words of a call walk over: one package, or nothing
abbrev pub walks_of : Call → Machine → List Given
walks_of c m = walked_over c m (command_of c.words)

-- the machine that these walks make
abbrev pub after_walks : Machine → List Given → Machine
after_walks m [] = m
after_walks m (g ∷ gs) = after_walks (last_machine (walk g)) gs

-- the machine after a call that commits
abbrev pub after_call : Call → Machine → Machine
after_call c m = after_walks m (walks_of c m)

abbrev pub after_left : Call → Machine → Left → Machine
after_left c m Former = m
after_left c m After = after_call c m

abbrev pub after_event : Machine → Event → Machine
after_event m (Answered c k left) = after_left c m left
after_event m (Stopped c left) = after_left c m left
after_event m Settling = m

-- ---- over histories

-- the machine after these events, from the empty one
abbrev pub machine_after : List Event → Machine
machine_after es = fold after_event empty es

abbrev pub walks_left : Call → Machine → Left → List Given
walks_left c m Former = []
walks_left c m After = walks_of c m

-- what an event has walked over and committed
abbrev pub committed : Machine → Event → List Given
committed m (Answered c k left) = walks_left c m left
committed m (Stopped c left) = walks_left c m left
committed m Settling = []

abbrev pub all_committed : Machine → List Event → List Given
all_committed m [] = []
all_committed m (e ∷ es) = committed m e ++ all_committed (after_event m e) es

abbrev pub IfDone : Kind → Type 0 → Type 0
IfDone kind.Done P = P
IfDone other P = Unit {0}

abbrev pub DoneIsAfter : Event → Type 0
DoneIsAfter (Answered c k left) = IfDone k (IsAfter left)
DoneIsAfter (Stopped c left) = Unit {0}
DoneIsAfter Settling = Unit {0}

pub record MachineIsFold : Type 0 where
  pub machine : (es : List Event) (d : Map) → IsHistory es d → IsMachineOf (machine_after es) d
  -- each run that answered Done has committed
  pub done : (es : List Event) (d : Map) → IsHistory es d → AllByRecursion DoneIsAfter es
  -- each walk of a committed run is over a machine and a package without a fault, and isn't refused
  pub committed : (es : List Event) (d : Map) → IsHistory es d → AllByRecursion IsCommitted (all_committed empty es)
