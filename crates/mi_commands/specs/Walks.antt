-- What of the plan of a walk may be carried out, and how its answer is made. (InstallExecuteSequence Table.)
use Rattle.std.specs.Prelude.{◌≡◌, ◌⊎◌, ◌≤◌, ℕ, Bool, true, false, List, [], ◌∷◌, length, map, Option}
use Rattle.std.specs.List.{All}
use Rattle.mi_source.specs.Paths.{Files}
use Rattle.mi_script.specs.Scripts.{touched_names}
use Rattle.mi_undo.specs.Area.{AreOutside}
use Rattle.mi_runner.specs.Records.{MayCarry, HasLength}
use Rattle.mi_text.specs.declared.answers.Settled.{Settled}
use Rattle.mi_base.specs.declared.answers.Fault.{Fault}
use Rattle.mi_base.specs.declared.answers.Fault.TheVariants.{SizeDiffers}
use Rattle.mi_base.specs.declared.answers.Kind.{Kind}
use Rattle.mi_base.specs.declared.answers.Kind.TheVariants.{Refused, NoMemory}
use Rattle.mi_undo.specs.Names.{most_entries}
use Rattle.mi_report.specs.WalkLogs.{IsMadeFor, IsWalkKind}
use Rattle.mi_model.specs.Plans.{Planned}
use Rattle.mi_plan.specs.Made.{as_planned}
use Rattle.mi_commands.specs.declared.walk.Ready.{Ready}
use Rattle.mi_plan.specs.declared.planned.WalkPlan.{WalkPlan}
use Rattle.mi_plan.specs.declared.segment.Segment.{Segment}
use Rattle.mi_base.specs.declared.answers.Cause.{Cause}
use Rattle.mi_base.specs.declared.answers.Cause.TheVariants.{Table}

-- ---- its plan

-- its scripts touch no name inside the rollback area, and their records may be carried out
pub record MayRun (plan : WalkPlan) : Type 0 where
  pub outside : All (λ (s : Segment). AreOutside (touched_names s.script)) plan.segments.items
  pub records : All (λ (s : Segment). All MayCarry s.script) plan.segments.items

-- the source has what its scripts copy
abbrev pub AreThere : Files → WalkPlan → Type 0
AreThere files plan = All (λ (s : Segment). All (HasLength files) s.script) plan.segments.items

-- how many actions are begun at the end of the first segment
abbrev pub first_end : List Planned → ℕ
first_end [] = 0
first_end (p ∷ plans) = p.reached

-- What is made of a plan before its first write.
pub record IsReady (settled : Settled) (plan : WalkPlan) (ready : Ready) : Type 0 where
  pub log : IsMadeFor settled plan.begun.items plan.refusal ready.log
  pub segments : ready.segments.items ≡ map as_planned plan.segments.items
  pub few : length ready.segments.items ≤ most_entries
  pub begun : ready.begun ≡ length plan.begun.items

-- ---- its answer

-- a refusal by the length of a file of the source, which comes only where that doesn't tell what it holds, or where the walk ends so
abbrev pub is_sized_fault : Fault → Bool
is_sized_fault (SizeDiffers file stated found) = true
is_sized_fault other = false

abbrev pub is_sized : Cause → Bool
is_sized (Table fault) = is_sized_fault fault
is_sized other = false

abbrev pub IsSized : Kind → Type 0
IsSized (Refused cause) = is_sized cause ≡ true
IsSized other = ⊥

-- the answer as it is, or want of memory where its line is made only behind the walk
abbrev pub SaysKind : Kind → Kind → Type 0
SaysKind kind said = (said ≡ kind) ⊎ ((said ≡ NoMemory) × IsSized kind)

-- the line of the answer was made before, or is made behind the walk
abbrev pub MayClose : Option Cause → Kind → Type 0
MayClose refusal kind = IsWalkKind refusal kind ⊎ IsSized kind
