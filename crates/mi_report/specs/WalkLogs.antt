-- The log of a run that walks over its sequence, made before its first write. (This project's own.)
use Rattle.std.specs.Prelude.{◌≡◌, ℕ, ◌+◌, true, List, [], ◌∷◌, ◌++◌, length, take, Option, Some, slice_index_or}
use Rattle.mi_text.specs.declared.answers.Settled.{Settled}
use Rattle.mi_base.specs.declared.answers.Cause.{Cause}
use Rattle.mi_base.specs.declared.answers.Cause.TheVariants.{VolumeFault, SourceFault}
use Rattle.mi_base.specs.declared.answers.Kind.{Kind}
use Rattle.mi_base.specs.declared.answers.Kind.TheVariants.{Done, Refused, Suspended, NoMemory}
use Rattle.mi_model.specs.Lines.{action_line, result_line}
use Rattle.mi_model.specs.Report.{walk_lines}
use Rattle.mi_report.specs.declared.walk.ResultLine.{ResultLine}
use Rattle.mi_report.specs.declared.walk.ResultLine.TheVariants.{Fixed, Made}
use Rattle.mi_report.specs.declared.walk.Log.{Log}
use Rattle.mi_report.specs.declared.walk.WalkLog.{WalkLog}

-- ---- a log

abbrev pub line_text : ResultLine → List ℕ
line_text (Fixed line) = line.now
line_text (Made line) = line

-- the whole text of a log
abbrev pub log_text : Log → List ℕ
log_text log = log.front ++ line_text log.line

-- ---- a log for each number of begun actions

-- where the text ends with so many actions; with all of them, at its end
abbrev pub end_at : List ℕ → List ℕ → ℕ → ℕ
end_at text ends n = slice_index_or ends n (length text)

-- what stands before the result line with so many actions
abbrev pub front_at : WalkLog → ℕ → List ℕ
front_at log n = take (end_at log.text.items log.ends.items n) log.text.items

-- the ends of a text of so many bytes to which the lines of actions are added
abbrev pub ends_from : ℕ → List (List ℕ) → List ℕ
ends_from n [] = []
ends_from n (name ∷ names) = n ∷ ends_from (n + length (action_line name)) names

-- the result line of a refusal, where there is one
abbrev pub IsRefusalLine : Option Cause → List ℕ → Type 0
IsRefusalLine refusal line = (cause : Cause) → refusal ≡ Some cause → line ≡ result_line (Refused cause)

-- It was made for a walk that begins these actions and ends with this refusal, where settling found this.
pub record IsMadeFor (settled : Settled) (begun : List (List ℕ)) (refusal : Option Cause) (log : WalkLog) : Type 0 where
  pub front : (n : ℕ) → front_at log n ≡ walk_lines true settled (take n begun)
  pub refused : IsRefusalLine refusal log.refused

-- ---- the answers of a walk

-- a refusal by a device, or that of the walk
abbrev pub IsWalkCause : Option Cause → Cause → Type 0
IsWalkCause refusal VolumeFault = Unit {0}
IsWalkCause refusal SourceFault = Unit {0}
IsWalkCause refusal cause = refusal ≡ Some cause

-- the answers of a walk that ends with this refusal, or with none
abbrev pub IsWalkKind : Option Cause → Kind → Type 0
IsWalkKind refusal Done = Unit {0}
IsWalkKind refusal (Refused cause) = IsWalkCause refusal cause
IsWalkKind refusal (Suspended pause) = Unit {0}
IsWalkKind refusal NoMemory = Unit {0}
IsWalkKind refusal other = ⊥
