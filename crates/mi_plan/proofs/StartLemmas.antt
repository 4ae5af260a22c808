-- Before the first row.
use Rattle.std.proofs.Common.{◌≡◌, ◌≤◌, ℕ, List, [], map, refl, sym, ap, ◌∙◌, subst}
use Rattle.std.specs.Prelude.{Option, Vec}
use Rattle.std.specs.declared.alloc.Global.{Global}
use Rattle.std.specs.FinMap.{empty}
use Rattle.mi_text.specs.Maps.{Name, Map}
use Rattle.mi_source.specs.Paths.{Files}
use Rattle.mi_schema.specs.declared.package.Package.{Package}
use Rattle.mi_schema.specs.RowsOf.{rows_in}
use Rattle.mi_schema.specs.Laws.{KeysStand, KeysApart}
use Rattle.mi_image.specs.Items.{Items, machine_over}
use Rattle.mi_script.specs.declared.rec.Rec.{Rec}
use Rattle.mi_model.specs.World.{Given}
use Rattle.mi_model.specs.Properties.{started}
use Rattle.mi_model.specs.Sequence.{sequence}
use Rattle.mi_model.specs.Plans.{Planned}
use Rattle.mi_model.specs.Planning.{Walking, IsPlan}
use Rattle.mi_model.specs.Walk.{Walked}
use Rattle.mi_base.specs.declared.answers.Cause.{Cause}
use Rattle.mi_plan.specs.declared.planned.WalkPlan.{WalkPlan}
use Rattle.mi_plan.specs.declared.segment.Segment.{Segment}
use Rattle.mi_plan.specs.Made.{as_planned}
use Rattle.mi_plan.specs.Lengths.{HaveLength, SegmentsHave, HaveLengths}
use Rattle.mi_plan.specs.declared.turn.Turn.TheVariants.{Went}
use Rattle.mi_runner.specs.Records.{HasLength}
use Rattle.std.proofs.lemmas.List.Elements.{All-nil}
use Rattle.mi_model_laws.proofs.PlanningLemmas.{starts}
use Rattle.mi_seq.specs.declared.walk.Walk.{Walk}
use Rattle.mi_seq.specs.Walks.{rest, Stands}
use Rattle.mi_world.specs.declared.world.World.{World}
use Rattle.mi_plan.specs.declared.work.Work.{Work}
use Rattle.mi_plan.specs.Nexts.{Row}
use Rattle.mi_plan.specs.Turns.{IsSoFar, IsStart, world_of, planned_of}
use Rattle.mi_plan.specs.Stages.{IsStaged, IsFresh, IsReady, costs}
use Rattle.mi_plan.proofs.StageLemmas.{once_at_start}

staged_at_start : (w : World) → IsFresh w → IsStaged [] w
staged_at_start w fresh = record {
  uncosted = λ _. fresh.uncosted;
  costed = λ e. cc;
  order = λ e. cc;
  unchanged = λ _. fresh.unchanged;
}

pub ready_at_start : (k : Work) (walk : Walk) → IsFresh k.world → k.begun.items ≡ [] → Stands walk [] → rest k.world.seen.loaded walk ≡ sequence (rows_in k.world.seen.loaded) → KeysStand k.world.seen.loaded → KeysApart k.world.seen.loaded
    → IsReady k walk
unfolding rows_in
ready_at_start k walk fresh none stands rows keys apart = record {
  right = fresh.right;
  of = fresh.of;
  staged = subst (λ (ns : List Name). IsStaged ns k.world) (sym none) (staged_at_start k.world fresh);
  stands = subst (λ (ns : List Name). Stands walk ns) (sym none) stands;
  once = subst (λ (ns : List Name). costs ns (rest k.world.seen.loaded walk) ≤ 1) (sym none)
      (subst (λ (rs : List Row). costs [] rs ≤ 1) (sym rows) (once_at_start (rows_in k.world.seen.loaded) k.world.seen.loaded.install_execute_sequence.entries refl keys.install_execute_sequence apart.install_execute_sequence));
}

pub so_far_at_start : (held : Map (List ℕ)) (files : Files) (g : Given) (k : Work) (walk : Walk) → IsStart held files g k.world → k.begun.items ≡ [] → planned_of k ≡ [] → rest k.world.seen.loaded walk ≡ sequence (rows_in k.world.seen.loaded)
    → IsSoFar held files g k walk
so_far_at_start held files g k walk start none nothing rows = record {
  of = start.of;
  former = start.former;
  handed = start.handed;
  contents = start.contents;
  walking =
      subst (λ (rs : List Row). Walking files g rs (world_of held files g k) k.begun.items (planned_of k) k.world.plan.script) (sym (rows ∙ ap sequence start.of.knows.rows))
      (subst (λ w. Walking files g (sequence g.rows) w k.begun.items (planned_of k) k.world.plan.script) (sym start.world)
      (subst (λ (ns : List Name). Walking files g (sequence g.rows) (started g) ns (planned_of k) k.world.plan.script) (sym none)
      (subst (λ (ps : List Planned). Walking files g (sequence g.rows) (started g) [] ps k.world.plan.script) (sym nothing)
      (subst (λ (rs : List Rec). Walking files g (sequence g.rows) (started g) [] [] rs) (sym start.script) (starts files g)))));
}

-- what some walk is over that begins with this package and this image
abbrev pub some_given : Package → Items → ℕ → Given
some_given p image now = record { rows = rows_in p; folder = []; words = []; files = empty; former = machine_over empty empty image; now = now }

-- what is handed out is what was planned
pub plan_so : (files : Files) (w : Walked) (p : WalkPlan) (k : Work) (why : Option Cause) → p.begun ≡ k.begun → p.segments ≡ k.segments → p.refusal ≡ why → IsPlan files w k.begun.items (planned_of k) why
    → IsPlan files w p.begun.items (map as_planned p.segments.items) p.refusal
plan_so files w p k why begun segments refusal is =
    subst (λ (b : Vec Name Global). IsPlan files w b.items (map as_planned p.segments.items) p.refusal) (sym begun)
    (subst (λ (s : Vec Segment Global). IsPlan files w k.begun.items (map as_planned s.items) p.refusal) (sym segments)
    (subst (λ (o : Option Cause). IsPlan files w k.begun.items (planned_of k) o) (sym refusal) is))

-- at the start nothing is planned
pub lengths_at_start : (files : Files) (k : Work) → k.world.plan.script ≡ [] → k.segments.items ≡ [] → HaveLengths files k Went
lengths_at_start files k script segments = (
  subst (λ (rs : List Rec). HaveLength files rs) (sym script) (All-nil (HasLength files)),
  subst (λ (ss : List Segment). SegmentsHave files ss) (sym segments) (All-nil (λ (s : Segment). HaveLength files s.script)),
)
