-- Planned walks that are carried out.
use Rattle.std.proofs.Common.{◌≡◌, ℕ, List, [], ◌∷◌, length, Option, None, refl, sym, ap, ◌∙◌}
use Rattle.mi_text.specs.Maps.{Name}
use Rattle.mi_volume.specs.Maps.{Map}
use Rattle.mi_source.specs.Paths.{Files}
use Rattle.mi_base.specs.Machine.{volume_of}
use Rattle.mi_base.specs.declared.answers.Cause.{Cause}
use Rattle.mi_model.specs.World.{Given}
use Rattle.mi_model.specs.Walk.{Walked, walk, last_machine}
use Rattle.mi_model.specs.Cost.{need}
use Rattle.mi_model.specs.PackageOutcome.{kind_of, of_walk}
use Rattle.mi_model.specs.Plans.{Planned}
use Rattle.mi_model.specs.Planning.{IsPlan, kind_by, planned_kind, planned_reached}
use Rattle.mi_model_laws.proofs.WalkLemmas.{walks_over}
use Rattle.mi_model_laws.proofs.PlanningLemmas.{carried_all}
use Rattle.mi_model_laws.proofs.OutcomeLemmas.{same_answer}
use Rattle.mi_carry.specs.Segments.{after_segments}

-- over any walk, from the machine that it was given
walked_map : (files : Files) (w : Walked) (names : List Name) (plans : List Planned) (refusal : Option Cause) (F : Map) → IsPlan files w names plans refusal → F ≡ volume_of w.world.given.former → after_segments files F plans ≡ volume_of (last_machine w)
unfolding last_machine
walked_map files w names plans refusal F p is = carried_all files w.world.given.former w.parts plans F p.ended is

pub last_map : (files : Files) (g : Given) (names : List Name) (plans : List Planned) (refusal : Option Cause) (F : Map) → IsPlan files (walk g) names plans refusal → F ≡ volume_of g.former → after_segments files F plans ≡ volume_of (last_machine (walk g))
last_map files g names plans refusal F p is = walked_map files (walk g) names plans refusal F p (is ∙ ap (λ (h : Given). volume_of h.former) (sym (walks_over g).given))

-- where no capacity is told there is always room
roomy_kind : (n : ℕ) (plans : List Planned) (refusal : Option Cause) → planned_kind None n plans refusal ≡ kind_by refusal
roomy_kind n [] refusal = refl
roomy_kind n (p ∷ plans) refusal = refl

roomy_reached : (n : ℕ) (names : List Name) (plans : List Planned) → planned_reached None n names plans ≡ length names
roomy_reached n names [] = refl
roomy_reached n names (p ∷ plans) = refl

pub same_kind : (files : Files) (g : Given) (names : List Name) (plans : List Planned) (refusal : Option Cause) → IsPlan files (walk g) names plans refusal → kind_of (of_walk None (walk g)).end ≡ kind_by refusal
same_kind files g names plans refusal p = (same_answer files None (walk g) names plans refusal p).kind ∙ roomy_kind (need (walk g).world.given.former (walk g).parts) plans refusal

pub same_reached : (files : Files) (g : Given) (names : List Name) (plans : List Planned) (refusal : Option Cause) → IsPlan files (walk g) names plans refusal → (of_walk None (walk g)).reached ≡ length names
same_reached files g names plans refusal p = (same_answer files None (walk g) names plans refusal p).reached ∙ roomy_reached (need (walk g).world.given.former (walk g).parts) names plans
