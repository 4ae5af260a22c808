-- Room for a planned walk: what is counted is what the outcome asks for.
use Rattle.std.proofs.Common.{◌≡◌, eqb, ℕ, ◌+◌, ◌-◌, ◌<◌, ◌≤◌, min, arith, Bool, true, false, cond, List, [], ◌∷◌, length, map, Option, None, Some, Result, Ok, Err, refl, sym, ap, subst, ◌∙◌}
use Rattle.std.specs.Prelude.{IsOk, MatchOption, option_map}
use Rattle.std.specs.List.{All}
use Rattle.std.specs.FinMap.{keys}
use Rattle.std.proofs.lemmas.List.Elements.{All-weaker}
use Rattle.std.proofs.lemmas.Bool.{eqb-true}
use Rattle.std.proofs.lemmas.Bool.Decides.{nat_tests}
use Rattle.mi_text.specs.Maps.{Name}
use Rattle.mi_volume.specs.Maps.{Map, Fits, size}
use Rattle.mi_volume.specs.State.{State}
use Rattle.mi_source.specs.Paths.{Files}
use Rattle.mi_base.specs.Machine.{Machine, volume_of}
use Rattle.mi_base.specs.declared.answers.Cause.{Cause}
use Rattle.mi_base.specs.declared.answers.Cause.TheVariants.{Full}
use Rattle.mi_script.specs.declared.rec.Rec.{Rec}
use Rattle.mi_script.specs.declared.rec.Rec.TheVariants.{Put, Drop, Copy, Dup}
use Rattle.mi_runner.specs.Records.{HasLength}
use Rattle.mi_model.specs.World.{Given}
use Rattle.mi_model.specs.Walk.{Part, Walked, walk}
use Rattle.mi_text.proofs.MapLemmas.{entries-from_entries}
use Rattle.mi_model.specs.Cost.{all_rows, need, set_of}
use Rattle.mi_model.specs.Plain.{ArePlain}
use Rattle.mi_model.specs.Plans.{Planned, ArePlanned}
use Rattle.mi_model.specs.StatedSizes.{HasCopied, stated_cost, stated_cost_of}
use Rattle.mi_model.specs.PackageOutcome.{Outcome, Refused, whole, is_room, full, by_parts, of_walk}
use Rattle.mi_model_laws.proofs.WalkLemmas.{walks_over}
use Rattle.mi_cost.specs.CostLaw.{CostsTheSame}
use Rattle.mi_commands.specs.declared.room.Lack.{Lack}
use Rattle.mi_commands.specs.Calls.{IsCosted}
use Rattle.mi_commands.specs.Room.{IsFreeRoom, IsLack, Lacks, counted, scripts_in}
use Rattle.mi_commands.specs.Walks.{first_end}
use Rattle.mi_commands.proofs.ReachLemmas.{walk_reach, Within}

-- ---- what is counted

-- no script costs nothing
no_cost : (held : Map) → stated_cost held [] ≡ 0
unfolding stated_cost
no_cost held = ap (stated_cost_of held []) none
  where
    none : keys (set_of []) ≡ []
    none = ap (λ (es : List (Name × Bool)). map (λ (e : Name × Bool). e.0) es) (entries-from_entries [] tt)

pub none_fit : (capacity : Option ℕ) (held : Map) → Fits capacity (size held) → Fits capacity (size held + stated_cost held [])
none_fit None held fits = tt
none_fit (Some c) held fits = let none = no_cost held in omega (arith, fits, none)

pub no_scripts : (scripts : List (List Rec)) → eqb (length scripts) 0 ≡ true → scripts ≡ []
no_scripts [] is = refl
no_scripts (rs ∷ scripts) is = absurd (let none : length (rs ∷ scripts) ≡ 0 = eqb-true (length (rs ∷ scripts)) 0 is in omega (arith, none))

-- what is free is enough
pub enough : (capacity : Option ℕ) (held : Map) (scripts : List (List Rec)) (free n : ℕ) → IsFreeRoom capacity held free → n ≡ counted (stated_cost held scripts) → n ≤ free → Fits capacity (size held + stated_cost held scripts)
enough None held scripts free n room is le = tt
enough (Some c) held scripts free n room is le =
    let same : free ≡ c - size held = cc_some free (c - size held) room.is in
    omega (arith, room.fits, room.small, same, is, le)
  where
    cc_some : (a b : ℕ) → ◌≡◌ {A = Option ℕ} (Some a) (Some b) → a ≡ b
    cc_some a b e = cc

pub lacks_by : (capacity : Option ℕ) (held : Map) (scripts : List (List Rec)) (free n : ℕ) (r : Option Lack) → IsFreeRoom capacity held free → n ≡ counted (stated_cost held scripts)
    → MatchOption r (n ≤ free) (λ (lack : Lack). (lack.need ≡ n) × (lack.free ≡ free) × (free < n)) → Lacks capacity held scripts r
lacks_by capacity held scripts free n None room is le = enough capacity held scripts free n room is le
lacks_by capacity held scripts free n (Some lack) room is less = record {
  need = less.0 ∙ is;
  free = ap (λ (k : ℕ). Some k) less.1 ∙ room.is;
  beyond = let one = less.0 in let two = less.1 in let three = less.2 in omega (arith, one, two, three);
}

-- ---- the records of planned segments

pub copied : (files : Files) (plans : List Planned) → All (λ (p : Planned). All (HasLength files) p.records) plans → All (λ (p : Planned). All (HasCopied files) p.records) plans
copied files plans = All-weaker (λ (p : Planned). All (HasLength files) p.records) (λ (p : Planned). All (HasCopied files) p.records) (λ p. All-weaker (HasLength files) (HasCopied files) of_record p.records) plans
  where
    of_record : (r : Rec) → HasLength files r → HasCopied files r
    of_record (Put name bytes) has = tt
    of_record (Drop name) has = tt
    of_record (Copy name h file path n) has = has
    of_record (Dup name h from) has = tt

-- ---- the outcome of a walk

-- what is asked for is enough
roomy_parts : (free : Option ℕ) (w : Walked) (parts : List Part) → is_room free (need w.world.given.former w.parts) ≡ true → by_parts free w parts ≡ whole w
roomy_parts free w [] is = refl
roomy_parts free w (p ∷ parts) is = ap (λ (b : Bool). cond b (whole w) (full free (need w.world.given.former w.parts) w p)) is

roomy : (free : Option ℕ) (w : Walked) → is_room free (need w.world.given.former w.parts) ≡ true → of_walk free w ≡ whole w
unfolding of_walk
roomy free w is = roomy_parts free w w.parts is

-- and is not: the run ends where the first segment does
pub record IsFull (out : Outcome) (n free : ℕ) (names : List Name) (first : ℕ) : Type 0 where
  pub end : out.end ≡ Refused (Full n free)
  pub begun : out.begun ≡ names
  pub reached : out.reached ≡ first

full_parts : (files : Files) (m : Machine) (free : ℕ) (w : Walked) (parts : List Part) (plans : List Planned) → ArePlanned files m parts plans → Within (length w.begun) parts → is_room (Some free) (need w.world.given.former w.parts) ≡ false
    → (plans ≡ [] → ⊥) → IsFull (by_parts (Some free) w parts) (need w.world.given.former w.parts) free w.begun (min (first_end plans) (length w.begun))
full_parts files m free w [] [] are within isnt some = absurd (some refl)
full_parts files m free w [] (x ∷ plans) are within isnt some = absurd are
full_parts files m free w (p ∷ parts) [] are within isnt some = absurd are
full_parts files m free w (p ∷ parts) (x ∷ plans) are within isnt some =
    let n = need w.world.given.former w.parts in
    let is : by_parts (Some free) w (p ∷ parts) ≡ full (Some free) n w p = ap (λ (b : Bool). cond b (whole w) (full (Some free) n w p)) isnt in
    let same = are.0.reached in
    let le = within.0 in
    record {
      end = ap (λ (o : Outcome). o.end) is;
      begun = ap (λ (o : Outcome). o.begun) is;
      reached = ap (λ (o : Outcome). o.reached) is ∙ omega (arith, same, le);
    }

fulls : (files : Files) (free : ℕ) (w : Walked) (plans : List Planned) → ArePlanned files w.world.given.former w.parts plans → Within (length w.begun) w.parts → is_room (Some free) (need w.world.given.former w.parts) ≡ false
    → (plans ≡ [] → ⊥) → IsFull (of_walk (Some free) w) (need w.world.given.former w.parts) free w.begun (min (first_end plans) (length w.begun))
unfolding of_walk
fulls files free w plans are within isnt some = full_parts files w.world.given.former free w w.parts plans are within isnt some

-- ---- by what is counted

fits_so : (capacity : Option ℕ) (held cost : ℕ) → Fits capacity (held + cost) → is_room (option_map (λ c. c - held) capacity) (counted cost) ≡ true
fits_so None held cost fits = refl
fits_so (Some c) held cost fits = let le : counted cost ≤ c - held = omega (arith, fits) in grind (arith, nat_tests, le)

lacks_so : (free n : ℕ) → free < n → is_room (Some free) n ≡ false
lacks_so free n less = grind (arith, nat_tests, less)

module _ (costs : CostsTheSame) (files : Files) (capacity : Option ℕ) (held : Map) (g : Given) (out : Outcome) (names : List Name) (plans : List Planned) (refusal : Option Cause)
    (plan : IsCosted files (option_map (λ c. c - size held) capacity) g out names plans refusal) (former : volume_of g.former ≡ held) (there : All (λ (p : Planned). All (HasLength files) p.records) plans) where
  abbrev w : Walked
  w = walk g

  given_is : w.world.given ≡ g
  given_is = (walks_over g).given

  need_is : need w.world.given.former w.parts ≡ counted (stated_cost held (scripts_in plans))
  need_is =
      costs files w.world.given.former w.parts plans (subst (λ (h : Given). ArePlain h.former (all_rows w.parts)) (sym given_is) plan.plain) plan.whole.ended (copied files plans there)
      ∙ ap (λ (d : Map). counted (stated_cost d (scripts_in plans))) (ap (λ (h : Given). volume_of h.former) given_is ∙ former)

  pub has_room : Lacks capacity held (scripts_in plans) None → out ≡ whole w
  has_room fits = plan.is ∙ roomy (option_map (λ c. c - size held) capacity) w (ap (is_room (option_map (λ c. c - size held) capacity)) need_is ∙ fits_so capacity (size held) (stated_cost held (scripts_in plans)) fits)

  nothing_lacks : (lack : Lack) → IsLack capacity held (scripts_in plans) lack → plans ≡ [] → ⊥
  nothing_lacks lack lacks none =
      let is : lack.need ≡ counted (stated_cost held (scripts_in [])) = lacks.need ∙ ap (λ (l : List Planned). counted (stated_cost held (scripts_in l))) none in
      let less = lacks.beyond in
      let free = no_cost held in
      omega (arith, is, less, free)

  pub is_full : (lack : Lack) → IsLack capacity held (scripts_in plans) lack → IsFull out lack.need lack.free names (min (first_end plans) (length names))
  is_full lack lacks =
      let same : need w.world.given.former w.parts ≡ lack.need = need_is ∙ sym lacks.need in
      let isnt : is_room (Some lack.free) (need w.world.given.former w.parts) ≡ false = ap (is_room (Some lack.free)) same ∙ lacks_so lack.free lack.need lacks.beyond in
      let at : IsFull (of_walk (Some lack.free) w) (need w.world.given.former w.parts) lack.free w.begun (min (first_end plans) (length w.begun)) = fulls files lack.free w plans plan.whole.ended (walk_reach g) isnt (nothing_lacks lack lacks) in
      let is : out ≡ of_walk (Some lack.free) w = plan.is ∙ ap (λ (o : Option ℕ). of_walk o w) (sym lacks.free) in
      record {
        end = ap (λ (o : Outcome). o.end) is ∙ at.end ∙ ap (λ (n : ℕ). Refused (Full n lack.free)) same;
        begun = ap (λ (o : Outcome). o.begun) is ∙ at.begun ∙ plan.whole.begun;
        reached = ap (λ (o : Outcome). o.reached) is ∙ at.reached ∙ ap (λ (l : List Name). min (first_end plans) (length l)) plan.whole.begun;
      }

-- ---- the same room behind steps that only looked

pub lacks_then : (s t : State) (plans kept : List Planned) (r : Option Lack) → kept ≡ plans → t.held ≡ s.held → t.capacity ≡ s.capacity → Lacks s.capacity s.held (scripts_in plans) r → Lacks t.capacity t.held (scripts_in kept) r
lacks_then s t plans kept r same held capacity lacks =
    subst (λ (c : Option ℕ). Lacks c t.held (scripts_in kept) r) (sym capacity)
    (subst (λ (d : Map). Lacks s.capacity d (scripts_in kept) r) (sym held)
    (subst (λ (l : List Planned). Lacks s.capacity s.held (scripts_in l) r) (sym same) lacks))

-- ---- a machine that is read twice

pub spelled_twice : (r : Result Machine Name) (name : Name) → IsOk r → r ≡ Err name → ⊥
spelled_twice (Ok m) name is bad = let clash : ◌≡◌ {A = Result Machine Name} (Ok m) (Err name) = bad in cc
spelled_twice (Err other) name is bad = absurd cc
