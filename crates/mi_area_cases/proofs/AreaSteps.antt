-- What a step leaves an area in, by what its call promises.
use Rattle.std.proofs.Common.{◌≡◌, ℕ, List, ◌++◌, Contains, Result, Ok, Err, IfOk, sym, subst, ◌∙◌}
use Rattle.mi_volume.specs.Maps.{Map}
use Rattle.mi_volume.specs.State.{State}
use Rattle.mi_undo.specs.Notes.{new_names}
use Rattle.mi_undo.specs.Area.{Knows, AreOutside, place_names, volume, noted_names, IsWorking, IsLive, Works, CanGoBack}
use Rattle.mi_undo.specs.declared.kept.Kept.{Kept}
use Rattle.mi_undo.specs.declared.kept.Progress.TheVariants.{Working, Over}
use Rattle.mi_undo.specs.declared.area.Open.{Open}
use Rattle.mi_undo.proofs.AreaLemmas.{works_go_back}
use Rattle.mi_area_cases.specs.Areas.{CanGoOn, CanEnd, Leaves}
use Rattle.mi_area_cases.specs.declared.ill.Ill.{Ill}
use Rattle.mi_area_cases.specs.declared.areas.Next.{Next}
use Rattle.mi_area_cases.specs.declared.areas.Next.TheVariants as next
use Rattle.mi_area_cases.proofs.NotedLemmas.{still_noted}

-- where it works it isn't over
pub live_working : {V : Type 0} (o : Open V Kept) → IsWorking o → IsLive o
live_working o works = λ over. let clash : Working ≡ Over = sym works.working ∙ over in cc

module _ {V : Type 0} (told : Type 0) (state : V → State) (old new : Open V Kept) (names : List (List ℕ)) (on : CanGoOn told state old names) where
  -- with what it keeps as it was, it works on where it works
  pub on_as : new.kept ≡ old.kept → IsWorking new → (told → (F : Map) → Works (state (volume old)) old.kept F → Works (state (volume new)) new.kept F) → CanGoOn told state new names
  on_as kept working works = record {
    working = working;
    noted = λ q has. subst (λ (k : Kept). Contains (place_names k.places.items) q) (sym kept) (on.noted q has);
    works = λ told. let start = on.works told in (start.0, works told start.0 start.1);
  }

  -- and it works where nothing but the volume is another
  pub on_still : new.kept ≡ old.kept → new.progress ≡ old.progress → (told → (F : Map) → Works (state (volume old)) old.kept F → Works (state (volume new)) new.kept F) → CanGoOn told state new names
  on_still kept progress works = on_as kept (record {
    working = progress ∙ on.working.working;
    knows = subst (λ (k : Kept). Knows k.seen (place_names k.places.items)) (sym kept) on.working.knows;
    outside = subst (λ (k : Kept). AreOutside (place_names k.places.items)) (sym kept) on.working.outside;
  }) works

  -- it can be gone back over where it works still
  pub back_as : IsLive new → (told → (F : Map) → Works (state (volume old)) old.kept F → Works (state (volume new)) new.kept F) → CanEnd told state new
  back_as live works = record {
    live = live;
    back = λ told. let start = on.works told in (start.0, works_go_back (state (volume new)) new.kept start.0 (works told start.0 start.1));
  }

  -- and where its call says so
  pub back_by : IsLive new → (told → (F : Map) → Works (state (volume old)) old.kept F → CanGoBack (state (volume new)) new.kept F) → CanEnd told state new
  back_by live back = record {
    live = live;
    back = λ told. let start = on.works told in (start.0, back told start.0 start.1);
  }

  -- with more names noted
  pub on_noted : (more noted : List (List ℕ)) → IsWorking new → noted_names new ≡ noted_names old ++ new_names (noted_names old) more → noted ≡ names ++ more → (told → (F : Map) → Works (state (volume old)) old.kept F → Works (state (volume new)) new.kept F) → CanGoOn told state new noted
  on_noted more noted working is all works = record {
    working = working;
    noted = λ q has. subst (λ (l : List (List ℕ)). Contains l q) (sym is) (still_noted (noted_names old) more names on.noted q (subst (λ (l : List (List ℕ)). Contains l q) all has));
    works = λ told. let start = on.works told in (start.0, works told start.0 start.1);
  }

module _ {V : Type 0} (told : Type 0) (state : V → State) (o : Open V Kept) (names : List (List ℕ)) where
  -- what a step leaves, by what comes behind it
  pub on_of : (r : Result Next Ill) → IfOk r (λ n. Leaves told state n o names) → IfOk r (λ n. n ≡ next.On → CanGoOn told state o names)
  on_of (Ok next.On) leaves = λ is. leaves
  on_of (Ok next.Back) leaves = λ is. absurd (cc)
  on_of (Ok next.Over) leaves = λ is. absurd (cc)
  on_of (Err e) leaves = tt

  pub back_of : (r : Result Next Ill) → IfOk r (λ n. Leaves told state n o names) → IfOk r (λ n. n ≡ next.Back → CanEnd told state o)
  back_of (Ok next.Back) leaves = λ is. leaves
  back_of (Ok next.On) leaves = λ is. absurd (cc)
  back_of (Ok next.Over) leaves = λ is. absurd (cc)
  back_of (Err e) leaves = tt
