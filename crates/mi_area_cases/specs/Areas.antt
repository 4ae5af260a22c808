-- What the steps over an open rollback area leave it in.
use Rattle.std.specs.Prelude.{◌≡◌, ℕ, List, Contains}
use Rattle.mi_volume.specs.Maps.{Map}
use Rattle.mi_volume.specs.State.{State}
use Rattle.mi_undo.specs.Area.{volume, noted_names, IsWorking, IsLive, Works, CanGoBack}
use Rattle.mi_undo.specs.declared.kept.Kept.{Kept}
use Rattle.mi_undo.specs.declared.area.Open.{Open}
use Rattle.mi_area_cases.specs.declared.areas.Next.{Next}
use Rattle.mi_area_cases.specs.declared.areas.Next.TheVariants.{On, Back, Over}

module _ {V : Type 0} (told : Type 0) (state : V → State) where
  -- no call has failed, and these names are noted
  pub record CanGoOn (o : Open V Kept) (names : List (List ℕ)) : Type 0 where
    pub working : IsWorking o
    pub noted : (q : List ℕ) → Contains names q → Contains (noted_names o) q
    pub works : told → (F : Map) × Works (state (volume o)) o.kept F

  -- it may be gone back over
  pub record CanEnd (o : Open V Kept) : Type 0 where
    pub live : IsLive o
    pub back : told → (F : Map) × CanGoBack (state (volume o)) o.kept F

  -- what a step leaves that goes on, goes back or ends
  abbrev pub Leaves : Next → Open V Kept → List (List ℕ) → Type 0
  Leaves On o names = CanGoOn o names
  Leaves Back o names = CanEnd o
  Leaves Over o names = Unit {0}
