-- Taking away whatever is inside the area.
use Rattle.std.proofs.Common.{◌≡◌, ◌≢◌, inl, ⊎_elim, ℕ, arith, length, true, false, List, [], ◌∷◌, Option, Some, None, IfSome, Result, Ok, Err, IsErr, OnOk, refl, sym, ap, subst, ◌∙◌}
use Rattle.std.specs.FinMap.{get, remove}
use Rattle.std.specs.Ordering.{is_gt, ordering_reverse}
use Rattle.mi_text.specs.Next.{is_behind, next_name}
use Rattle.mi_text.proofs.MapLemmas.{names_total, from_same}
use Rattle.mi_text.proofs.NextLemmas.{next-first, next-none}
use Rattle.mi_volume.specs.Maps.{Map, IsAbove}
use Rattle.mi_volume.specs.State.{State, GoesOn, Images, ImagesOf, Stays}
use Rattle.mi_volume.specs.declared.volume.Failed.{Failed}
use Rattle.mi_volume.specs.Calls.{Removes}
use Rattle.mi_volume.proofs.MapLemmas.{name_cases, get-remove_same, get-remove_other}
use Rattle.mi_volume.proofs.Moments.{started, joined, weaker}
use Rattle.mi_undo.specs.Names.{marker, is_inside}
use Rattle.mi_undo.specs.Clear.{StandsPlainly, IsShut, AreAll, Clears}
use Rattle.mi_undo.specs.Sweep.{IsAway, Sweeps, Sweeping, Swept}
use Rattle.mi_undo.proofs.FaultLemmas.{at_err}
use Rattle.mi_undo.proofs.InsideLemmas.{past_inside, at_top}
use Rattle.mi_undo.proofs.ClearLemmas.{shut_image, shut_image_of, shut_kept, shut_stays, shut_outside, shut_held}

-- a name that isn't held, or a contradiction
pub held_not : (o : Option (List ℕ)) → ((x : List ℕ) → o ≡ Some x → ⊥) → o ≡ None
held_not None never = refl
held_not (Some x) never = absurd (never x refl)

module _ (held : Map) (after : List ℕ) (away : IsAway held after) where
  by_side : (q : List ℕ) → is_inside q ≡ true → q ≢ marker → (is_behind (Some after) q ≡ true → (x : List ℕ) → get held q ≡ Some x → ⊥) → get held q ≡ None
  by_side q inside ne never =
      elim (is_behind (Some after) q) as (λ b. is_behind (Some after) q ≡ b → get held q ≡ None) [
        | true ↦ λ behind. held_not (get held q) (never behind)
        | false ↦ λ before. away q inside ne before
      ] refl

  pub none_left : next_name held (Some after) ≡ None → AreAll held []
  none_left next q inside ne = inl (by_side q inside ne (λ behind x at. let clash : true ≡ false = sym behind ∙ next-none held (Some after) q x next at in cc))

  module _ (k : List ℕ) (next : next_name held (Some after) ≡ Some k) where
    pub past_last : is_inside after ≡ true → is_inside k ≡ false → IsAbove (Some after) k → AreAll held []
    past_last inside_after out above q inside ne =
        inl (by_side q inside ne (λ behind x at. ⊎_elim
        (λ same. let clash : true ≡ false = sym inside ∙ ap is_inside (from_same q k same) ∙ out in cc)
        (λ greater. past_inside after q k inside_after inside out (ap is_gt (names_total.antisymm k after ∙ ap ordering_reverse above)) greater)
        (next-first held (Some after) k q x next at behind)))

    pub away_more : (new : Map) → (k ≢ marker → get new k ≡ None) → ((q : List ℕ) → get held q ≡ None → get new q ≡ None) → IsAway new k
    away_more new gone still q inside ne before =
        ⊎_elim
        (λ (is : q ≡ k). ap (λ (n : List ℕ). get new n) is ∙ gone (λ e. ne (is ∙ e)))
        (λ other. still q (by_side q inside ne (λ behind x at. ⊎_elim
        (λ same. other (from_same q k same))
        (λ greater. let clash : true ≡ false = sym greater ∙ before in cc)
        (next-first held (Some after) k q x next at behind))))
        (name_cases q k)

-- the first name of the area is removed
pub away_top : (held new : Map) (k : List ℕ) → k ≡ 106 ∷ 47 ∷ [] → get new k ≡ None → IsAway new k
away_top held new k is gone q inside ne before =
    let same : q ≡ k = at_top q inside (ap (λ (n : List ℕ). is_behind (Some n) q) (sym is) ∙ before) ∙ sym is in
    ap (λ (n : List ℕ). get new n) same ∙ gone

-- the marker is left alone
pub sweeps_marker : (s : State) (A : Map) (name : List ℕ) → IsShut s A → name ≡ marker → Sweeps {T = Unit {0}} {E = Failed} s s A name (Ok tt)
sweeps_marker s A name shut is = record { goes = started s (StandsPlainly A); is_shut = shut; away = λ ne. absurd (ne is); still = λ q none. none }

pub sweeps_removed : (s t : State) (A : Map) (name : List ℕ) (r : Result (Unit {0}) Failed) → IsShut s A → is_inside name ≡ true → name ≢ marker → GoesOn s t (ImagesOf name s) → Removes name s t r → Sweeps s t A name r
sweeps_removed s t A name r shut inside ne goes removes = record {
  goes = weaker s t (ImagesOf name s) (StandsPlainly A) (shut_image_of s A name shut inside ne) goes;
  is_shut = shut_kept s t A name shut inside ne removes.others removes.dirty;
  away = gone r removes.ok;
  still = stays r removes.ok;
}
  where
    gone : (r : Result (Unit {0}) Failed) → OnOk r (t.held ≡ remove s.held name) → OnOk r (name ≢ marker → get t.held name ≡ None)
    gone (Ok x) ok = λ other. ap (λ (m : Map). get m name) ok ∙ get-remove_same s.held name
    gone (Err e) ok = tt

    stays : (r : Result (Unit {0}) Failed) → OnOk r (t.held ≡ remove s.held name) → OnOk r ((q : List ℕ) → get s.held q ≡ None → get t.held q ≡ None)
    stays (Ok x) ok = λ q none. ap (λ (m : Map). get m q) ok ∙ ⊎_elim (λ (is : q ≡ name). ap (λ (n : List ℕ). get (remove s.held name) n) is ∙ get-remove_same s.held name) (λ other. get-remove_other s.held name q other ∙ none) (name_cases q name)
    stays (Err e) ok = tt

pub sweeping_start : (s : State) (A : Map) (after : List ℕ) → IsShut s A → IsAway s.held after → Sweeping s s A after
sweeping_start s A after shut away = record { goes = started s (StandsPlainly A); is_shut = shut; away = away }

pub sweeping_looked : (s0 s t : State) (A : Map) (after : List ℕ) → Sweeping s0 s A after → GoesOn s t (Images s) → Stays s t → Sweeping s0 t A after
sweeping_looked s0 s t A after so_far goes stays = record {
  goes = joined s0 s t (StandsPlainly A) so_far.goes (weaker s t (Images s) (StandsPlainly A) (shut_image s A so_far.is_shut) goes);
  is_shut = shut_stays s t A so_far.is_shut stays;
  away = λ q inside ne before. ap (λ (m : Map). get m q) stays.held ∙ so_far.away q inside ne before;
}

pub swept_err : {T E U G : Type 0} (s0 s t : State) (A : Map) (after name : List ℕ) (r : Result T E) (e : Result U G) → Sweeping s0 s A after → Sweeps s t A name r → IsErr e → Swept s0 t A e
swept_err s0 s t A after name r e so_far sweeps fails = record { goes = joined s0 s t (StandsPlainly A) so_far.goes sweeps.goes; is_shut = sweeps.is_shut; ok = at_err _ e fails }

pub swept_looked : {U G : Type 0} (s0 s : State) (A : Map) (after : List ℕ) (e : Result U G) → Sweeping s0 s A after → IsErr e → Swept s0 s A e
swept_looked s0 s A after e so_far fails = record { goes = so_far.goes; is_shut = so_far.is_shut; ok = at_err _ e fails }

pub swept_all : {U G : Type 0} (s0 s : State) (A : Map) (after : List ℕ) (e : Result U G) → Sweeping s0 s A after → AreAll s.held [] → Swept s0 s A e
swept_all s0 s A after e so_far all = record { goes = so_far.goes; is_shut = so_far.is_shut; ok = at e }
  where
    at : {U G : Type 0} (e : Result U G) → OnOk e (AreAll s.held [])
    at (Ok x) = all
    at (Err x) = tt

pub sweeping_step : (s0 s t : State) (A : Map) (after k : List ℕ) → Sweeping s0 s A after → next_name s.held (Some after) ≡ Some k → GoesOn s t (StandsPlainly A) → IsShut t A → (k ≢ marker → get t.held k ≡ None) → ((q : List ℕ) → get s.held q ≡ None → get t.held q ≡ None) → Sweeping s0 t A k
sweeping_step s0 s t A after k so_far next goes shut gone still = record {
  goes = joined s0 s t (StandsPlainly A) so_far.goes goes;
  is_shut = shut;
  away = away_more s.held after so_far.away k next t.held gone still;
}

-- a failure before the marker is removed
pub clears_not : {U G : Type 0} (s t : State) (A : Map) (e : Result U G) → GoesOn s t (StandsPlainly A) → IsShut t A → IsErr e → Clears s t A e
clears_not s t A e goes shut fails = record { goes = goes; leaves = λ d image. (shut_image t A shut d image).0; outside = shut_outside t A shut; stands = shut_held t A shut; ok = at_err _ e fails }

-- what the next name is
pub still_next : (h d : Map) (after : List ℕ) (o : Option (List ℕ)) → d ≡ h → next_name h (Some after) ≡ o → next_name d (Some after) ≡ o
still_next h d after o same_map is = ap (λ (m : Map). next_name m (Some after)) same_map ∙ is

pub above_some : (o : Option (List ℕ)) (after k : List ℕ) → o ≡ Some k → IfSome o (IsAbove (Some after)) → IsAbove (Some after) k
above_some o after k is above = subst (λ (x : Option (List ℕ)). IfSome x (IsAbove (Some after))) is above

pub top_not_marker : (k : List ℕ) → k ≡ 106 ∷ 47 ∷ [] → k ≢ marker
top_not_marker k is e = let same_length : ◌≡◌ {A = ℕ} 2 3 = ap (λ (l : List ℕ). length l) (sym is ∙ e) in absurd (omega arith)

-- the marker isn't removed, or is
pub cleared_not : {T E U G : Type 0} (s t u : State) (A : Map) (r : Result T E) (e : Result U G) → GoesOn s t (StandsPlainly A) → Clears t u A r → IsErr e → Clears s u A e
cleared_not s t u A r e goes clears fails = record { goes = joined s t u (StandsPlainly A) goes clears.goes; leaves = clears.leaves; stands = clears.stands; outside = clears.outside; ok = at_err _ e fails }

pub all_clears : {E G : Type 0} (s t u : State) (A : Map) → GoesOn s t (StandsPlainly A) → Clears {T = Unit {0}} {E = E} t u A (Ok tt) → Clears {T = Unit {0}} {E = G} s u A (Ok tt)
all_clears s t u A goes clears = record { goes = joined s t u (StandsPlainly A) goes clears.goes; leaves = clears.leaves; stands = clears.stands; outside = clears.outside; ok = clears.ok }
