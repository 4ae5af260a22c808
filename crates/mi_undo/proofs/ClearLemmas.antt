-- Taking the area away.
use Rattle.std.proofs.Common.{◌≡◌, ◌≢◌, ◌⊎◌, inl, inr, ⊎_elim, ℕ, zero, suc, ◌+◌, ◌<◌, true, false, cond, not, List, [], ◌∷◌, ◌++◌, length, get_or, take, Option, None, Result, Ok, IsErr, refl, sym, ap, subst, ◌∙◌, arith}
use Rattle.std.proofs.lemmas.List.{take_more}
use Rattle.std.specs.FinMap.{get, remove}
use Rattle.mi_volume.specs.Maps.{Map, OthersStay, Fits, size}
use Rattle.mi_volume.specs.declared.volume.Failed.{Failed}
use Rattle.mi_volume.specs.State.{State, GoesOn, Images, ImagesOf, OnlyDirties, NothingDirty, Stays}
use Rattle.mi_volume.specs.Calls.{Removes}
use Rattle.mi_text.proofs.MapLemmas.{same}
use Rattle.mi_volume.proofs.MapLemmas.{name_cases, get-remove_same, get-remove_other}
use Rattle.mi_volume.proofs.Moments.{weaker, joined, started}
use Rattle.mi_undo.specs.Names.{marker, gate_name, most_entries, is_inside}
use Rattle.mi_undo.specs.Stands.{is_one, noted, StandsFor, outside}
use Rattle.mi_undo.specs.Keeps.{IsFree}
use Rattle.mi_undo.specs.Clear.{StandsPlainly, IsShut, IsAmong, AreInside, AreAll, Clearing, Clears}
use Rattle.mi_undo.proofs.FaultLemmas.{at_err}
use Rattle.mi_undo.proofs.OutsideLemmas.{marker_step}
use Rattle.mi_undo.proofs.StandsLemmas.{read_opened, stands_for, stands_unmarked, get-outside}
use Rattle.mi_undo.proofs.NameLemmas.{marker_not_gate}
use Rattle.mi_undo.proofs.NoteLemmas.{not_both, shut_gate}

pub noted_unmarked : (d : Map) → is_one (get d marker) ≡ false → noted d ≡ Ok []
unfolding noted
noted_unmarked d shut = rw shut refl

pub noted_ungated : (d : Map) → is_one (get d marker) ≡ true → ((j : ℕ) → j ≡ 0 → j < most_entries → is_one (get d (gate_name j)) ≡ false) → noted d ≡ Ok []
unfolding noted
noted_ungated d marked shut = rw marked (read_opened d 0 [] [] most_entries tt shut tt (omega arith) (omega arith))

pub plainly : (s t : State) (A : Map) → GoesOn s t (StandsPlainly A) → GoesOn s t (StandsFor A)
plainly s t A goes = weaker s t (StandsPlainly A) (StandsFor A) (λ d p. p.0) goes

-- what a crash may leave while a name of the area, besides the marker, is changed
shut_stands : (s : State) (A : Map) → IsShut s A → (d : Map) → ((q : List ℕ) → ¬ s.dirty q → is_inside q ≡ false → get d q ≡ get s.held q) → get d marker ≡ get s.held marker → StandsPlainly A d
shut_stands s A shut d agrees at_marker =
    (stands_unmarked d A (ap is_one at_marker ∙ shut.shut) (λ q out. agrees q (shut.solid_others q out) out ∙ shut.others q out) shut.nothing_inside, noted_unmarked d (ap is_one at_marker ∙ shut.shut))

pub shut_image : (s : State) (A : Map) → IsShut s A → (d : Map) → Images s d → StandsPlainly A d
shut_image s A shut d image = shut_stands s A shut d (λ q solid out. image.agrees q solid) (image.agrees marker shut.solid)

pub shut_held : (s : State) (A : Map) → IsShut s A → StandsFor A s.held
shut_held s A shut = (shut_stands s A shut s.held (λ q solid out. refl) refl).0

pub shut_image_of : (s : State) (A : Map) (x : List ℕ) → IsShut s A → is_inside x ≡ true → x ≢ marker → (d : Map) → ImagesOf x s d → StandsPlainly A d
shut_image_of s A x shut inside ne d image =
    shut_stands s A shut d (λ q solid out. image.agrees q (⊎_elim solid (λ is. not_both (is_inside q) (ap is_inside is ∙ inside) out))) (image.agrees marker (⊎_elim shut.solid (λ is. ne (sym is))))

pub shut_kept : (s t : State) (A : Map) (x : List ℕ) → IsShut s A → is_inside x ≡ true → x ≢ marker → OthersStay x s.held t.held → OnlyDirties x s t → IsShut t A
shut_kept s t A x shut inside ne others dirty = record {
  shut = ap is_one (others marker (λ is. ne (sym is))) ∙ shut.shut;
  solid = λ now. shut.solid (dirty marker (λ is. ne (sym is)) now);
  others = λ q out. others q (outer q out) ∙ shut.others q out;
  solid_others = λ q out now. shut.solid_others q out (dirty q (outer q out) now);
  nothing_inside = shut.nothing_inside;
}
  where
    outer : (q : List ℕ) → is_inside q ≡ false → q ≢ x
    outer q out is = not_both (is_inside q) (ap is_inside is ∙ inside) out

pub shut_stays : (s t : State) (A : Map) → IsShut s A → Stays s t → IsShut t A
shut_stays s t A shut stays = record {
  shut = ap (λ (m : Map). is_one (get m marker)) stays.held ∙ shut.shut;
  solid = λ now. shut.solid (stays.dirty marker now);
  others = λ q out. ap (λ (m : Map). get m q) stays.held ∙ shut.others q out;
  solid_others = λ q out now. shut.solid_others q out (stays.dirty q now);
  nothing_inside = shut.nothing_inside;
}

pub inside_at : (names : List (List ℕ)) (i : ℕ) (n : List ℕ) → AreInside names → i < length names → n ≡ get_or names i n → (is_inside n ≡ true) × (n ≢ marker)
inside_at [] i n inside below is = absurd (omega arith)
inside_at (m ∷ names) zero n inside below is = (ap is_inside is ∙ inside.0, λ e. inside.1 (sym is ∙ e))
inside_at (m ∷ names) (suc i) n inside below is = inside_at names i n inside.2 (omega arith) is

among-append : (q : List ℕ) (xs : List (List ℕ)) (n : List ℕ) → IsAmong q (xs ++ n ∷ []) → IsAmong q xs ⊎ (q ≡ n)
among-append q [] n among = ⊎_elim (λ is. inr is) (λ none. absurd none) among
among-append q (x ∷ xs) n among = ⊎_elim (λ is. inl (inl is)) (λ rest. ⊎_elim (λ there. inl (inr there)) (λ is. inr is) (among-append q xs n rest)) among

pub clearing_start : (s : State) (A : Map) → IsShut s A → Clearing s s A []
clearing_start s A shut = record { goes = started s (StandsPlainly A); is_shut = shut; away = λ q among. absurd among; still = λ q none. none }

pub clearing_step : (s0 s t : State) (A : Map) (front : List (List ℕ)) (n : List ℕ) → Clearing s0 s A front → is_inside n ≡ true → n ≢ marker → GoesOn s t (ImagesOf n s) → OthersStay n s.held t.held → OnlyDirties n s t → t.held ≡ remove s.held n → Clearing s0 t A (front ++ n ∷ [])
clearing_step s0 s t A front n so_far inside ne goes others dirty removed = record {
  goes = joined s0 s t (StandsPlainly A) so_far.goes (weaker s t (ImagesOf n s) (StandsPlainly A) (shut_image_of s A n so_far.is_shut inside ne) goes);
  is_shut = shut_kept s t A n so_far.is_shut inside ne others dirty;
  away = λ q among. ⊎_elim (λ (is : q ≡ n). gone q is) (λ other. others q other ∙ ⊎_elim (so_far.away q) (λ is. absurd (other is)) (among-append q front n among)) (name_cases q n);
  still = λ q none. ⊎_elim (λ (is : q ≡ n). gone q is) (λ other. others q other ∙ so_far.still q none) (name_cases q n);
}
  where
    gone : (q : List ℕ) → q ≡ n → get t.held q ≡ None
    gone q is = ap (λ (m : Map). get m q) removed ∙ ap (λ (x : List ℕ). get (remove s.held n) x) is ∙ get-remove_same s.held n

pub take_name : (names : List (List ℕ)) (i : ℕ) (n : List ℕ) → i < length names → n ≡ get_or names i n → take (i + 1) names ≡ take i names ++ n ∷ []
take_name names i n below is = take_more names i n below ∙ ap (λ (x : List ℕ). take i names ++ x ∷ []) (sym is)

-- With no other name of the area, any marker stands for A.
pub empty_stands : (s : State) (A : Map) → IsShut s A → ((q : List ℕ) → is_inside q ≡ true → q ≢ marker → get s.held q ≡ None) → (d : Map) → ((q : List ℕ) → q ≢ marker → get d q ≡ get s.held q) → StandsPlainly A d
empty_stands s A shut empty d other =
    elim (is_one (get d marker)) as (λ b. is_one (get d marker) ≡ b → StandsPlainly A d) [
      | true ↦ λ marked. (stands_for d A [] marked tt first_shut tt (omega arith) (λ q out none. outer q out) (λ q w is. absurd (cc)) shut.nothing_inside, noted_ungated d marked first_shut)
      | false ↦ λ is. (stands_unmarked d A is outer shut.nothing_inside, noted_unmarked d is)
    ] refl
  where
    first_shut : (j : ℕ) → j ≡ 0 → j < most_entries → is_one (get d (gate_name j)) ≡ false
    first_shut j at below = shut_gate _ (other (gate_name j) (λ e. marker_not_gate j (sym e)) ∙ empty (gate_name j) refl (λ e. marker_not_gate j (sym e)))

    outer : (q : List ℕ) → is_inside q ≡ false → get d q ≡ get A q
    outer q out = other q (λ e. not_both (is_inside q) (ap is_inside e) out) ∙ shut.others q out

-- what a crash may leave while the marker is removed, and after
pub last_image : (s : State) (A : Map) → IsShut s A → NothingDirty s → ((q : List ℕ) → is_inside q ≡ true → q ≢ marker → get s.held q ≡ None) → (d : Map) → ImagesOf marker s d → StandsPlainly A d
last_image s A shut clean empty d image = empty_stands s A shut empty d (λ q ne. image.agrees q (⊎_elim (clean q) ne))

pub after_image : (s t : State) (A : Map) → IsShut s A → NothingDirty s → ((q : List ℕ) → is_inside q ≡ true → q ≢ marker → get s.held q ≡ None) → OthersStay marker s.held t.held → OnlyDirties marker s t → (d : Map) → Images t d → StandsPlainly A d
after_image s t A shut clean empty others dirty d image = empty_stands s A shut empty d (λ q ne. image.agrees q (λ now. clean q (dirty q ne now)) ∙ others q ne)

pub all_away : (old s : State) (names : List (List ℕ)) → AreAll old.held names → ((q : List ℕ) → IsAmong q names → get s.held q ≡ None) → ((q : List ℕ) → get old.held q ≡ None → get s.held q ≡ None) → (q : List ℕ) → is_inside q ≡ true → q ≢ marker → get s.held q ≡ None
all_away old s names all away still q inside ne = ⊎_elim (still q) (away q) (all q inside ne)

-- the marker away too
pub emptied : (s t : State) (A : Map) → IsShut s A → ((q : List ℕ) → is_inside q ≡ true → q ≢ marker → get s.held q ≡ None) → t.held ≡ remove s.held marker → t.held ≡ A
emptied s t A shut empty removed = same t.held A (λ q. ap (λ (m : Map). get m q) removed ∙ ⊎_elim (λ (is : q ≡ marker). at_marker q is) (λ ne. get-remove_other s.held marker q ne ∙ at q ne) (name_cases q marker))
  where
    at_marker : (q : List ℕ) → q ≡ marker → get (remove s.held marker) q ≡ get A q
    at_marker q is = ap (λ (x : List ℕ). get (remove s.held marker) x) is ∙ get-remove_same s.held marker ∙ sym (ap (λ (x : List ℕ). get A x) is ∙ shut.nothing_inside marker refl)

    at : (q : List ℕ) → q ≢ marker → get s.held q ≡ get A q
    at q ne =
        elim (is_inside q) as (λ b. is_inside q ≡ b → get s.held q ≡ get A q) [
          | true ↦ λ inside. empty q inside ne ∙ sym (shut.nothing_inside q inside)
          | false ↦ λ out. shut.others q out
        ] refl

pub is_free : (s : State) (A : Map) → s.held ≡ A → ((q : List ℕ) → is_inside q ≡ true → get A q ≡ None) → NothingDirty s → IsFree s
is_free s A is nothing clean = record { nothing_inside = λ q inside. ap (λ (m : Map). get m q) is ∙ nothing q inside; clean = clean }

-- besides the area it is A
pub shut_outside : (s : State) (A : Map) → IsShut s A → outside s.held ≡ A
shut_outside s A shut = same (outside s.held) A (λ q. get-outside s.held q ∙ at q)
  where
    at : (q : List ℕ) → cond (not (is_inside q)) (get s.held q) None ≡ get A q
    at q =
        elim (is_inside q) as (λ b. is_inside q ≡ b → cond (not b) (get s.held q) None ≡ get A q) [
          | true ↦ λ inside. sym (shut.nothing_inside q inside)
          | false ↦ λ out. shut.others q out
        ] refl

pub image_stays : (s t : State) → GoesOn s t (Images s) → Stays s t → (d : Map) → Images t d → Images s d
image_stays s t goes stays d image = record { agrees = λ q clean. image.agrees q (λ now. clean (stays.dirty q now)) ∙ ap (λ (m : Map). get m q) stays.held; fits = subst (λ (c : Option ℕ). Fits c (size d)) goes.capacity image.fits }

-- the marker is removed from a shut area that is empty
module _ (s t u v : State) (A : Map) (name : List ℕ) (is : name ≡ marker) (shut : IsShut s A) (empty_then : AreAll s.held []) (first : GoesOn s t (Images s)) (syncs : Stays s t) where
  synced : IsShut t A
  synced = shut_stays s t A shut syncs

  pub first_goes : GoesOn s t (StandsPlainly A)
  first_goes = weaker s t (Images s) (StandsPlainly A) (shut_image s A shut) first

  pub unsynced : {T E : Type 0} (r : Result T E) → IsErr r → Clears s t A r
  unsynced r fails = record { goes = first_goes; leaves = λ d image. (shut_image t A synced d image).0; stands = shut_held t A synced; outside = shut_outside t A synced; ok = at_err _ r fails }

  module _ (clean : NothingDirty t) (removing : GoesOn t u (ImagesOf name t)) (w : Result (Unit {0}) Failed) (removes : Removes name t u w) where
    empty : (q : List ℕ) → is_inside q ≡ true → q ≢ marker → get t.held q ≡ None
    empty q inside ne = ap (λ (m : Map). get m q) syncs.held ∙ ⊎_elim (λ none. none) (λ never. absurd never) (empty_then q inside ne)

    others : OthersStay marker t.held u.held
    others = subst (λ (n : List ℕ). OthersStay n t.held u.held) is removes.others

    dirty : OnlyDirties marker t u
    dirty = subst (λ (n : List ℕ). OnlyDirties n t u) is removes.dirty

    second_goes : GoesOn s u (StandsPlainly A)
    second_goes = joined s t u (StandsPlainly A) first_goes (weaker t u (ImagesOf marker t) (StandsPlainly A) (last_image t A synced clean empty) (subst (λ (n : List ℕ). GoesOn t u (ImagesOf n t)) is removing))

    stands_now : StandsFor A u.held
    stands_now = (empty_stands t A synced empty u.held others).0

    outside_now : outside u.held ≡ A
    outside_now = marker_step t.held u.held marker refl others ∙ shut_outside t A synced

    pub unremoved : {T E : Type 0} (r : Result T E) → IsErr r → Clears s u A r
    unremoved r fails = record { goes = second_goes; leaves = λ d image. (after_image t u A synced clean empty others dirty d image).0; stands = stands_now; outside = outside_now; ok = at_err _ r fails }

    module _ (last : GoesOn u v (Images u)) (stays : Stays u v) where
      third_goes : GoesOn s v (StandsPlainly A)
      third_goes = joined s u v (StandsPlainly A) second_goes (weaker u v (Images u) (StandsPlainly A) (after_image t u A synced clean empty others dirty) last)

      leaves_now : (d : Map) → Images v d → StandsFor A d
      leaves_now d image = (after_image t u A synced clean empty others dirty d (image_stays u v last stays d image)).0

      stands_then : StandsFor A v.held
      stands_then = (empty_stands t A synced empty v.held (λ q ne. ap (λ (m : Map). get m q) stays.held ∙ others q ne)).0

      pub unfinished : {T E : Type 0} (r : Result T E) → IsErr r → Clears s v A r
      unfinished r fails = record { goes = third_goes; leaves = leaves_now; stands = stands_then; outside = ap outside stays.held ∙ outside_now; ok = at_err _ r fails }

      pub all_cleared : u.held ≡ remove t.held name → NothingDirty v → Clears {T = Unit {0}} {E = Failed} s v A (Ok tt)
      all_cleared removed clean_now =
          let held = stays.held ∙ emptied t u A synced empty (removed ∙ ap (λ (n : List ℕ). remove t.held n) is) in
          record { goes = third_goes; leaves = leaves_now; stands = stands_then; outside = ap outside stays.held ∙ outside_now; ok = (is_free v A held shut.nothing_inside clean_now, held) }

-- after the names the marker
pub then_cleared : {T E : Type 0} (s t u : State) (A : Map) (r : Result T E) → GoesOn s t (StandsPlainly A) → Clears t u A r → Clears s u A r
then_cleared s t u A r first then = record { goes = joined s t u (StandsPlainly A) first then.goes; leaves = then.leaves; stands = then.stands; outside = then.outside; ok = then.ok }
