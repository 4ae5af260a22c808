-- Entries that aren't read.
use Rattle.std.proofs.Common.{◌≡◌, ◌≢◌, ◌⊎◌, inl, inr, ⊎_elim, ℕ, ◌≤◌, ◌<◌, true, false, List, None, refl, sym, ap, ◌∙◌, arith}
use Rattle.std.specs.FinMap.{get, remove}
use Rattle.mi_volume.specs.Maps.{Map, OthersStay}
use Rattle.mi_volume.specs.State.{State, GoesOn, Images, ImagesOf, OnlyDirties, Stays}
use Rattle.mi_volume.proofs.MapLemmas.{name_cases, get-remove_same, get-remove_other}
use Rattle.mi_volume.proofs.Moments.{started, joined, weaker}
use Rattle.mi_undo.specs.Names.{marker, entry_name, most_entries, is_inside}
use Rattle.mi_undo.specs.Notes.{Note}
use Rattle.mi_undo.specs.Stands.{is_one, StandsFor}
use Rattle.mi_undo.specs.Keeps.{Robust, Loose, Keeps}
use Rattle.mi_undo.specs.Reading.{IsUnread, Spare, Spares}
use Rattle.mi_undo.proofs.NameLemmas.{same_entry, marker_not_entry}
use Rattle.mi_undo.proofs.OpenLemmas.{robust_step}
use Rattle.mi_undo.proofs.BackSteps.{keeps_stays}
use Rattle.mi_undo.proofs.TouchLemmas.{touches_start, touches_then, touches_name, touches_none}

pub spares_start : (s : State) (F : Map) (ns : List Note) (n : ℕ) → Spare s F ns n → Spares s s F ns n
spares_start s F ns n spare = record { goes = started s (StandsFor F); spare = spare; below = λ k less. refl; touches = touches_start (IsUnread n) s }

pub spares_then : (s t u : State) (F : Map) (ns : List Note) (n : ℕ) → Spares s t F ns n → Spares t u F ns n → Spares s u F ns n
spares_then s t u F ns n first second = record {
  goes = joined s t u (StandsFor F) first.goes second.goes;
  spare = second.spare;
  below = λ k less. second.below k less ∙ first.below k less;
  touches = touches_then (IsUnread n) s t u first.touches second.touches;
}

module _ (s t : State) (F : Map) (ns : List Note) (n : ℕ) (spare : Spare s F ns n) where
  pub spares_looked : GoesOn s t (Images s) → Stays s t → Spares s t F ns n
  spares_looked goes stays = record {
    goes = weaker s t (Images s) (StandsFor F) (λ d image. spare.keeps.robust d (λ q free. image.agrees q (λ now. free (inl now)))) goes;
    spare = record {
      keeps = keeps_stays s t F ns spare.keeps stays;
      spare = robust_step s.held t.held (λ q. Loose s ns q ⊎ IsUnread n q) (λ q. Loose t ns q ⊎ IsUnread n q) F spare.spare (λ q free. ap (λ (m : Map). get m q) stays.held)
          (λ q loose. ⊎_elim (λ now. inl (⊎_elim (λ d. inl (stays.dirty q d)) (λ noted. inr noted) now)) (λ unread. inr unread) loose);
    };
    below = λ k less. ap (λ (m : Map). get m (entry_name k)) stays.held;
    touches = touches_none (IsUnread n) s t goes stays;
  }

  module _ (k : ℕ) (le : n ≤ k) (few : k < most_entries) (x : List ℕ) (is : x ≡ entry_name k) (goes : GoesOn s t (ImagesOf x s)) (others : OthersStay x s.held t.held) (dirty : OnlyDirties x s t) where
    not_outside : (q : List ℕ) → is_inside q ≡ false → q ≢ x
    not_outside q out same = let clash : false ≡ true = sym out ∙ ap is_inside (same ∙ is) in cc

    at_x : (q : List ℕ) → q ≡ x → IsUnread n q
    at_x q same = (k, (le, (few, same ∙ is)))

    pub spares_removed : Spares s t F ns n
    spares_removed = record {
      goes = weaker s t (ImagesOf x s) (StandsFor F) (λ d image. spare.spare d (λ q free. image.agrees q (⊎_elim (λ now. free (inl (inl now))) (λ same. free (inr (at_x q same)))))) goes;
      spare = record { keeps = keeps_removed; spare = spare_removed };
      below = λ j less. others (entry_name j) (λ same. let number = same_entry j k (omega (arith, less, le, few)) few (same ∙ is) in omega (arith, number, less, le));
      touches = touches_name (IsUnread n) s t x at_x goes others dirty;
    }
      where
        spare_removed : Robust t.held (λ q. Loose t ns q ⊎ IsUnread n q) F
        spare_removed = robust_step s.held t.held (λ q. Loose s ns q ⊎ IsUnread n q) (λ q. Loose t ns q ⊎ IsUnread n q) F spare.spare (λ q free. others q (λ same. free (inr (at_x q same))))
            (λ q loose. ⊎_elim (λ now. ⊎_elim (λ d. ⊎_elim (λ same. inr (at_x q same)) (λ ne. inl (inl (dirty q ne d))) (name_cases q x)) (λ noted. inl (inr noted)) now) (λ unread. inr unread) loose)

        keeps_removed : Keeps t F ns
        keeps_removed = record {
          robust = λ d agrees. spare_removed d (λ q free. agrees q (λ loose. free (inl loose)));
          marked = ap is_one (others marker (λ same. marker_not_entry k (same ∙ is))) ∙ spare.keeps.marked;
          others = λ q out none. others q (not_outside q out) ∙ spare.keeps.others q out none;
          olds = spare.keeps.olds;
          outside = spare.keeps.outside;
          nothing_inside = spare.keeps.nothing_inside;
        }

-- a name that isn't held isn't after a removal
pub still_none : (m : Map) (n q : List ℕ) → get m q ≡ None → get (remove m n) q ≡ None
still_none m n q none = ⊎_elim (λ (is : q ≡ n). ap (λ (x : List ℕ). get (remove m n) x) is ∙ get-remove_same m n) (λ other. get-remove_other m n q other ∙ none) (name_cases q n)
