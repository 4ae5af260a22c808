-- The commit write.
use Rattle.std.proofs.Common.{◌≡◌, ◌≢◌, inl, inr, ⊎_elim, ℕ, zero, suc, true, false, cond, not, List, [], ◌∷◌, Option, Some, None, refl, sym, ap, ◌∙◌}
use Rattle.std.specs.FinMap.{get, insert}
use Rattle.mi_volume.specs.Maps.{Map, OthersStay, HoldsByte}
use Rattle.mi_volume.specs.State.{State, ImagesOf, OnlyDirties, NothingDirty}
use Rattle.mi_text.proofs.MapLemmas.{same}
use Rattle.mi_volume.proofs.MapLemmas.{name_cases, get-insert_same, get-insert_other}
use Rattle.mi_undo.specs.Names.{marker, entry_name, gate_name, is_inside}
use Rattle.mi_undo.specs.Notes.{Note}
use Rattle.mi_undo.specs.Stands.{is_one, outside}
use Rattle.mi_undo.specs.Keeps.{IsStanding, EitherFor}
use Rattle.mi_undo.specs.Commit.{IsClosed, IsHalfway}
use Rattle.mi_undo.proofs.StandsLemmas.{get-outside, stands_unmarked}
use Rattle.mi_undo.proofs.OpenLemmas.{opened_same}
use Rattle.mi_undo.proofs.NameLemmas.{marker_not_entry, marker_not_gate}
use Rattle.mi_undo.proofs.NoteLemmas.{not_both, keeps_open}

-- open is exactly the byte 1
pub one_is : (o : Option (List ℕ)) → is_one o ≡ true → o ≡ Some (1 ∷ [])
one_is None e = absurd (cc)
one_is (Some []) e = absurd (cc)
one_is (Some (zero ∷ [])) e = absurd (cc)
one_is (Some (suc zero ∷ [])) e = refl
one_is (Some (suc (suc b) ∷ [])) e = absurd (cc)
one_is (Some (zero ∷ c ∷ bytes)) e = absurd (cc)
one_is (Some (suc zero ∷ c ∷ bytes)) e = absurd (cc)
one_is (Some (suc (suc b) ∷ c ∷ bytes)) e = absurd (cc)

pub marker_byte : (s : State) (F : Map) (parts : List (List Note)) → IsStanding s F parts → HoldsByte s.held marker
marker_byte s F parts o = (1, one_is (get s.held marker) o.marked)

-- a map that agrees outside the area has the same names there
outside_same : (d h : Map) → ((q : List ℕ) → q ≢ marker → get d q ≡ get h q) → outside d ≡ outside h
outside_same d h agrees = same (outside d) (outside h) (λ q. get-outside d q ∙ at q ∙ sym (get-outside h q))
  where
    at : (q : List ℕ) → cond (not (is_inside q)) (get d q) None ≡ cond (not (is_inside q)) (get h q) None
    at q =
        elim (is_inside q) as (λ b. is_inside q ≡ b → cond (not b) (get d q) None ≡ cond (not b) (get h q) None) [
          | true ↦ λ is. refl
          | false ↦ λ is. agrees q (λ e. not_both (is_inside q) (ap is_inside e) is)
        ] refl

pub halfway_open : (s : State) (F : Map) (parts : List (List Note)) → IsStanding s F parts → NothingDirty s → IsHalfway s F (outside s.held)
halfway_open s F parts o clean = record {
  dirty = λ q ne. clean q;
  if_open = λ d agrees is. (keeps_open s F parts o).robust d (λ q not_loose. ⊎_elim (λ e. ap (λ (x : List ℕ). get d x) e ∙ one_is (get d marker) is ∙ sym (one_is (get s.held marker) o.marked) ∙ ap (λ (x : List ℕ). get s.held x) (sym e)) (λ ne. agrees q ne) (name_cases q marker));
  others = refl;
  one_byte = marker_byte s F parts o;
}

-- whatever is at the marker
pub halfway_either : (s : State) (F A : Map) → IsHalfway s F A → (d : Map) → ((q : List ℕ) → q ≢ marker → get d q ≡ get s.held q) → EitherFor F A d
halfway_either s F A half d agrees =
    elim (is_one (get d marker)) as (λ b. is_one (get d marker) ≡ b → EitherFor F A d) [
      | true ↦ λ is. inl (half.if_open d agrees is)
      | false ↦ λ shut. inr (stands_unmarked d A shut (λ q out. outer q out) (λ q inside. ap (λ (m : Map). get m q) (sym half.others) ∙ get-outside s.held q ∙ ap (λ b. cond (not b) (get s.held q) None) inside))
    ] refl
  where
    outer : (q : List ℕ) → is_inside q ≡ false → get d q ≡ get A q
    outer q out = agrees q (λ e. not_both (is_inside q) (ap is_inside e) out) ∙ sym (ap (λ (m : Map). get m q) (sym half.others) ∙ get-outside s.held q ∙ ap (λ b. cond (not b) (get s.held q) None) out)

pub halfway_image : (s : State) (F A : Map) → IsHalfway s F A → (d : Map) → ImagesOf marker s d → EitherFor F A d
halfway_image s F A half d image = halfway_either s F A half d (λ q ne. image.agrees q (⊎_elim (half.dirty q ne) ne))

pub halfway_step : (s t : State) (F A : Map) → IsHalfway s F A → OthersStay marker s.held t.held → OnlyDirties marker s t → HoldsByte t.held marker → IsHalfway t F A
halfway_step s t F A half others dirty one_byte = record {
  dirty = λ q ne now. half.dirty q ne (dirty q ne now);
  if_open = λ d agrees is. half.if_open d (λ q ne. agrees q ne ∙ others q ne) is;
  others = outside_same t.held s.held others ∙ half.others;
  one_byte = one_byte;
}

pub closed : (s t : State) (F A : Map) → IsHalfway s F A → t.held ≡ insert s.held marker (0 ∷ []) → NothingDirty t → IsClosed t A
closed s t F A half is clean = record {
  shut = ap is_one (ap (λ (m : Map). get m marker) is ∙ get-insert_same s.held marker (0 ∷ []));
  clean = clean;
  others = outside_same t.held s.held (λ q ne. ap (λ (m : Map). get m q) is ∙ get-insert_other s.held marker (0 ∷ []) q ne) ∙ half.others;
}

-- the marker is open again
pub open_again : (s t u : State) (F : Map) (parts : List (List Note)) → IsStanding s F parts → OthersStay marker s.held t.held → u.held ≡ insert t.held marker (1 ∷ []) → NothingDirty u → IsStanding u F parts
open_again s t u F parts o others is clean = record {
  marked = ap is_one (ap (λ (m : Map). get m marker) is ∙ get-insert_same t.held marker (1 ∷ []));
  opened = opened_same s.held u.held 0 parts (λ j low high. (stays (gate_name j) (λ e. marker_not_gate j (sym e)), stays (entry_name j) (λ e. marker_not_entry j (sym e)))) o.opened;
  are_new = o.are_new;
  few = o.few;
  solid_marker = clean marker;
  solid_gates = λ k below. clean (gate_name k);
  solid_entries = λ k below. clean (entry_name k);
  no_gate = λ k low below. stays (gate_name k) (λ e. marker_not_gate k (sym e)) ∙ o.no_gate k low below;
  others = λ q out none. stays q (λ e. not_both (is_inside q) (ap is_inside e) out) ∙ o.others q out none;
  solid_others = λ q out none. clean q;
  olds = o.olds;
  outside = o.outside;
  nothing_inside = o.nothing_inside;
}
  where
    stays : (q : List ℕ) → q ≢ marker → get u.held q ≡ get s.held q
    stays q ne = ap (λ (m : Map). get m q) is ∙ get-insert_other t.held marker (1 ∷ []) q ne ∙ others q ne
