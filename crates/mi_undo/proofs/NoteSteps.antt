-- What the calls of begin and note leave.
use Rattle.std.proofs.Common.{◌≡◌, ℕ, ◌+◌, ◌<◌, List, [], ◌∷◌, ◌++◌, length, Option, Some, refl, sym, ap, subst, ◌∙◌, arith, length-append}
use Rattle.std.specs.FinMap.{get, insert}
use Rattle.mi_volume.specs.Maps.{Map}
use Rattle.mi_volume.specs.State.{State, ImagesOf, NothingDirty}
use Rattle.mi_volume.proofs.Moments.{weaker, joined}
use Rattle.mi_undo.specs.Names.{entry_name, gate_name, most_entries, is_inside}
use Rattle.mi_undo.specs.Notes.{Note, note_of, all_notes, spelled}
use Rattle.mi_undo.specs.Stands.{StandsFor}
use Rattle.mi_undo.specs.Steps.{OnlyChanges}
use Rattle.mi_undo.specs.Entry.{Trying}
use Rattle.mi_undo.specs.Keeps.{IsStanding, IsOpen, AreNew, OnlyBelow}
use Rattle.mi_undo.proofs.NameLemmas.{gate_not_entry, marker_not_entry, marker_not_gate, same_entry}
use Rattle.mi_undo.proofs.NoteLemmas.{not_both, new_is_outside, image_stands, keeps_after, keeps_open, entry_robust, gate_robust, open_kept, open_more}
use Rattle.mi_undo.proofs.OnlyLemmas.{only_entry, only_gate, open_from}
use Rattle.mi_undo.proofs.OutsideLemmas.{outside_step}

-- The entry is on the disk, and the gate is still shut.
pub record Staged (t : State) (F : Map) (parts : List (List Note)) (ns : List Note) : Type 0 where
  pub standing : IsStanding t F parts
  pub entry : get t.held (entry_name (length parts)) ≡ Some (spelled ns)
  pub clean : NothingDirty t
  pub new : AreNew (all_notes parts) (ns ∷ [])
  pub held : (q : List ℕ) (w : Option (List ℕ)) → note_of ns q ≡ Some w → get t.held q ≡ w

module _ (s : State) (F : Map) (parts : List (List Note)) (o : IsOpen s F parts) (room : length parts < most_entries) where
  abbrev x : List ℕ
  x = entry_name (length parts)

  -- whatever has been written of the entry
  pub trying_entry : (t : State) → OnlyChanges (entry_name (length parts)) s t → Trying s t F parts
  trying_entry t only =
      let robust = entry_robust s F parts o.standing room in
      record {
        goes = weaker s t (ImagesOf x s) (StandsFor F) (image_stands s F (all_notes parts) x robust) only.goes;
        keeps = keeps_after s t F (all_notes parts) x (keeps_open s F parts o.standing) robust refl (marker_not_entry (length parts)) only.others only.dirty;
        only = only_entry s.held t.held (length parts) o.only only.others;
        outside = outside_step s.held t.held x refl only.others;
      }

  pub staged : (t : State) (ns : List Note) → OnlyChanges (entry_name (length parts)) s t → AreNew (all_notes parts) (ns ∷ []) → ((q : List ℕ) (w : Option (List ℕ)) → note_of ns q ≡ Some w → get s.held q ≡ w)
      → get t.held (entry_name (length parts)) ≡ Some (spelled ns) → NothingDirty t → Staged t F parts ns
  staged t ns only new held entry clean = record {
    standing = open_kept s F parts o.standing t x only.others clean (marker_not_entry (length parts)) (λ k. gate_not_entry k (length parts))
        (λ k below e. let same : k ≡ length parts = same_entry k (length parts) (omega (arith, room)) room e in absurd (omega arith)) refl;
    entry = entry;
    clean = clean;
    new = new;
    held = λ q w noted. only.others q (λ e. not_both (is_inside q) (ap is_inside e) (new_is_outside s F parts o.standing ns new held q w noted)) ∙ held q w noted;
  }

  module _ (t : State) (ns : List Note) (tried : Trying s t F parts) (st : Staged t F parts ns) (u : State) where
    abbrev g : List ℕ
    g = gate_name (length parts)

    pub trying_gate : OnlyChanges (gate_name (length parts)) t u → Trying s u F parts
    trying_gate only =
        let robust = gate_robust t F parts st.standing ns st.new st.held room (st.clean x) st.entry in
        record {
          goes = joined s t u (StandsFor F) tried.goes (weaker t u (ImagesOf g t) (StandsFor F) (image_stands t F (all_notes parts) g robust) only.goes);
          keeps = keeps_after t u F (all_notes parts) g (keeps_open t F parts st.standing) robust refl (marker_not_gate (length parts)) only.others only.dirty;
          only = only_gate t.held u.held (length parts) tried.only only.others;
          outside = outside_step t.held u.held g refl only.others ∙ tried.outside;
        }

    pub opened_gate : u.held ≡ insert t.held (gate_name (length parts)) (1 ∷ []) → OnlyBelow u.held (length parts + 1) → NothingDirty u → IsOpen u F (parts ++ ns ∷ [])
    opened_gate held only clean =
        let longer = length-append parts (ns ∷ []) in
        open_from u F (parts ++ ns ∷ []) (open_more t F parts st.standing ns st.new st.held room st.entry u held clean) (subst (λ (n : ℕ). OnlyBelow u.held n) (sym longer) only)
