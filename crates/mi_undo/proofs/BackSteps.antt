-- What the calls of going back leave.
use Rattle.std.proofs.Common.{◌≡◌, inl, inr, ⊎_elim, ℕ, List, refl, sym, ap, ◌∙◌}
use Rattle.std.specs.FinMap.{get}
use Rattle.mi_volume.specs.Maps.{Map, HoldsByte}
use Rattle.mi_volume.specs.State.{State, Images, NothingDirty, Stays}
use Rattle.mi_volume.proofs.MapLemmas.{name_cases}
use Rattle.mi_undo.specs.Names.{marker}
use Rattle.mi_undo.specs.Notes.{Note}
use Rattle.mi_undo.specs.Stands.{StandsFor, outside, is_one}
use Rattle.mi_undo.specs.Keeps.{Loose, Keeps}
use Rattle.mi_undo.specs.Commit.{IsHalfway}
use Rattle.mi_undo.proofs.OpenLemmas.{robust_step}
use Rattle.mi_undo.proofs.CloseLemmas.{one_is}

pub keeps_byte : (s : State) (F : Map) (ns : List Note) (name : List ℕ) → name ≡ marker → Keeps s F ns → HoldsByte s.held name
keeps_byte s F ns name is keeps = (1, ap (λ (x : List ℕ). get s.held x) is ∙ one_is (get s.held marker) keeps.marked)

-- a call that changes nothing
pub keeps_stays : (s t : State) (F : Map) (ns : List Note) → Keeps s F ns → Stays s t → Keeps t F ns
keeps_stays s t F ns keeps stays = record {
  robust = robust_step s.held t.held (Loose s ns) (Loose t ns) F keeps.robust (λ q not_loose. ap (λ (m : Map). get m q) stays.held) (λ q loose. ⊎_elim (λ now. inl (stays.dirty q now)) (λ noted. inr noted) loose);
  marked = ap (λ (m : Map). is_one (get m marker)) stays.held ∙ keeps.marked;
  others = λ q out none. ap (λ (m : Map). get m q) stays.held ∙ keeps.others q out none;
  olds = keeps.olds;
  outside = keeps.outside;
  nothing_inside = keeps.nothing_inside;
}

pub keeps_image : (s : State) (F : Map) (ns : List Note) → Keeps s F ns → (d : Map) → Images s d → StandsFor F d
keeps_image s F ns keeps d image = keeps.robust d (λ q not_loose. image.agrees q (λ now. not_loose (inl now)))

-- all is back and on the disk: with any marker the volume stands for F
pub back_halfway : (s : State) (F : Map) (ns : List Note) → Keeps s F ns → NothingDirty s → outside s.held ≡ F → IsHalfway s F F
back_halfway s F ns keeps clean is = record {
  dirty = λ q ne. clean q;
  if_open = λ d agrees open_marker. keeps.robust d (λ q not_loose. ⊎_elim (λ e. ap (λ (x : List ℕ). get d x) e ∙ one_is (get d marker) open_marker ∙ sym (one_is (get s.held marker) keeps.marked) ∙ ap (λ (x : List ℕ). get s.held x) (sym e)) (λ ne. agrees q ne) (name_cases q marker));
  others = is;
  one_byte = keeps_byte s F ns marker refl keeps;
}
