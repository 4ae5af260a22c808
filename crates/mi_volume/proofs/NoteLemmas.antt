-- What slots note, as good syncs make their notes old.
use Rattle.std.proofs.Common.{◌≡◌, ◌≢◌, ℕ, ◌+◌, ◌≤◌, ◌==◌, Bool, true, false, cond, List, [], ◌∷◌, map, Option, Some, None, refl, sym, ap, subst, ◌∙◌, arith, eq-eqb}
use Rattle.std.proofs.lemmas.Bool.{eqb-true}
use Rattle.std.specs.Prelude.{option_map, is_some, filter}
use Rattle.std.specs.Map.{keys_of}
use Rattle.mi_text.specs.Maps.{Name, same_name}
use Rattle.mi_volume.specs.Slots.{at_name, now_of, clean_slot, notes_at, AreWritten, Sets, Cleans}
use Rattle.mi_volume.specs.declared.before.Before.{Before}
use Rattle.mi_volume.specs.declared.before.Before.TheVariants.{Clean}
use Rattle.mi_volume.specs.declared.before.Slot.{Slot}
use Rattle.mi_volume.proofs.SlotLemmas.{at-kept}

pub at_name-notes_at : (syncs : ℕ) (es : List (Name × Slot)) (q : Name) → at_name (notes_at syncs es) q ≡ option_map (now_of syncs) (at_name es q)
at_name-notes_at syncs [] q = refl
at_name-notes_at syncs (e ∷ es) q =
    ap (cond (same_name q e.0) (Some (now_of syncs e.1))) (at_name-notes_at syncs es q)
    ∙ elim (same_name q e.0) as (λ b. cond b (Some (now_of syncs e.1)) (option_map (now_of syncs) (at_name es q)) ≡ option_map (now_of syncs) (cond b (Some e.1) (at_name es q))) [ true ↦ refl | false ↦ refl ]

pub keys_of-notes_at : (syncs : ℕ) (es : List (Name × Slot)) → keys_of (notes_at syncs es) ≡ keys_of es
keys_of-notes_at syncs [] = refl
keys_of-notes_at syncs (e ∷ es) = ap (λ ks. e.0 ∷ ks) (keys_of-notes_at syncs es)

-- a slot that is set
pub notes_set : (syncs : ℕ) (es new : List (Name × Slot)) (name : Name) (slot : Option Slot) (note : Option Before) → Sets name slot es new → option_map (now_of syncs) slot ≡ note → Sets name note (notes_at syncs es) (notes_at syncs new)
notes_set syncs es new name slot note sets is q =
    at_name-notes_at syncs new q ∙ ap (option_map (now_of syncs)) (sets q)
    ∙ elim (same_name q name) as (λ b. option_map (now_of syncs) (cond b slot (at_name es q)) ≡ cond b note (at_name (notes_at syncs es) q)) [
      | true ↦ is
      | false ↦ sym (at_name-notes_at syncs es q)
    ]

pub written_set : (syncs : ℕ) (es new : List (Name × Slot)) (name : Name) (slot : Slot) → AreWritten syncs es → Sets name (Some slot) es new → slot.syncs ≤ syncs → AreWritten syncs new
written_set syncs es new name slot written sets now q s at =
    elim (same_name q name) as (λ b. cond b (Some slot) (at_name es q) ≡ Some s → s.syncs ≤ syncs) [
      | true ↦ λ is. let same : slot ≡ s = cc in subst (λ (x : Slot). x.syncs ≤ syncs) same now
      | false ↦ λ is. written q s is
    ] (sym (sets q) ∙ at)

-- a note of before the last good sync says nothing
pub old_note : (syncs : ℕ) (s : Slot) → s.syncs ≢ syncs → now_of syncs s ≡ Clean
old_note syncs s other =
    elim (s.syncs == syncs) as (λ b. (s.syncs == syncs) ≡ b → cond b s.note Clean ≡ Clean) [
      | true ↦ λ is. absurd (other (eqb-true s.syncs syncs is))
      | false ↦ λ is. refl
    ] refl

pub new_note : (syncs : ℕ) (s : Slot) → s.syncs ≡ syncs → now_of syncs s ≡ s.note
new_note syncs s same = ap (λ b. cond b s.note Clean) (eq-eqb s.syncs syncs same)

all_old : (syncs : ℕ) (o : Option Slot) → ((s : Slot) → o ≡ Some s → s.syncs ≤ syncs) → (b : Before) → option_map (now_of (syncs + 1)) o ≡ Some b → b ≡ Clean
all_old syncs None below b is = cc
all_old syncs (Some s) below b is =
    let old : now_of (syncs + 1) s ≡ Clean = old_note (syncs + 1) s (λ same. let le = below s refl in omega (arith, le, same)) in cc

mapped_there : {X Y : Type 0} → (f : X → Y) (o : Option X) → is_some (option_map f o) ≡ is_some o
mapped_there f None = refl
mapped_there f (Some x) = refl

-- a slot that notes nothing is there all the same
pub note_there : (syncs : ℕ) (es : List (Name × Slot)) (q : Name) → is_some (at_name (notes_at syncs es) q) ≡ is_some (at_name es q)
note_there syncs es q = ap is_some (at_name-notes_at syncs es q) ∙ mapped_there (now_of syncs) (at_name es q)

-- a good sync that counts itself
pub counted_clean : (syncs : ℕ) (held : List (Name × List ℕ)) (es : List (Name × Slot)) → AreWritten syncs es → Cleans held (notes_at syncs es) (notes_at (syncs + 1) es)
counted_clean syncs held es written = record {
  clean = λ q b at. all_old syncs (at_name es q) (written q) b (sym (at_name-notes_at (syncs + 1) es q) ∙ at);
  kept = λ q in_held has. note_there (syncs + 1) es q ∙ sym (note_there syncs es q) ∙ has;
}

pub now_of-clean_slot : (syncs : ℕ) → now_of syncs clean_slot ≡ Clean
now_of-clean_slot syncs = elim (0 == syncs) as (λ b. cond b Clean Clean ≡ Clean) [ true ↦ refl | false ↦ refl ]

-- slots that are visited: the held names keep one
abbrev pub Visits : List (Name × List ℕ) → List (Name × Slot) → List (Name × Slot) → Type 0
Visits held es new = (q : Name) → at_name new q ≡ cond (is_some (at_name held q)) (option_map (λ _. clean_slot) (at_name es q)) None

-- as `retain` gives them
pub visits_kept : (held : List (Name × List ℕ)) (es new : List (Name × Slot)) → new ≡ map (λ e. (e.0, clean_slot)) (filter (λ e. is_some (at_name held e.0)) es) → Visits held es new
visits_kept held es new kept q = ap (λ (es : List (Name × Slot)). at_name es q) kept ∙ at-kept (λ (n : Name). is_some (at_name held n)) clean_slot es q

first_slot : (kept : Bool) (o : Option Slot) (s : Slot) → cond kept (option_map (λ _. clean_slot) o) None ≡ Some s → clean_slot ≡ s
first_slot true None s is = cc
first_slot true (Some x) s is = cc
first_slot false o s is = cc

pub visited_written : (held : List (Name × List ℕ)) (es new : List (Name × Slot)) → Visits held es new → AreWritten 0 new
visited_written held es new visits q s at = subst (λ (x : Slot). x.syncs ≤ 0) (first_slot (is_some (at_name held q)) (at_name es q) s (sym (visits q) ∙ at)) (omega arith)

visited_note : (syncs : ℕ) (o : Option Slot) (b : Before) → ((s : Slot) → o ≡ Some s → clean_slot ≡ s) → option_map (now_of syncs) o ≡ Some b → b ≡ Clean
visited_note syncs None b clean is = cc
visited_note syncs (Some s) b clean is = let same : now_of syncs s ≡ Clean = ap (now_of syncs) (sym (clean s refl)) ∙ now_of-clean_slot syncs in cc

pub visited_clean : (old syncs : ℕ) (held : List (Name × List ℕ)) (es new : List (Name × Slot)) → Visits held es new → Cleans held (notes_at old es) (notes_at syncs new)
visited_clean old syncs held es new visits = record {
  clean = λ q b at. visited_note syncs (at_name new q) b (λ s is. first_slot (is_some (at_name held q)) (at_name es q) s (sym (visits q) ∙ is)) (sym (at_name-notes_at syncs new q) ∙ at);
  kept = λ q in_held has. note_there syncs new q ∙ ap is_some (visits q) ∙ ap (λ b. is_some (cond b (option_map (λ _. clean_slot) (at_name es q)) None)) in_held ∙ mapped_there (λ _. clean_slot) (at_name es q) ∙ sym (note_there old es q) ∙ has;
}
