-- Names that are noted, and records that are carried out then.
use Rattle.std.proofs.Common.{◌≡◌, ◌≢◌, ℕ, ◌+◌, ◌≤◌, max, Bool, true, false, cond, not, List, [], ◌∷◌, length, Option, None, Result, Ok, Err, OnOk, refl, sym, ap, subst, ◌∙◌, arith}
use Rattle.std.specs.FinMap.{get}
use Rattle.mi_text.specs.Maps.{Name, is_among}
use Rattle.mi_volume.specs.Maps.{Map, size, slot_size, Exceeds}
use Rattle.mi_volume.specs.State.{State, GoesOn}
use Rattle.mi_volume.proofs.Moments.{joined, started}
use Rattle.mi_script.specs.declared.rec.Rec.{Rec}
use Rattle.mi_script.specs.Scripts.{touched_names}
use Rattle.mi_undo.specs.Names.{is_inside}
use Rattle.mi_undo.specs.Notes.{notes_for, new_names, spelled}
use Rattle.mi_undo.specs.Stands.{StandsFor, outside}
use Rattle.mi_undo.specs.Area.{entries_for, volume, Works}
use Rattle.mi_undo.specs.Answers.{Notes}
use Rattle.mi_undo.specs.Room.{KeepsRoom, TakesAtMost, LeavesAtMost, NeverShort, entry_size}
use Rattle.mi_undo.specs.Steps.{AddsBytes}
use Rattle.mi_undo.specs.declared.kept.Kept.{Kept}
use Rattle.mi_undo.specs.declared.area.Open.{Open}
use Rattle.mi_undo.specs.declared.fault.OpFault.{OpFault}
use Rattle.mi_undo.specs.declared.fault.OpFault.TheVariants as op
use Rattle.mi_undo.proofs.AreaLemmas.{works_go_back}
use Rattle.mi_undo.proofs.StandsLemmas.{get-outside}
use Rattle.mi_undo.proofs.StepLemmas.{exceeds_more}
use Rattle.mi_runner.specs.declared.fault.RunFault.{RunFault}
use Rattle.mi_runner.specs.declared.fault.RunFault.TheVariants as run
use Rattle.mi_runner.specs.Faults.{run_fault_of}
use Rattle.mi_runner.specs.Sizes.{greatest, growth, most_held, IsNoLonger, AreNoLonger, AreNoLongerButOne}
use Rattle.mi_runner.specs.Steps.{KeepsOver}
use Rattle.mi_runner.specs.Answers.{Carries}
use Rattle.mi_runner.proofs.CarryLemmas.{IsNamed}
use Rattle.mi_runner.proofs.RecordLemmas.{is_among-touched}

pub was_fault : (e : OpFault) → run_fault_of e ≡ run.Volume → e ≡ op.Fault
was_fault op.NoMemory is = absurd (cc)
was_fault op.Fault is = refl
was_fault op.Full is = absurd (cc)

pub was_full : (e : OpFault) → run_fault_of e ≡ run.Full → e ≡ op.Full
was_full op.NoMemory is = absurd (cc)
was_full op.Fault is = absurd (cc)
was_full op.Full is = refl

-- ---- what is outside the area

pub outside_other : (h k : Map) (q : Name) → get k q ≡ get h q → get (outside k) q ≡ get (outside h) q
outside_other h k q is = get-outside k q ∙ ap (λ (o : Option (List ℕ)). cond (not (is_inside q)) o None) is ∙ sym (get-outside h q)

pub outside_longest : (h k : Map) (q : Name) (n : ℕ) → slot_size q (get k q) ≤ max (slot_size q (get h q)) n → slot_size q (get (outside k) q) ≤ max (slot_size q (get (outside h) q)) n
outside_longest h k q n le = at (is_inside q) refl
  where
    at : (b : Bool) → is_inside q ≡ b → slot_size q (get (outside k) q) ≤ max (slot_size q (get (outside h) q)) n
    at true is =
        let none : slot_size q (get (outside k) q) ≡ 0 = ap (slot_size q) (get-outside k q ∙ ap (λ (b : Bool). cond (not b) (get k q) None) is) in
        omega (arith, none)
    at false is =
        let one : slot_size q (get (outside k) q) ≡ slot_size q (get k q) = ap (slot_size q) (get-outside k q ∙ ap (λ (b : Bool). cond (not b) (get k q) None) is) in
        let two : slot_size q (get (outside h) q) ≡ slot_size q (get h q) = ap (slot_size q) (get-outside h q ∙ ap (λ (b : Bool). cond (not b) (get h q) None) is) in
        omega (arith, one, two, le)

-- ---- the notes

entry_is : (held : Map) (names : List Name) → (names ≡ [] → ⊥) → entry_size (notes_for held names) ≡ 25 + length (spelled (notes_for held names))
entry_is held [] some = absurd (some refl)
entry_is held (n ∷ names) some = refl

pub note_full : (capacity : Option ℕ) (held : Map) (noted names : List Name) (rs : List Rec) → names ≡ touched_names rs → (new_names noted names ≡ [] → ⊥)
    → Exceeds capacity (size held + (25 + length (spelled (notes_for held (new_names noted names))))) → Exceeds capacity (most_held held noted rs)
note_full capacity held noted names rs is some over =
    let entry = entry_is held (new_names noted names) some in
    let same_entry : entry_size (notes_for held (new_names noted names)) ≡ entry_size (notes_for held (new_names noted (touched_names rs))) = ap (λ (l : List Name). entry_size (notes_for held (new_names noted l))) is in
    exceeds_more capacity (size held + (25 + length (spelled (notes_for held (new_names noted names))))) (most_held held noted rs) (omega (arith, entry, same_entry)) over

-- how much is held once names are noted
pub noted_size : {T : Type 0} (s t : State) (noted names : List Name) (x : T) → (new_names noted names ≡ [] → t.held ≡ s.held) → (new_names noted names ≢ [] → AddsBytes {T = T} (25 + length (spelled (notes_for s.held (new_names noted names)))) s t (Ok x))
    → size t.held ≡ size s.held + entry_size (notes_for s.held (new_names noted names))
noted_size s t noted names x none some = at (new_names noted names) refl
  where
    at : (l : List Name) → new_names noted names ≡ l → size t.held ≡ size s.held + entry_size (notes_for s.held (new_names noted names))
    at [] is =
        let still : size t.held ≡ size s.held = ap size (none is) in
        let zero : entry_size (notes_for s.held (new_names noted names)) ≡ 0 = ap (λ (l : List Name). entry_size (notes_for s.held l)) is in
        omega (arith, still, zero)
    at (n ∷ l) is =
        let not_none : new_names noted names ≡ [] → ⊥ = λ e. let clash : n ∷ l ≡ [] = sym is ∙ e in absurd (cc) in
        let more = (some not_none).ok in
        let entry = entry_is s.held (new_names noted names) not_none in
        omega (arith, more, entry)

pub carry_full : (s t : State) (noted names : List Name) (rs : List Rec) → names ≡ touched_names rs → t.capacity ≡ s.capacity → outside t.held ≡ outside s.held → size t.held ≡ size s.held + entry_size (notes_for s.held (new_names noted names))
    → Exceeds t.capacity (size t.held + growth (outside t.held) rs (touched_names rs)) → Exceeds s.capacity (most_held s.held noted rs)
carry_full s t noted names rs is capacity same_outside more over =
    let grows : growth (outside t.held) rs (touched_names rs) ≡ growth (outside s.held) rs (touched_names rs) = ap (λ (m : Map). growth m rs (touched_names rs)) same_outside in
    let same_entry : entry_size (notes_for s.held (new_names noted names)) ≡ entry_size (notes_for s.held (new_names noted (touched_names rs))) = ap (λ (l : List Name). entry_size (notes_for s.held (new_names noted l))) is in
    subst (λ (c : Option ℕ). Exceeds c (most_held s.held noted rs)) capacity
    (exceeds_more t.capacity (size t.held + growth (outside t.held) rs (touched_names rs)) (most_held s.held noted rs) (omega (arith, grows, same_entry, more)) over)

pub at_most_one : (names : List Name) → entries_for names ≤ 1
at_most_one [] = omega arith
at_most_one (n ∷ names) = omega arith

-- ---- what a segment leaves

-- where the names weren't noted
pub not_noted : {T U : Type 0} (s t : State) (kept : Kept) (F : Map) (rs : List Rec) (e : RunFault) (r : Result U OpFault) → Notes s t kept F r → Carries {T = T} s t kept F rs (Err e)
not_noted s t kept F rs e r notes = record {
  goes = notes.goes;
  works = tt;
  can_go_back = notes.can_go_back;
  others = λ q free. ap (λ (m : Map). get m q) notes.outside;
}

-- where nothing outside the area has changed
pub still_no_longer : (old new : Map) (rs : List Rec) → outside new ≡ outside old → AreNoLonger old rs new
still_no_longer old new rs is q = let same : slot_size q (get (outside new) q) ≡ slot_size q (get (outside old) q) = ap (λ (m : Map). slot_size q (get m q)) is in omega (arith, same)

pub all_but_one : (old new : Map) (rs : List Rec) → AreNoLonger old rs new → AreNoLongerButOne old rs new
all_but_one old new rs all = ([], λ q ne. all q)

-- where records were carried out, or failed, over a map that differs in the area alone
pub no_longer : (old between new : Map) (rs : List Rec) (q : Name) → outside between ≡ outside old → slot_size q (get new q) ≤ max (slot_size q (get between q)) (greatest rs q) → IsNoLonger old rs new q
no_longer old between new rs q is le =
    let here = outside_longest between new q (greatest rs q) le in
    let was : slot_size q (get (outside between) q) ≡ slot_size q (get (outside old) q) = ap (λ (m : Map). slot_size q (get m q)) is in
    omega (arith, here, was)

on_ok : {T E P : Type 0} (r : Result T E) → P → OnOk r P
on_ok (Ok x) p = p
on_ok (Err e) p = tt

module _ {V : Type 0} (told : Type 0) (state : V → State) (a b c : Open V Kept) (F : Map) (rs : List Rec) (goes : GoesOn (state (volume a)) (state (volume b)) (StandsFor F)) (works : Works (state (volume b)) b.kept F)
    (same_outside : outside (state (volume b)).held ≡ outside (state (volume a)).held) (keeps : KeepsOver told state b c (IsNamed rs)) (t : told) where
  pub carries : {T : Type 0} (r : Result T RunFault) → Carries (state (volume a)) (state (volume c)) c.kept F rs r
  carries r =
      let changes = keeps.changes t F works in
      record {
        goes = joined (state (volume a)) (state (volume b)) (state (volume c)) (StandsFor F) goes changes.goes;
        works = on_ok r changes.works;
        can_go_back = works_go_back (state (volume c)) c.kept F changes.works;
        others = λ q free. outside_other (state (volume b)).held (state (volume c)).held q (keeps.others t q (λ named. clash q free named)) ∙ ap (λ (m : Map). get m q) same_outside;
      }
    where
      clash : (q : Name) → is_among q (touched_names rs) ≡ false → IsNamed rs q → ⊥
      clash q free named = let both : false ≡ true = sym free ∙ is_among-touched rs q ∙ named in cc

pub memory_not_full : {T : Type 0} (e : OpFault) → e ≡ op.NoMemory → ◌≡◌ {A = Result T OpFault} (Err e) (Err op.Full) → ⊥
memory_not_full e is full = cc

-- where nothing was done
pub untouched_carries : {T : Type 0} (s : State) (kept : Kept) (F : Map) (rs : List Rec) (e : RunFault) → Works s kept F → Carries {T = T} s s kept F rs (Err e)
untouched_carries s kept F rs e w = record {
  goes = started s (StandsFor F);
  works = tt;
  can_go_back = works_go_back s kept F w;
  others = λ q free. refl;
}

left_more : (n m : ℕ) (s : State) → n ≤ m → LeavesAtMost n s → LeavesAtMost m s
left_more n m s le left d agrees small area is = let here = left d agrees small area is in omega (arith, here, le)

pub untouched_room : (s : State) (F : Map) (n m : ℕ) → TakesAtMost n s → KeepsRoom s s F (n + m)
untouched_room s F n m takes = record {
  takes = record { held = let held = takes.held in omega (arith, held); left = left_more n (n + m) s (omega arith) takes.left };
  goes = λ fits. started s (NeverShort s.capacity);
}
