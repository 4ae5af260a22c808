-- Records that take a name away, and copies whose length differs.
use Rattle.std.proofs.Common.{◌≡◌, ◌≢◌, ℕ, List, [], ◌∷◌, length, Contains, Result, Ok, Err, IfErr, OnErr, refl, sym, ap, subst, ◌∙◌, arith}
use Rattle.std.specs.FinMap.{get, remove}
use Rattle.mi_text.specs.Maps.{Name}
use Rattle.mi_volume.specs.Maps.{Map, slot_size}
use Rattle.mi_volume.specs.State.{State, Rose}
use Rattle.mi_volume.proofs.MapLemmas.{get-remove_same}
use Rattle.mi_base.specs.declared.entry.FileHead.{FileHead}
use Rattle.mi_source.specs.Paths.{Files, bytes_or_none}
use Rattle.mi_script.specs.declared.rec.Rec.{Rec}
use Rattle.mi_script.specs.declared.rec.Rec.TheVariants.{Drop, Copy}
use Rattle.mi_script.specs.Scripts.{name_at}
use Rattle.mi_undo.specs.Area.{volume, IsLive, IsWorking}
use Rattle.mi_undo.specs.declared.kept.Kept.{Kept}
use Rattle.mi_undo.specs.declared.area.Open.{Open}
use Rattle.mi_undo.specs.declared.fault.OpFault.{OpFault}
use Rattle.mi_undo.specs.declared.fault.OpFault.TheVariants as op
use Rattle.mi_runner.specs.declared.fault.RunFault.{RunFault}
use Rattle.mi_runner.specs.declared.fault.RunFault.TheVariants as run
use Rattle.mi_runner.specs.Faults.{run_fault_of, IsSizeFault}
use Rattle.mi_runner.specs.Records.{HasLength}
use Rattle.mi_runner.specs.Sizes.{size_after}
use Rattle.mi_runner.specs.Steps.{KeepsOver, Writes, Differs}
use Rattle.mi_runner.proofs.StepLemmas.{writes_ok}
use Rattle.mi_runner.proofs.RecordLemmas.{after_one}

module _ {V : Type 0} (told : Type 0) (state : V → State) (a b : Open V Kept) (x : Name) (r : Rec) (is : r ≡ Drop x) where
  pub drop_failed : {T : Type 0} (e : OpFault) → e ≡ op.Fault → KeepsOver told state a b (λ q. q ≡ x) → IsLive b → Rose (state (volume a)) (state (volume b)) → Writes told state a b {T = T} (name_at r) (size_after r) run.Volume run.Full (Err (run_fault_of e))
  drop_failed {T} e failed keeps live rose =
      subst (λ (y : Rec). Writes told state a b {T = T} (name_at y) (size_after y) run.Volume run.Full (Err (run_fault_of e))) (sym is)
      (subst (λ (f : OpFault). Writes told state a b {T = T} x 0 run.Volume run.Full (Err (run_fault_of f))) (sym failed)
      (record { keeps = keeps; live = live; working = tt; rose = λ fault. rose; overflows = λ full. absurd (cc); most = λ t free. absurd (free refl) }))

  pub dropped : {T : Type 0} (y : T) → KeepsOver told state a b (λ q. q ≡ x) → IsWorking b → (told → (state (volume b)).held ≡ remove (state (volume a)).held x) → Writes told state a b (name_at r) (size_after r) run.Volume run.Full (Ok y)
  dropped {T} y keeps working held =
      subst (λ (z : Rec). Writes told state a b {T = T} (name_at z) (size_after z) run.Volume run.Full (Ok y)) (sym is)
      (writes_ok told state a b x 0 run.Volume run.Full y keeps working (λ t.
      let none : slot_size x (get (state (volume b)).held x) ≡ 0 = ap (λ (m : Map). slot_size x (get m x)) (held t) ∙ ap (slot_size x) (get-remove_same (state (volume a)).held x) in
      omega (arith, none)))

  pub drop_map : (files : Files) → (state (volume b)).held ≡ remove (state (volume a)).held x → (state (volume b)).held ≡ after_one files (state (volume a)).held r
  drop_map files held = subst (λ (z : Rec). (state (volume b)).held ≡ after_one files (state (volume a)).held z) (sym is) held

-- the source has what is copied
pub copy_there : (files : Files) (r : Rec) (x : Name) (head : FileHead) (file path : List ℕ) (n : ℕ) → r ≡ Copy x head file path n → HasLength files r → length (bytes_or_none (get files path)) ≡ n
copy_there files r x head file path n is there = subst (HasLength files) is there

pub copy_differs : (told : Type 0) (r : Rec) (x : Name) (head : FileHead) (file path : List ℕ) (n found : ℕ) → r ≡ Copy x head file path n → (o : Result (Unit {0}) RunFault) → IfErr o (IsSizeFault file n found) → OnErr o (found ≢ n) → (told → found ≡ n) → Differs told (r ∷ []) o
copy_differs told r x head file path n found is (Ok y) fault other there = record { other = tt; untold = λ s. tt; states = tt }
copy_differs told r x head file path n found is (Err run.NoMemory) fault other there = record { other = tt; untold = λ s. tt; states = tt }
copy_differs told r x head file path n found is (Err run.Source) fault other there = absurd fault
copy_differs told r x head file path n found is (Err run.Volume) fault other there = absurd fault
copy_differs told r x head file path n found is (Err run.Full) fault other there = absurd fault
copy_differs told r x head file path n found is (Err (run.SizeDiffers key stated size)) fault other there = record {
  other = λ e. other (sym fault.2 ∙ e ∙ fault.1);
  untold = λ s. other (there s);
  states = record {
    name = x;
    head = head;
    path = path;
    is = (0, omega arith, is ∙ ap (λ (k : List ℕ). Copy x head k path n) (sym fault.0) ∙ ap (λ (k : ℕ). Copy x head key path k) (sym fault.1));
  };
}

pub noted_here : (names : List Name) (r : Rec) (x : Name) → r ≡ Drop x → Contains names (name_at r) → Contains names x
noted_here names r x is noted = subst (λ (y : Rec). Contains names (name_at y)) is noted
