-- Calls over an area, one after the other.
use Rattle.std.proofs.Common.{◌≡◌, ◌≢◌, ◌⊎◌, ⊎_elim, ℕ, ◌+◌, ◌≤◌, max, false, cond, not, List, ◌++◌, length, Option, Some, None, Result, Ok, Err, IsErrOf, Contains, refl, sym, ap, subst, ◌∙◌, arith}
use Rattle.std.specs.FinMap.{get, insert, remove}
use Rattle.mi_text.specs.Maps.{Name}
use Rattle.mi_text.proofs.MapLemmas.{same}
use Rattle.mi_volume.specs.Maps.{Map, size, slot_size, bytes_or_none, OthersStay, Exceeds, Fits}
use Rattle.mi_volume.specs.State.{State, Rose, GoesOn, Images, Stays}
use Rattle.mi_volume.proofs.Moments.{started, joined, passes, then_passes, rose_before}
use Rattle.mi_volume.proofs.MapLemmas.{name_cases, get-insert_same, get-insert_other, get-remove_same, get-remove_other}
use Rattle.mi_undo.specs.Names.{is_inside}
use Rattle.mi_undo.specs.Stands.{StandsFor, outside}
use Rattle.mi_undo.specs.Area.{volume, noted_names, place_names, Knows, AreOutside, IsLive, IsWorking, Works, CanGoBack}
use Rattle.mi_undo.specs.Answers.{Changes}
use Rattle.mi_undo.specs.Room.{TakesAtMost, KeepsRoom, NeverShort}
use Rattle.mi_undo.specs.declared.kept.Kept.{Kept}
use Rattle.mi_undo.specs.declared.kept.Progress.TheVariants.{Working, Over}
use Rattle.mi_undo.specs.declared.area.Open.{Open}
use Rattle.mi_undo.specs.declared.fault.OpFault.{OpFault}
use Rattle.mi_undo.specs.declared.fault.OpFault.TheVariants as op
use Rattle.mi_undo.proofs.AreaLemmas.{works_go_back}
use Rattle.mi_undo.proofs.StandsLemmas.{get-outside}
use Rattle.mi_undo.proofs.StepLemmas.{insert_twice}
use Rattle.mi_runner.specs.declared.fault.RunFault.{RunFault}
use Rattle.mi_runner.specs.declared.fault.RunFault.TheVariants as run
use Rattle.mi_runner.specs.Faults.{run_fault_of}
use Rattle.mi_runner.specs.Steps.{Overflows, KeepsOver, Writes}

-- ---- maps that differ at one name

-- what a name outside the area holds stands outside the area
pub held_outside : (h : Map) (x : Name) → is_inside x ≡ false → get h x ≡ get (outside h) x
held_outside h x out = sym (get-outside h x ∙ ap (λ b. cond (not b) (get h x) None) out)

pub insert_is : (h k : Map) (x b : List ℕ) → OthersStay x h k → get k x ≡ Some b → k ≡ insert h x b
insert_is h k x b others is = same k (insert h x b) (λ q. ⊎_elim
    (λ (e : q ≡ x). ap (get k) e ∙ is ∙ sym (ap (get (insert h x b)) e ∙ get-insert_same h x b))
    (λ ne. others q ne ∙ sym (get-insert_other h x b q ne))
    (name_cases q x))

pub remove_is : (h k : Map) (x : List ℕ) → OthersStay x h k → get k x ≡ None → k ≡ remove h x
remove_is h k x others is = same k (remove h x) (λ q. ⊎_elim
    (λ (e : q ≡ x). ap (get k) e ∙ is ∙ sym (ap (get (remove h x)) e ∙ get-remove_same h x))
    (λ ne. others q ne ∙ sym (get-remove_other h x q ne))
    (name_cases q x))

-- a change outside the area is one of what is held
pub held_is : (h k : Map) (x b : List ℕ) → is_inside x ≡ false → OthersStay x h k → outside k ≡ insert (outside h) x b → k ≡ insert h x b
held_is h k x b out others is = insert_is h k x b others (held_outside k x out ∙ ap (λ (m : Map). get m x) is ∙ get-insert_same (outside h) x b)

pub removed_is : (h k : Map) (x : List ℕ) → is_inside x ≡ false → OthersStay x h k → outside k ≡ remove (outside h) x → k ≡ remove h x
removed_is h k x out others is = remove_is h k x others (held_outside k x out ∙ ap (λ (m : Map). get m x) is ∙ get-remove_same (outside h) x)

-- where the others are the same, so is the map with this name given bytes
pub insert_over : (h k : Map) (x b : List ℕ) → OthersStay x h k → insert k x b ≡ insert h x b
insert_over h k x b others = insert_is h (insert k x b) x b (λ q ne. get-insert_other k x b q ne ∙ others q ne) (get-insert_same k x b)

-- ---- answers that are handed on

pub overflows_then : (told : Type 0) (s t : State) (x : Name) (n : ℕ) → t.capacity ≡ s.capacity → (told → OthersStay x s.held t.held) → Overflows told t x n → Overflows told s x n
overflows_then told s t x n capacity others o = record {
  is_told = o.is_told;
  bytes = o.bytes;
  small = o.small;
  passes = subst (λ (c : Option ℕ). Exceeds c (size (insert s.held x o.bytes))) capacity
      (subst (λ (m : Map). Exceeds t.capacity (size m)) (insert_over s.held t.held x o.bytes (others o.is_told)) o.passes);
}

pub overflows_more : (told : Type 0) (s : State) (x : Name) (n m : ℕ) → n ≤ m → Overflows told s x n → Overflows told s x m
overflows_more told s x n m le o = let small = o.small in record { is_told = o.is_told; bytes = o.bytes; small = omega (arith, small, le); passes = o.passes }

module _ {V : Type 0} (told : Type 0) (state : V → State) where
  pub keeps_start : (o : Open V Kept) (names : Name → Type 0) → KeepsOver told state o o names
  keeps_start o names = record {
    reference = refl;
    kept = refl;
    changes = λ t F w. record { goes = started (state (volume o)) (StandsFor F); works = w };
    room = λ t F n w takes. record { takes = takes; goes = λ fits. started (state (volume o)) (NeverShort (state (volume o)).capacity) };
    others = λ t q free. refl;
    passes = record { later = omega arith; faults = omega arith; capacity = refl };
  }

  pub room_then : (s t u : State) (F : Map) (n : ℕ) → t.capacity ≡ s.capacity → KeepsRoom s t F n → KeepsRoom t u F n → KeepsRoom s u F n
  room_then s t u F n capacity first second = record {
    takes = second.takes;
    goes = λ fits. joined s t u (NeverShort s.capacity) (first.goes fits)
        (subst (λ (c : Option ℕ). GoesOn t u (NeverShort c)) capacity (second.goes (subst (λ (c : Option ℕ). Fits c (size F + (4 + n))) (sym capacity) fits)));
  }

  pub keeps_then : (a b c : Open V Kept) (names : Name → Type 0) → KeepsOver told state a b names → KeepsOver told state b c names → KeepsOver told state a c names
  keeps_then a b c names first second = record {
    reference = second.reference ∙ first.reference;
    kept = second.kept ∙ first.kept;
    changes = λ t F w.
        let one = first.changes t F w in
        let two = second.changes t F one.works in
        record { goes = joined (state (volume a)) (state (volume b)) (state (volume c)) (StandsFor F) one.goes two.goes; works = two.works };
    room = λ t F n w takes.
        let one = first.room t F n w takes in
        room_then (state (volume a)) (state (volume b)) (state (volume c)) F n first.passes.capacity one (second.room t F n (first.changes t F w).works one.takes);
    others = λ t q free. second.others t q free ∙ first.others t q free;
    passes = then_passes (state (volume a)) (state (volume b)) (state (volume c)) first.passes second.passes;
  }

  pub keeps_more : (a b : Open V Kept) (names more : Name → Type 0) → ((q : Name) → names q → more q) → KeepsOver told state a b names → KeepsOver told state a b more
  keeps_more a b names more then k = record {
    reference = k.reference;
    kept = k.kept;
    changes = k.changes;
    room = k.room;
    others = λ t q free. k.others t q (λ is. free (then q is));
    passes = k.passes;
  }

  -- a call that changes nothing
  pub keeps_looks : (a b : Open V Kept) (names : Name → Type 0) → b.vol.ghost_name ≡ a.vol.ghost_name → b.kept ≡ a.kept → (told → Stays (state (volume a)) (state (volume b))) → GoesOn (state (volume a)) (state (volume b)) (Images (state (volume a)))
      → (told → (F : Map) → Works (state (volume a)) a.kept F → Changes (state (volume a)) (state (volume b)) b.kept F)
      → (told → (F : Map) (n : ℕ) → CanGoBack (state (volume a)) a.kept F → TakesAtMost n (state (volume a)) → KeepsRoom (state (volume a)) (state (volume b)) F n) → KeepsOver told state a b names
  keeps_looks a b names reference kept stays goes works room = record {
    reference = reference;
    kept = kept;
    changes = works;
    room = λ t F n w takes. room t F n (works_go_back (state (volume a)) a.kept F w) takes;
    others = λ t q free. ap (λ (m : Map). get m q) (stays t).held;
    passes = passes (state (volume a)) (state (volume b)) (Images (state (volume a))) goes;
  }

  pub still_working : (a b : Open V Kept) → b.kept ≡ a.kept → b.progress ≡ a.progress → IsWorking a → IsWorking b
  still_working a b kept progress w = record {
    working = progress ∙ w.working;
    knows = subst (λ (k : Kept). Knows k.seen (place_names k.places.items)) (sym kept) w.knows;
    outside = subst (λ (k : Kept). AreOutside (place_names k.places.items)) (sym kept) w.outside;
  }

  pub working_live : (o : Open V Kept) → IsWorking o → IsLive o
  working_live o w = λ e. let clash : Working ≡ Over = sym w.working ∙ e in absurd (cc)

  pub noted_still : (a b : Open V Kept) (x : Name) → b.kept ≡ a.kept → Contains (noted_names a) x → Contains (noted_names b) x
  noted_still a b x kept noted = subst (λ (k : Kept). Contains (place_names k.places.items) x) (sym kept) noted

  -- the name isn't longer than before or than this
  abbrev pub IsWithin : Open V Kept → Open V Kept → Name → ℕ → Type 0
  IsWithin a b x n = told → slot_size x (get (state (volume b)).held x) ≤ max (slot_size x (get (state (volume a)).held x)) n

  pub within_start : (a : Open V Kept) (x : Name) (n : ℕ) → IsWithin a a x n
  within_start a x n = λ t. omega arith

  pub within_stays : (a b c : Open V Kept) (x : Name) (n : ℕ) → IsWithin a b x n → (told → Stays (state (volume b)) (state (volume c))) → IsWithin a c x n
  within_stays a b c x n here stays = λ t.
      let is : slot_size x (get (state (volume c)).held x) ≡ slot_size x (get (state (volume b)).held x) = ap (λ (m : Map). slot_size x (get m x)) (stays t).held in
      omega (arith, is, here t)

  pub within_put : (a b : Open V Kept) (x bytes : List ℕ) (n : ℕ) → (told → (state (volume b)).held ≡ insert (state (volume a)).held x bytes) → length x + length bytes ≤ n → IsWithin a b x n
  within_put a b x bytes n held le = λ t.
      let is : slot_size x (get (state (volume b)).held x) ≡ length x + length bytes = ap (λ (m : Map). slot_size x (get m x)) (held t) ∙ ap (slot_size x) (get-insert_same (state (volume a)).held x bytes) in
      omega (arith, is, le)

  pub writes_ok : {T E : Type 0} (a b : Open V Kept) (x : Name) (n : ℕ) (fault full : E) (y : T) → KeepsOver told state a b (λ q. q ≡ x) → IsWorking b → IsWithin a b x n → Writes told state a b x n fault full (Ok y)
  writes_ok a b x n fault full y keeps working within = record {
    keeps = keeps;
    live = working_live b working;
    working = working;
    rose = λ is. absurd (cc);
    overflows = λ is. absurd (cc);
    most = λ t free. within t;
  }

  -- a call that failed behind others
  pub writes_then : {T E : Type 0} (a b c : Open V Kept) (x : Name) (n : ℕ) (fault full : E) (r : Result T E) → KeepsOver told state a b (λ q. q ≡ x) → IsWithin a b x n → Writes told state b c x n fault full r → Writes told state a c x n fault full r
  writes_then a b c x n fault full r keeps within w = record {
    keeps = keeps_then a b c (λ q. q ≡ x) keeps w.keeps;
    live = w.live;
    working = w.working;
    rose = λ is. rose_before (state (volume a)) (state (volume b)) (state (volume c)) keeps.passes (w.rose is);
    overflows = λ is. overflows_then told (state (volume a)) (state (volume b)) x n keeps.passes.capacity keeps.others (w.overflows is);
    most = λ t free. let one = w.most t free in omega (arith, one, within t);
  }

  pub writes_more : {T E : Type 0} (a b : Open V Kept) (x : Name) (n m : ℕ) (fault full : E) (r : Result T E) → n ≤ m → Writes told state a b x n fault full r → Writes told state a b x m fault full r
  writes_more a b x n m fault full r le w = record {
    keeps = w.keeps;
    live = w.live;
    working = w.working;
    rose = w.rose;
    overflows = λ is. overflows_more told (state (volume a)) x n m le (w.overflows is);
    most = λ t free. let one = w.most t free in omega (arith, one, le);
  }

  -- a put or an append that failed
  pub write_failed : {T : Type 0} (a b : Open V Kept) (x bytes : List ℕ) (n : ℕ) (e : OpFault) → KeepsOver told state a b (λ q. q ≡ x) → IsLive b → (IsErrOf {T = Unit {0}} (Err e) op.Fault → Rose (state (volume a)) (state (volume b)))
      → (IsErrOf {T = Unit {0}} (Err e) op.Full → told × Exceeds (state (volume a)).capacity (size (insert (state (volume a)).held x bytes))) → (told → length x + length bytes ≤ n)
      → (told → e ≢ op.Fault → Stays (state (volume a)) (state (volume b))) → Writes told state a b {T = T} x n op.Fault op.Full (Err e)
  write_failed {T} a b x bytes n e keeps live fault full small stays = record {
    keeps = keeps;
    live = live;
    working = tt;
    rose = λ is. fault (ap Err (error e op.Fault is));
    overflows = λ is. let over = full (ap Err (error e op.Full is)) in record { is_told = over.0; bytes = bytes; small = small over.0; passes = over.1 };
    most = λ t free.
        let is : slot_size x (get (state (volume b)).held x) ≡ slot_size x (get (state (volume a)).held x) = ap (λ (m : Map). slot_size x (get m x)) (stays t (λ e. free (ap Err e))).held in
        omega (arith, is);
  }
    where
      error : (e f : OpFault) → ◌≡◌ {A = Result T OpFault} (Err e) (Err f) → e ≡ f
      error e f is = cc

  -- a call that gave no memory, before anything was changed or after
  pub no_memory : {T : Type 0} (a b : Open V Kept) (x : Name) (n : ℕ) → KeepsOver told state a b (λ q. q ≡ x) → IsLive b → IsWithin a b x n → Writes told state a b {T = T} x n op.Fault op.Full (Err op.NoMemory)
  no_memory a b x n keeps live within = record { keeps = keeps; live = live; working = tt; rose = λ is. absurd (cc); overflows = λ is. absurd (cc); most = λ t free. within t }

  -- a read of the area that failed
  pub look_failed : {T : Type 0} (a b : Open V Kept) (x : Name) (n : ℕ) (e : OpFault) → KeepsOver told state a b (λ q. q ≡ x) → IsLive b → IsWithin a b x n → (e ≡ op.Fault → Rose (state (volume a)) (state (volume b))) → (e ≡ op.Full → ⊥) → Writes told state a b {T = T} x n op.Fault op.Full (Err e)
  look_failed {T} a b x n e keeps live within fault full = record {
    keeps = keeps;
    live = live;
    working = tt;
    rose = λ is. fault (error e op.Fault is);
    overflows = λ is. absurd (full (error e op.Full is));
    most = λ t free. within t;
  }
    where
      error : (e f : OpFault) → ◌≡◌ {A = Result T OpFault} (Err e) (Err f) → e ≡ f
      error e f is = cc

  -- a fault of the area as one of the segment
  pub as_run : {T U : Type 0} (a b : Open V Kept) (x : Name) (n : ℕ) (e : OpFault) → Writes told state a b {T = T} x n op.Fault op.Full (Err e) → Writes told state a b {T = U} x n run.Volume run.Full (Err (run_fault_of e))
  as_run a b x n op.NoMemory w = record { keeps = w.keeps; live = w.live; working = tt; rose = λ is. absurd (cc); overflows = λ is. absurd (cc); most = λ t free. w.most t (λ is. absurd (cc)) }
  as_run a b x n op.Fault w = record { keeps = w.keeps; live = w.live; working = tt; rose = λ is. w.rose refl; overflows = λ is. absurd (cc); most = λ t free. absurd (free refl) }
  as_run a b x n op.Full w = record { keeps = w.keeps; live = w.live; working = tt; rose = λ is. absurd (cc); overflows = λ is. w.overflows refl; most = λ t free. w.most t (λ is. absurd (cc)) }

  -- the source failed, or gave no memory
  pub source_failed : {T : Type 0} (a b : Open V Kept) (x : Name) (n : ℕ) (e : RunFault) → (e ≡ run.NoMemory) ⊎ (e ≡ run.Source) → KeepsOver told state a b (λ q. q ≡ x) → IsLive b → IsWithin a b x n → Writes told state a b {T = T} x n run.Volume run.Full (Err e)
  source_failed {T} a b x n e why keeps live within = record {
    keeps = keeps;
    live = live;
    working = tt;
    rose = λ is. absurd (⊎_elim (λ (k : e ≡ run.NoMemory). let clash = sym k ∙ error e run.Volume is in no_volume clash) (λ (k : e ≡ run.Source). let clash = sym k ∙ error e run.Volume is in no_volume_source clash) why);
    overflows = λ is. absurd (⊎_elim (λ (k : e ≡ run.NoMemory). let clash = sym k ∙ error e run.Full is in no_full clash) (λ (k : e ≡ run.Source). let clash = sym k ∙ error e run.Full is in no_full_source clash) why);
    most = λ t free. within t;
  }
    where
      error : (e f : RunFault) → ◌≡◌ {A = Result T RunFault} (Err e) (Err f) → e ≡ f
      error e f is = cc

      no_volume : run.NoMemory ≡ run.Volume → ⊥
      no_volume is = cc

      no_volume_source : run.Source ≡ run.Volume → ⊥
      no_volume_source is = cc

      no_full : run.NoMemory ≡ run.Full → ⊥
      no_full is = cc

      no_full_source : run.Source ≡ run.Full → ⊥
      no_full_source is = cc

  -- these bytes stand at the name, and nothing else has changed
  pub record Wrote (a b : Open V Kept) (x bytes : List ℕ) : Type 0 where
    pub keeps : KeepsOver told state a b (λ q. q ≡ x)
    pub working : IsWorking b
    pub held : told → (state (volume b)).held ≡ insert (state (volume a)).held x bytes

  -- a piece more
  pub wrote_more : (a b c : Open V Kept) (x front piece : List ℕ) → Wrote a b x front → KeepsOver told state b c (λ q. q ≡ x) → IsWorking c → (told → (state (volume c)).held ≡ insert (state (volume b)).held x (bytes_or_none (get (state (volume b)).held x) ++ piece)) → Wrote a c x (front ++ piece)
  wrote_more a b c x front piece so_far keeps working held = record {
    keeps = keeps_then a b c (λ q. q ≡ x) so_far.keeps keeps;
    working = working;
    held = λ t.
        let here : bytes_or_none (get (state (volume b)).held x) ≡ front = ap (λ (m : Map). bytes_or_none (get m x)) (so_far.held t) ∙ ap bytes_or_none (get-insert_same (state (volume a)).held x front) in
        held t ∙ ap (λ (l : List ℕ). insert (state (volume b)).held x (l ++ piece)) here
        ∙ ap (λ (m : Map). insert m x (front ++ piece)) (so_far.held t) ∙ insert_twice (state (volume a)).held x front (front ++ piece);
  }
