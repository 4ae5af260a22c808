-- A volume in memory as a volume.
use Rattle.std.proofs.Common.{◌≡◌, ◌≢◌, ◌⊎◌, inl, inr, ℕ, ◌≤◌, Bool, true, false, cond, List, [], ◌∷◌, ◌++◌, length, length-append, max, Option, Some, None, Result, Ok, Err, OnOk, OnErr, IfSome, refl, sym, ap, subst, ◌∙◌, arith}
use Rattle.std.specs.Prelude.{is_some, unwrap_or, IsErrOf}
use Rattle.std.specs.Result.{is_err}
use Rattle.std.specs.FinMap.{get, insert, remove, get-empty}
use Rattle.mi_text.specs.Maps.{Name, same_name, set_to}
use Rattle.mi_text.proofs.MapLemmas.{same_itself, get-set_to, from_same, same}
use Rattle.mi_volume.specs.Maps.{Map, size, bytes_or_none, Fits, Exceeds, OthersStay, HoldsByte, HoldsAtMost}
use Rattle.mi_volume.specs.State.{MayLeave, Images, ImagesOf, GoesOn, Stays, StaysDirty, Rose}
use Rattle.mi_volume.specs.Calls.{Writes, Marks, Removes, Syncs}
use Rattle.mi_volume.specs.Kept.{Kept, is_dirty, changed, changed_if_held, cleaned, first_half}
use Rattle.mi_volume.specs.Memory.{Memory, state_of, fails_now, called, looked, touched, marked, removed, synced, with_piece, written}
use Rattle.mi_volume.specs.declared.call.CallKind.{CallKind}
use Rattle.mi_volume.specs.declared.call.CallKind.TheVariants.{Put, Append}
use Rattle.mi_volume.specs.declared.volume.PutFault.{PutFault}
use Rattle.mi_volume.specs.declared.volume.PutFault.TheVariants.{NoMemory, Failed, Full}
use Rattle.mi_volume.proofs.MapLemmas.{same_name-other}
use Rattle.mi_volume.proofs.KeptLemmas.{get-noted}
use Rattle.mi_volume.proofs.CrashLemmas.{half_length}

-- only this name may have changed or become dirty, and no name has become clean
pub record Changes (name : Name) (k l : Kept) : Type 0 where
  pub others : OthersStay name k.held l.held
  pub dirties : (q : Name) → q ≢ name → is_dirty l q ≡ true → is_dirty k q ≡ true
  pub still : (q : Name) → is_dirty k q ≡ true → is_dirty l q ≡ true

pub unchanged : (name : Name) (k : Kept) → Changes name k k
unchanged name k = record { others = λ q other. refl; dirties = λ q other dirty. dirty; still = λ q dirty. dirty }

pub changes : (k : Kept) (name : Name) (now : Option (List ℕ)) → Changes name k (changed k name now)
changes k name now = record {
  others = λ q other. get-set_to k.held name now q ∙ ap (λ b. cond b now (get k.held q)) (same_name-other q name other);
  dirties = λ q other dirty. sym (ap is_some (get-noted k name now q ∙ ap (λ b. cond b (Some (unwrap_or (get k.before name) (get k.held name))) (get k.before q)) (same_name-other q name other))) ∙ dirty;
  still = λ q dirty. ap is_some (get-noted k name now q) ∙ either (same_name q name) (get k.before q) dirty;
}
  where
    either : (b : Bool) (o : Option (Option (List ℕ))) → is_some o ≡ true → is_some (cond b (Some (unwrap_or (get k.before name) (get k.held name))) o) ≡ true
    either true o dirty = refl
    either false o dirty = dirty

pub changes_if_held : (k : Kept) (name : Name) (now : Option (List ℕ)) → Changes name k (changed_if_held k name now)
changes_if_held k name now = elim (is_some (get k.held name)) as (λ b. Changes name k (cond b (changed k name now) k)) [ true ↦ changes k name now | false ↦ unchanged name k ]

-- what a crash may leave after it, it may leave while this name changes
pub leaves : (name : Name) (k l : Kept) (capacity : Option ℕ) (d : Map) → Changes name k l → MayLeave l.held (λ q. is_dirty l q ≡ true) capacity d → MayLeave k.held (λ q. (is_dirty k q ≡ true) ⊎ (q ≡ name)) capacity d
leaves name k l capacity d changes left = record {
  agrees = λ q free. left.agrees q (λ dirty. free (inl (changes.dirties q (λ is. free (inr is)) dirty))) ∙ changes.others q (λ is. free (inr is));
  fits = left.fits;
}

pub goes : (failed : Bool) (m : Memory) (k : Kept) (calls : List _) (P : Map → Type 0) → m.faults ≤ (called failed m k calls).faults
    → ((d : Map) → MayLeave k.held (λ q. is_dirty k q ≡ true) m.capacity d → P d) → GoesOn (state_of m) (state_of (called failed m k calls)) P
goes failed m k calls P later each = record {
  later = omega arith;
  since = λ t d le left. inr (each d left);
  capacity = refl;
  faults = later;
}

pub rose : (m : Memory) (k : Kept) (calls : List _) → Rose (state_of m) (state_of (called true m k calls))
rose m k calls = record { rose = λ below. omega (arith, below) }

-- a call that only looks
pub look_stays : (old new : Memory) → new ≡ looked old → Stays (state_of old) (state_of new)
look_stays old new is = subst (λ m. Stays (state_of old) (state_of m)) (sym is) (record { held = refl; dirty = λ q dirty. dirty })

pub look_still : (old new : Memory) → new ≡ looked old → StaysDirty (state_of old) (state_of new)
look_still old new is = subst (λ m. StaysDirty (state_of old) (state_of m)) (sym is) (λ q dirty. dirty)

pub look_goes : (old new : Memory) → new ≡ looked old → old.faults ≤ new.faults → GoesOn (state_of old) (state_of new) (Images (state_of old))
look_goes old new is later =
    subst (λ m. GoesOn (state_of old) (state_of m) (Images (state_of old))) (sym is)
    (goes (fails_now old) old old.kept old.calls (Images (state_of old)) (subst (λ m. old.faults ≤ m.faults) is later) (λ d left. left))

-- a call that fails
pub failed_rose : (old new : Memory) (k : Kept) (calls : List _) → new ≡ called (fails_now old) old k calls → fails_now old ≡ true → Rose (state_of old) (state_of new)
failed_rose old new k calls is fails = subst (λ m. Rose (state_of old) (state_of m)) (sym (is ∙ ap (λ b. called b old k calls) fails)) (rose old k calls)

by_fails : (f : Bool) (name : Name) (k a b : Kept) → Changes name k a → Changes name k b → Changes name k (cond f a b)
by_fails true name k a b one other = one
by_fails false name k a b one other = other

marked_changes : (m : Memory) (name : Name) (byte : ℕ) → Changes name m.kept (marked name byte m).kept
marked_changes m name byte = by_fails (fails_now m) name m.kept _ _ (changes_if_held m.kept name (get m.kept.held name)) (changes m.kept name (Some (byte ∷ [])))

removed_changes : (m : Memory) (name : Name) → Changes name m.kept (removed name m).kept
removed_changes m name = by_fails (fails_now m) name m.kept _ _ (changes_if_held m.kept name (get m.kept.held name)) (changes_if_held m.kept name None)

changing : (failed : Bool) (m : Memory) (k : Kept) (calls : List _) (name : Name) → Changes name m.kept k → m.faults ≤ (called failed m k calls).faults → GoesOn (state_of m) (state_of (called failed m k calls)) (ImagesOf name (state_of m))
changing failed m k calls name changes later = goes failed m k calls (ImagesOf name (state_of m)) later (λ d left. leaves name m.kept k m.capacity d changes left)

pub mark_goes : (old new : Memory) (name : Name) (byte : ℕ) → new ≡ marked name byte old → old.faults ≤ new.faults → GoesOn (state_of old) (state_of new) (ImagesOf name (state_of old))
mark_goes old new name byte is later =
    subst (λ m. GoesOn (state_of old) (state_of m) (ImagesOf name (state_of old))) (sym is)
    (changing (fails_now old) old (marked name byte old).kept old.calls name (marked_changes old name byte) (subst (λ m. old.faults ≤ m.faults) is later))

pub remove_goes : (old new : Memory) (name : Name) → new ≡ removed name old → old.faults ≤ new.faults → GoesOn (state_of old) (state_of new) (ImagesOf name (state_of old))
remove_goes old new name is later =
    subst (λ m. GoesOn (state_of old) (state_of m) (ImagesOf name (state_of old))) (sym is)
    (changing (fails_now old) old (removed name old).kept old.calls name (removed_changes old name) (subst (λ m. old.faults ≤ m.faults) is later))

on_ok_where : {T E P : Type 0} (r : Result T E) (f : Bool) → is_err r ≡ f → (f ≡ false → P) → OnOk r P
on_ok_where (Ok x) f is p = p (sym is)
on_ok_where (Err e) f is p = tt

on_err_where : {T E P : Type 0} (r : Result T E) (f : Bool) → is_err r ≡ f → (f ≡ true → P) → OnErr r P
on_err_where (Ok x) f is p = tt
on_err_where (Err e) f is p = p (sym is)

pub err_rose : {T E : Type 0} → (r : Result T E) (old new : Memory) (k : Kept) (calls : List _) → is_err r ≡ fails_now old → new ≡ called (fails_now old) old k calls → OnErr r (Rose (state_of old) (state_of new))
err_rose r old new k calls is leaves = on_err_where r (fails_now old) is (λ fails. failed_rose old new k calls leaves fails)

-- a name that is made dirty holds what it held
pub touched_holds : (k : Kept) (name q : Name) → get (touched k name).held q ≡ get k.held q
touched_holds k name q =
    elim (is_some (get k.held name)) as (λ b. get (cond b (changed k name (get k.held name)) k).held q ≡ get k.held q) [
      | true ↦ get-set_to k.held name (get k.held name) q ∙ elim (same_name q name) as (λ b. same_name q name ≡ b → cond b (get k.held name) (get k.held q) ≡ get k.held q) [ true ↦ λ e. ap (get k.held) (sym (from_same q name e)) | false ↦ λ e. refl ] refl
      | false ↦ refl
    ]

pub marks : {T E : Type 0} → (r : Result T E) (old new : Memory) (name : Name) (byte : ℕ) → HoldsByte old.kept.held name → is_err r ≡ fails_now old → new ≡ marked name byte old → Marks name byte (state_of old) (state_of new) r
marks r old new name byte holds is leaves =
    subst (λ m. Marks name byte (state_of old) (state_of m) r) (sym leaves) (record {
      ok = on_ok_where r (fails_now old) is (λ well. ap (λ f. (cond f (touched old.kept name) (changed old.kept name (Some (byte ∷ [])))).held) well);
      others = (marked_changes old name byte).others;
      dirty = (marked_changes old name byte).dirties;
      still = (marked_changes old name byte).still;
      one_byte = one_byte (fails_now old);
    })
  where
    one_byte : (f : Bool) → HoldsByte (cond f (touched old.kept name) (changed old.kept name (Some (byte ∷ [])))).held name
    one_byte true = (holds.0, touched_holds old.kept name name ∙ holds.1)
    one_byte false = (byte, get-set_to old.kept.held name (Some (byte ∷ [])) name ∙ ap (λ b. cond b (Some (byte ∷ [])) (get old.kept.held name)) (same_itself name))

held_where : (k : Kept) (name : Name) → (changed_if_held k name None).held ≡ remove k.held name
held_where k name = same _ _ (λ q. by_held q (get k.held name) refl)
  where
    by_held : (q : Name) (o : Option (List ℕ)) → get k.held name ≡ o → get (cond (is_some o) (changed k name None) k).held q ≡ get (remove k.held name) q
    by_held q (Some bytes) at = refl
    by_held q None at = sym (get-set_to k.held name None q ∙ elim (same_name q name) as (λ b. same_name q name ≡ b → cond b None (get k.held q) ≡ get k.held q) [ true ↦ λ e. sym (ap (get k.held) (from_same q name e) ∙ at) | false ↦ λ e. refl ] refl)

at_most : (m : Map) (name : Name) (o : Option (List ℕ)) → get m name ≡ o → HoldsAtMost m name (length (bytes_or_none o))
at_most m name None at = subst (λ o. IfSome o (λ bytes. length bytes ≤ 0)) (sym at) tt
at_most m name (Some bytes) at = subst (λ o. IfSome o (λ b. length b ≤ length bytes)) (sym at) (omega arith)

pub removes : {T E : Type 0} → (r : Result T E) (old new : Memory) (name : Name) → is_err r ≡ fails_now old → new ≡ removed name old → Removes name (state_of old) (state_of new) r
removes r old new name is leaves =
    subst (λ m. Removes name (state_of old) (state_of m) r) (sym leaves) (record {
      ok = on_ok_where r (fails_now old) is (λ well. ap (λ f. (cond f (touched old.kept name) (changed_if_held old.kept name None)).held) well ∙ held_where old.kept name);
      others = (removed_changes old name).others;
      dirty = (removed_changes old name).dirties;
      still = (removed_changes old name).still;
      failed = on_err_where r (fails_now old) is (λ fails. at_most _ name (get old.kept.held name) (ap (λ f. get (cond f (touched old.kept name) (changed_if_held old.kept name None)).held name) fails ∙ touched_holds old.kept name name));
    })

pub syncs : {T E : Type 0} → (r : Result T E) (old new : Memory) → is_err r ≡ fails_now old → new ≡ synced old → OnOk r (Fits new.capacity (size new.kept.held)) → Syncs (state_of old) (state_of new) r
syncs r old new is leaves fits =
    subst (λ m. Syncs (state_of old) (state_of m) r) (sym leaves) (record {
      ok = on_ok_where r (fails_now old) is (λ well q dirty. clean q (subst (λ f. is_dirty (cond f old.kept (cleaned old.kept)) q ≡ true) well dirty));
      fits = subst (λ (m : Memory). OnOk r (Fits m.capacity (size m.kept.held))) leaves fits;
      stays = record { held = held (fails_now old); dirty = λ q dirty. fewer (fails_now old) q dirty };
      failed = on_err_where r (fails_now old) is (λ fails q dirty. subst (λ f. is_dirty (cond f old.kept (cleaned old.kept)) q ≡ true) (sym fails) dirty);
    })
  where
    clean : (q : Name) → is_dirty (cleaned old.kept) q ≡ true → ⊥
    clean q dirty = let clash : false ≡ true = sym (ap is_some (get-empty _ q)) ∙ dirty in cc

    held : (f : Bool) → (cond f old.kept (cleaned old.kept)).held ≡ old.kept.held
    held true = refl
    held false = refl

    fewer : (f : Bool) (q : Name) → is_dirty (cond f old.kept (cleaned old.kept)) q ≡ true → is_dirty old.kept q ≡ true
    fewer true q dirty = dirty
    fewer false q dirty = absurd (clean q dirty)

pub sync_goes : (old new : Memory) → new ≡ synced old → old.faults ≤ new.faults → GoesOn (state_of old) (state_of new) (Images (state_of old))
sync_goes old new is later =
    subst (λ m. GoesOn (state_of old) (state_of m) (Images (state_of old))) (sym is)
    (goes (fails_now old) old (cond (fails_now old) old.kept (cleaned old.kept)) old.calls (Images (state_of old)) (subst (λ m. old.faults ≤ m.faults) is later) (λ d left. fewer (fails_now old) d left))
  where
    fewer : (f : Bool) (d : Map) → MayLeave (cond f old.kept (cleaned old.kept)).held (λ q. is_dirty (cond f old.kept (cleaned old.kept)) q ≡ true) old.capacity d → Images (state_of old) d
    fewer true d left = left
    fewer false d left = record { agrees = λ q free. left.agrees q (λ dirty. let clash : false ≡ true = sym (ap is_some (get-empty _ q)) ∙ dirty in cc); fits = left.fits }

written_changes : {T : Type 0} → (r : Result T PutFault) (m : Memory) (kind : CallKind) (name : Name) (piece : List ℕ) → Changes name m.kept (written kind name piece m r).kept
written_changes (Ok x) m kind name piece = changes m.kept name (Some (with_piece kind (get m.kept.held name) piece))
written_changes (Err Failed) m kind name piece = changes m.kept name (Some (with_piece kind (get m.kept.held name) (first_half piece)))
written_changes (Err Full) m kind name piece = unchanged name m.kept
written_changes (Err NoMemory) m kind name piece = unchanged name m.kept

pub write_goes : {T : Type 0} → (r : Result T PutFault) (old new : Memory) (kind : CallKind) (name : Name) (piece : List ℕ) → new ≡ written kind name piece old r → old.faults ≤ new.faults → GoesOn (state_of old) (state_of new) (ImagesOf name (state_of old))
write_goes {T} r old new kind name piece is later =
    subst (λ m. GoesOn (state_of old) (state_of m) (ImagesOf name (state_of old))) (sym is) (by_answer r (subst (λ m. old.faults ≤ m.faults) is later))
  where
    by_answer : (r : Result T PutFault) → old.faults ≤ (written kind name piece old r).faults → GoesOn (state_of old) (state_of (written kind name piece old r)) (ImagesOf name (state_of old))
    by_answer (Ok x) later = changing false old (written kind name piece old (Ok x)).kept (old.calls ++ record { kind = kind; name = name } ∷ []) name (written_changes (Ok x) old kind name piece) later
    by_answer (Err Failed) later = changing true old (changed old.kept name (Some (with_piece kind (get old.kept.held name) (first_half piece)))) (old.calls ++ record { kind = kind; name = name } ∷ []) name (changes old.kept name (Some (with_piece kind (get old.kept.held name) (first_half piece)))) later
    by_answer (Err Full) later = changing false old old.kept old.calls name (unchanged name old.kept) later
    by_answer (Err NoMemory) later = changing false old old.kept old.calls name (unchanged name old.kept) later

pub write_rose : {T : Type 0} → (r : Result T PutFault) (old new : Memory) (kind : CallKind) (name : Name) (piece : List ℕ) → new ≡ written kind name piece old r → IsErrOf r Failed → Rose (state_of old) (state_of new)
write_rose {T} r old new kind name piece is failed = subst (λ m. Rose (state_of old) (state_of m)) (sym is) (by_answer r failed)
  where
    by_answer : (r : Result T PutFault) → IsErrOf r Failed → Rose (state_of old) (state_of (written kind name piece old r))
    by_answer (Ok x) failed = absurd (cc)
    by_answer (Err Failed) failed = rose old (changed old.kept name (Some (with_piece kind (get old.kept.held name) (first_half piece)))) (old.calls ++ record { kind = kind; name = name } ∷ [])
    by_answer (Err Full) failed = absurd (cc)
    by_answer (Err NoMemory) failed = absurd (cc)

-- the first half isn't longer than what was asked for
half_asked : (kind : CallKind) (now : Option (List ℕ)) (piece : List ℕ) → length (with_piece kind now (first_half piece)) ≤ max (length (bytes_or_none now)) (length (with_piece kind now piece))
half_asked Put now piece = let half = half_length piece in omega (arith, half)
half_asked Append now piece =
    let half = half_length piece in
    let short = length-append (bytes_or_none now) (first_half piece) in
    let long = length-append (bytes_or_none now) piece in
    omega (arith, half, short, long)

-- what isn't too large fits
not_over : (capacity : Option ℕ) (n : ℕ) → (Exceeds capacity n → ⊥) → Fits capacity n
not_over None n over = tt
not_over (Some c) n over = omega (arith, over)

pub writes : {T : Type 0} → (r : Result T PutFault) (old new : Memory) (kind : CallKind) (name : Name) (piece : List ℕ) → new ≡ written kind name piece old r
    → (IsErrOf r Full → Exceeds old.capacity (size (insert old.kept.held name (with_piece kind (get old.kept.held name) piece))))
    → (Exceeds old.capacity (size (insert old.kept.held name (with_piece kind (get old.kept.held name) piece))) → IsErrOf r Full ⊎ IsErrOf r NoMemory)
    → Writes name (with_piece kind (get old.kept.held name) piece) (state_of old) (state_of new) r
writes {T} r old new kind name piece is exceeds fits =
    subst (λ m. Writes name (with_piece kind (get old.kept.held name) piece) (state_of old) (state_of m) r) (sym is) (record {
      ok = ok r;
      others = (written_changes r old kind name piece).others;
      dirty = (written_changes r old kind name piece).dirties;
      still = (written_changes r old kind name piece).still;
      no_memory = no_memory r;
      full = full r;
      failed = failed r;
      exceeds = exceeds;
      fits = within r fits;
    })
  where
    within : (r : Result T PutFault) → (Exceeds old.capacity (size (insert old.kept.held name (with_piece kind (get old.kept.held name) piece))) → IsErrOf r Full ⊎ IsErrOf r NoMemory)
        → OnOk r (Fits old.capacity (size (insert old.kept.held name (with_piece kind (get old.kept.held name) piece))))
    within (Ok x) err = not_over old.capacity (size (insert old.kept.held name (with_piece kind (get old.kept.held name) piece))) (λ over. elim (err over) [ inl is ↦ absurd (cc) | inr is ↦ absurd (cc) ])
    within (Err e) err = tt

    ok : (r : Result T PutFault) → OnOk r ((written kind name piece old r).kept.held ≡ insert old.kept.held name (with_piece kind (get old.kept.held name) piece))
    ok (Ok x) = refl
    ok (Err e) = tt

    no_memory : (r : Result T PutFault) → IsErrOf r NoMemory → Stays (state_of old) (state_of (written kind name piece old r))
    no_memory (Ok x) is = absurd (cc)
    no_memory (Err Failed) is = absurd (cc)
    no_memory (Err Full) is = absurd (cc)
    no_memory (Err NoMemory) is = record { held = refl; dirty = λ q dirty. dirty }

    full : (r : Result T PutFault) → IsErrOf r Full → Stays (state_of old) (state_of (written kind name piece old r))
    full (Ok x) is = absurd (cc)
    full (Err Failed) is = absurd (cc)
    full (Err Full) is = record { held = refl; dirty = λ q dirty. dirty }
    full (Err NoMemory) is = absurd (cc)

    failed : (r : Result T PutFault) → IsErrOf r Failed → HoldsAtMost (written kind name piece old r).kept.held name (max (length (bytes_or_none (get old.kept.held name))) (length (with_piece kind (get old.kept.held name) piece)))
    failed (Ok x) is = absurd (cc)
    failed (Err Failed) is =
        let here : get (set_to old.kept.held name (Some (with_piece kind (get old.kept.held name) (first_half piece)))) name ≡ Some (with_piece kind (get old.kept.held name) (first_half piece)) =
        get-set_to old.kept.held name (Some (with_piece kind (get old.kept.held name) (first_half piece))) name ∙ ap (λ b. cond b (Some (with_piece kind (get old.kept.held name) (first_half piece))) (get old.kept.held name)) (same_itself name) in
        subst (λ o. IfSome o (λ bytes. length bytes ≤ max (length (bytes_or_none (get old.kept.held name))) (length (with_piece kind (get old.kept.held name) piece)))) (sym here) (half_asked kind (get old.kept.held name) piece)
    failed (Err Full) is = absurd (cc)
    failed (Err NoMemory) is = absurd (cc)

pub exceeds_some : (capacity : Option ℕ) (n : ℕ) → Exceeds capacity n → is_some capacity ≡ true
exceeds_some None n over = absurd over
exceeds_some (Some c) n over = refl
