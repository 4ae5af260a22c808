-- Calls that change one name, or nothing.
use Rattle.std.proofs.Common.{◌≡◌, ◌≢◌, inl, inr, ⊎_elim, ℕ, ◌+◌, ◌≤◌, max, cond, List, length, Option, Some, None, IfSome, Result, Ok, Err, refl, sym, ap, subst, ◌∙◌, arith}
use Rattle.std.specs.FinMap.{get, insert}
use Rattle.mi_text.specs.Maps.{set_to}
use Rattle.mi_text.proofs.MapLemmas.{same, same_itself, get-set_to}
use Rattle.mi_volume.specs.Maps.{Map, Fits, Exceeds, size, slot_size, bytes_or_none, OthersStay, HoldsAtMost}
use Rattle.mi_volume.specs.State.{State, GoesOn, Images, ImagesOf, Stays}
use Rattle.mi_volume.proofs.MapLemmas.{name_cases, same_name-other, get-insert_same, get-insert_other}
use Rattle.mi_volume.proofs.Moments.{started, joined, weaker}
use Rattle.mi_volume.proofs.SizeLemmas.{size-insert, size-set_to}
use Rattle.mi_volume.specs.Calls.{Writes}
use Rattle.mi_volume.specs.declared.volume.PutFault.{PutFault}
use Rattle.mi_volume.specs.declared.volume.PutFault.TheVariants as put
use Rattle.mi_undo.specs.Steps.{OnlyChanges, HoldsNoMore, IsWithin}

image_of_earlier : (s t : State) (x : List ℕ) → OnlyChanges x s t → (d : Map) → ImagesOf x t d → ImagesOf x s d
image_of_earlier s t x first d image = record {
  agrees = λ q free. image.agrees q (⊎_elim (λ now. free (inl (first.dirty q (λ is. free (inr is)) now))) (λ is. free (inr is))) ∙ first.others q (λ is. free (inr is));
  fits = subst (λ (c : Option ℕ). Fits c (size d)) first.goes.capacity image.fits;
}

-- before the first call
pub only_start : (s : State) (x : List ℕ) → OnlyChanges x s s
only_start s x = record { goes = started s (ImagesOf x s); others = λ q ne. refl; dirty = λ q ne now. now }

-- one call after another
pub only_then : (s t u : State) (x : List ℕ) → OnlyChanges x s t → OnlyChanges x t u → OnlyChanges x s u
only_then s t u x first second = record {
  goes = joined s t u (ImagesOf x s) first.goes (weaker t u (ImagesOf x t) (ImagesOf x s) (image_of_earlier s t x first) second.goes);
  others = λ q ne. second.others q ne ∙ first.others q ne;
  dirty = λ q ne now. first.dirty q ne (second.dirty q ne now);
}

pub image_is_of : (s : State) (x : List ℕ) (d : Map) → Images s d → ImagesOf x s d
image_is_of s x d image = record { agrees = λ q free. image.agrees q (λ now. free (inl now)); fits = image.fits }

-- a call that changes nothing
pub only_looks : (s t : State) (x : List ℕ) → GoesOn s t (Images s) → Stays s t → OnlyChanges x s t
only_looks s t x goes stays = record {
  goes = weaker s t (Images s) (ImagesOf x s) (image_is_of s x) goes;
  others = λ q ne. ap (λ (m : Map). get m q) stays.held;
  dirty = λ q ne now. stays.dirty q now;
}

pub insert_itself : (m : Map) (n b : List ℕ) → get m n ≡ Some b → insert m n b ≡ m
insert_itself m n b is = same (insert m n b) m (λ q. ⊎_elim
    (λ (e : q ≡ n). ap (λ (x : List ℕ). get (insert m n b) x) e ∙ get-insert_same m n b ∙ sym is ∙ ap (λ (x : List ℕ). get m x) (sym e))
    (λ ne. get-insert_other m n b q ne)
    (name_cases q n))

pub insert_twice : (m : Map) (n b c : List ℕ) → insert (insert m n b) n c ≡ insert m n c
insert_twice m n b c = same (insert (insert m n b) n c) (insert m n c) (λ q. ⊎_elim
    (λ (e : q ≡ n). ap (λ (x : List ℕ). get (insert (insert m n b) n c) x) e ∙ get-insert_same (insert m n b) n c ∙ sym (get-insert_same m n c) ∙ ap (λ (x : List ℕ). get (insert m n c) x) (sym e))
    (λ ne. get-insert_other (insert m n b) n c q ne ∙ get-insert_other m n b q ne ∙ sym (get-insert_other m n c q ne))
    (name_cases q n))

pub exceeds_more : (capacity : Option ℕ) (a b : ℕ) → a ≤ b → Exceeds capacity a → Exceeds capacity b
exceeds_more None a b le e = e
exceeds_more (Some c) a b le e = omega arith

-- more bytes at a name pass the capacity too
pub exceeds_longer : (capacity : Option ℕ) (m : Map) (n b c : List ℕ) → length b ≤ length c → Exceeds capacity (size (insert m n b)) → Exceeds capacity (size (insert m n c))
exceeds_longer capacity m n b c le over =
    let one = size-insert m n b in
    let two = size-insert m n c in
    exceeds_more capacity (size (insert m n b)) (size (insert m n c)) (omega (arith, one, two, le)) over

-- what is held still fits where nothing is changed
pub within_stays : (s t : State) → t.capacity ≡ s.capacity → Stays s t → IsWithin s → IsWithin t
within_stays s t same_capacity stays fits = subst (λ (m : Map). Fits t.capacity (size m)) (sym stays.held) (subst (λ (c : Option ℕ). Fits c (size s.held)) (sym same_capacity) fits)

-- and after a good write
pub within_put : {T : Type 0} (s t : State) (name bytes : List ℕ) (x : T) → t.capacity ≡ s.capacity → Writes name bytes s t (Ok x) → IsWithin t
within_put s t name bytes x same_capacity writes =
    subst (λ (m : Map). Fits t.capacity (size m)) (sym writes.ok) (subst (λ (c : Option ℕ). Fits c (size (insert s.held name bytes))) (sym same_capacity) writes.fits)

pub size-new : (m : Map) (n b : List ℕ) → get m n ≡ None → size (insert m n b) ≡ size m + (length n + length b)
size-new m n b none =
    let nothing : slot_size n (get m n) ≡ 0 = ap (slot_size n) none in
    let sum = size-insert m n b in
    omega (arith, sum, nothing)

holds_some : (o : Option (List ℕ)) (bytes : List ℕ) (n : ℕ) → o ≡ Some bytes → length bytes ≤ n → IfSome o (λ b. length b ≤ n)
holds_some o bytes n is le = subst (λ (w : Option (List ℕ)). IfSome w (λ b. length b ≤ n)) (sym is) le

holds_itself : (o : Option (List ℕ)) (n : ℕ) → IfSome o (λ b. length b ≤ max (length (bytes_or_none o)) n)
holds_itself None n = tt
holds_itself (Some b) n = omega arith

holds_longer : (o : Option (List ℕ)) (m n : ℕ) → m ≤ n → IfSome o (λ b. length b ≤ m) → IfSome o (λ b. length b ≤ n)
holds_longer None m n le h = tt
holds_longer (Some b) m n le h = omega (arith, le, h)

-- what a name may hold after calls that change it
pub no_more_start : (s t : State) (name : List ℕ) (n : ℕ) → t.held ≡ s.held → HoldsNoMore name n s t
no_more_start s t name n same_held = subst (λ (m : Map). HoldsAtMost m name (max (length (bytes_or_none (get s.held name))) n)) (sym same_held) (holds_itself (get s.held name) n)

pub no_more_held : (s t : State) (name bytes : List ℕ) → t.held ≡ insert s.held name bytes → HoldsNoMore name (length bytes) s t
no_more_held s t name bytes held = holds_some (get t.held name) bytes _ (ap (λ (m : Map). get m name) held ∙ get-insert_same s.held name bytes) (omega arith)

pub no_more_longer : (s t : State) (name : List ℕ) (m n : ℕ) → m ≤ n → HoldsNoMore name m s t → HoldsNoMore name n s t
no_more_longer s t name m n le h = holds_longer (get t.held name) _ _ (omega (arith, le)) h

pub no_more_stays : (s t u : State) (name : List ℕ) (n : ℕ) → u.held ≡ t.held → HoldsNoMore name n s t → HoldsNoMore name n s u
no_more_stays s t u name n same_held h = subst (λ (m : Map). HoldsAtMost m name (max (length (bytes_or_none (get s.held name))) n)) (sym same_held) h

pub no_more_looked : (s t u : State) (name : List ℕ) (n : ℕ) → t.held ≡ s.held → HoldsNoMore name n t u → HoldsNoMore name n s u
no_more_looked s t u name n same_held h = subst (λ (m : Map). HoldsAtMost u.held name (max (length (bytes_or_none (get m name))) n)) same_held h

-- behind a call that gave it these bytes
pub no_more_then : (s t u : State) (name bytes : List ℕ) (n : ℕ) → get t.held name ≡ Some bytes → length bytes ≤ n → HoldsNoMore name n t u → HoldsNoMore name n s u
no_more_then s t u name bytes n is le h =
    let long : length (bytes_or_none (get t.held name)) ≡ length bytes = ap (λ (o : Option (List ℕ)). length (bytes_or_none o)) is in
    holds_longer (get u.held name) _ _ (omega (arith, long, le)) h

pub no_more_written : {T : Type 0} (s t : State) (name bytes : List ℕ) (w : Result T PutFault) → Writes name bytes s t w → HoldsNoMore name (length bytes) s t
no_more_written s t name bytes (Ok x) writes = no_more_held s t name bytes writes.ok
no_more_written s t name bytes (Err put.NoMemory) writes = no_more_start s t name (length bytes) (writes.no_memory refl).held
no_more_written s t name bytes (Err put.Failed) writes = writes.failed refl
no_more_written s t name bytes (Err put.Full) writes = no_more_start s t name (length bytes) (writes.full refl).held

-- a new name, and how much more that is at most
pub size_most : (h d : Map) (x : List ℕ) (n : ℕ) → OthersStay x h d → get h x ≡ None → HoldsAtMost d x (max (length (bytes_or_none (get h x))) n) → size d ≤ size h + (length x + n)
size_most h d x n others none most =
    let map : d ≡ set_to h x (get d x) = same d (set_to h x (get d x)) (λ q. ⊎_elim
    (λ (e : q ≡ x). ap (λ (y : List ℕ). get d y) e ∙ sym (ap (λ (y : List ℕ). get (set_to h x (get d x)) y) e ∙ get-set_to h x (get d x) x ∙ ap (λ b. cond b (get d x) (get h x)) (same_itself x)))
    (λ (ne : q ≢ x). others q ne ∙ sym (get-set_to h x (get d x) q ∙ ap (λ b. cond b (get d x) (get h q)) (same_name-other q x ne)))
    (name_cases q x)) in
    let sum = size-set_to h x (get d x) in
    let was : slot_size x (get h x) ≡ 0 = ap (slot_size x) none in
    let old : length (bytes_or_none (get h x)) ≡ 0 = ap (λ (o : Option (List ℕ)). length (bytes_or_none o)) none in
    let slot : slot_size x (get d x) ≤ length x + n = at_most (get d x) (holds_longer (get d x) _ n (omega (arith, old)) most) in
    omega (arith, ap size map, sum, was, slot)
  where
    at_most : (o : Option (List ℕ)) → IfSome o (λ b. length b ≤ n) → slot_size x o ≤ length x + n
    at_most None h = omega arith
    at_most (Some b) h = omega (arith, h)
