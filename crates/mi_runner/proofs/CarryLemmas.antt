-- Records carried out over an area, one after the other.
use Rattle.std.proofs.Common.{◌≡◌, ◌≢◌, ⊎_elim, ℕ, ◌+◌, ◌≤◌, ◌<◌, max, Bool, true, false, ◌||◌, List, [], ◌∷◌, ◌++◌, length, map, take, drop, get_or, Option, Result, Ok, Err, refl, sym, ap, subst, ◌∙◌, arith}
use Rattle.std.proofs.lemmas.List.{map-append, take_all, take-append-drop}
use Rattle.std.specs.FinMap.{get, insert}
use Rattle.mi_text.specs.Maps.{Name, same_name, is_among}
use Rattle.mi_text.proofs.MapLemmas.{same_itself, is_among-append}
use Rattle.mi_volume.specs.Maps.{Map, size, slot_size, Exceeds}
use Rattle.mi_volume.specs.State.{State, Rose}
use Rattle.mi_volume.proofs.MapLemmas.{name_cases}
use Rattle.mi_volume.proofs.Moments.{rose_before}
use Rattle.mi_source.specs.Paths.{Files}
use Rattle.mi_script.specs.declared.rec.Rec.{Rec}
use Rattle.mi_script.specs.Scripts.{name_at, after_script, touched_names}
use Rattle.mi_undo.specs.Names.{is_inside}
use Rattle.mi_undo.specs.Stands.{outside}
use Rattle.mi_undo.specs.Area.{AreOutside, volume, IsWorking}
use Rattle.mi_undo.specs.declared.kept.Kept.{Kept}
use Rattle.mi_undo.specs.declared.area.Open.{Open}
use Rattle.mi_undo.proofs.StepLemmas.{exceeds_more}
use Rattle.mi_runner.specs.declared.fault.RunFault.{RunFault}
use Rattle.mi_runner.specs.declared.fault.RunFault.TheVariants as run
use Rattle.mi_runner.specs.Records.{MayCarry}
use Rattle.mi_runner.specs.Sizes.{size_after, greatest, growth}
use Rattle.mi_runner.specs.Steps.{Overflows, KeepsOver, Writes}
use Rattle.mi_runner.proofs.StepLemmas.{keeps_start, keeps_then, keeps_more}
use Rattle.mi_runner.proofs.SizeLemmas.{next_is, greatest_before, greatest_here, greatest_front, room_for}
use Rattle.mi_runner.proofs.RecordLemmas.{after_one, next_map, is_among-touched, among_at, outside_at}

-- the names that some records change
abbrev pub IsNamed : List Rec → Name → Type 0
IsNamed rs q = is_among q (map name_at rs) ≡ true

named-append : (xs ys : List Rec) (q : Name) → is_among q (map name_at (xs ++ ys)) ≡ (is_among q (map name_at xs) || is_among q (map name_at ys))
named-append xs ys q = ap (is_among q) (map-append name_at xs ys) ∙ is_among-append q (map name_at xs) (map name_at ys)

or_left : (a b : Bool) → a ≡ true → (a || b) ≡ true
or_left a b is = ap (λ (x : Bool). x || b) is

or_right : (a b : Bool) → b ≡ true → (a || b) ≡ true
or_right true b is = refl
or_right false b is = is

module _ (rs : List Rec) (k : ℕ) (r : Rec) (below : k < length rs) (is : r ≡ get_or rs k r) where
  named_next : (q : Name) → is_among q (map name_at (take (k + 1) rs)) ≡ (is_among q (map name_at (take k rs)) || is_among q (map name_at (r ∷ [])))
  named_next q = ap (λ (l : List Rec). is_among q (map name_at l)) (next_is rs k r below is) ∙ named-append (take k rs) (r ∷ []) q

  named_before : (q : Name) → IsNamed (take k rs) q → IsNamed (take (k + 1) rs) q
  named_before q named = named_next q ∙ or_left _ _ named

  named_here : (q : Name) → q ≡ name_at r → IsNamed (take (k + 1) rs) q
  named_here q e = named_next q ∙ or_right _ _ (ap (λ (b : Bool). b || false) (ap (same_name q) (sym e) ∙ same_itself q))

named_front : (rs : List Rec) (k : ℕ) (q : Name) → IsNamed (take k rs) q → IsNamed rs q
named_front rs k q named = ap (λ (l : List Rec). is_among q (map name_at l)) (sym (take-append-drop k rs)) ∙ named-append (take k rs) (drop k rs) q ∙ or_left _ _ named

module _ {V : Type 0} (told : Type 0) (state : V → State) (source_told : Type 0) (files : Files) where
  abbrev held_by : Open V Kept → Map
  held_by o = (state (volume o)).held

  -- these records are carried out
  pub record Carried (a b : Open V Kept) (done : List Rec) : Type 0 where
    pub keeps : KeepsOver told state a b (IsNamed done)
    pub working : IsWorking b
    pub made : told → source_told → outside (held_by b) ≡ after_script files (outside (held_by a)) done
    pub longest : told → (q : Name) → slot_size q (get (held_by b) q) ≤ max (slot_size q (get (held_by a) q)) (greatest done q)

  pub carried_starts : (a : Open V Kept) → IsWorking a → Carried a a []
  carried_starts a working = record { keeps = keeps_start told state a (IsNamed []); working = working; made = λ t s. refl; longest = λ t q. omega arith }

  -- a record more
  module _ (a b c : Open V Kept) (rs : List Rec) (k : ℕ) (r : Rec) (below : k < length rs) (is : r ≡ get_or rs k r) (so_far : Carried a b (take k rs)) where
    keeps_next : KeepsOver told state b c (λ q. q ≡ name_at r) → KeepsOver told state a c (IsNamed (take (k + 1) rs))
    keeps_next one = keeps_then told state a b c (IsNamed (take (k + 1) rs))
        (keeps_more told state a b (IsNamed (take k rs)) (IsNamed (take (k + 1) rs)) (named_before rs k r below is) so_far.keeps)
        (keeps_more told state b c (λ q. q ≡ name_at r) (IsNamed (take (k + 1) rs)) (named_here rs k r below is) one)

    longest_other : KeepsOver told state b c (λ q. q ≡ name_at r) → told → (q : Name) → q ≢ name_at r → slot_size q (get (held_by c) q) ≤ max (slot_size q (get (held_by a) q)) (greatest (take (k + 1) rs) q)
    longest_other one t q ne =
        let still : slot_size q (get (held_by c) q) ≡ slot_size q (get (held_by b) q) = ap (slot_size q) (one.others t q ne) in
        omega (arith, still, so_far.longest t q, greatest_before rs k r below is q)

    longest_next : KeepsOver told state b c (λ q. q ≡ name_at r) → told → slot_size (name_at r) (get (held_by c) (name_at r)) ≤ max (slot_size (name_at r) (get (held_by b) (name_at r))) (size_after r)
        → (q : Name) → slot_size q (get (held_by c) q) ≤ max (slot_size q (get (held_by a) q)) (greatest (take (k + 1) rs) q)
    longest_next one t most q = ⊎_elim
        (λ (e : q ≡ name_at r). subst (λ (x : Name). slot_size x (get (held_by c) x) ≤ max (slot_size x (get (held_by a) x)) (greatest (take (k + 1) rs) x)) (sym e)
        (omega (arith, most, so_far.longest t (name_at r), greatest_before rs k r below is (name_at r), greatest_here rs k r below is)))
        (λ ne. longest_other one t q ne)
        (name_cases q (name_at r))

    pub carried_more : {T : Type 0} (x : T) → MayCarry r → is_inside (name_at r) ≡ false → Writes told state b c (name_at r) (size_after r) run.Volume run.Full (Ok x) → (told → source_told → held_by c ≡ after_one files (held_by b) r) → Carried a c (take (k + 1) rs)
    carried_more x may out w put = record {
      keeps = keeps_next w.keeps;
      working = w.working;
      made = λ t s. next_map files (held_by a) (held_by b) (held_by c) rs k r below is may out (so_far.made t s) (put t s);
      longest = λ t q. longest_next w.keeps t (w.most t (λ failed. absurd (cc))) q;
    }

    -- after a record that failed
    pub failed_keeps : {T : Type 0} (e : RunFault) → Writes told state b c {T = T} (name_at r) (size_after r) run.Volume run.Full (Err e) → KeepsOver told state a c (IsNamed rs)
    failed_keeps e w = keeps_more told state a c (IsNamed (take (k + 1) rs)) (IsNamed rs) (named_front rs (k + 1)) (keeps_next w.keeps)

    pub failed_others : {T : Type 0} (e : RunFault) → Writes told state b c {T = T} (name_at r) (size_after r) run.Volume run.Full (Err e) → told → (q : Name) → q ≢ name_at r → slot_size q (get (held_by c) q) ≤ max (slot_size q (get (held_by a) q)) (greatest rs q)
    failed_others e w t q ne = omega (arith, longest_other w.keeps t q ne, greatest_front rs (k + 1) q)

    pub failed_longest : {T : Type 0} (e : RunFault) → Writes told state b c {T = T} (name_at r) (size_after r) run.Volume run.Full (Err e) → told → (e ≡ run.Volume → ⊥) → (q : Name) → slot_size q (get (held_by c) q) ≤ max (slot_size q (get (held_by a) q)) (greatest rs q)
    failed_longest {T} e w t other q = omega (arith, longest_next w.keeps t (w.most t (λ failed. other (one_error failed))) q, greatest_front rs (k + 1) q)
      where
        one_error : ◌≡◌ {A = Result T RunFault} (Err e) (Err run.Volume) → e ≡ run.Volume
        one_error failed = cc

    pub failed_rose : {T : Type 0} (e : RunFault) → Writes told state b c {T = T} (name_at r) (size_after r) run.Volume run.Full (Err e) → e ≡ run.Volume → Rose (state (volume a)) (state (volume c))
    failed_rose {T} e w failed = rose_before (state (volume a)) (state (volume b)) (state (volume c)) so_far.keeps.passes (w.rose (ap Err failed))

    pub failed_full : {T : Type 0} (e : RunFault) → AreOutside (touched_names rs) → Writes told state b c {T = T} (name_at r) (size_after r) run.Volume run.Full (Err e) → e ≡ run.Full → told × Exceeds (state (volume a)).capacity (size (held_by a) + growth (outside (held_by a)) rs (touched_names rs))
    failed_full {T} e out w failed = at (w.overflows (ap Err failed))
      where
        at : Overflows told (state (volume b)) (name_at r) (size_after r) → told × Exceeds (state (volume a)).capacity (size (held_by a) + growth (outside (held_by a)) rs (touched_names rs))
        at o =
            let fits : size (insert (held_by b) (name_at r) o.bytes) ≤ size (held_by a) + growth (outside (held_by a)) rs (touched_names rs) =
            room_for (held_by a) (held_by b) rs (touched_names rs) (name_at r) o.bytes
            (λ q free. so_far.keeps.others o.is_told q (λ named. clash q free (named_front rs k q named)))
            (λ q. omega (arith, so_far.longest o.is_told q, greatest_front rs k q))
            (λ q held. outside_at (touched_names rs) q out held)
            (is_among-touched rs (name_at r) ∙ among_at rs k r below is)
            (let small = o.small in omega (arith, small, greatest_here rs k r below is, greatest_front rs (k + 1) (name_at r))) in
            let over = subst (λ (capacity : Option ℕ). Exceeds capacity (size (insert (held_by b) (name_at r) o.bytes))) so_far.keeps.passes.capacity o.passes in
            (o.is_told, exceeds_more (state (volume a)).capacity (size (insert (held_by b) (name_at r) o.bytes)) (size (held_by a) + growth (outside (held_by a)) rs (touched_names rs)) fits over)
          where
            clash : (q : Name) → is_among q (touched_names rs) ≡ false → IsNamed rs q → ⊥
            clash q free named = let both : false ≡ true = sym free ∙ is_among-touched rs q ∙ named in cc

  -- all of them
  pub carried_all : (a b : Open V Kept) (rs : List Rec) (k : ℕ) → length rs ≤ k → Carried a b (take k rs) → Carried a b rs
  carried_all a b rs k le so_far = subst (λ (l : List Rec). Carried a b l) (take_all k rs le) so_far
