-- Room, from call to call of a walk.
use Rattle.std.proofs.Common.{◌≡◌, ℕ, ◌+◌, ◌≤◌, ◌<◌, false, List, [], ◌∷◌, ◌++◌, length, map, take, drop, get_or, Option, None, Some, Result, Ok, Err, refl, sym, ap, subst, ◌∙◌, arith}
use Rattle.std.specs.List.{All, AllByRecursion}
use Rattle.std.proofs.lemmas.List.{take_more, take-append-drop, map-append}
use Rattle.std.proofs.lemmas.List.Elements.{All-from_recursion}
use Rattle.std.specs.FinMap.{get}
use Rattle.mi_text.specs.Maps.{Name, is_among}
use Rattle.mi_volume.specs.Maps.{Map, size, Fits, Exceeds}
use Rattle.mi_volume.specs.State.{State, GoesOn}
use Rattle.mi_volume.proofs.Moments.{started, joined}
use Rattle.mi_script.specs.declared.rec.Rec.{Rec}
use Rattle.mi_script.specs.Scripts.{name_at, touched_names}
use Rattle.mi_undo.specs.Notes.{notes_for, new_names}
use Rattle.mi_undo.specs.Stands.{outside, area_of}
use Rattle.mi_undo.specs.Area.{AreOutside}
use Rattle.mi_undo.specs.Room.{TakesAtMost, KeepsRoom, NeverShort, CommitsRoom, entry_size}
use Rattle.mi_undo.specs.declared.fault.CommitFault.{CommitFault}
use Rattle.mi_undo.specs.declared.fault.CommitFault.TheVariants as commit
use Rattle.mi_runner.specs.Records.{MayCarry}
use Rattle.mi_runner.specs.Sizes.{most_held, IsNoLonger}
use Rattle.mi_model.specs.Plans.{Planned}
use Rattle.mi_model.specs.StatedSizes.{all_records, stated_cost}
use Rattle.mi_carry.specs.declared.stop.Halt.{Halt}
use Rattle.mi_carry.specs.declared.stop.Halt.TheVariants.{Back}
use Rattle.mi_carry.specs.declared.stop.Stopped.{Stopped}
use Rattle.mi_carry.specs.Halts.{halt_of}
use Rattle.mi_carry.specs.Rooms.{HasRoom, scripts_of, IsRoomy, FitsBack, StaysRoomy, EndsRoomy}
use Rattle.mi_carry.specs.Segments.{HaveNoRecord}
use Rattle.mi_carry.proofs.SumLemmas.{SoFar, names_of, whole, whole_is, least_cost, none_so_far, notes_fit, next_so_far, next_fits, script_fits}

-- ---- capacities

-- what fits isn't passed
pub never_over : (capacity : Option ℕ) (n m : ℕ) → n ≤ m → Exceeds capacity n → Fits capacity m → ⊥
never_over None n m le over fits = over
never_over (Some c) n m le over fits = omega (arith, le, over, fits)

pub fits_less : (capacity : Option ℕ) (n m : ℕ) → n ≤ m → Fits capacity m → Fits capacity n
fits_less None n m le fits = tt
fits_less (Some c) n m le fits = omega (arith, le, fits)

-- ---- the first segments are carried out

pub record RoomSoFar (s t : State) (F : Map) (noted : List Name) (front : List Planned) : Type 0 where
  pub n : ℕ
  pub so_far : SoFar F t.held noted n (scripts_of front)
  pub takes : TakesAtMost n t
  pub goes : GoesOn s t (NeverShort s.capacity)

pub room_starts : (s : State) (F : Map) (noted : List Name) (parts : List Planned) → noted ≡ [] → IsRoomy s F parts → RoomSoFar s s F noted []
room_starts s F noted parts none roomy = record { n = 0; so_far = none_so_far F s.held noted none roomy.outside; takes = roomy.takes; goes = started s (NeverShort s.capacity) }

scripts-append : (xs ys : List Planned) → scripts_of (xs ++ ys) ≡ scripts_of xs ++ scripts_of ys
scripts-append xs ys = map-append (λ (p : Planned). p.records) xs ys

-- what they all cost, with the area's marker
module _ (s : State) (F : Map) (parts : List Planned) (roomy : IsRoomy s F parts) where
  all_fits : (n : ℕ) → n ≤ size F + whole F (scripts_of parts) → Fits s.capacity n
  all_fits n le = fits_less s.capacity n (size F + stated_cost F (scripts_of parts)) (let is = whole_is F (scripts_of parts) roomy.marker in omega (arith, le, is)) roomy.fits

-- the notes so far, and the former map
pub room_is_kept : (s t : State) (F : Map) (noted : List Name) (parts : List Planned) (k : ℕ) → IsRoomy s F parts → RoomSoFar s t F noted (take k parts) → StaysRoomy s t F
room_is_kept s t F noted parts k roomy r = record {
  goes = r.goes;
  back = record { n = r.n; takes = r.takes; fits = subst (λ (c : Option ℕ). Fits c (size F + (4 + r.n))) (sym r.goes.capacity) (all_fits s F parts roomy (size F + (4 + r.n)) (omega (arith, fit))) };
}
  where
    fit : 4 + r.n ≤ whole F (scripts_of parts)
    fit = subst (λ (l : List (List Rec)). 4 + r.n ≤ whole F l) (sym (scripts-append (take k parts) (drop k parts)) ∙ ap scripts_of (take-append-drop k parts))
        (notes_fit F noted (scripts_of (take k parts)) (scripts_of (drop k parts)) r.so_far.apart (λ q is. sym (r.so_far.names q) ∙ is) r.n r.so_far.bytes)

-- ---- a segment more

module _ (s t : State) (F : Map) (noted : List Name) (parts : List Planned) (k : ℕ) (p : Planned) (below : k < length parts) (is : p ≡ get_or parts k p) (roomy : IsRoomy s F parts)
    (r : RoomSoFar s t F noted (take k parts)) (out : AreOutside (touched_names p.records)) (may : All MayCarry p.records) where
  next_scripts : scripts_of (take (k + 1) parts) ≡ scripts_of (take k parts) ++ p.records ∷ []
  next_scripts = ap scripts_of (take_more parts k p below ∙ ap (λ (x : Planned). take k parts ++ x ∷ []) (sym is)) ∙ scripts-append (take k parts) (p ∷ [])

  all_scripts : scripts_of parts ≡ (scripts_of (take k parts) ++ p.records ∷ []) ++ scripts_of (drop (k + 1) parts)
  all_scripts = ap scripts_of (sym (take-append-drop (k + 1) parts)) ∙ scripts-append (take (k + 1) parts) (drop (k + 1) parts) ∙ ap (λ (l : List (List Rec)). l ++ scripts_of (drop (k + 1) parts)) next_scripts

  pub segment_fits : Fits t.capacity (most_held t.held noted p.records)
  segment_fits =
      let area = r.takes.held in
      let fit = script_fits F t.held noted r.n (scripts_of (take k parts)) p.records r.so_far out (scripts_of (drop (k + 1) parts)) area may in
      let same : whole F (scripts_of parts) ≡ whole F ((scripts_of (take k parts) ++ p.records ∷ []) ++ scripts_of (drop (k + 1) parts)) = ap (whole F) all_scripts in
      subst (λ (c : Option ℕ). Fits c (most_held t.held noted p.records)) (sym r.goes.capacity) (all_fits s F parts roomy (most_held t.held noted p.records) (omega (arith, fit, same)))

  more_fits : 4 + (r.n + entry_size (notes_for t.held (new_names noted (touched_names p.records)))) ≤ whole F (scripts_of parts)
  more_fits = subst (λ (l : List (List Rec)). 4 + (r.n + entry_size (notes_for t.held (new_names noted (touched_names p.records)))) ≤ whole F l) (sym all_scripts)
      (next_fits F t.held noted r.n (scripts_of (take k parts)) p.records r.so_far out (scripts_of (drop (k + 1) parts)))

  entry_fits : Fits s.capacity (size F + (4 + (r.n + entry_size (notes_for t.held (new_names noted (touched_names p.records))))))
  entry_fits = all_fits s F parts roomy _ (omega (arith, more_fits))

  -- after the segment, or where it failed
  segment_goes : (u : State) → KeepsRoom t u F (r.n + entry_size (notes_for t.held (new_names noted (touched_names p.records)))) → GoesOn s u (NeverShort s.capacity)
  segment_goes u keeps = joined s t u (NeverShort s.capacity) r.goes
      (subst (λ (c : Option ℕ). GoesOn t u (NeverShort c)) r.goes.capacity
      (keeps.goes (subst (λ (c : Option ℕ). Fits c (size F + (4 + (r.n + entry_size (notes_for t.held (new_names noted (touched_names p.records))))))) (sym r.goes.capacity) entry_fits)))

  pub segment_stays : (u : State) → KeepsRoom t u F (r.n + entry_size (notes_for t.held (new_names noted (touched_names p.records)))) → StaysRoomy s u F
  segment_stays u keeps = record {
    goes = segment_goes u keeps;
    back = record {
      n = r.n + entry_size (notes_for t.held (new_names noted (touched_names p.records)));
      takes = keeps.takes;
      fits = subst (λ (c : Option ℕ). Fits c (size F + (4 + (r.n + entry_size (notes_for t.held (new_names noted (touched_names p.records))))))) (sym (segment_goes u keeps).capacity) entry_fits;
    };
  }

  pub segment_next : (u : State) (noted' : List Name) → noted' ≡ noted ++ new_names noted (touched_names p.records) → KeepsRoom t u F (r.n + entry_size (notes_for t.held (new_names noted (touched_names p.records))))
      → ((q : Name) → is_among q (touched_names p.records) ≡ false → get (outside u.held) q ≡ get (outside t.held) q) → ((q : Name) → IsNoLonger t.held p.records u.held q) → RoomSoFar s u F noted' (take (k + 1) parts)
  segment_next u noted' noted_is keeps others longest = record {
    n = r.n + entry_size (notes_for t.held (new_names noted (touched_names p.records)));
    so_far = subst (λ (l : List Name). SoFar F u.held l (r.n + entry_size (notes_for t.held (new_names noted (touched_names p.records)))) (scripts_of (take (k + 1) parts))) (sym noted_is)
        (subst (λ (l : List (List Rec)). SoFar F u.held (noted ++ new_names noted (touched_names p.records)) (r.n + entry_size (notes_for t.held (new_names noted (touched_names p.records)))) l) (sym next_scripts)
        (next_so_far F t.held noted r.n (scripts_of (take k parts)) p.records r.so_far out u.held may others longest));
    takes = keeps.takes;
    goes = segment_goes u keeps;
  }

-- ---- the end of a walk

pub stopped_room : {T : Type 0} (s t : State) (F : Map) (stopped : Stopped) → StaysRoomy s t F → EndsRoomy {T = T} s t F (Err (Back stopped))
stopped_room s t F stopped stays = record { goes = stays.goes; back = stays.back }

module _ (s t u : State) (F : Map) (stays : StaysRoomy s t F) where
  commit_goes : {T : Type 0} (result : Result T CommitFault) → CommitsRoom t u F stays.back.n result → GoesOn s u (NeverShort s.capacity)
  commit_goes result room = joined s t u (NeverShort s.capacity) stays.goes (subst (λ (c : Option ℕ). GoesOn t u (NeverShort c)) stays.goes.capacity (room.goes stays.back.fits))

  commit_back : {T : Type 0} (result : Result T CommitFault) → CommitsRoom t u F stays.back.n result → TakesAtMost stays.back.n u → FitsBack u F
  commit_back result room takes = record { n = stays.back.n; takes = takes; fits = subst (λ (c : Option ℕ). Fits c (size F + (4 + stays.back.n))) (sym (room.goes stays.back.fits).capacity) stays.back.fits }

  pub done_room : {T U : Type 0} (x : U) (y : T) → CommitsRoom {T = U} t u F stays.back.n (Ok x) → EndsRoomy {T = T} s u F (Ok y)
  done_room x y room = record { goes = commit_goes (Ok x) room; back = tt }

  pub failed_room : {T U : Type 0} (fault : CommitFault) (reached : ℕ) → CommitsRoom {T = U} t u F stays.back.n (Err fault) → EndsRoomy {T = T} s u F (Err (halt_of fault reached))
  failed_room commit.Before reached room = record { goes = commit_goes (Err commit.Before) room; back = commit_back (Err commit.Before) room (room.before refl) }
  failed_room commit.Undoable reached room = record { goes = commit_goes (Err commit.Undoable) room; back = commit_back (Err commit.Undoable) room (room.undoable refl) }
  failed_room (commit.Unknown first second) reached room = record { goes = commit_goes (Err (commit.Unknown first second)) room; back = tt }

-- ---- going back

pub back_fits : (t : State) (F : Map) → FitsBack t F → Exceeds t.capacity (size F + size (area_of t.held)) → ⊥
back_fits t F b over = let area = b.takes.held in never_over t.capacity (size F + size (area_of t.held)) (size F + (4 + b.n)) (omega (arith, area)) over b.fits

-- ---- the beginning

no_name : (parts : List Planned) → names_of (scripts_of parts) ≡ [] → AllByRecursion (λ (p : Planned). p.records ≡ []) parts
no_name [] none = tt
no_name (p ∷ parts) none = (first p.records none, no_name parts (rest p.records none))
  where
    first : (rs : List Rec) → map name_at (rs ++ all_records (scripts_of parts)) ≡ [] → rs ≡ []
    first [] e = refl
    first (r ∷ rs) e = cc

    rest : (rs : List Rec) → map name_at (rs ++ all_records (scripts_of parts)) ≡ [] → map name_at (all_records (scripts_of parts)) ≡ []
    rest [] e = e
    rest (r ∷ rs) e = cc

marker_fits : (F : Map) (parts : List Planned) → (HaveNoRecord parts → ⊥) → 4 ≤ stated_cost F (scripts_of parts)
marker_fits F parts some = least_cost F (scripts_of parts) (λ none. some (All-from_recursion (λ (p : Planned). p.records ≡ []) parts (no_name parts none)))

module _ (s : State) (parts : List Planned) (some : HaveNoRecord parts → ⊥) (room : HasRoom s parts) where
  pub not_begun : Exceeds s.capacity (size s.held + 4) → ⊥
  not_begun over = never_over s.capacity (size s.held + 4) (size s.held + stated_cost s.held (scripts_of parts)) (omega (arith, marker_fits s.held parts some)) over room

  pub begun_goes : (t : State) → KeepsRoom s t s.held 0 → GoesOn s t (NeverShort s.capacity)
  begun_goes t keeps = keeps.goes (fits_less s.capacity (size s.held + (4 + 0)) (size s.held + stated_cost s.held (scripts_of parts)) (omega (arith, marker_fits s.held parts some)) room)

  pub begun_roomy : (t : State) → KeepsRoom s t s.held 0 → outside t.held ≡ s.held → IsRoomy t s.held parts
  begun_roomy t keeps out = record {
    takes = keeps.takes;
    outside = out;
    marker = marker_fits s.held parts some;
    fits = subst (λ (c : Option ℕ). Fits c (size s.held + stated_cost s.held (scripts_of parts))) (sym (begun_goes t keeps).capacity) room;
  }

  -- a walk over the area that was begun
  pub walked_goes : {T : Type 0} (t u : State) (result : Result T Halt) → KeepsRoom s t s.held 0 → EndsRoomy t u s.held result → GoesOn s u (NeverShort s.capacity)
  walked_goes t u result keeps ends = joined s t u (NeverShort s.capacity) (begun_goes t keeps) (subst (λ (c : Option ℕ). GoesOn t u (NeverShort c)) (begun_goes t keeps).capacity ends.goes)

  -- and going back behind it
  pub fallen_goes : {T : Type 0} (t u v : State) (result : Result T Halt) → KeepsRoom s t s.held 0 → EndsRoomy t u s.held result → GoesOn u v (NeverShort u.capacity) → GoesOn s v (NeverShort s.capacity)
  fallen_goes t u v result keeps ends back =
      let walked = walked_goes t u result keeps ends in
      joined s u v (NeverShort s.capacity) walked (subst (λ (c : Option ℕ). GoesOn u v (NeverShort c)) walked.capacity back)
