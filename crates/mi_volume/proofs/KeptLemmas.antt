-- What is kept, after a change at one name.
use Rattle.std.proofs.Common.{◌≡◌, ℕ, Bool, true, false, cond, not, List, ◌++◌, Option, Some, None, Result, Ok, Err, OnErr, refl, sym, ap, subst, ◌∙◌}
use Rattle.std.specs.Prelude.{option_map, option_and_then, unwrap_or, is_some}
use Rattle.std.specs.Option.{option_map_or}
use Rattle.std.specs.FinMap.{get, insert, get-insert, get-remove, get-empty}
use Rattle.mi_text.specs.Maps.{Name, same_name, set_to}
use Rattle.mi_text.proofs.MapLemmas.{names_total, from_same, same_itself, get-set_to, same}
use Rattle.mi_volume.specs.Maps.{Map, bytes_or_none}
use Rattle.mi_volume.specs.Kept.{Kept, changed, changed_if_held, cleaned, with_clean}
use Rattle.mi_volume.specs.Slots.{was, map_of, at_name, before_of, kept_of, Sets, Cleans, HaveSlots, noted_as, saved_as, is_unnoted}
use Rattle.mi_volume.specs.declared.before.Before.{Before}
use Rattle.mi_volume.specs.declared.before.Before.TheVariants.{Clean, Same, Absent, OneByte, Held}
use Rattle.mi_volume.proofs.SlotLemmas.{get-map_of, get-before_of, shown, sets_same, or_there, held_at}

pub same_kept : (k l : Kept) → k.held ≡ l.held → k.before ≡ l.before → k ≡ l
same_kept k l held before i = record { held = held i; before = before i }

noted_at : (k : Kept) (name q : Name) (o : Option (Option (List ℕ))) → get k.before name ≡ o
    → get (cond (is_some o) k.before (insert k.before name (get k.held name))) q ≡ cond (same_name q name) (Some (unwrap_or o (get k.held name))) (get k.before q)
noted_at k name q None at = get-insert names_total k.before name (get k.held name) q
noted_at k name q (Some w) at =
    elim (same_name q name) as (λ b. same_name q name ≡ b → get k.before q ≡ cond b (Some w) (get k.before q)) [
      | true ↦ λ e. ap (get k.before) (from_same q name e) ∙ at
      | false ↦ λ e. refl
    ] refl

-- a changed name notes what it held, if it hasn't yet
pub get-noted : (k : Kept) (name : Name) (now : Option (List ℕ)) (q : Name) → get (changed k name now).before q ≡ cond (same_name q name) (Some (unwrap_or (get k.before name) (get k.held name))) (get k.before q)
get-noted k name now q = noted_at k name q (get k.before name) refl

-- a slot that has noted what was held
noted_was : (saved b : Before) (now held : Option (List ℕ)) → was saved now ≡ Some held → was (noted_as saved b) now ≡ Some (unwrap_or (was b held) held)
noted_was saved Clean now held is = is
noted_was saved Same now held is = is
noted_was saved Absent now held is = refl
noted_was saved (OneByte b) now held is = refl
noted_was saved (Held bytes) now held is = refl

pub saved_was : (held now : Option (List ℕ)) → was (saved_as held) now ≡ Some held
saved_was None now = refl
saved_was (Some bytes) now = refl

held_view : (h h' : List (Name × List ℕ)) (name : Name) (now : Option (List ℕ)) → Sets name now h h' → map_of h' ≡ set_to (map_of h) name now
held_view h h' name now sets = same (map_of h') (set_to (map_of h) name now) (λ q.
    get-map_of h' q ∙ sets q ∙ ap (cond (same_name q name) now) (sym (get-map_of h q)) ∙ sym (get-set_to (map_of h) name now q))

same_shown : (held : Map) (name : Name) (at : Option (List ℕ)) (o : Option Before) → get held name ≡ at → unwrap_or (shown held name o) (get held name) ≡ unwrap_or (was (unwrap_or o Clean) at) at
same_shown held name at None is = is
same_shown held name at (Some b) is = ap (λ (x : Option (List ℕ)). unwrap_or (was b x) x) is

-- what a slot shows, by what the name holds now
abbrev shown_as : Option (List ℕ) → Option Before → Option (Option (List ℕ))
shown_as at slot = option_and_then (λ b. was b at) slot

slot_view : (h h' : List (Name × List ℕ)) (es es' : List (Name × Before)) (name : Name) (now : Option (List ℕ)) (b : Before)
    → Sets name now h h' → Sets name (Some b) es es' → was b now ≡ Some (unwrap_or (get (before_of (map_of h) es) name) (get (map_of h) name))
    → kept_of h' es' ≡ changed (kept_of h es) name now
slot_view h h' es es' name now b sets slot is =
    same_kept _ _ (held_view h h' name now sets) (same _ _ (λ q.
    get-before_of (map_of h') es' q ∙ ap (shown (map_of h') q) (slot q)
    ∙ elim (same_name q name) as (λ t. same_name q name ≡ t → shown (map_of h') q (cond t (Some b) (at_name es q)) ≡ cond t (Some (unwrap_or (get (before_of (map_of h) es) name) (get (map_of h) name))) (get (before_of (map_of h) es) q)) [
      | true ↦ λ e. ap (was b) (get-map_of h' q ∙ sets q ∙ ap (λ t. cond t now (at_name h q)) e) ∙ is
      | false ↦ λ e. ap (λ (o : Option (List ℕ)). shown_as o (at_name es q)) (get-map_of h' q ∙ sets q ∙ ap (λ t. cond t now (at_name h q)) e ∙ sym (get-map_of h q)) ∙ sym (get-before_of (map_of h) es q)
    ] refl
    ∙ sym (get-noted (kept_of h es) name now q)))

-- the slot may have been made just before
pub changed_view : (h h' : List (Name × List ℕ)) (es es' new : List (Name × Before)) (name : Name) (now : Option (List ℕ)) (saved : Before)
    → Sets name now h h' → Sets name (Some (unwrap_or (at_name es name) Clean)) es es' → Sets name (option_map (noted_as saved) (at_name es' name)) es' new
    → was saved now ≡ Some (at_name h name)
    → kept_of h' new ≡ changed (kept_of h es) name now
changed_view h h' es es' new name now saved sets made noted is =
    slot_view h h' es new name now (noted_as saved (unwrap_or (at_name es name) Clean)) sets both
    (noted_was saved (unwrap_or (at_name es name) Clean) now (at_name h name) is ∙ ap Some (sym (ap (λ o. unwrap_or o (get (map_of h) name)) (get-before_of (map_of h) es name) ∙ same_shown (map_of h) name (at_name h name) (at_name es name) (get-map_of h name))))
  where
    there : at_name es' name ≡ Some (unwrap_or (at_name es name) Clean)
    there = made name ∙ ap (λ b. cond b (Some (unwrap_or (at_name es name) Clean)) (at_name es name)) (same_itself name)

    both : Sets name (Some (noted_as saved (unwrap_or (at_name es name) Clean))) es new
    both q = noted q ∙ ap (λ o. cond (same_name q name) (option_map (noted_as saved) o) (at_name es' q)) there ∙ ap (cond (same_name q name) (Some (noted_as saved (unwrap_or (at_name es name) Clean)))) (made q) ∙ twice (same_name q name)
      where
        twice : (b : Bool) → cond b (Some (noted_as saved (unwrap_or (at_name es name) Clean))) (cond b (Some (unwrap_or (at_name es name) Clean)) (at_name es q)) ≡ cond b (Some (noted_as saved (unwrap_or (at_name es name) Clean))) (at_name es q)
        twice true = refl
        twice false = refl

-- a slot that is made shows nothing
pub made_view : (h : List (Name × List ℕ)) (es es' : List (Name × Before)) (name : Name) → Sets name (Some (unwrap_or (at_name es name) Clean)) es es' → kept_of h es' ≡ kept_of h es
made_view h es es' name made =
    same_kept _ _ refl (same _ _ (λ q. get-before_of (map_of h) es' q ∙ ap (shown (map_of h) q) (made q)
    ∙ elim (same_name q name) as (λ t. same_name q name ≡ t → shown (map_of h) q (cond t (Some (unwrap_or (at_name es name) Clean)) (at_name es q)) ≡ shown (map_of h) q (at_name es q)) [
      | true ↦ λ e. clean_shows (at_name es name) q ∙ ap (λ n. shown (map_of h) q (at_name es n)) (sym (from_same q name e))
      | false ↦ λ e. refl
    ] refl ∙ sym (get-before_of (map_of h) es q)))
  where
    clean_shows : (o : Option Before) (q : Name) → shown (map_of h) q (Some (unwrap_or o Clean)) ≡ shown (map_of h) q o
    clean_shows None q = refl
    clean_shows (Some b) q = refl

pub have_slots : (h h' : List (Name × List ℕ)) (es es' : List (Name × Before)) (name : Name) (now : Option (List ℕ)) (slot : Option Before)
    → HaveSlots h es → Sets name now h h' → Sets name slot es es' → (is_some now ≡ true → is_some slot ≡ true) → HaveSlots h' es'
have_slots h h' es es' name now slot have sets made there q held =
    ap is_some (made q) ∙ elim (same_name q name) as (λ t. is_some (cond t now (at_name h q)) ≡ true → is_some (cond t slot (at_name es q)) ≡ true) [
      | true ↦ there
      | false ↦ have q
    ] (sym (ap is_some (sets q)) ∙ held)

-- the name is held, so it has a slot
pub changed_held : (h h' : List (Name × List ℕ)) (es new : List (Name × Before)) (name : Name) (now : Option (List ℕ)) (saved : Before) (old : List ℕ)
    → HaveSlots h es → at_name h name ≡ Some old → Sets name now h h' → Sets name (option_map (noted_as saved) (at_name es name)) es new → was saved now ≡ Some (Some old)
    → (kept_of h' new ≡ changed (kept_of h es) name now) × HaveSlots h' new
changed_held h h' es new name now saved old have held sets noted is =
    let slot : is_some (at_name es name) ≡ true = have name (ap is_some held) in (
      changed_view h h' es es new name now saved sets (sets_same es name _ (or_there (at_name es name) Clean true (sym slot) refl)) noted (is ∙ ap Some (sym held)),
      have_slots h h' es new name now (option_map (noted_as saved) (at_name es name)) have sets noted (λ _. mapped (at_name es name) slot),
    )
  where
    mapped : (o : Option Before) → is_some o ≡ true → is_some (option_map (noted_as saved) o) ≡ true
    mapped None none = none
    mapped (Some b) some = some

-- a slot that has noted what was held doesn't note again
pub noted_stays : (o : Option Before) (saved : Before) → option_map_or (λ b. not (is_unnoted b)) o false ≡ true → option_map (noted_as saved) o ≡ o
noted_stays None saved noted = refl
noted_stays (Some Clean) saved noted = cc
noted_stays (Some Same) saved noted = cc
noted_stays (Some Absent) saved noted = refl
noted_stays (Some (OneByte b)) saved noted = refl
noted_stays (Some (Held bytes)) saved noted = refl

pub if_held : (k : Kept) (name : Name) (now : Option (List ℕ)) (old : List ℕ) → get k.held name ≡ Some old → changed_if_held k name now ≡ changed k name now
if_held k name now old held = ap (λ o. cond (is_some o) (changed k name now) k) held

pub if_absent : (k : Kept) (name : Name) (now : Option (List ℕ)) → get k.held name ≡ None → changed_if_held k name now ≡ k
if_absent k name now none = ap (λ o. cond (is_some o) (changed k name now) k) none

pub cleaned_view : (h : List (Name × List ℕ)) (es new : List (Name × Before)) → Cleans h es new → kept_of h new ≡ cleaned (kept_of h es)
cleaned_view h es new cleans = same_kept _ _ refl (same _ _ (λ q. get-before_of (map_of h) new q ∙ none q (at_name new q) (cleans.clean q) ∙ sym (get-empty _ q)))
  where
    none : (q : Name) (o : Option Before) → ((b : Before) → o ≡ Some b → b ≡ Clean) → shown (map_of h) q o ≡ None
    none q None clean = refl
    none q (Some b) clean = ap (λ x. was x (get (map_of h) q)) (clean b refl)

pub cleaned_slots : (h : List (Name × List ℕ)) (es new : List (Name × Before)) → HaveSlots h es → Cleans h es new → HaveSlots h new
cleaned_slots h es new have cleans q held = cleans.kept q held (have q held)

pub always_err : {T E P : Type 0} → (r : Result T E) → P → OnErr r P
always_err (Ok x) p = tt
always_err (Err e) p = p

-- a slot that was made just before, or noted
pub made_slots : (h h' : List (Name × List ℕ)) (es es' new : List (Name × Before)) (name : Name) (now : Option (List ℕ)) (saved : Before)
    → HaveSlots h es → Sets name now h h' → Sets name (Some (unwrap_or (at_name es name) Clean)) es es' → Sets name (option_map (noted_as saved) (at_name es' name)) es' new → HaveSlots h' new
made_slots h h' es es' new name now saved have sets made noted =
    have_slots h h' es' new name now (option_map (noted_as saved) (at_name es' name)) (λ q held. ap is_some (made q) ∙ slot (same_name q name) (at_name es q) (have q held)) sets noted
    (λ _. ap (λ o. is_some (option_map (noted_as saved) o)) (made name ∙ ap (λ b. cond b (Some (unwrap_or (at_name es name) Clean)) (at_name es name)) (same_itself name)))
  where
    slot : (b : Bool) (o : Option Before) → is_some o ≡ true → is_some (cond b (Some (unwrap_or (at_name es name) Clean)) o) ≡ true
    slot true o is = refl
    slot false o is = is

-- a name that is made dirty and holds what it held
touched_both : (h : List (Name × List ℕ)) (es new : List (Name × Before)) (name : Name) (o : Option (List ℕ)) → HaveSlots h es → at_name h name ≡ o → is_some o ≡ true → Sets name (option_map (noted_as Same) (at_name es name)) es new
    → (kept_of h new ≡ changed (kept_of h es) name o) × HaveSlots h new
touched_both h es new name None have at held noted = cc
touched_both h es new name (Some bytes) have at held noted =
    changed_held h h es new name (Some bytes) Same bytes have at (sets_same h name (Some bytes) (sym at)) noted refl

pub touched_slots : (h : List (Name × List ℕ)) (es new : List (Name × Before)) (name : Name) (b : Bool) → HaveSlots h es → b ≡ is_some (at_name h name) → b ≡ true → Sets name (option_map (noted_as Same) (at_name es name)) es new → HaveSlots h new
touched_slots h es new name b have is held noted = (touched_both h es new name (at_name h name) have refl (sym is ∙ held) noted).1

pub touched : (h : List (Name × List ℕ)) (es new : List (Name × Before)) (k : Kept) (name : Name) (b : Bool) → HaveSlots h es → kept_of h es ≡ k → b ≡ is_some (at_name h name) → b ≡ true
    → Sets name (option_map (noted_as Same) (at_name es name)) es new → kept_of h new ≡ changed_if_held k name (get k.held name)
touched h es new k name b have view is held noted =
    let at : get k.held name ≡ at_name h name = held_at h es k name (at_name h name) view refl in
    (touched_both h es new name (at_name h name) have refl (sym is ∙ held) noted).0
    ∙ ap (λ (k : Kept). changed k name (at_name h name)) view
    ∙ ap (changed k name) (sym at)
    ∙ sym (ap (λ b. cond b (changed k name (get k.held name)) k) (ap is_some at ∙ sym is ∙ held))

pub untouched : (h : List (Name × List ℕ)) (es : List (Name × Before)) (k : Kept) (name : Name) (b : Bool) → kept_of h es ≡ k → b ≡ is_some (at_name h name) → b ≡ false → k ≡ changed_if_held k name (get k.held name)
untouched h es k name b view is absent =
    let at : get k.held name ≡ at_name h name = held_at h es k name (at_name h name) view refl in
    sym (ap (λ b. cond b (changed k name (get k.held name)) k) (ap is_some at ∙ sym is ∙ absent))

-- bytes are added at the end of a name that is held
pub extended : (h h' : List (Name × List ℕ)) (es new : List (Name × Before)) (k : Kept) (name : Name) (bytes old : List ℕ) (saved : Before)
    → HaveSlots h es → kept_of h es ≡ k → Some old ≡ at_name h name → Sets name (option_map (λ b. b ++ bytes) (at_name h name)) h h' → Sets name (option_map (noted_as saved) (at_name es name)) es new
    → was saved (Some (old ++ bytes)) ≡ Some (Some old) → kept_of h' new ≡ changed k name (Some (bytes_or_none (get k.held name) ++ bytes))
extended h h' es new k name bytes old saved have view held sets noted is =
    (changed_held h h' es new name (Some (old ++ bytes)) saved old have (sym held) (subst (λ (o : Option (List ℕ)). Sets name (option_map (λ (b : List ℕ). b ++ bytes) o) h h') (sym held) sets) noted is).0
    ∙ ap (λ (k : Kept). changed k name (Some (old ++ bytes))) view
    ∙ ap (λ o. changed k name (Some (bytes_or_none o ++ bytes))) (sym (held_at h es k name (Some old) view held))

pub extended_noted : (h h' : List (Name × List ℕ)) (es : List (Name × Before)) (k : Kept) (name : Name) (bytes old : List ℕ) (noted : Bool)
    → HaveSlots h es → kept_of h es ≡ k → Some old ≡ at_name h name → Sets name (option_map (λ b. b ++ bytes) (at_name h name)) h h'
    → noted ≡ option_map_or (λ b. not (is_unnoted b)) (at_name es name) false → noted ≡ true → kept_of h' es ≡ changed k name (Some (bytes_or_none (get k.held name) ++ bytes))
extended_noted h h' es k name bytes old noted have view held sets is holds =
    extended h h' es es k name bytes old (Held old) have view held sets (sets_same es name _ (noted_stays (at_name es name) (Held old) (sym is ∙ holds))) refl

pub unextended : (h h' : List (Name × List ℕ)) (es : List (Name × Before)) (k : Kept) (name : Name) → kept_of h es ≡ k → Sets name (at_name h name) h h' → kept_of h' es ≡ k
unextended h h' es k name view sets =
    ap (λ m. record { held = m; before = before_of m es }) (same (map_of h') (map_of h) (λ q. get-map_of h' q ∙ sets q
    ∙ elim (same_name q name) as (λ t. same_name q name ≡ t → cond t (at_name h name) (at_name h q) ≡ at_name h q) [ true ↦ λ e. ap (at_name h) (sym (from_same q name e)) | false ↦ λ e. refl ] refl ∙ sym (get-map_of h q))) ∙ view

-- a name that holds these bytes, and held them at the last good sync
pub clean_view : (h h' : List (Name × List ℕ)) (es new : List (Name × Before)) (name : Name) (bytes : List ℕ) → Sets name (Some bytes) h h' → Sets name (Some Clean) es new → kept_of h' new ≡ with_clean (kept_of h es) name (Some bytes)
clean_view h h' es new name bytes sets slots =
    same_kept _ _ (held_view h h' name (Some bytes) sets) (same _ _ (λ q. get-before_of (map_of h') new q ∙ ap (shown (map_of h') q) (slots q)
    ∙ elim (same_name q name) as (λ t. same_name q name ≡ t → shown (map_of h') q (cond t (Some Clean) (at_name es q)) ≡ cond t None (get (before_of (map_of h) es) q)) [
      | true ↦ λ e. refl
      | false ↦ λ e. ap (λ (o : Option (List ℕ)). shown_as o (at_name es q)) (get-map_of h' q ∙ sets q ∙ ap (λ t. cond t (Some bytes) (at_name h q)) e ∙ sym (get-map_of h q)) ∙ sym (get-before_of (map_of h) es q)
    ] refl
    ∙ sym (get-remove names_total (before_of (map_of h) es) name q)))
