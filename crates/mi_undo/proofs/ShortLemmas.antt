-- Where a volume is short of room for old bytes.
use Rattle.std.proofs.Common.{◌≡◌, inr, ⊎_elim, ℕ, zero, suc, ◌+◌, ◌<◌, ◌≤◌, Bool, true, false, cond, not, List, [], ◌∷◌, ◌++◌, length, take, drop, get_or, take-append-drop, Option, Some, None, Ok, refl, sym, ap, subst, ◌∙◌, arith, append_assoc}
use Rattle.std.proofs.lemmas.Bool.{cases_lt}
use Rattle.std.proofs.lemmas.List.{take_more, drop_more}
use Rattle.std.specs.FinMap.{get}
use Rattle.mi_volume.specs.Maps.{Map, Fits, Exceeds, size, slot_size}
use Rattle.mi_volume.specs.State.{State}
use Rattle.mi_volume.proofs.SizeLemmas.{size-at_most}
use Rattle.mi_undo.specs.Names.{most_entries, is_inside}
use Rattle.mi_undo.specs.Notes.{Note, note_of, are_new}
use Rattle.mi_undo.specs.Stands.{put_over, outside}
use Rattle.mi_undo.specs.Area.{notes_in, place_names}
use Rattle.mi_undo.specs.Steps.{IsWithin}
use Rattle.mi_undo.specs.Back.{InsideStays, IsStuck, IsWithout}
use Rattle.mi_undo.specs.Reading.{IsUnread, first_shut, Spares}
use Rattle.mi_undo.specs.Settle.{IsRead}
use Rattle.mi_undo.specs.Short.{IsBase, old_sizes, IsShort}
use Rattle.mi_undo.specs.declared.kept.Place.{Place}
use Rattle.mi_undo.proofs.NotesOf.{note_of-append, first_of_two}
use Rattle.mi_undo.proofs.StandsLemmas.{get-outside, get-put_over, or_else}
use Rattle.mi_undo.proofs.OverLemmas.{fits_less, fits_not_over}
use Rattle.mi_undo.proofs.SettleSteps.{noted_read, notes_long}
use Rattle.mi_undo.proofs.SumLemmas.{one_list, front_sum}

-- the name that stands at a place
pub place_at : (places : List Place) (i : ℕ) (p : Place) (name : List ℕ) → i < length places → name ≡ (get_or places i p).name → get_or (place_names places) i name ≡ name
place_at [] i p name below is = absurd (omega arith)
place_at (q ∷ places) zero p name below is = sym is
place_at (q ∷ places) (suc i) p name below is = place_at places i p name (omega arith) is

pub note_at_place : (h : Map) (places : List Place) (i : ℕ) (n : Note) (name : List ℕ) → i < length places → get_or (place_names places) i name ≡ name → (get_or (notes_in h places) i n).name ≡ name
note_at_place h [] i n name below is = absurd (omega arith)
note_at_place h (q ∷ places) zero n name below is = is
note_at_place h (q ∷ places) (suc i) n name below is = note_at_place h places i n name (omega arith) is

module _ (s : State) (places : List Place) (entries : ℕ) (read : IsRead s places entries) (F : Map) (ns : List Note) (are : notes_in s.held places ≡ ns) (is_new : are_new [] ns ≡ true) where
  module _ (t : State) (spares : Spares s t F ns entries) (away : (q : List ℕ) → IsUnread entries q → get t.held q ≡ None) where
    unread_here : (q : List ℕ) → IsUnread (first_shut s.held 0 most_entries) q → IsUnread entries q
    unread_here q unread = subst (λ (n : ℕ). IsUnread n q) read.count unread

    unread_there : (q : List ℕ) → IsUnread entries q → IsUnread (first_shut s.held 0 most_entries) q
    unread_there q unread = subst (λ (n : ℕ). IsUnread n q) (sym read.count) unread

    unnoted : (q : List ℕ) → IsUnread entries q → note_of ns q ≡ None
    unnoted q unread = spares.spare.keeps.outside q (ap is_inside unread.1.1.1)

    pub base_is : (base : Map) → IsWithout ns t.held base → IsBase s.held ns base
    base_is base bare = record {
      away = bare.away;
      unread = λ q unread. let here = unread_here q unread in bare.others q (unnoted q here) ∙ away q here;
      others = λ q none read_one. bare.others q none ∙ spares.touches.others q (λ u. read_one (unread_there q u));
    }

    base_small : (base : Map) → IsBase s.held ns base → size base ≤ size s.held
    base_small base is = size-at_most base s.held (λ q. ⊎_elim (λ less. absurd (clash q (note_of ns q) refl less)) (λ le. le) (cases_lt (slot_size q (get s.held q)) (slot_size q (get base q))))
      where
        empty : (q : List ℕ) → get base q ≡ None → slot_size q (get s.held q) < slot_size q (get base q) → ⊥
        empty q none less = let e : slot_size q (get base q) ≡ 0 = ap (slot_size q) none in omega (arith, e)

        clash : (q : List ℕ) (o : Option (Option (List ℕ))) → note_of ns q ≡ o → slot_size q (get s.held q) < slot_size q (get base q) → ⊥
        clash q (Some w) noted_q less = empty q (is.away q w noted_q) less
        clash q None none less =
            let e : slot_size q (get base q) ≡ slot_size q (get s.held q) = ap (slot_size q) (is.others q none (λ unread. empty q (is.unread q unread) less)) in
            omega (arith, e)

    -- where putting back is stuck, the volume is short
    pub short_at : (base : Map) (i : ℕ) (name : List ℕ) → IsWithout ns t.held base → IsStuck t.capacity base ns i → IsWithin s → i < length places → get_or (place_names places) i name ≡ name → IsShort s.capacity s.held name
    short_at base i name bare stuck within below is =
        let d : Note = record { name = name; was = None } in
        let n : Note = get_or ns i d in
        let long : i < length ns = let same_length = notes_long s.held places in let e = ap length are in omega (arith, same_length, e) in
        let up_to : take (i + 1) ns ≡ take i ns ++ n ∷ [] = take_more ns i d long in
        let whole : take i ns ++ n ∷ drop (i + 1) ns ≡ ns = ap (λ (l : List Note). take i ns ++ l) (sym (drop_more ns i d long)) ∙ take-append-drop i ns in
        let base_here = base_is base bare in
        let first = front_sum (take i ns) (n ∷ drop (i + 1) ns) base (subst (λ (l : List Note). are_new [] l ≡ true) (sym whole) is_new) (λ q w noted_q. bare.away q w (ap (λ (l : List Note). note_of l q) (sym whole) ∙ noted_q)) in
        let more = front_sum (take (i + 1) ns) (drop (i + 1) ns) base (subst (λ (l : List Note). are_new [] l ≡ true) (sym (take-append-drop (i + 1) ns)) is_new)
        (λ q w noted_q. bare.away q w (ap (λ (l : List Note). note_of l q) (sym (take-append-drop (i + 1) ns)) ∙ noted_q)) in
        record {
          front = take i ns;
          note = n;
          rest = drop (i + 1) ns;
          read = noted_read s.held (notes_in s.held places) read.marked read.read ∙ ap Ok (are ∙ sym whole);
          is_name = ap (λ (l : List Note). (get_or l i d).name) (sym are) ∙ note_at_place s.held places i d name below is;
          base = base;
          is_base = subst (λ (l : List Note). IsBase s.held l base) (sym whole) base_here;
          before = inr (subst (λ (k : ℕ). Fits s.capacity k) first (subst (λ (c : Option ℕ). Fits c (size (put_over (take i ns) base))) spares.goes.capacity
              (stuck.before (subst (λ (c : Option ℕ). Fits c (size base)) (sym spares.goes.capacity) (fits_less s.capacity (size base) (size s.held) (base_small base base_here) within)))));
          passes = subst (λ (l : List Note). Exceeds s.capacity (size base + old_sizes l)) up_to
              (subst (λ (k : ℕ). Exceeds s.capacity k) more (subst (λ (c : Option ℕ). Exceeds c (size (put_over (take (i + 1) ns) base))) spares.goes.capacity stuck.passes));
        }

    -- where all is back, it isn't
    pub not_short : (v : State) (name : List ℕ) → v.capacity ≡ s.capacity → InsideStays t.held v.held → outside v.held ≡ F → IsWithin v → IsShort s.capacity s.held name → ⊥
    not_short v name same_capacity inside back within short = fits_not_over s.capacity _ _ up_to (subst (λ (c : Option ℕ). Fits c (size v.held)) same_capacity within) short.passes
      where
        f : List Note
        f = short.front ++ short.note ∷ []

        whole : f ++ short.rest ≡ ns
        whole = append_assoc short.front (short.note ∷ []) short.rest ∙ one_list (short.front ++ short.note ∷ short.rest) ns (sym short.read ∙ noted_read s.held (notes_in s.held places) read.marked read.read ∙ ap Ok are)

        all_is : short.front ++ short.note ∷ short.rest ≡ ns
        all_is = one_list (short.front ++ short.note ∷ short.rest) ns (sym short.read ∙ noted_read s.held (notes_in s.held places) read.marked read.read ∙ ap Ok are)

        is_base : IsBase s.held ns short.base
        is_base = subst (λ (l : List Note). IsBase s.held l short.base) all_is short.is_base

        sum : size (put_over f short.base) ≡ size short.base + old_sizes f
        sum = front_sum f short.rest short.base (subst (λ (l : List Note). are_new [] l ≡ true) (sym whole) is_new) (λ q w noted_q. is_base.away q w (ap (λ (l : List Note). note_of l q) (sym whole) ∙ noted_q))

        at_f : (q : List ℕ) → is_inside q ≡ false → get v.held q ≡ get F q
        at_f q out = sym (ap (λ (m : Map). get m q) (sym back) ∙ get-outside v.held q ∙ ap (λ b. cond (not b) (get v.held q) None) out)

        out_of : (q : List ℕ) (w : Option (List ℕ)) → note_of ns q ≡ Some w → is_inside q ≡ false
        out_of q w noted_q = at (is_inside q) refl
          where
            at : (b : Bool) → is_inside q ≡ b → b ≡ false
            at true within_area = let clash : Some w ≡ None = sym noted_q ∙ spares.spare.keeps.outside q within_area in absurd (cc)
            at false out = refl

        in_all : (q : List ℕ) (w : Option (List ℕ)) → note_of f q ≡ Some w → note_of ns q ≡ Some w
        in_all q w is = ap (λ (l : List Note). note_of l q) (sym whole) ∙ note_of-append f short.rest q ∙ ap (λ (o : Option (Option (List ℕ))). first_of_two o (note_of short.rest q)) is

        as_held : (q : List ℕ) → note_of ns q ≡ None → ¬ IsUnread (first_shut s.held 0 most_entries) q → get short.base q ≡ get v.held q
        as_held q none is_read =
            is_base.others q none is_read
            ∙ elim (is_inside q) as (λ b. is_inside q ≡ b → get s.held q ≡ get v.held q) [
              | true ↦ λ within_area. sym (inside q within_area ∙ spares.touches.others q (λ u. is_read (unread_there q u)))
              | false ↦ λ out. sym (at_f q out ∙ sym (spares.spare.keeps.others q out none) ∙ spares.touches.others q (λ u. is_read (unread_there q u)))
            ] refl

        empty : (q : List ℕ) → get short.base q ≡ None → slot_size q (get v.held q) < slot_size q (get short.base q) → ⊥
        empty q none less = let e : slot_size q (get short.base q) ≡ 0 = ap (slot_size q) none in omega (arith, e)

        in_base : (q : List ℕ) (o : Option (Option (List ℕ))) → note_of ns q ≡ o → slot_size q (get v.held q) < slot_size q (get short.base q) → ⊥
        in_base q (Some w) noted_q less = empty q (is_base.away q w noted_q) less
        in_base q None none less =
            let e : slot_size q (get short.base q) ≡ slot_size q (get v.held q) = ap (slot_size q) (as_held q none (λ unread. empty q (is_base.unread q unread) less)) in
            omega (arith, e)

        by_note : (q : List ℕ) (o : Option (Option (List ℕ))) → note_of f q ≡ o → slot_size q (get (put_over f short.base) q) ≤ slot_size q (get v.held q)
        by_note q (Some w) is =
            let e : slot_size q (get (put_over f short.base) q) ≡ slot_size q (get v.held q) = ap (slot_size q)
            (get-put_over f short.base q ∙ ap (λ (o : Option (Option (List ℕ))). or_else o (get short.base q)) is ∙ sym (at_f q (out_of q w (in_all q w is)) ∙ spares.spare.keeps.olds q w (in_all q w is))) in
            omega (arith, e)
        by_note q None is =
            let e : slot_size q (get (put_over f short.base) q) ≡ slot_size q (get short.base q) = ap (slot_size q) (get-put_over f short.base q ∙ ap (λ (o : Option (Option (List ℕ))). or_else o (get short.base q)) is) in
            ⊎_elim (λ less. absurd (in_base q (note_of ns q) refl (omega (arith, less, e)))) (λ le. le) (cases_lt (slot_size q (get v.held q)) (slot_size q (get (put_over f short.base) q)))

        up_to : size short.base + old_sizes f ≤ size v.held
        up_to = let each = size-at_most (put_over f short.base) v.held (λ q. by_note q (note_of f q) refl) in omega (arith, each, sum)

pub short_same : (capacity other : Option ℕ) (h d : Map) (name : List ℕ) → other ≡ capacity → d ≡ h → IsShort other d name → IsShort capacity h name
short_same capacity other h d name same_capacity same_map short = subst (λ (m : Map). IsShort capacity m name) same_map (subst (λ (c : Option ℕ). IsShort c d name) same_capacity short)
