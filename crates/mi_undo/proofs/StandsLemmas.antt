-- What a map with an area in order stands for.
use Rattle.std.proofs.Common.{◌≡◌, ℕ, zero, suc, ◌+◌, ◌≤◌, ◌<◌, true, false, not, cond, List, [], ◌∷◌, ◌++◌, length, Option, Some, None, Result, Ok, refl, sym, ap, ◌∙◌, arith, append_assoc}
use Rattle.std.proofs.lemmas.List.{append-nil}
use Rattle.std.specs.FinMap.{get}
use Rattle.mi_text.specs.Maps.{same_name}
use Rattle.mi_text.proofs.MapLemmas.{same, get-set_to, get-retained}
use Rattle.mi_volume.specs.Maps.{Map}
use Rattle.mi_volume.specs.State.{State, Images, NothingDirty}
use Rattle.mi_undo.specs.Names.{marker, gate_name, most_entries, is_inside}
use Rattle.mi_undo.specs.Notes.{Note, note_of, all_notes}
use Rattle.mi_undo.specs.Stands.{is_one, entry_notes, read_from, noted, put_over, outside, back_by, stands, StandsFor}
use Rattle.mi_undo.specs.Keeps.{Opened, AreNew}

-- the entries that are spelled are read
pub read_opened : (d : Map) (k : ℕ) (seen : List Note) (parts : List (List Note)) (fuel : ℕ) → Opened d k parts → ((j : ℕ) → j ≡ k + length parts → j < most_entries → is_one (get d (gate_name j)) ≡ false) → AreNew seen parts → length parts ≤ fuel → k + fuel ≡ most_entries → read_from d k fuel seen ≡ Ok (seen ++ all_notes parts)
unfolding read_from entry_notes
read_opened d k seen [] zero opened shut new few is = ap Ok (sym (append-nil seen))
read_opened d k seen [] (suc fuel) opened shut new few is =
    let here : is_one (get d (gate_name k)) ≡ false = shut k (omega arith) (omega arith) in
    rw here (ap Ok (sym (append-nil seen)))
read_opened d k seen (ns ∷ parts) zero opened shut new few is = absurd (omega arith)
read_opened d k seen (ns ∷ parts) (suc fuel) opened shut new few is =
    rw (opened.0, opened.1, new.1, new.0)
    (read_opened d (suc k) (seen ++ ns) parts fuel opened.2 (λ j at below. shut j (omega arith) below) new.2 (omega arith) (omega arith)
    ∙ ap Ok (append_assoc seen ns (all_notes parts)))

pub get-outside : (d : Map) (q : List ℕ) → get (outside d) q ≡ cond (not (is_inside q)) (get d q) None
unfolding outside
get-outside d q = get-retained d (λ x. not (is_inside x)) q

abbrev pub or_else : Option (Option (List ℕ)) → Option (List ℕ) → Option (List ℕ)
or_else None old = old
or_else (Some w) old = w

pub get-put_over : (ns : List Note) (d : Map) (q : List ℕ) → get (put_over ns d) q ≡ or_else (note_of ns q) (get d q)
unfolding put_over
get-put_over [] d q = refl
get-put_over (n ∷ ns) d q =
    get-set_to (put_over ns d) n.name n.was q
    ∙ elim (same_name q n.name) as (λ b. cond b n.was (get (put_over ns d) q) ≡ or_else (cond b (Some n.was) (note_of ns q)) (get d q)) [ true ↦ refl | false ↦ get-put_over ns d q ]

pub is_put_over : (d F : Map) (ns : List Note) → ((q : List ℕ) → is_inside q ≡ false → note_of ns q ≡ None → get d q ≡ get F q) → ((q : List ℕ) (w : Option (List ℕ)) → note_of ns q ≡ Some w → get F q ≡ w) → ((q : List ℕ) → is_inside q ≡ true → get F q ≡ None) → outside (put_over ns d) ≡ F
is_put_over d F ns others olds nothing = same _ F (λ q. get-outside (put_over ns d) q ∙ at q)
  where
    noted_or_not : (q : List ℕ) (o : Option (Option (List ℕ))) → is_inside q ≡ false → note_of ns q ≡ o → or_else o (get d q) ≡ get F q
    noted_or_not q None out is = others q out is
    noted_or_not q (Some w) out is = sym (olds q w is)

    at : (q : List ℕ) → cond (not (is_inside q)) (get (put_over ns d) q) None ≡ get F q
    at q =
        elim (is_inside q) as (λ b. is_inside q ≡ b → cond (not b) (get (put_over ns d) q) None ≡ get F q) [
          | true ↦ λ is. sym (nothing q is)
          | false ↦ λ is. get-put_over ns d q ∙ noted_or_not q (note_of ns q) is refl
        ] refl

pub stands_for : (d F : Map) (parts : List (List Note)) → is_one (get d marker) ≡ true → Opened d 0 parts → ((j : ℕ) → j ≡ length parts → j < most_entries → is_one (get d (gate_name j)) ≡ false) → AreNew [] parts → length parts ≤ most_entries → ((q : List ℕ) → is_inside q ≡ false → note_of (all_notes parts) q ≡ None → get d q ≡ get F q) → ((q : List ℕ) (w : Option (List ℕ)) → note_of (all_notes parts) q ≡ Some w → get F q ≡ w) → ((q : List ℕ) → is_inside q ≡ true → get F q ≡ None) → StandsFor F d
unfolding stands noted
stands_for d F parts marked opened shut new few others olds nothing =
    rw marked
    (ap (back_by d) (read_opened d 0 [] parts most_entries opened (λ j at below. shut j (omega arith) below) new few (omega arith))
    ∙ ap Ok (is_put_over d F (all_notes parts) others olds nothing))

-- with a marker that isn't open, a map stands for what is outside the area
pub stands_unmarked : (d F : Map) → is_one (get d marker) ≡ false → ((q : List ℕ) → is_inside q ≡ false → get d q ≡ get F q) → ((q : List ℕ) → is_inside q ≡ true → get F q ≡ None) → StandsFor F d
unfolding stands noted
stands_unmarked d F shut others nothing = rw shut (ap Ok (is_put_over d F [] (λ q out none. others q out) (λ q w is. absurd (cc)) nothing))

-- where nothing is inside the area, a map stands for itself
pub stands_itself : (d : Map) → ((q : List ℕ) → is_inside q ≡ true → get d q ≡ None) → StandsFor d d
stands_itself d nothing = stands_unmarked d d (ap is_one (nothing marker refl)) (λ q out. refl) nothing

-- with nothing dirty a crash leaves exactly what is held
pub clean_same : (s : State) (held : Map) → s.held ≡ held → NothingDirty s → (d : Map) → Images s d → d ≡ held
clean_same s held is clean d image = same d held (λ q. image.agrees q (clean q) ∙ ap (λ (m : Map). get m q) is)

-- a name that isn't noted is as it was
pub unnoted_is : (h F : Map) (ns : List Note) → stands h ≡ Ok F → noted h ≡ Ok ns → (q : List ℕ) → is_inside q ≡ false → note_of ns q ≡ None → get h q ≡ get F q
unfolding stands
unnoted_is h F ns sf is q out none =
    let here : Ok (outside (put_over ns h)) ≡ Ok F = ap (λ (r : Result (List Note) (List ℕ)). back_by h r) (sym is) ∙ sf in
    let map : outside (put_over ns h) ≡ F = cc in
    sym (ap (λ (m : Map). get m q) (sym map) ∙ get-outside (put_over ns h) q ∙ ap (λ b. cond (not b) (get (put_over ns h) q) None) out ∙ get-put_over ns h q ∙ ap (λ (w : Option (Option (List ℕ))). or_else w (get h q)) none)
