-- Laws of what a map stands for.
use Rattle.std.proofs.Common.{◌≡◌, ℕ, ◌≤◌, ◌<◌, true, false, cond, not, List, [], ◌++◌, length, Option, Some, None, Result, Ok, Err, refl, sym, ap, ◌∙◌, arith}
use Rattle.std.specs.FinMap.{get}
use Rattle.mi_volume.specs.Maps.{Map}
use Rattle.mi_text.proofs.MapLemmas.{same}
use Rattle.mi_undo.specs.Names.{marker, gate_name, entry_name, most_entries, is_inside}
use Rattle.mi_undo.specs.Notes.{Note, note_of, all_notes, are_new}
use Rattle.mi_undo.specs.Stands.{is_one, read_from, noted, put_over, outside, back_by, stands, StandsFor}
use Rattle.mi_undo.specs.Keeps.{Opened, AreNew}
use Rattle.mi_undo.specs.Reading.{IsUnread, first_shut}
use Rattle.mi_undo.proofs.NameLemmas.{same_entry, gate_not_entry, marker_not_entry}
use Rattle.mi_undo.proofs.NotesOf.{note_of-append, first_of_two, new_outside}
use Rattle.mi_undo.proofs.NoteLemmas.{not_both}
use Rattle.mi_undo.proofs.StandsLemmas.{read_opened, get-outside, get-put_over, or_else}
use Rattle.mi_undo.proofs.SettleLemmas.{read_same, read_new, first_at_most}

module _ (d e : Map) (alike : (q : List ℕ) → ¬ IsUnread (first_shut d 0 most_entries) q → get e q ≡ get d q) where
  gates : (j : ℕ) → get e (gate_name j) ≡ get d (gate_name j)
  gates j = alike (gate_name j) (λ u. gate_not_entry j u.0 u.1.1.1)

  entries : (j : ℕ) → j < first_shut d 0 most_entries → get e (entry_name j) ≡ get d (entry_name j)
  entries j below =
      let most = first_at_most d 0 most_entries in
      alike (entry_name j) (λ u. let number = same_entry j u.0 (omega (arith, below, most)) u.1.1.0 u.1.1.1 in omega (arith, below, number, u.1.0))

  at_marker : get e marker ≡ get d marker
  at_marker = alike marker (λ u. marker_not_entry u.0 u.1.1.1)

  out : (q : List ℕ) → is_inside q ≡ false → get e q ≡ get d q
  out q is = alike q (λ u. not_both (is_inside q) (ap is_inside u.1.1.1) is)

  same_noted : noted e ≡ noted d
  unfolding noted
  same_noted = ap (λ (o : Option (List ℕ)). cond (is_one o) (read_from e 0 most_entries []) (Ok [])) at_marker ∙ ap (λ (r : Result (List Note) (List ℕ)). cond (is_one (get d marker)) r (Ok [])) (read_same d e gates 0 most_entries [] entries)

  same_outside : (ns : List Note) → outside (put_over ns e) ≡ outside (put_over ns d)
  same_outside ns = same (outside (put_over ns e)) (outside (put_over ns d)) (λ q. get-outside (put_over ns e) q ∙ at q ∙ sym (get-outside (put_over ns d) q))
    where
      at : (q : List ℕ) → cond (not (is_inside q)) (get (put_over ns e) q) None ≡ cond (not (is_inside q)) (get (put_over ns d) q) None
      at q = elim (is_inside q) as (λ b. is_inside q ≡ b → cond (not b) (get (put_over ns e) q) None ≡ cond (not b) (get (put_over ns d) q) None) [
        | true ↦ λ is. refl
        | false ↦ λ is. get-put_over ns e q ∙ ap (λ (o : Option (List ℕ)). or_else (note_of ns q) o) (out q is) ∙ sym (get-put_over ns d q)
      ] refl

  same_back : (r : Result (List Note) (List ℕ)) → back_by e r ≡ back_by d r
  same_back (Ok ns) = ap Ok (same_outside ns)
  same_back (Err name) = refl

  pub stands_same : stands e ≡ stands d
  unfolding stands
  stands_same = ap (back_by e) same_noted ∙ same_back (noted d)

pub noted_opened : (d : Map) (parts : List (List Note)) → is_one (get d marker) ≡ true → Opened d 0 parts → AreNew [] parts → length parts ≤ most_entries
    → (length parts < most_entries → is_one (get d (gate_name (length parts))) ≡ false) → noted d ≡ Ok (all_notes parts)
unfolding noted
noted_opened d parts marked opened new few shut =
    rw marked (read_opened d 0 [] parts most_entries opened (λ j at below. ap (λ (k : ℕ). is_one (get d (gate_name k))) (let e : j ≡ length parts = omega (arith, at) in e) ∙ shut (omega (arith, at, below))) new few (omega arith))

one_map : (a b : Map) → ◌≡◌ {A = Result Map (List ℕ)} (Ok a) (Ok b) → a ≡ b
one_map a b e = cc

none_of : (ns : List Note) → ◌≡◌ {A = Result (List Note) (List ℕ)} (Ok []) (Ok ns) → are_new [] ns ≡ true
none_of ns e = let same_list : [] ≡ ns = cc in ap (λ (l : List Note). are_new [] l) (sym same_list)

pub noted_new : (d : Map) (ns : List Note) → noted d ≡ Ok ns → are_new [] ns ≡ true
unfolding noted
noted_new d ns is =
    elim (is_one (get d marker)) as (λ b. cond b (read_from d 0 most_entries []) (Ok []) ≡ Ok ns → are_new [] ns ≡ true) [
      | true ↦ λ e. read_new d 0 most_entries [] ns refl e
      | false ↦ λ e. none_of ns e
    ] is

map_is : (d F : Map) (ns : List Note) → noted d ≡ Ok ns → StandsFor F d → outside (put_over ns d) ≡ F
unfolding stands
map_is d F ns is stands_for = one_map (outside (put_over ns d)) F (ap (back_by d) (sym is) ∙ stands_for)

pub noted_is : (d F : Map) (ns : List Note) → noted d ≡ Ok ns → StandsFor F d → (q : List ℕ) (w : Option (List ℕ)) → note_of ns q ≡ Some w → get F q ≡ w
noted_is d F ns is stands_for q w noted_q =
    elim (is_inside q) as (λ b. is_inside q ≡ b → get F q ≡ w) [
      | true ↦ λ inside. let clash : Some w ≡ None = sym noted_q ∙ new_outside [] ns (noted_new d ns is) q inside in absurd (cc)
      | false ↦ λ out. ap (λ (m : Map). get m q) (sym (map_is d F ns is stands_for)) ∙ get-outside (put_over ns d) q ∙ ap (λ b. cond (not b) (get (put_over ns d) q) None) out ∙ get-put_over ns d q ∙ ap (λ (o : Option (Option (List ℕ))). or_else o (get d q)) noted_q
    ] refl

inside_by : (d F : Map) (r : Result (List Note) (List ℕ)) → back_by d r ≡ Ok F → (q : List ℕ) → is_inside q ≡ true → get F q ≡ None
inside_by d F (Ok ns) is q inside = ap (λ (m : Map). get m q) (sym (one_map (outside (put_over ns d)) F is)) ∙ get-outside (put_over ns d) q ∙ ap (λ b. cond (not b) (get (put_over ns d) q) None) inside
inside_by d F (Err name) is q inside = absurd (cc)

pub inside_none : (d F : Map) → StandsFor F d → (q : List ℕ) → is_inside q ≡ true → get F q ≡ None
unfolding stands
inside_none d F stands_for q inside = inside_by d F (noted d) stands_for q inside

pub first_stays : (d : Map) (ns later : List Note) (q : List ℕ) (w : Option (List ℕ)) → note_of ns q ≡ Some w → get (put_over (ns ++ later) d) q ≡ w
first_stays d ns later q w is =
    get-put_over (ns ++ later) d q ∙ ap (λ (o : Option (Option (List ℕ))). or_else o (get d q)) (note_of-append ns later q ∙ ap (λ (o : Option (Option (List ℕ))). first_of_two o (note_of later q)) is)
