-- Lists that loops build of what they pick, and the keys that rows name and keep.
use Rattle.std.proofs.Common.{◌≡◌, ℕ, suc, ◌+◌, ◌<◌, true, false, cond, List, [], ◌∷◌, ◌++◌, map, take, length, get_or, Option, Some, None, Ok, Err, refl, sym, ap, subst, ◌∙◌, append_assoc}
use Rattle.std.specs.Prelude.{All, Result, codes, option_and_then}
use Rattle.std.specs.List.{AllByRecursion, filter_map, cons_option}
use Rattle.std.specs.Option.{option_to_list}
use Rattle.std.specs.Result.{result_ok}
use Rattle.std.proofs.lemmas.List.{append-nil, map-append, take_more}
use Rattle.std.proofs.lemmas.List.Elements.{filter_map-append, recursion_from_All}
use Rattle.mi_text.specs.Lookups.{Lookups}
use Rattle.mi_text.specs.Maps.{Name}
use Rattle.mi_base.specs.declared.answers.Fault.{Fault}
use Rattle.mi_schema.specs.declared.package.Package.{Package}
use Rattle.mi_schema.specs.declared.typed_rows.RegistryRow.{RegistryRow}
use Rattle.mi_schema.specs.RowsOf.{rows_in, behind}
use Rattle.mi_schema.specs.TableRows.{Numbered, numbered_from, Rows as TableRows}
use Rattle.mi_model.specs.World.{World}
use Rattle.mi_model.specs.Asked.{keeps, lookups}
use Rattle.mi_model.specs.Prune.{Path}
use Rattle.mi_model.specs.Refusals.{◌>>=◌, expanded}
use Rattle.mi_model.specs.RegistryGuards.{key_kept_by, kept_key}
use Rattle.mi_model.specs.RegistryRows.{RegistryPlace, Writes, said, registry_place, registry_meaning}
use Rattle.mi_model.specs.Texts.{Text}
use Rattle.mi_records.specs.Choices.{Choices, IsAsked}
use Rattle.mi_records.specs.Meaning.{numbered}

-- ---- what a loop picks

one_only : {T : Type 0} (o : Option T) → cons_option o [] ≡ option_to_list o
one_only None = refl
one_only (Some x) = refl

-- what is picked of the items so far, with what is picked of the next one
pub picked_one : {X T : Type 0} (pick : X → Option T) (xs : List X) (i : ℕ) (x : X) (o : Option T) (old new : List T) → i < length xs → x ≡ get_or xs i x → o ≡ pick x → old ≡ filter_map pick (take i xs) → new ≡ old ++ option_to_list o
    → new ≡ filter_map pick (take (i + 1) xs)
picked_one {X} {T} pick xs i x o old new within is found so_far grown =
    grown
    ∙ ap (λ (l : List T). l ++ option_to_list o) so_far
    ∙ ap (λ (l : List T). filter_map pick (take i xs) ++ l) (ap option_to_list found ∙ sym (one_only (pick x)))
    ∙ sym (filter_map-append pick (take i xs) (x ∷ []))
    ∙ ap (filter_map pick) (sym (take_more xs i x within ∙ ap (λ (y : X). take i xs ++ y ∷ []) (sym is)))

-- the same of what is seen of the items
pub picked_seen : {X Y T : Type 0} (seen : X → Y) (pick : Y → Option T) (xs : List X) (i : ℕ) (x : X) (o : Option T) (old new : List T) → i < length xs → x ≡ get_or xs i x → o ≡ pick (seen x) → old ≡ filter_map pick (map seen (take i xs)) → new ≡ old ++ option_to_list o
    → new ≡ filter_map pick (map seen (take (i + 1) xs))
picked_seen {X} {Y} {T} seen pick xs i x o old new within is found so_far grown =
    grown
    ∙ ap (λ (l : List T). l ++ option_to_list o) so_far
    ∙ ap (λ (l : List T). filter_map pick (map seen (take i xs)) ++ l) (ap option_to_list found ∙ sym (one_only (pick (seen x))))
    ∙ sym (filter_map-append pick (map seen (take i xs)) (seen x ∷ []))
    ∙ ap (filter_map pick) (sym (map-append seen (take i xs) (x ∷ [])))
    ∙ ap (λ (l : List X). filter_map pick (map seen l)) (sym (take_more xs i x within ∙ ap (λ (y : X). take i xs ++ y ∷ []) (sym is)))

-- ---- what rows give, one after the other

module _ (w : World) (pick : Numbered RegistryRow → Option Name) where
  -- what the rows gave so far, and what those give that are still to come
  pub record Picking (built : List Name) (rest : List RegistryRow) : Type 0 where
    pub number : ℕ
    pub so : built ++ filter_map pick (numbered_from number rest) ≡ filter_map pick (numbered_from 1 w.given.rows.registry)

  pub picking_none : (p : Package) (built : List Name) (rest : List RegistryRow) → w.given.rows ≡ rows_in p → rest ≡ (rows_in p).registry → built ≡ [] → Picking built rest
  picking_none p built rest rows is none = record {
    number = 1;
    so =
        ap (λ (l : List Name). l ++ filter_map pick (numbered_from 1 rest)) none
        ∙ ap (λ (rs : List RegistryRow). filter_map pick (numbered_from 1 rs)) (is ∙ ap (λ (rs : TableRows). rs.registry) (sym rows));
  }

  pub picking_more : (built new : List Name) (rest more : List RegistryRow) (row : RegistryRow) (o : Option Name) → (k : Picking built rest) → rest ≡ row ∷ more → o ≡ pick (numbered k.number row) → new ≡ built ++ option_to_list o → Picking new more
  picking_more built new rest more row o k is found grown = record {
    number = suc k.number;
    so =
        let later = filter_map pick (numbered_from (suc k.number) more) in
        ap (λ (l : List Name). l ++ later) grown
        ∙ append_assoc built (option_to_list o) later
        ∙ ap (λ (l : List Name). built ++ l) (joined o later ∙ ap (λ (x : Option Name). cons_option x later) found)
        ∙ ap (λ (rs : List RegistryRow). built ++ filter_map pick (numbered_from k.number rs)) (sym is)
        ∙ k.so;
  }
    where
      joined : (o : Option Name) (later : List Name) → option_to_list o ++ later ≡ cons_option o later
      joined None later = refl
      joined (Some x) later = refl

  pub picking_all : (built : List Name) (rest : List RegistryRow) → Picking built rest → rest ≡ [] → built ≡ filter_map pick (numbered_from 1 w.given.rows.registry)
  picking_all built rest k is =
      sym (append-nil built)
      ∙ sym (ap (λ (rs : List RegistryRow). built ++ filter_map pick (numbered_from k.number rs)) is)
      ∙ k.so

-- ---- the keys that are kept

-- a row with a Value makes no key
pub valued_none : (w : World) (r : Numbered RegistryRow) (value : Text) → r.row.value ≡ Some value → None ≡ kept_key w r
unfolding registry_meaning
valued_none w r value is =
    elim (keeps w r.row.component) as (λ b. None ≡ cond b (option_and_then key_kept_by (result_ok (registry_meaning (lookups w) r))) None) [
      | true ↦ by_place (registry_place (lookups w) r) ∙ ap (λ (v : Option Text). made (registry_place (lookups w) r) v) (sym is)
      | false ↦ refl
    ]
  where
    expand : Text → Result Text Fault
    expand = expanded (lookups w) (codes "Registry") r.number

    made : Result RegistryPlace Fault → Option Text → Option Path
    made p v = option_and_then key_kept_by (result_ok (p >>= λ place. said r.row.name place.name v expand >>= λ says. Ok (record { place = place; says = says })))

    by_text : (place : RegistryPlace) (x : Result Text Fault) → None ≡ option_and_then key_kept_by (result_ok (x >>= (λ text. Ok (Writes text)) >>= λ says. Ok (record { place = place; says = says })))
    by_text place (Ok text) = refl
    by_text place (Err f) = refl

    by_place : (p : Result RegistryPlace Fault) → None ≡ made p (Some value)
    by_place (Ok place) = by_text place (expand value)
    by_place (Err f) = refl

module _ (L : Lookups) (c : Choices) (p : Package) (w : World) (asked : IsAsked L c p w) where
  abbrev key_by : Lookups → Numbered RegistryRow → Option Path
  key_by K r = option_and_then key_kept_by (result_ok (registry_meaning K r))

  pub key_kept : (r : Numbered RegistryRow) (o : Option Path) → c.kept r.row.component ≡ true → o ≡ key_by L r → o ≡ kept_key w r
  key_kept r o kept is =
      is ∙ ap (λ (K : Lookups). key_by K r) (sym asked.lookups)
      ∙ ap (λ b. cond b (key_by (lookups w) r) None) (sym (asked.kept r.row.component ∙ kept))

  pub key_none : (r : Numbered RegistryRow) → c.kept r.row.component ≡ false → None ≡ kept_key w r
  key_none r kept = ap (λ b. cond b (key_by (lookups w) r) None) (sym (asked.kept r.row.component ∙ kept))

-- ---- the roots of rows

-- each row of a table has a root of the column's range
pub roots_behind : {R : Type 0} (P : R → Type 0) (entries : List (Path × R)) (rest : List R) → All (λ e. P e.1) entries → rest ≡ behind entries → AllByRecursion P rest
roots_behind {R} P entries rest all is = subst (AllByRecursion P) (sym is) (by_entries entries (recursion_from_All (λ (e : Path × R). P e.1) entries all))
  where
    by_entries : (es : List (Path × R)) → AllByRecursion (λ e. P e.1) es → AllByRecursion P (behind es)
    by_entries [] all = tt
    by_entries (e ∷ es) all = (all.0, by_entries es all.1)

pub root_first : {R : Type 0} (P : R → Type 0) (rest more : List R) (row : R) → rest ≡ row ∷ more → AllByRecursion P rest → P row × AllByRecursion P more
root_first P rest more row is all = subst (AllByRecursion P) is all

-- what is picked behind what was there before
pub picked_behind : {X Y T : Type 0} (base : List T) (seen : X → Y) (pick : Y → Option T) (xs : List X) (i : ℕ) (x : X) (o : Option T) (old new : List T) → i < length xs → x ≡ get_or xs i x → o ≡ pick (seen x) → old ≡ base ++ filter_map pick (map seen (take i xs)) → new ≡ old ++ option_to_list o
    → new ≡ base ++ filter_map pick (map seen (take (i + 1) xs))
picked_behind {T = T} base seen pick xs i x o old new within is found so_far grown =
    let some = filter_map pick (map seen (take i xs)) in
    grown
    ∙ ap (λ (l : List T). l ++ option_to_list o) so_far
    ∙ append_assoc base some (option_to_list o)
    ∙ ap (λ (l : List T). base ++ l) (picked_seen seen pick xs i x o some (some ++ option_to_list o) within is found refl refl)
