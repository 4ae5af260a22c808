-- The counts of shared files: their names, and what they guard.
use Rattle.std.proofs.Common.{◌≡◌, ℕ, Bool, true, false, cond, List, [], ◌∷◌, Option, Some, None, refl, sym, ap, ◌∙◌, subst}
use Rattle.std.specs.Prelude.{◌&&◌, ◌||◌, option_map, All, Contains, Result, Ok, Err}
use Rattle.std.specs.FinMap.{keys}
use Rattle.std.specs.List.{AllByRecursion, list_any}
use Rattle.std.specs.Option.{option_map_or}
use Rattle.std.specs.Result.{result_ok}
use Rattle.std.specs.BTreeSet.{BTreeSet, contains}
use Rattle.std.proofs.lemmas.List.Elements.{recursion_from_All, All-contains_itself}
use Rattle.mi_text.specs.Maps.{Name, name_cmp, same_name}
use Rattle.mi_text.specs.Lookups.{Lookups}
use Rattle.mi_base.specs.declared.answers.Fault.{Fault}
use Rattle.mi_base.specs.declared.entry.Entry.{Entry}
use Rattle.mi_base.specs.declared.entry.RegValue.TheVariants as value
use Rattle.mi_base.specs.Spelling.{name_of}
use Rattle.mi_schema.specs.declared.package.Package.{Package}
use Rattle.mi_schema.specs.declared.typed_rows.ComponentRow.{ComponentRow}
use Rattle.mi_schema.specs.Laws.{HaveOwnKeys}
use Rattle.mi_schema.specs.RowsOf.{rows_in, behind}
use Rattle.mi_schema.specs.TableRows.{Rows as TableRows, row_of}
use Rattle.mi_model.specs.Texts.{Text}
use Rattle.mi_model.specs.World.{World}
use Rattle.mi_model.specs.Asked.{keeps}
use Rattle.mi_model.specs.CountRows.{counted_path, guards_count, is_guarded_count, is_guarded}
use Rattle.mi_model.specs.ClientRows.{recorded_path}
use Rattle.mi_model.specs.RegistryGuards.{is_guarded_value}
use Rattle.mi_model.specs.SharedCounts.{shared_key, count_name, count_entry, is_counted}
use Rattle.mi_records.specs.Choices.{Choices, IsAsked}
use Rattle.mi_records.specs.Counts.{guard_of_count}
use Rattle.mi_records.specs.Removing.{Guards}
use Rattle.mi_records.proofs.KeyedLemmas.{own_row}
use Rattle.mi_records.proofs.SeatLemmas.{or_none}
use Rattle.mi_records.proofs.WriteLemmas.{value_named}

-- ---- a count and its name

pub count_named : (path : Text) (n : ℕ) (e : Entry) → e ≡ count_entry path n → name_of e ≡ count_name path
count_named path n e is = value_named (record { root = 2; key = shared_key; name = path }) (value.Int n) e is

-- ---- what counts guard

module _ (L : Lookups) (c : Choices) (p : Package) (w : World) (asked : IsAsked L c p w) where
  pub counted_is : (r : ComponentRow) → is_counted w.given.rows r ≡ is_counted (rows_in p) r
  counted_is r = ap (λ (rs : TableRows). is_counted rs r) asked.rows

  pub path_named : (r : ComponentRow) (path : Text) → is_counted (rows_in p) r ≡ true → recorded_path w r ≡ Ok path → Some (count_name path) ≡ option_map count_name (counted_path w r)
  path_named r path counted is =
      sym (ap (λ b. option_map count_name (cond b (result_ok (recorded_path w r)) None)) (counted_is r ∙ counted)
      ∙ ap (λ (x : Result Text Fault). option_map count_name (result_ok x)) is)

  pub path_refused : (r : ComponentRow) (f : Fault) → is_counted (rows_in p) r ≡ true → recorded_path w r ≡ Err f → None ≡ option_map count_name (counted_path w r)
  path_refused r f counted is =
      sym (ap (λ b. option_map count_name (cond b (result_ok (recorded_path w r)) None)) (counted_is r ∙ counted)
      ∙ ap (λ (x : Result Text Fault). option_map count_name (result_ok x)) is)

  pub path_uncounted : (r : ComponentRow) → is_counted (rows_in p) r ≡ false → None ≡ option_map count_name (counted_path w r)
  path_uncounted r other = sym (ap (λ b. option_map count_name (cond b (result_ok (recorded_path w r)) None)) (counted_is r ∙ other))

  pub count_kept : (r : ComponentRow) (o : Option Name) → c.kept r.component ≡ true → o ≡ option_map count_name (counted_path w r) → o ≡ guard_of_count w r
  count_kept r o kept is = is ∙ ap (λ b. cond b (option_map count_name (counted_path w r)) None) (sym (asked.kept r.component ∙ kept))

  pub count_not_kept : (r : ComponentRow) → c.kept r.component ≡ false → None ≡ guard_of_count w r
  count_not_kept r kept = ap (λ b. cond b (option_map count_name (counted_path w r)) None) (sym (asked.kept r.component ∙ kept))

-- what a set has, and what the counts guard that are still to come
abbrev pub Counting : World → BTreeSet Name → List ComponentRow → Type 0
Counting w set rest = (name : Name) → (contains name_cmp set name || list_any (guards_count w name) rest) ≡ is_guarded w name

-- before the first component
pub counting_none : (w : World) (p : Package) (set : BTreeSet Name) (rest : List ComponentRow) → w.given.rows ≡ rows_in p → rest ≡ (rows_in p).component → Guards set (is_guarded_value w) → Counting w set rest
unfolding is_guarded is_guarded_count
counting_none w p set rest rows is guards name =
    ap (λ b. b || list_any (guards_count w name) rest) (guards name)
    ∙ ap (λ (rs : List ComponentRow). is_guarded_value w name || list_any (guards_count w name) rs) (is ∙ ap (λ (rs : TableRows). rs.component) (sym rows))

by_count : (w : World) (name : Name) (r : ComponentRow) → guards_count w name r ≡ option_map_or (same_name name) (guard_of_count w r) false
by_count w name r = by (keeps w r.component) (counted_path w r)
  where
    by : (b : Bool) (o : Option Text) → (b && option_map_or (λ path. same_name name (count_name path)) o false) ≡ option_map_or (same_name name) (cond b (option_map count_name o) None) false
    by false o = refl
    by true None = refl
    by true (Some path) = refl

-- one component more
pub counting_more : (w : World) (set new : BTreeSet Name) (rest more : List ComponentRow) (row : ComponentRow) (o : Option Name) → Counting w set rest → rest ≡ row ∷ more → o ≡ guard_of_count w row
    → ((name : Name) → contains name_cmp new name ≡ (contains name_cmp set name || option_map_or (same_name name) o false)) → Counting w new more
counting_more w set new rest more row o counting is found grown name =
    let later = list_any (guards_count w name) more in
    ap (λ b. b || later) (grown name)
    ∙ or_assoc (contains name_cmp set name) (option_map_or (same_name name) o false) later
    ∙ ap (λ b. contains name_cmp set name || (b || later)) (ap (λ (x : Option Name). option_map_or (same_name name) x false) found ∙ sym (by_count w name row))
    ∙ ap (λ (rs : List ComponentRow). contains name_cmp set name || list_any (guards_count w name) rs) (sym is)
    ∙ counting name
  where
    or_assoc : (a b c : Bool) → ((a || b) || c) ≡ (a || (b || c))
    or_assoc true b c = refl
    or_assoc false b c = refl

-- behind the last component
pub counting_all : (w : World) (set : BTreeSet Name) (rest : List ComponentRow) → Counting w set rest → rest ≡ [] → Guards set (is_guarded w)
counting_all w set rest counting is name =
    sym (or_none (contains name_cmp set name))
    ∙ sym (ap (λ (rs : List ComponentRow). contains name_cmp set name || list_any (guards_count w name) rs) is)
    ∙ counting name

-- each component of a table is that of its key
pub own_behind : (es : List (Name × ComponentRow)) (rest : List ComponentRow) → All (λ e. e.0 ≡ e.1.component) es → HaveOwnKeys es → rest ≡ behind es
    → AllByRecursion (λ (r : ComponentRow). row_of (λ (c : ComponentRow). c.component) (behind es) r.component ≡ Some r) rest
own_behind es rest keys apart is = subst (λ (rs : List ComponentRow). AllByRecursion (λ (r : ComponentRow). row_of (λ (c : ComponentRow). c.component) (behind es) r.component ≡ Some r) rs) (sym is)
    (by (behind es) (recursion_from_All (Contains (behind es)) (behind es) (All-contains_itself (behind es))))
  where
    by : (rows : List ComponentRow) → AllByRecursion (Contains (behind es)) rows → AllByRecursion (λ (r : ComponentRow). row_of (λ (c : ComponentRow). c.component) (behind es) r.component ≡ Some r) rows
    by [] each = tt
    by (r ∷ rows) each = (own_row (λ (c : ComponentRow). c.component) es r keys apart each.0, by rows each.1)
