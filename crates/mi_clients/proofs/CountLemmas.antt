-- What becomes of the counts of shared files in a plan.
use Rattle.std.proofs.Common.{◌≡◌, ℕ, Bool, true, false, cond, List, [], ◌∷◌, ◌++◌, Option, Some, None, refl, sym, ap, ◌∙◌}
use Rattle.std.specs.Prelude.{◌&&◌, ◌||◌, Result, Ok, Err}
use Rattle.std.specs.FinMap.{keys}
use Rattle.std.specs.List.{list_any}
use Rattle.std.specs.Option.{option_map_or}
use Rattle.std.specs.BTreeSet.{BTreeSet}
use Rattle.mi_text.specs.Maps.{Name, Map, same_name}
use Rattle.mi_text.specs.Lookups.{Lookups}
use Rattle.mi_base.specs.declared.answers.Fault.{Fault}
use Rattle.mi_base.specs.declared.entry.Entry.{Entry}
use Rattle.mi_base.specs.Machine.{Machine}
use Rattle.mi_changes.specs.Touches.{Touch, Set, Clear}
use Rattle.mi_schema.specs.declared.package.Package.{Package}
use Rattle.mi_schema.specs.declared.typed_rows.ComponentRow.{ComponentRow}
use Rattle.mi_schema.specs.RowsOf.{rows_in}
use Rattle.mi_schema.specs.TableRows.{Rows as TableRows, row_of, component_row_of}
use Rattle.mi_model.specs.Texts.{Text}
use Rattle.mi_model.specs.World.{World, Action, MakeLocal, MakeAbsent}
use Rattle.mi_model.specs.Asked.{leaves}
use Rattle.mi_model.specs.ComponentRows.{action_in}
use Rattle.mi_model.specs.CountRows.{is_guarded, takes_count, count_touches, counted_by}
use Rattle.mi_model.specs.ClientRows.{recorded_path, component_touches}
use Rattle.mi_model.specs.Parents.{key_with_parents}
use Rattle.mi_model.specs.ProcessComponents.{processed, takes_counts, touched_counts}
use Rattle.mi_model.specs.Prune.{goes, key_place, key_seat}
use Rattle.mi_model.specs.RegistryGuards.{kept_keys, prune_keys}
use Rattle.mi_model.specs.Refusals.{◌>>=◌}
use Rattle.mi_model.specs.SharedCounts.{shared_key, count_name, raised, lowered, is_counted}
use Rattle.mi_model.specs.States.{is_present}
use Rattle.mi_steps.specs.declared.plan.Plan.{Plan}
use Rattle.mi_steps.specs.Makes.{plan_machine}
use Rattle.mi_steps.proofs.FollowLemmas.{joined}
use Rattle.mi_records.specs.declared.error.PlanError.{PlanError}
use Rattle.mi_records.specs.declared.error.PlanError.TheVariants as error
use Rattle.mi_records.specs.Choices.{Choices, IsAsked}
use Rattle.mi_records.specs.Clients.{IsOwn}
use Rattle.mi_clients.specs.Counts.{GuardsCounts}
use Rattle.mi_records.proofs.CountLemmas.{counted_is}
use Rattle.mi_records.specs.Removing.{Guards}
use Rattle.mi_records.specs.Rows.{Made, Row}

-- ---- of a component

off_leaving : (w : World) (r : ComponentRow) (path : Text) (b : Bool) → leaves w r.component ≡ b → count_touches w r path MakeAbsent ≡ cond b (takes_count w path) (Set (count_name path) lowered ∷ [])
off_leaving w r path b is = ap (λ t. cond t (takes_count w path) (Set (count_name path) lowered ∷ [])) is

pub off_taken : (w : World) (r : ComponentRow) (path : Text) → leaves w r.component ≡ true → count_touches w r path MakeAbsent ≡ cond (is_guarded w (count_name path)) [] (Set (count_name path) (λ old. None) ∷ [])
off_taken w r path is = off_leaving w r path true is

pub off_lowered : (w : World) (r : ComponentRow) (path : Text) → leaves w r.component ≡ false → count_touches w r path MakeAbsent ≡ Set (count_name path) lowered ∷ []
off_lowered w r path is = off_leaving w r path false is

pub on_local : (w : World) (r : ComponentRow) (path : Text) (b : Bool) → is_present w.given r ≡ b → count_touches w r path MakeLocal ≡ cond b [] (key_with_parents 2 shared_key ++ Set (count_name path) (raised path) ∷ [])
on_local w r path b is = ap (λ t. cond t [] (key_with_parents 2 shared_key ++ Set (count_name path) (raised path) ∷ [])) is

pub counted_told : (w : World) (r : ComponentRow) (a : Action) (path : Text) → is_counted w.given.rows r ≡ true → recorded_path w r ≡ Ok path → counted_by w r (Some a) ≡ Ok (count_touches w r path a)
counted_told w r a path counted is =
    ap (λ b. cond b (recorded_path w r >>= λ path. Ok (count_touches w r path a)) (Ok [])) counted
    ∙ ap (λ (x : Result Text Fault). x >>= λ path. Ok (count_touches w r path a)) is

pub counted_refused : (w : World) (r : ComponentRow) (a : Action) (f : Fault) → is_counted w.given.rows r ≡ true → recorded_path w r ≡ Err f → counted_by w r (Some a) ≡ Err f
counted_refused w r a f counted is =
    ap (λ b. cond b (recorded_path w r >>= λ path. Ok (count_touches w r path a)) (Ok [])) counted
    ∙ ap (λ (x : Result Text Fault). x >>= λ path. Ok (count_touches w r path a)) is

pub not_counted : (w : World) (r : ComponentRow) (o : Option Action) → is_counted w.given.rows r ≡ false → counted_by w r o ≡ Ok []
not_counted w r None other = refl
not_counted w r (Some a) other = ap (λ b. cond b (recorded_path w r >>= λ path. Ok (count_touches w r path a)) (Ok [])) other

-- a row that a key finds
found_any : {R : Type 0} (key : R → Name) (test : R → Bool) (rows : List R) (q : Name) (r : R) → row_of key rows q ≡ Some r → test r ≡ true → list_any test rows ≡ true
found_any key test [] q r is holds = cc
found_any {R} key test (x ∷ rows) q r is holds = by (same_name q (key x)) is (λ e. found_any key test rows q r e holds)
  where
    or_true : (b : Bool) → (b || true) ≡ true
    or_true true = refl
    or_true false = refl

    by : (b : Bool) → cond b (Some x) (row_of key rows q) ≡ Some r → (row_of key rows q ≡ Some r → list_any test rows ≡ true) → (test x || list_any test rows) ≡ true
    by true e later = let same : x ≡ r = cc in ap (λ (y : R). test y || list_any test rows) same ∙ ap (λ b. b || list_any test rows) holds
    by false e later = ap (λ b. test x || b) (later e) ∙ or_true (test x)

module _ (L : Lookups) (c : Choices) (p : Package) (w : World) (asked : IsAsked L c p w) where
  pub present_is : (r : ComponentRow) → IsOwn (rows_in p) r → is_present w.given r ≡ c.present r.component
  present_is r own =
      sym (ap (λ (o : Option ComponentRow). option_map_or (is_present w.given) o false) (ap (λ (rs : TableRows). component_row_of rs r.component) asked.rows ∙ own))
      ∙ asked.present r.component

  -- the set of what is guarded serves a counted component that leaves
  pub guards_leaving : (set : BTreeSet Name) (r : ComponentRow) → IsOwn (rows_in p) r → is_counted (rows_in p) r ≡ true → GuardsCounts set w → leaves w r.component ≡ true → Guards set (is_guarded w)
  guards_leaving set r own counted guards leaving =
      guards (found_any (λ (c : ComponentRow). c.component) (λ (c : ComponentRow). leaves w c.component && is_counted w.given.rows c) w.given.rows.component r.component r
      (ap (λ (rs : TableRows). component_row_of rs r.component) asked.rows ∙ own)
      (ap (λ b. b && is_counted w.given.rows r) leaving ∙ counted_is L c p w asked r ∙ counted))

-- ---- whether a component with a count leaves

abbrev pub takes : World → ComponentRow → Bool
takes w r = leaves w r.component && is_counted w.given.rows r

abbrev pub Taking : World → List ComponentRow → Type 0
Taking w rest = list_any (takes w) rest ≡ takes_counts w

module _ (L : Lookups) (c : Choices) (p : Package) (w : World) (asked : IsAsked L c p w) where
  pub taking_none : (rest : List ComponentRow) → rest ≡ (rows_in p).component → Taking w rest
  taking_none rest is = ap (list_any (takes w)) (is ∙ ap (λ (rs : TableRows). rs.component) (sym asked.rows))

  takes_is : (r : ComponentRow) → takes w r ≡ (c.leaving r.component && is_counted (rows_in p) r)
  takes_is r = ap (λ b. b && is_counted w.given.rows r) (asked.leaving r.component) ∙ ap (λ b. c.leaving r.component && b) (counted_is L c p w asked r)

  pub taking_more : (rest more : List ComponentRow) (row : ComponentRow) → Taking w rest → rest ≡ row ∷ more → (c.leaving row.component && is_counted (rows_in p) row) ≡ false → Taking w more
  taking_more rest more row taking is other =
      sym (ap (λ b. b || list_any (takes w) more) (takes_is row ∙ other))
      ∙ ap (list_any (takes w)) (sym is)
      ∙ taking

  pub taking_found : (rest more : List ComponentRow) (row : ComponentRow) → Taking w rest → rest ≡ row ∷ more → (c.leaving row.component && is_counted (rows_in p) row) ≡ true → true ≡ takes_counts w
  taking_found rest more row taking is found =
      sym (ap (λ b. b || list_any (takes w) more) (takes_is row ∙ found))
      ∙ ap (list_any (takes w)) (sym is)
      ∙ taking

pub taking_all : (w : World) (rest : List ComponentRow) → Taking w rest → rest ≡ [] → false ≡ takes_counts w
taking_all w rest taking is = ap (list_any (takes w)) (sym is) ∙ taking

-- ---- nothing is pruned where nothing was touched

pub touched_is : (w : World) (b : Bool) → b ≡ takes_counts w → cond b (key_place 2 shared_key ∷ []) [] ≡ touched_counts w
touched_is w b is = ap (λ t. cond t (key_place 2 shared_key ∷ []) []) is

pub prunes_counts : (w : World) (m : Machine) → prune_keys w (touched_counts w) m ≡ Ok (Clear (goes key_seat (keys m) (touched_counts w) (kept_keys w)) ∷ [])
unfolding prune_keys
prunes_counts w m = refl

-- ---- a row: its clients, then its count

module _ (w : World) (r : ComponentRow) where
  abbrev clients : Result (List (Touch Entry)) Fault
  clients = component_touches w r

  abbrev counts : Result (List (Touch Entry)) Fault
  counts = counted_by w r (action_in w r.component)

  processed_by : (ts us : List (Touch Entry)) → clients ≡ Ok ts → counts ≡ Ok us → processed w r ≡ Ok (ts ++ us)
  unfolding processed
  processed_by ts us first second =
      ap (λ (x : Result (List (Touch Entry)) Fault). x >>= λ clients. counts >>= λ counts. Ok (clients ++ counts)) first
      ∙ ap (λ (x : Result (List (Touch Entry)) Fault). x >>= λ counts. Ok (ts ++ counts)) second

  count_refuses : (ts : List (Touch Entry)) (f : Fault) → clients ≡ Ok ts → counts ≡ Err f → processed w r ≡ Err f
  unfolding processed
  count_refuses ts f first second =
      ap (λ (x : Result (List (Touch Entry)) Fault). x >>= λ clients. counts >>= λ counts. Ok (clients ++ counts)) first
      ∙ ap (λ (x : Result (List (Touch Entry)) Fault). x >>= λ counts. Ok (ts ++ counts)) second

  client_refuses : (f : Fault) → clients ≡ Err f → processed w r ≡ Err f
  unfolding processed
  client_refuses f first = ap (λ (x : Result (List (Touch Entry)) Fault). x >>= λ clients. counts >>= λ counts. Ok (clients ++ counts)) first

  module _ (held files : Map (List ℕ)) (a b : Plan) where
    pub count_behind : {A : Type 0} (c : Plan) (result : Result A PlanError) → Made held files a b (λ m. clients) → Row held files b c (λ m. counts) result → Row held files a c (λ m. processed w r) result
    count_behind c (Ok done) first second = record {
      touches = first.touches ++ second.touches;
      gives = processed_by first.touches second.touches first.gives second.gives;
      makes = joined files (plan_machine held files a) (plan_machine held files b) (plan_machine held files c) a.script b.script c.script first.touches second.touches first.makes second.makes;
    }
    count_behind c (Err error.NoMemory) first second = tt
    count_behind c (Err (error.Fault f)) first second = count_refuses first.touches f first.gives second

    pub no_count_behind : (A B : Type 0) (c : Plan) (e : PlanError) → Row held files a b {A = A} (λ m. clients) (Err e) → Row held files a c {A = B} (λ m. processed w r) (Err e)
    no_count_behind A B c error.NoMemory refused = tt
    no_count_behind A B c (error.Fault f) refused = client_refuses f refused
