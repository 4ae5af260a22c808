-- Rows that are picked, and phases of rows.
use Rattle.std.proofs.Common.{◌≡◌, ℕ, ◌+◌, ◌<◌, Bool, true, false, cond, not, List, [], ◌∷◌, ◌++◌, map, take, length, get_or, Bor, refl, sym, ap, ◌∙◌, subst}
use Rattle.std.specs.Prelude.{◌&&◌, ◌||◌, filter, All, Contains, Result, Ok, Err, IfOk, Vec}
use Rattle.std.specs.List.{AllByRecursion}
use Rattle.std.proofs.lemmas.List.{take_more}
use Rattle.std.proofs.lemmas.List.Elements.{filter-append, recursion_from_All, All-from_recursion, All-get_or}
use Rattle.std.specs.declared.alloc.Global.{Global}
use Rattle.mi_text.specs.Maps.{Name, Map}
use Rattle.mi_text.specs.Lookups.{Lookups}
use Rattle.mi_source.specs.Paths.{Files}
use Rattle.mi_schema.specs.declared.package.Package.{Package}
use Rattle.mi_schema.specs.declared.typed_rows.RegistryRow.{RegistryRow}
use Rattle.mi_schema.specs.RowsOf.{rows_in, behind}
use Rattle.mi_schema.specs.TableRows.{Numbered, in_key_order, Rows as TableRows}
use Rattle.mi_model.specs.World.{World, RowEffect, Effect}
use Rattle.mi_model.specs.Asked.{comes}
use Rattle.mi_model.specs.ComponentRows.{has_mode}
use Rattle.mi_model.specs.PhaseRows.{by_rows}
use Rattle.mi_model.specs.RegistryRows.{root_of}
use Rattle.mi_model.specs.WriteRegistryValues.{is_of_user, is_written, is_asked_anew, written_rows, write_row, write_registry_values}
use Rattle.mi_steps.specs.declared.plan.Plan.{Plan}
use Rattle.mi_steps.specs.Makes.{plan_machine}
use Rattle.mi_steps.specs.Rows.{FollowsRows}
use Rattle.mi_steps.proofs.RowLemmas.{phase_planned, phase_refused}
use Rattle.mi_records.specs.declared.error.PlanError.{PlanError}
use Rattle.mi_records.specs.declared.error.PlanError.TheVariants as error
use Rattle.mi_records.specs.Choices.{Choices, IsAsked}
use Rattle.mi_records.specs.Order.{as_numbered}
use Rattle.mi_records.specs.Rows.{Rows, Phase}
use Rattle.mi_records.specs.Written.{is_asked, is_taken}

-- ---- a loop that picks rows

nothing_more : {X : Type 0} (xs : List X) → xs ≡ xs ++ []
nothing_more [] = refl
nothing_more {X} (x ∷ xs) = ap (λ (ys : List X). x ∷ ys) (nothing_more xs)

pushed : {X : Type 0} (before : List X) (x : X) (b : Bool) → cond b (before ++ x ∷ []) before ≡ before ++ cond b (x ∷ []) []
pushed before x true = refl
pushed before x false = nothing_more before

pub picked_more : {X : Type 0} (test : X → Bool) (xs : List X) (k : ℕ) (x : X) (b : Bool) (before after : List X) → k < length xs → x ≡ get_or xs k x → test x ≡ b → before ≡ filter test (take k xs)
    → after ≡ cond b (before ++ x ∷ []) before → after ≡ filter test (take (k + 1) xs)
picked_more {X} test xs k x b before after within is tested so_far then =
    then
    ∙ pushed before x b
    ∙ ap (λ t. before ++ cond t (x ∷ []) []) (sym tested)
    ∙ ap (λ (ys : List X). ys ++ filter test (x ∷ [])) so_far
    ∙ sym (filter-append test (take k xs) (x ∷ []))
    ∙ ap (filter test) (sym (take_more xs k x within ∙ ap (λ (y : X). take k xs ++ y ∷ []) (sym is)))

by_filter : {X : Type 0} (P : X → Type 0) (test : X → Bool) (xs : List X) → AllByRecursion P xs → AllByRecursion P (filter test xs)
by_filter P test [] all = tt
by_filter P test (x ∷ xs) all = elim (test x) as (λ b. AllByRecursion P (cond b (x ∷ filter test xs) (filter test xs))) [ true ↦ (all.0, by_filter P test xs all.1) | false ↦ by_filter P test xs all.1 ]

-- what holds of all rows holds of those that are picked
pub all_picked : {X : Type 0} (P : X → Type 0) (test : X → Bool) (xs ys : List X) → ys ≡ filter test xs → All P xs → All P ys
all_picked P test xs ys is all = subst (λ zs. All P zs) (sym is) (All-from_recursion P (filter test xs) (by_filter P test xs (recursion_from_All P xs all)))

-- ---- the rows that are written

module _ (L : Lookups) (c : Choices) (p : Package) (w : World) (asked : IsAsked L c p w) where
  asked_anew : (r : RegistryRow) → is_asked_anew w r ≡ is_asked L c.mode r.root
  asked_anew r =
      ap (λ (K : Lookups). cond (is_of_user (root_of K r.root)) (has_mode (λ mode. mode.u) w) (has_mode (λ mode. mode.m) w)) asked.lookups
      ∙ ap (λ b. cond (is_of_user (root_of L r.root)) b (has_mode (λ mode. mode.m) w)) (asked.mode (λ mode. mode.u))
      ∙ ap (λ b. cond (is_of_user (root_of L r.root)) c.mode.u b) (asked.mode (λ mode. mode.m))

  written_is : (r : Numbered RegistryRow) → is_written w r ≡ (not (c.present r.row.component) || is_asked L c.mode r.row.root)
  written_is r = ap (λ b. not b || is_asked_anew w r.row) (asked.present r.row.component) ∙ ap (λ b. not (c.present r.row.component) || b) (asked_anew r.row)

  taken_in : (rows : List (ℕ × Bor RegistryRow)) → filter (is_written w) (filter (λ r. comes w r.row.component) (map as_numbered rows)) ≡ map as_numbered (filter (λ r. is_taken L c r.1.now) rows)
  taken_in [] = refl
  taken_in (r ∷ rows) =
      let n : Numbered RegistryRow = as_numbered r in
      let rest = filter (λ r. comes w r.row.component) (map as_numbered rows) in
      ap (λ b. filter (is_written w) (cond b (n ∷ rest) rest)) (asked.coming n.row.component)
      ∙ elim (c.coming n.row.component) as (λ b. filter (is_written w) (cond b (n ∷ rest) rest) ≡ map as_numbered (cond (b && (not (c.present n.row.component) || is_asked L c.mode n.row.root)) (r ∷ filter (λ r. is_taken L c r.1.now) rows) (filter (λ r. is_taken L c r.1.now) rows))) [
        | true ↦
            ap (λ b. cond b (n ∷ filter (is_written w) rest) (filter (is_written w) rest)) (written_is n)
            ∙ elim (not (c.present n.row.component) || is_asked L c.mode n.row.root) as (λ b. cond b (n ∷ filter (is_written w) rest) (filter (is_written w) rest) ≡ map as_numbered (cond b (r ∷ filter (λ r. is_taken L c r.1.now) rows) (filter (λ r. is_taken L c r.1.now) rows))) [
              | true ↦ ap (λ (ns : List (Numbered RegistryRow)). n ∷ ns) (taken_in rows)
              | false ↦ taken_in rows
            ]
        | false ↦ taken_in rows
      ]

  pub taken_rows : (rows : List (ℕ × Bor RegistryRow)) → map as_numbered rows ≡ in_key_order (λ (r : RegistryRow). r.registry) (rows_in p).registry → map as_numbered (filter (λ r. is_taken L c r.1.now) rows) ≡ written_rows w
  unfolding written_rows
  taken_rows rows is =
      sym (taken_in rows)
      ∙ ap (λ (ns : List (Numbered RegistryRow)). filter (is_written w) (filter (λ r. comes w r.row.component) ns)) (is ∙ ap (λ (rs : TableRows). in_key_order (λ (r : RegistryRow). r.registry) rs.registry) (sym asked.rows))

-- each row of the table has a root of the column's range
of_table : {R : Type 0} (P : R → Type 0) (rows : List (Name × R)) (x : R) → All (λ e. P e.1) rows → Contains (behind rows) x → P x
of_table {R} P rows x all c = subst P c.2 (All-get_or P (behind rows) c.0 x c.1 (All-from_recursion P (behind rows) (by_table P rows (recursion_from_All (λ (e : Name × R). P e.1) rows all))))
  where
    by_table : {R : Type 0} (P : R → Type 0) (rows : List (Name × R)) → AllByRecursion (λ e. P e.1) rows → AllByRecursion P (behind rows)
    by_table P [] all = tt
    by_table P (r ∷ rows) all = (all.0, by_table P rows all.1)

roots_in : {R : Type 0} (P : R → Type 0) (rows : List (Name × R)) (taken : List (ℕ × Bor R)) → All (λ e. P e.1) rows → AllByRecursion (λ r. Contains (behind rows) r.1.now) taken → AllByRecursion (λ r. P r.1.now) taken
roots_in P rows [] all each = tt
roots_in P rows (r ∷ taken) all each = (of_table P rows r.1.now all each.0, roots_in P rows taken all each.1)

pub ok_roots : {E : Type 0} {R : Type 0} (P : R → Type 0) (result : Result (Vec (ℕ × Bor R) Global) E) (rows : List (Name × R)) → All (λ e. P e.1) rows → IfOk result (λ taken. All (λ r. Contains (behind rows) r.1.now) taken.items) → IfOk result (λ taken. All (λ r. P r.1.now) taken.items)
ok_roots {R = R} P (Ok taken) rows all each = All-from_recursion (λ (r : ℕ × Bor R). P r.1.now) taken.items (roots_in P rows taken.items all (recursion_from_All (λ (r : ℕ × Bor R). Contains (behind rows) r.1.now) taken.items each))
ok_roots P (Err e) rows all each = tt

-- ---- a phase of rows

pub map-over : {X Y Z : Type 0} (f : Y → Z) (g : X → Y) (xs : List X) → map f (map g xs) ≡ map (λ x. f (g x)) xs
map-over f g [] = refl
map-over f g (x ∷ xs) = ap (λ r. f (g x) ∷ r) (map-over f g xs)

pub write_effect : (w : World) (rows : List (ℕ × Bor RegistryRow)) → map as_numbered rows ≡ written_rows w → write_registry_values w ≡ Ok (map (λ r. write_row w (as_numbered r)) rows)
unfolding write_registry_values
write_effect w rows is = ap (λ (ns : List (Numbered RegistryRow)). Ok (map (write_row w) ns)) (sym is) ∙ ap Ok (map-over (write_row w) as_numbered rows)

module _ (held : Map (List ℕ)) (files : Files) (a b : Plan) (effect : Effect) (w : World) (effects : List RowEffect) where
  pub phase_of : {A : Type 0} (r : Result A PlanError) → effect w ≡ Ok effects → w.machine ≡ plan_machine held files a → Rows held files a b effects r → Phase held files a b effect w r
  phase_of (Ok done) is at rows = phase_planned files effect w (plan_machine held files b) a.script b.script effects is (subst (λ m. FollowsRows files m (plan_machine held files b) a.script b.script effects) (sym at) rows)
  phase_of (Err error.NoMemory) is at rows = tt
  phase_of (Err (error.Fault f)) is at rows = phase_refused effect w effects f is (ap (λ m. by_rows m effects) at ∙ rows)
