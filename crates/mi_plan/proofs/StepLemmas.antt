-- What it says of an action that it has a step: where it stands, and what it names.
use Rattle.std.proofs.Common.{◌≡◌, ℕ, zero, suc, ◌<◌, Bool, true, false, cond, not, ◌&&◌, ◌||◌, ◌==◌, List, [], ◌∷◌, map, length, get_or, Option, Some, None, refl, sym, ap, ◌∙◌, subst, arith}
use Rattle.std.specs.Prelude.{find, unwrap_or, option_map, codes, IsSome, All, Contains, Result, Ok, Err, if◌then◌else◌}
use Rattle.std.specs.List.{AllByRecursion}
use Rattle.std.specs.Map.{keys_of}
use Rattle.std.proofs.lemmas.List.Elements.{recursion_from_All}
use Rattle.mi_text.specs.Maps.{Name, same_name, is_among}
use Rattle.mi_text.specs.Lookups.{Lookups}
use Rattle.mi_text.proofs.MapLemmas.{same_itself}
use Rattle.mi_base.specs.declared.answers.Fault.{Fault}
use Rattle.mi_base.specs.declared.answers.Fault.TheVariants.{Executable}
use Rattle.mi_dirs.specs.Places.{Place, is_named, row_of}
use Rattle.mi_schema.specs.declared.typed_rows.CustomActionRow.{CustomActionRow}
use Rattle.mi_schema.specs.declared.typed_rows.DirectoryRow.{DirectoryRow}
use Rattle.mi_schema.specs.Dangling.{sets_directory}
use Rattle.mi_schema.specs.RowsOf.{behind}
use Rattle.mi_schema.specs.TableRows.{Rows, Numbered, numbered_from}
use Rattle.mi_model.specs.Texts.{Text}
use Rattle.mi_model.specs.World.{Effect}
use Rattle.mi_model.specs.Refusals.{◌>>=◌, expanded_or_empty}
use Rattle.mi_model.specs.Phases.{effect_of}
use Rattle.mi_model.specs.Sequence.{is_costed, is_finalized, is_inside}
use Rattle.mi_model.specs.Steps.{Step, Plain, Launch, Cost, Runs, Ends, SetProperty, SetDirectory, Fails, in_order, base_type, runs_here, stands_right, custom, custom_step, custom_action, phase_or, without_effect, is_action, ends_segment, step_of}

abbrev pub IsRun : Step → Type 0
IsRun (Runs effect) = Unit {0}
IsRun other = ⊥

abbrev pub IsSet : Name → Step → Type 0
IsSet directory (SetDirectory d text) = directory ≡ d
IsSet directory other = ⊥

module _ (rows : Rows) (L : Lookups) (begun : List Name) (action : Name) where
  -- the row of the action, which sets this directory behind CostFinalize
  pub record SetsIt (directory : Name) : Type 0 where
    pub number : Numbered CustomActionRow
    pub is : custom_action rows action ≡ Some number
    pub sets : sets_directory number.row.kind ≡ true
    pub names : directory ≡ unwrap_or number.row.source []
    pub costed : is_costed begun ≡ true

  -- a step that runs rows stands inside, and one that sets a directory is of such a row
  pub record Tells (s : Step) : Type 0 where
    pub inside : IsRun s → is_inside begun ≡ true
    pub set : (directory : Name) → IsSet directory s → SetsIt directory

  same_ok : (x s : Step) → ◌≡◌ {A = Result Step Fault} (Ok x) (Ok s) → x ≡ s
  same_ok x s e = cc

  by_ok : (x s : Step) → Tells x → ◌≡◌ {A = Result Step Fault} (Ok x) (Ok s) → Tells s
  by_ok x s t e = subst (λ (y : Step). Tells y) (same_ok x s e) t

  by_order : (b : Bool) (x s : Step) → (b ≡ true → Tells x) → in_order action b x ≡ Ok s → Tells s
  by_order true x s t e = by_ok x s (t refl) e
  by_order false x s t e = cc

  of_plain : Tells Plain
  of_plain = record { inside = λ is. absurd is; set = λ d is. absurd is }

  of_launch : Tells Launch
  of_launch = record { inside = λ is. absurd is; set = λ d is. absurd is }

  of_cost : Tells Cost
  of_cost = record { inside = λ is. absurd is; set = λ d is. absurd is }

  of_end : Tells Ends
  of_end = record { inside = λ is. absurd is; set = λ d is. absurd is }

  of_run : (effect : Effect) → is_inside begun ≡ true → Tells (Runs effect)
  of_run effect inside = record { inside = λ is. inside; set = λ d is. absurd is }

  -- ---- custom actions

  by_stand : (y c f : Bool) → (not y || (c && not f)) ≡ true → y ≡ true → c ≡ true
  by_stand true true f e is = refl
  by_stand true false f e is = cc
  by_stand false c f e is = cc

  module _ (n : Numbered CustomActionRow) (at : custom_action rows action ≡ Some n) (right : stands_right n.row begun ≡ true) where
    of_kind : (text : Text) (x y : Bool) → (base_type n.row == 35) ≡ y → Tells (if x then Fails text else if y then SetDirectory (unwrap_or n.row.source []) text else SetProperty (unwrap_or n.row.source []) text)
    of_kind text true y is = record { inside = λ run. absurd run; set = λ d set. absurd set }
    of_kind text false true is = record {
      inside = λ run. absurd run;
      set = λ d same. record { number = n; is = at; sets = is; names = same; costed = by_stand (base_type n.row == 35) (is_costed begun) (is_finalized begun) right is };
    }
    of_kind text false false is = record { inside = λ run. absurd run; set = λ d set. absurd set }

    by_text : (s : Step) (t : Result Text Fault) → (t >>= λ text. Ok (custom n.row text)) ≡ Ok s → Tells s
    by_text s (Ok text) e = by_ok (custom n.row text) s (of_kind text (base_type n.row == 19) (base_type n.row == 35) refl) e
    by_text s (Err f) e = cc

  by_row : (n : Numbered CustomActionRow) → custom_action rows action ≡ Some n → (s : Step) (here right : Bool) → stands_right n.row begun ≡ right
      → (if here then (in_order action right n.row >>= λ r. expanded_or_empty L (codes "CustomAction") n.number r.target >>= λ text. Ok (custom r text)) else Err (Executable action)) ≡ Ok s → Tells s
  by_row n at s true true right e = by_text n at right s (expanded_or_empty L (codes "CustomAction") n.number n.row.target) e
  by_row n at s true false right e = cc
  by_row n at s false stands right e = cc

  by_custom : (o : Option (Numbered CustomActionRow)) → custom_action rows action ≡ o → (s : Step) → custom_step L begun action o ≡ Ok s → Tells s
  by_custom None at s e = cc
  by_custom (Some n) at s e = by_row n at s (runs_here n.row) (stands_right n.row begun) refl e

  -- ---- all actions

  by_plain : (b : Bool) (s : Step) → (if b then Ok Plain else custom_step L begun action (custom_action rows action)) ≡ Ok s → Tells s
  by_plain true s e = by_ok Plain s of_plain e
  by_plain false s e = by_custom (custom_action rows action) refl s e

  by_effect : (o : Option Effect) (s : Step) → phase_or rows L begun action o ≡ Ok s → Tells s
  by_effect (Some effect) s e = by_order (is_inside begun) (Runs effect) s (of_run effect) e
  by_effect None s e = by_plain (is_among action without_effect) s e

  by_names : (a b c d : Bool) (o : Option Effect) (s : Step)
      → (if a then Ok Launch else if b then Ok Cost else if c then in_order action (is_costed begun) Plain else if d then in_order action (is_inside begun) Ends else phase_or rows L begun action o) ≡ Ok s → Tells s
  by_names true b c d o s e = by_ok Launch s of_launch e
  by_names false true c d o s e = by_ok Cost s of_cost e
  by_names false false true d o s e = by_order (is_costed begun) Plain s (λ _. of_plain) e
  by_names false false false true o s e = by_order (is_inside begun) Ends s (λ _. of_end) e
  by_names false false false false o s e = by_effect o s e

  pub tells : (s : Step) → step_of rows L begun action ≡ Ok s → Tells s
  unfolding step_of
  tells s e = by_names (is_action action (codes "LaunchConditions")) (is_action action (codes "CostFinalize")) (is_action action (codes "InstallInitialize")) (ends_segment action) (effect_of action) s e

-- ---- the actions that order a walk

pub cost_is : (rows : Rows) (L : Lookups) (begun : List Name) (action : Name) (s : Step) → action ≡ codes "CostFinalize" → step_of rows L begun action ≡ Ok s → s ≡ Cost
unfolding step_of
cost_is rows L begun action s is e = sym (same (sym (ap (step_of rows L begun) is) ∙ e))
  where
    same : ◌≡◌ {A = Result Step Fault} (Ok Cost) (Ok s) → Cost ≡ s
    same e = cc

pub initialize_is : (rows : Rows) (L : Lookups) (begun : List Name) (action : Name) (s : Step) → action ≡ codes "InstallInitialize" → step_of rows L begun action ≡ Ok s → is_costed begun ≡ true
unfolding step_of
initialize_is rows L begun action s is e = stood (is_costed begun) (sym (ap (step_of rows L begun) is) ∙ e)
  where
    stood : (b : Bool) → ◌≡◌ {A = Result Step Fault} (in_order (codes "InstallInitialize") b Plain) (Ok s) → b ≡ true
    stood true e = refl
    stood false e = cc

-- ---- rows of directories

found_has : (P : CustomActionRow → Type 0) (test : Numbered CustomActionRow → Bool) (rows : List CustomActionRow) (k : ℕ) (n : Numbered CustomActionRow) → AllByRecursion P rows
    → find test (numbered_from k rows) ≡ Some n → P n.row
found_has P test [] k n all e = cc
found_has P test (r ∷ rows) k n all e =
    let m : Numbered CustomActionRow = record { number = k; row = r } in
    elim (test m) as (λ b. cond b (Some m) (find test (numbered_from (suc k) rows)) ≡ Some n → P n.row) [
      | true ↦ λ at. let same : m ≡ n = cc in subst (λ (x : Numbered CustomActionRow). P x.row) same all.0
      | false ↦ λ at. found_has P test rows (suc k) n all.1 at
    ] e

each_behind : {R : Type 0} (P : R → Type 0) (es : List (Name × R)) → AllByRecursion (λ e. P e.1) es → AllByRecursion P (behind es)
each_behind P [] all = tt
each_behind P (e ∷ es) all = (all.0, each_behind P es all.1)

-- the row that sets a directory names a row of Directory
pub sets_row : (rows : Rows) (L : Lookups) (begun : List Name) (action directory : Name) (es : List (Name × CustomActionRow)) (ds : List (Name × DirectoryRow)) → rows.custom_action ≡ behind es
    → All (λ e. sets_directory e.1.kind ≡ true → (dir : Name) × (e.1.source ≡ Some dir) × Contains (keys_of ds) dir) es → SetsIt rows L begun action directory → Contains (keys_of ds) directory
sets_row rows L begun action directory es ds same all it =
    let P : CustomActionRow → Type 0 = λ r. sets_directory r.kind ≡ true → (dir : Name) × (r.source ≡ Some dir) × Contains (keys_of ds) dir in
    let r = it.number.row in
    let named = found_has P (λ (n : Numbered CustomActionRow). same_name action n.row.action) rows.custom_action 1 it.number
    (subst (λ (rs : List CustomActionRow). AllByRecursion P rs) (sym same) (each_behind P es (recursion_from_All (λ (e : Name × CustomActionRow). P e.1) es all))) it.is it.sets in
    subst (λ (d : Name). Contains (keys_of ds) d) (sym (it.names ∙ ap (λ (o : Option Name). unwrap_or o []) named.1)) named.2

keys_are : (ds : List (Name × DirectoryRow)) → AllByRecursion (λ (e : Name × DirectoryRow). e.0 ≡ e.1.directory) ds → keys_of ds ≡ map (λ (r : DirectoryRow). r.directory) (behind ds)
keys_are [] all = refl
keys_are (d ∷ ds) all = λ i. all.0 i ∷ keys_are ds all.1 i

some_suc : (o : Option ℕ) → IsSome o → IsSome (option_map suc o)
some_suc None e = cc
some_suc (Some n) e = refl

row_there : (directory : Name) (dirs : List Place) (k : ℕ) → k < length dirs → get_or (map (λ (d : Place). d.key) dirs) k directory ≡ directory → IsSome (row_of dirs directory)
row_there directory [] k lt e = absurd (omega arith)
row_there directory (d ∷ dirs) zero lt e =
    elim (is_named directory d) as (λ b. is_named directory d ≡ b → IsSome (cond b (Some 0) (option_map suc (row_of dirs directory)))) [
      | true ↦ λ at. refl
      | false ↦ λ isnt. let here : true ≡ false = sym (same_itself directory) ∙ ap (same_name directory) (sym e) ∙ isnt in cc
    ] refl
row_there directory (d ∷ dirs) (suc j) lt e =
    elim (is_named directory d) as (λ b. IsSome (cond b (Some 0) (option_map suc (row_of dirs directory)))) [
      | true ↦ refl
      | false ↦ some_suc (row_of dirs directory) (row_there directory dirs j (omega arith) e)
    ]

length-keys : (dirs : List Place) → length (map (λ (d : Place). d.key) dirs) ≡ length dirs
length-keys [] = refl
length-keys (d ∷ dirs) = ap suc (length-keys dirs)

pub row_is : (directory : Name) (dirs : List Place) (ds : List (Name × DirectoryRow)) → map (λ (d : Place). d.key) dirs ≡ map (λ (r : DirectoryRow). r.directory) (behind ds)
    → All (λ e. e.0 ≡ e.1.directory) ds → Contains (keys_of ds) directory → IsSome (row_of dirs directory)
row_is directory dirs ds same keys has =
    let is : keys_of ds ≡ map (λ (d : Place). d.key) dirs = keys_are ds (recursion_from_All (λ (e : Name × DirectoryRow). e.0 ≡ e.1.directory) ds keys) ∙ sym same in
    let here : Contains (map (λ (d : Place). d.key) dirs) directory = subst (λ (ks : List Name). Contains ks directory) is has in
    row_there directory dirs here.0 (subst (λ n. here.0 < n) (length-keys dirs) here.1) here.2
