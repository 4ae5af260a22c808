-- What CostFinalize finds, and what it leaves.
use Rattle.std.proofs.Common.{◌≡◌, ℕ, suc, List, [], ◌∷◌, Option, Some, None, refl, sym, ap, subst, ◌∙◌, map}
use Rattle.std.specs.Prelude.{Result, Ok, Err, OnOk}
use Rattle.mi_base.specs.declared.answers.Fault.{Fault}
use Rattle.mi_props.specs.Props.{Values}
use Rattle.mi_source.specs.Paths.{Files}
use Rattle.mi_text.specs.Maps.{Name, Map}
use Rattle.mi_dirs.specs.declared.fault.DirFault.{DirFault}
use Rattle.mi_dirs.specs.declared.rows.DirRow.{DirRow}
use Rattle.mi_dirs.specs.Faults.{dir_fault, judged}
use Rattle.mi_dirs.specs.Places.{Place, Folder}
use Rattle.mi_dirs.specs.Rows as rows
use Rattle.mi_dirs.specs.Rows.{given, places_from, places_of}
use Rattle.mi_schema.specs.declared.typed_rows.DirectoryRow.{DirectoryRow}
use Rattle.mi_schema.specs.RowsOf.{rows_in}
use Rattle.mi_schema.specs.TableRows.{Rows}
use Rattle.mi_model.specs.World as model
use Rattle.mi_model.specs.World.{Given, Selection}
use Rattle.mi_model.specs.Asked.{lookups_over}
use Rattle.mi_model.specs.Properties.{dir_row, in_table, resolved, placed, cost, with_directories}
use Rattle.mi_model.specs.Refusals.{◌>>=◌}
use Rattle.mi_model.specs.Remembered.{remembered}
use Rattle.mi_model.specs.Selecting.{selected, select}
use Rattle.mi_wishes.specs.declared.error.SelectError.{SelectError}
use Rattle.mi_wishes.specs.declared.error.SelectError.TheVariants as refused
use Rattle.mi_wishes.specs.Answers.{Gives}
use Rattle.mi_steps.specs.declared.plan.Plan.{Plan}
use Rattle.mi_steps.specs.Makes.{plan_machine}
use Rattle.mi_world.specs.declared.error.WorldError.{WorldError}
use Rattle.mi_world.specs.declared.error.WorldError.TheVariants as error
use Rattle.mi_world.specs.declared.placed.Placed.{Placed}
use Rattle.mi_world.specs.declared.seen.Seen.{Seen}
use Rattle.mi_world.specs.Costs.{Finds, Places, Chooses, with_placed, with_choice, IsCostedFrom}
use Rattle.mi_world.specs.Places.{AreKeptPaths}
use Rattle.mi_world.specs.Refusals.{from_select}
use Rattle.mi_world.specs.Seen.{seen_lookups, dirs_in, world_over, Becomes, IsPlaced, Knows, IsOf, IsCosted}
use Rattle.mi_world.proofs.LookLemmas.{looks_over}

-- ---- the directories

-- what is resolved by the rows, the properties and the folders that are remembered
pub resolved_so : (g : Given) (props : Values) (rs : Rows) (told : List (Name × Folder)) (folder : List ℕ) → rs ≡ g.rows → told ≡ remembered g → folder ≡ g.folder
    → in_table (rows.resolved (given (map dir_row rs.directory) props told folder rs.short_names)) ≡ resolved g props
resolved_so g props rs told folder same all at = λ i. in_table (rows.resolved (given (map dir_row (same i).directory) props (all i) (at i) (same i).short_names))

pub refused_so : (e : WorldError) (a b : Result (List Place) Fault) → a ≡ b → Finds (Err e) a → Places (Err e) b
refused_so error.NoMemory a b same h = tt
refused_so (error.Fault fault) a b same h = sym same ∙ h

places_keys : (g : rows.Given) (n : ℕ) (rs : List DirRow) → map (λ (d : Place). d.key) (places_from g n rs) ≡ map (λ (r : DirRow). r.key) rs
places_keys g n [] = refl
places_keys g n (r ∷ rs) = ap (λ ks. r.key ∷ ks) (places_keys g (suc n) rs)

row_keys : (rs : List DirectoryRow) → map (λ (r : DirRow). r.key) (map dir_row rs) ≡ map (λ (r : DirectoryRow). r.directory) rs
row_keys [] = refl
row_keys (r ∷ rs) = ap (λ ks. r.directory ∷ ks) (row_keys rs)

judged_so : (all dirs : List Place) (o : Option DirFault) → in_table (judged all o) ≡ Ok dirs → all ≡ dirs
judged_so all dirs None e = cc
judged_so all dirs (Some fault) e = cc

resolved_keys : (g : rows.Given) (dirs : List Place) → in_table (rows.resolved g) ≡ Ok dirs → map (λ (d : Place). d.key) dirs ≡ map (λ (r : DirRow). r.key) g.rows
resolved_keys g dirs e = sym (ap (map (λ (d : Place). d.key)) (judged_so (places_of g) dirs (dir_fault (places_of g)) e)) ∙ places_keys g 0 g.rows

-- a directory for each row, in order
pub keys_so : (rs : Rows) (props : Values) (told : List (Name × Folder)) (folder : List ℕ) (dirs : List Place)
    → in_table (rows.resolved (given (map dir_row rs.directory) props told folder rs.short_names)) ≡ Ok dirs → map (λ (d : Place). d.key) dirs ≡ map (λ (r : DirectoryRow). r.directory) rs.directory
keys_so rs props told folder dirs e = resolved_keys (given (map dir_row rs.directory) props told folder rs.short_names) dirs e ∙ row_keys rs.directory

-- ---- the selection

-- over what is seen with these directories and without a selection
pub selected_so : (g : Given) (s : Seen) (dirs lent : List Place) → Knows g s → s.selection ≡ None → dirs_in s ≡ Some dirs → dirs_in s ≡ Some lent → selected g (seen_lookups s) lent ≡ select g s.props dirs
unfolding select
selected_so g s dirs lent knows none at there =
    let both : Some lent ≡ Some dirs = sym there ∙ at in
    let same : lent ≡ dirs = cc in
    let looks : seen_lookups s ≡ lookups_over g s.props (Some dirs) None = looks_over g s knows ∙ (λ i. lookups_over g s.props (at i) (none i)) in
    λ i. selected g (looks i) (same i)

by_select : (e : SelectError) (a b : Result Selection Fault) → a ≡ b → Gives {A = Selection} {B = Selection} (Err e) (λ s. s) a → Finds (Err (from_select e)) b
by_select refused.NoMemory a b same h = tt
by_select (refused.Fault fault) a b same h = sym same ∙ h

pub unselected_so : (e : SelectError) (f : WorldError) (a b : Result Selection Fault) → f ≡ from_select e → a ≡ b → Gives {A = Selection} {B = Selection} (Err e) (λ s. s) a → Finds (Err f) b
unselected_so e f a b is same h = subst (λ (x : WorldError). Finds (Err x) b) (sym is) (by_select e a b same h)

pub unchosen_so : (X : Type 0) (e : WorldError) (a : Result Selection Fault) (o : Option Selection) → Finds {X = Selection} (Err e) a → Chooses {X = X} (Err e) a o
unchosen_so X error.NoMemory a o h = tt
unchosen_so X (error.Fault fault) a o h = h

-- ---- what is seen then

pub knows_placed : (g : Given) (old : Seen) (p : Placed) → Knows g old → AreKeptPaths old.known.directories p.dirs (rows_in old.loaded).file 0 p.files
    → map (λ (d : Place). d.key) p.dirs ≡ map (λ (r : DirectoryRow). r.directory) (rows_in old.loaded).directory → Knows g (with_placed p old)
knows_placed g old p is files keys = record {
  rows = is.rows;
  now = is.now;
  known = is.known;
  placed = subst (λ (r : Rows). IsPlaced r old.known p) is.rows (record { files = files; keys = keys });
}

costed_seen : (g : Given) (old new : Seen) → IsOf g old → IsCostedFrom old new → IsOf g new × IsCosted new
costed_seen g old new is c =
    let knows = knows_placed g old c.placed is.knows c.files c.keys in
    subst (λ (s : Seen). IsOf g s × IsCosted s) (sym c.is) (record { knows = record { rows = knows.rows; now = knows.now; known = knows.known; placed = knows.placed }; both = tt }, (refl, refl))

pub costed_stays : {X : Type 0} (g : Given) (old new : Seen) (r : Result X WorldError) → IsOf g old → OnOk r (IsCostedFrom old new) → OnOk r (IsOf g new × IsCosted new)
costed_stays g old new (Ok x) is h = costed_seen g old new is h
costed_stays g old new (Err e) is h = tt

-- ---- the world then

module _ (held : Map (List ℕ)) (files : Files) (g : Given) (old : Seen) (plan : Plan) where
  pub unplaced : (fault : Fault) → resolved g old.props ≡ Err fault → cost (world_over held files g old plan) ≡ Err fault
  unfolding cost
  unplaced fault e = ap (λ (a : Result (List Place) Fault). a >>= λ dirs. select g old.props dirs >>= λ choice. Ok (placed dirs choice (world_over held files g old plan))) e

  at_places : (dirs : List Place) → resolved g old.props ≡ Ok dirs → cost (world_over held files g old plan) ≡ (select g old.props dirs >>= λ choice. Ok (placed dirs choice (world_over held files g old plan)))
  unfolding cost
  at_places dirs e = ap (λ (a : Result (List Place) Fault). a >>= λ ds. select g old.props ds >>= λ choice. Ok (placed ds choice (world_over held files g old plan))) e

  unchosen : (dirs : List Place) (fault : Fault) → resolved g old.props ≡ Ok dirs → select g old.props dirs ≡ Err fault → cost (world_over held files g old plan) ≡ Err fault
  unchosen dirs fault e refused = at_places dirs e ∙ ap (λ (a : Result Selection Fault). a >>= λ choice. Ok (placed dirs choice (world_over held files g old plan))) refused

  cost_so : (p : Placed) (choice : Selection) (new : Seen) → rows_in old.loaded ≡ g.rows → resolved g old.props ≡ Ok p.dirs → select g old.props p.dirs ≡ Ok choice
      → new ≡ with_choice p.dirs choice (with_placed p old) → cost (world_over held files g old plan) ≡ Ok (world_over held files g new plan)
  cost_so p choice new same found chosen is =
      at_places p.dirs found ∙ ap (λ (a : Result Selection Fault). a >>= λ c. Ok (placed p.dirs c (world_over held files g old plan))) chosen
      ∙ ap (λ (w : model.World). let r : Result model.World Fault = Ok w in r) (λ i. record {
        given = g;
        props = with_directories (sym same i) p.dirs old.props;
        costed = Some (record { dirs = p.dirs; choice = choice });
        machine = plan_machine held files plan;
      })
      ∙ sym (ap (λ (s : Seen). let r : Result model.World Fault = Ok (world_over held files g s plan) in r) is)

  pub becomes_unplaced : (X : Type 0) (e : WorldError) (w : model.World) → Places (Err e) (resolved g old.props) → Becomes {X = X} (Err e) (cost (world_over held files g old plan)) w
  becomes_unplaced X error.NoMemory w h = tt
  becomes_unplaced X (error.Fault fault) w h = unplaced fault h

  pub becomes_unchosen : (X : Type 0) (e : WorldError) (dirs : List Place) (o : Option Selection) (w : model.World) → resolved g old.props ≡ Ok dirs → Chooses {X = X} (Err e) (select g old.props dirs) o
      → Becomes {X = X} (Err e) (cost (world_over held files g old plan)) w
  becomes_unchosen X error.NoMemory dirs o w found h = tt
  becomes_unchosen X (error.Fault fault) dirs o w found h = unchosen dirs fault found h

  pub becomes_costed : (p : Placed) (choice : Selection) (new : Seen) → rows_in old.loaded ≡ g.rows → resolved g old.props ≡ Ok p.dirs → new ≡ with_choice p.dirs choice (with_placed p old)
      → ((c : Selection) → new.selection ≡ Some c → select g old.props p.dirs ≡ Ok c) → cost (world_over held files g old plan) ≡ Ok (world_over held files g new plan)
  becomes_costed p choice new same found is chosen = cost_so p choice new same found (chosen choice (ap (λ (s : Seen). s.selection) is)) is
