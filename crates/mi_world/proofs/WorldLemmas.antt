-- Worlds that calls make.
use Rattle.std.proofs.Common.{◌≡◌, ℕ, true, false, cond, List, [], ◌∷◌, map, Option, Some, None, refl, sym, ap, subst, ◌∙◌}
use Rattle.std.specs.Prelude.{IsSome, OnOk, Result, Ok, Err}
use Rattle.std.specs.Result.{result_ok}
use Rattle.std.specs.FinMap.{insert}
use Rattle.mi_text.specs.Path.{folder_of}
use Rattle.mi_dirs.specs.declared.fault.DirFault.{DirFault}
use Rattle.mi_dirs.specs.Places.{Place, Folder, with_own}
use Rattle.mi_dirs.specs.Faults.{path_fault, judged}
use Rattle.mi_schema.specs.declared.typed_rows.DirectoryRow.{DirectoryRow}
use Rattle.mi_model.specs.Refusals.{◌>>=◌}
use Rattle.mi_steps.specs.Makes.{plan_machine}
use Rattle.mi_world.specs.declared.placed.Placed.{Placed}
use Rattle.mi_world.specs.Places.{AreKeptPaths}
use Rattle.mi_text.specs.Maps.{Name, Map, same_name}
use Rattle.mi_text.specs.PropertyNames.{is_property_name}
use Rattle.mi_base.specs.declared.answers.Fault.{Fault}
use Rattle.mi_base.specs.declared.answers.Fault.TheVariants.{BadName}
use Rattle.mi_base.specs.Machine.{Machine}
use Rattle.mi_props.specs.Props.{Values}
use Rattle.mi_schema.specs.declared.package.Package.{Package}
use Rattle.mi_source.specs.Paths.{Files}
use Rattle.mi_schema.specs.RowsOf.{rows_in}
use Rattle.mi_schema.specs.TableRows.{Rows}
use Rattle.mi_model.specs.World as model
use Rattle.mi_model.specs.World.{Given, Selection}
use Rattle.mi_model.specs.Properties.{started, set_property, set_dir, moved_if, placed, in_table, with_directories}
use Rattle.mi_steps.specs.declared.plan.Plan.{Plan}
use Rattle.mi_world.specs.declared.error.WorldError.{WorldError}
use Rattle.mi_world.specs.declared.error.WorldError.TheVariants as error
use Rattle.mi_world.specs.declared.known.Known.{Known}
use Rattle.mi_world.specs.declared.seen.Seen.{Seen}
use Rattle.mi_world.specs.Known.{IsKnown}
use Rattle.mi_world.specs.Seen.{world_over, costed_of, with_target, Starts, Knows, IsOf, IsCosted, IsPlaced, ArePlaced, AreBoth, Moved, HaveMoved, Becomes}

pub start_so : (g : Given) (loaded : Package) (props : Values) (n m : Machine) (moment : ℕ) → Starts g loaded props m moment → n ≡ m → ◌≡◌ {A = model.World} (record { given = g; props = props; costed = None; machine = n }) (started g)
unfolding started
start_so g loaded props n m moment starts same = λ i. record {
  given = g;
  props = starts.props i;
  costed = None;
  machine = (same ∙ starts.former) i;
}

pub known_so : (rows : Rows) (m : Machine) (g : Given) (k : Known) → rows ≡ g.rows → m ≡ g.former → IsKnown rows m k → IsKnown g.rows g.former k
known_so rows m g k same there known = subst (λ (n : Machine). IsKnown g.rows n k) there (subst (λ (r : Rows). IsKnown r m k) same known)

pub set_so : (action name : Name) (text : List ℕ) (w : model.World) → is_property_name name ≡ true → set_property action name text w ≡ Ok (record w { props = insert w.props name text })
unfolding set_property
set_so action name text w is = ap (λ b. cond {A = Result model.World Fault} b (Ok (record w { props = insert w.props name text })) (Err (BadName action))) is

-- ---- directories that move

with_own_keys : (directory : Name) (own : Option Folder) (dirs : List Place) → map (λ (d : Place). d.key) (with_own directory own dirs) ≡ map (λ (d : Place). d.key) dirs
with_own_keys directory own [] = refl
with_own_keys directory own (p ∷ ps) =
    elim (same_name directory p.key) as (λ b. map (λ (d : Place). d.key) (cond b (record p { own = Some own } ∷ ps) (p ∷ with_own directory own ps)) ≡ p.key ∷ map (λ (d : Place). d.key) ps) [
      | true ↦ refl
      | false ↦ ap (λ ks. p.key ∷ ks) (with_own_keys directory own ps)
    ]

judged_is : (dirs moved : List Place) (o : Option DirFault) → judged dirs o ≡ Ok moved → dirs ≡ moved
judged_is dirs moved None e = cc
judged_is dirs moved (Some fault) e = cc

pub moved_keys : (directory : Name) (text : List ℕ) (dirs moved : List Place) → with_target directory text dirs ≡ Ok moved → map (λ (d : Place). d.key) moved ≡ map (λ (d : Place). d.key) dirs
moved_keys directory text dirs moved e =
    let after = with_own directory (result_ok (folder_of text)) dirs in
    sym (ap (map (λ (d : Place). d.key)) (judged_is after moved (path_fault after) e)) ∙ with_own_keys directory (result_ok (folder_of text)) dirs

module _ (g : Given) (old new : Seen) (is : IsOf g old) (rows : Rows) (same : rows ≡ g.rows) (answer : Result (List Place) DirFault) (moved : Moved rows answer old new) where
  placed_of : map (λ (d : Place). d.key) moved.placed.dirs ≡ map (λ (r : DirectoryRow). r.directory) g.rows.directory → IsPlaced g.rows old.known moved.placed
  placed_of keys = record { files = subst (λ (r : Rows). AreKeptPaths old.known.directories moved.placed.dirs r.file 0 moved.placed.files) same moved.files; keys = keys }

  pub knows_moved : map (λ (d : Place). d.key) moved.placed.dirs ≡ map (λ (r : DirectoryRow). r.directory) g.rows.directory → Knows g new
  knows_moved keys = record {
    rows = ap rows_in moved.loaded ∙ is.knows.rows;
    now = moved.moment ∙ is.knows.now;
    known = subst (IsKnown g.rows g.former) (sym moved.known) is.knows.known;
    placed = subst (λ (k : Known). ArePlaced g.rows k new.placed) (sym moved.known) (subst (ArePlaced g.rows old.known) (sym moved.is) (placed_of keys));
  }

both_of : (p : Option Placed) (c : Option Selection) (q : Placed) (choice : Selection) → p ≡ Some q → c ≡ Some choice → AreBoth p c
both_of p c q choice a b = subst (λ (x : Option Placed). AreBoth x c) (sym a) (subst (λ (x : Option Selection). AreBoth (Some q) x) (sym b) tt)

pub some_is : {X : Type 0} (o : Option X) → IsSome o → (x : X) × (o ≡ Some x)
some_is None h = cc
some_is (Some x) h = (x, refl)

module _ (held : Map (List ℕ)) (files : Files) (g : Given) (old new : Seen) (plan : Plan) (directory : Name) (text : List ℕ) (p : Placed) (choice : Selection)
    (is : IsOf g old) (at : old.placed ≡ Some p) (chosen : old.selection ≡ Some choice) where
  costed_is : costed_of old.placed old.selection ≡ Some (record { dirs = p.dirs; choice = choice })
  costed_is = λ i. costed_of (at i) (chosen i)

  before : set_dir directory text (world_over held files g old plan) ≡ (in_table (with_target directory text p.dirs) >>= λ moved. Ok (placed moved choice (world_over held files g old plan)))
  unfolding set_dir
  before = ap (λ c. moved_if directory text c (world_over held files g old plan)) costed_is

  pub set_dir_refused : (fault : Fault) → in_table (with_target directory text p.dirs) ≡ Err fault → set_dir directory text (world_over held files g old plan) ≡ Err fault
  set_dir_refused fault e = before ∙ ap (λ (a : Result (List Place) Fault). a >>= λ moved. Ok (placed moved choice (world_over held files g old plan))) e

  pub set_dir_so : (m : Moved (rows_in old.loaded) (with_target directory text p.dirs) old new) → set_dir directory text (world_over held files g old plan) ≡ Ok (world_over held files g new plan)
  set_dir_so m =
      before ∙ ap (λ (a : Result (List Place) DirFault). in_table a >>= λ moved. Ok (placed moved choice (world_over held files g old plan))) m.dirs
      ∙ ap (λ (w : model.World). Ok w) (λ i. record {
        given = g;
        props = (ap (λ (r : Rows). with_directories r m.placed.dirs old.props) (sym is.knows.rows) ∙ sym m.props) i;
        costed = sym (λ j. costed_of (m.is j) ((m.selection ∙ chosen) j)) i;
        machine = plan_machine held files plan;
      })

  pub moved_seen : Moved (rows_in old.loaded) (with_target directory text p.dirs) old new → IsOf g new × IsCosted new
  moved_seen m =
      let keys = moved_keys directory text p.dirs m.placed.dirs m.dirs ∙ (subst (ArePlaced g.rows old.known) at is.knows.placed).keys in (
        record { knows = knows_moved g old new is (rows_in old.loaded) is.knows.rows (with_target directory text p.dirs) m keys; both = both_of new.placed new.selection m.placed choice m.is (m.selection ∙ chosen) },
        (subst (λ (o : Option Placed). IsSome o) (sym m.is) refl, subst (λ (o : Option Selection). IsSome o) (sym (m.selection ∙ chosen)) refl),
      )

  pub becomes : {X : Type 0} (r : Result X WorldError) → HaveMoved r (rows_in old.loaded) (with_target directory text p.dirs) old new → Becomes r (set_dir directory text (world_over held files g old plan)) (world_over held files g new plan)
  becomes (Ok x) h = set_dir_so h
  becomes (Err error.NoMemory) h = tt
  becomes (Err (error.Fault fault)) h = set_dir_refused fault h

  pub stays : {X : Type 0} (r : Result X WorldError) → HaveMoved r (rows_in old.loaded) (with_target directory text p.dirs) old new → OnOk r (IsOf g new × IsCosted new)
  stays (Ok x) h = moved_seen h
  stays (Err e) h = tt

pub stays_loaded : {X : Type 0} (old new : Seen) (rows : Rows) (answer : Result (List Place) DirFault) (r : Result X WorldError) → HaveMoved r rows answer old new → OnOk r (new.loaded ≡ old.loaded)
stays_loaded old new rows answer (Ok x) h = h.loaded
stays_loaded old new rows answer (Err e) h = tt
