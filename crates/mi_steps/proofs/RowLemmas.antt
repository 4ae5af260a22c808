-- Steps join to rows, and rows to a phase.
use Rattle.std.proofs.Common.{◌≡◌, List, [], ◌∷◌, ◌++◌, refl, sym, ap, subst, ◌∙◌}
use Rattle.std.proofs.lemmas.List.{append-nil}
use Rattle.std.specs.Prelude.{Result, Ok, Err}
use Rattle.mi_base.specs.declared.entry.Entry.{Entry}
use Rattle.mi_base.specs.declared.answers.Fault.{Fault}
use Rattle.mi_base.specs.Machine.{Machine}
use Rattle.mi_source.specs.Paths.{Files}
use Rattle.mi_changes.specs.Touches.{Touch, after_touches}
use Rattle.mi_script.specs.declared.rec.Rec.{Rec}
use Rattle.mi_model.specs.World.{World, RowEffect, Effect}
use Rattle.mi_model.specs.PhaseRows.{Touches, after_rows, by_rows, phase_rows}
use Rattle.mi_model.specs.Plans.{all_touches, Plans}
use Rattle.mi_model.specs.Refusals.{◌>>=◌}
use Rattle.mi_model_laws.proofs.RowLemmas.{bound, from_ok, behind, with_first}
use Rattle.mi_model_laws.proofs.SpellLemmas.{by_rows_touch}
use Rattle.mi_steps.specs.Follows.{Follows}
use Rattle.mi_steps.specs.Rows.{FollowsRows}
use Rattle.mi_steps.proofs.FollowLemmas.{started, joined}

-- ---- rows behind rows

bind_twice : (x : Result (List Touches) Fault) (ts : Touches) (rows : List Touches) → ((x >>= λ touches. Ok (rows ++ touches)) >>= with_first ts) ≡ (x >>= λ touches. Ok (ts ∷ (rows ++ touches)))
bind_twice (Ok touches) ts rows = refl
bind_twice (Err f) ts rows = refl

-- rows that weren't refused, and others behind them
rows_behind : (m : Machine) (effects more : List RowEffect) (rows : List Touches) → by_rows m effects ≡ Ok rows → by_rows m (effects ++ more) ≡ (by_rows (after_rows m rows) more >>= λ touches. Ok (rows ++ touches))
rows_behind m [] more rows is =
    let none : [] ≡ rows = from_ok [] rows is in
    subst (λ rs. by_rows m more ≡ (by_rows (after_rows m rs) more >>= λ touches. Ok (rs ++ touches))) none (itself (by_rows m more))
  where
    itself : (x : Result (List Touches) Fault) → x ≡ (x >>= λ touches. Ok touches)
    itself (Ok touches) = refl
    itself (Err f) = refl
rows_behind m (e ∷ effects) more rows is =
    let one = bound (e m) (behind m effects) rows is in
    let rest = bound (by_rows (after_touches m one.value) effects) (with_first one.value) rows one.rest in
    let whole : one.value ∷ rest.value ≡ rows = from_ok (one.value ∷ rest.value) rows rest.rest in
    ap (λ x. x >>= behind m (effects ++ more)) one.is
    ∙ ap (λ x. x >>= with_first one.value) (rows_behind (after_touches m one.value) effects more rest.value rest.is)
    ∙ bind_twice (by_rows (after_rows (after_touches m one.value) rest.value) more) one.value rest.value
    ∙ ap (λ rs. by_rows (after_rows m rs) more >>= λ touches. Ok (rs ++ touches)) whole

all-more : (rows : List Touches) (ts : Touches) → all_touches (rows ++ ts ∷ []) ≡ all_touches rows ++ ts
all-more [] ts = append-nil ts
all-more (r ∷ rows) ts = ap (λ us. r ++ us) (all-more rows ts) ∙ sym (assoc r (all_touches rows) ts)
  where
    assoc : (a b c : Touches) → (a ++ b) ++ c ≡ a ++ (b ++ c)
    assoc [] b c = refl
    assoc (t ∷ a) b c = ap (λ us. t ∷ us) (assoc a b c)

-- ---- a loop over the rows of a phase

-- before the first row
pub rows_started : (files : Files) (m : Machine) (h : List Rec) → FollowsRows files m m h h []
rows_started files m h = record { rows = []; touched = refl; follows = started files m h }

module _ (files : Files) (a b : Machine) (h i : List Rec) (effects : List RowEffect) (so_far : FollowsRows files a b h i effects) where
  at_rows : b ≡ after_rows a so_far.rows
  at_rows = so_far.follows.machine ∙ by_rows_touch a so_far.rows

  behind_rows : (more : List RowEffect) → by_rows a (effects ++ more) ≡ (by_rows b more >>= λ touches. Ok (so_far.rows ++ touches))
  behind_rows more = rows_behind a effects more so_far.rows so_far.touched ∙ ap (λ m. by_rows m more >>= λ touches. Ok (so_far.rows ++ touches)) (sym at_rows)

  -- one row more
  pub row_more : (c : Machine) (j : List Rec) (effect : RowEffect) (ts : List (Touch Entry)) → effect b ≡ Ok ts → Follows files b c i j ts → FollowsRows files a c h j (effects ++ effect ∷ [])
  row_more c j effect ts gives one = record {
    rows = so_far.rows ++ ts ∷ [];
    touched = behind_rows (effect ∷ []) ∙ ap (λ x. (x >>= behind b []) >>= λ touches. Ok (so_far.rows ++ touches)) gives;
    follows = subst (λ us. Follows files a c h j us) (sym (all-more so_far.rows ts)) (joined files a b c h i j (all_touches so_far.rows) ts so_far.follows one);
  }

  -- a row that is refused refuses all of them
  pub row_refused : (effect : RowEffect) (more : List RowEffect) (f : Fault) → effect b ≡ Err f → by_rows a (effects ++ effect ∷ more) ≡ Err f
  row_refused effect more f refused = behind_rows (effect ∷ more) ∙ ap (λ x. (x >>= behind b more) >>= λ touches. Ok (so_far.rows ++ touches)) refused

-- ---- a phase

-- after all rows of a phase its plan call has made them
pub phase_planned : (files : Files) (effect : Effect) (w : World) (now : Machine) (had has : List Rec) (effects : List RowEffect) → effect w ≡ Ok effects → FollowsRows files w.machine now had has effects → Plans files effect w now had has
phase_planned files effect w now had has effects is all = record {
  rows = all.rows;
  effects = ap (λ x. x >>= by_rows w.machine) is ∙ all.touched;
  records = all.follows.records;
  grows = all.follows.grows;
  spells = record { is = all.follows.spells; sizes = all.follows.sizes };
  image = all.follows.machine ∙ by_rows_touch w.machine all.rows;
}

-- a phase is refused where its rows are
pub phase_refused : (effect : Effect) (w : World) (effects : List RowEffect) (f : Fault) → effect w ≡ Ok effects → by_rows w.machine effects ≡ Err f → phase_rows effect w ≡ Err f
phase_refused effect w effects f is refused = ap (λ x. x >>= by_rows w.machine) is ∙ refused
