-- What holds everywhere on a walk that isn't refused, and at its end.
use Rattle.std.proofs.Common.{◌≡◌, Bool, true, false, cond, ◌||◌, List, [], ◌∷◌, ◌++◌, fold, Option, Some, None, Ok, refl, sym, ap, subst, ◌∙◌}
use Rattle.std.proofs.lemmas.List.{append-nil}
use Rattle.std.specs.Prelude.{◌&&◌, not, codes, is_none, IfSome}
use Rattle.mi_text.specs.Maps.{Name, same_name, is_among}
use Rattle.mi_text.proofs.MapLemmas.{is_among-append}
use Rattle.mi_base.specs.declared.answers.Fault.TheVariants.{NoFinalize}
use Rattle.mi_base.specs.declared.answers.Cause.{Cause}
use Rattle.mi_base.specs.declared.answers.Cause.TheVariants.{Table}
use Rattle.mi_schema.specs.declared.typed_rows.InstallExecuteSequenceRow.{InstallExecuteSequenceRow}
use Rattle.mi_model.specs.World.{Given, World, Selection}
use Rattle.mi_model.specs.Properties.{started, resolved, placed, cost}
use Rattle.mi_model.specs.Refusals.{◌>>=◌}
use Rattle.mi_model.specs.Selecting.{select}
use Rattle.mi_model.specs.PhaseRows.{Touches, after_rows}
use Rattle.mi_model.specs.Sequence.{sequence, is_inside}
use Rattle.mi_model.specs.Walk.{Walked, at_start, refused, walked_row, at_end, walked_on, walk, ended_rows, last_machine}
use Rattle.mi_model_laws.specs.WalkLaws.{WalksOver}
use Rattle.mi_model_laws.proofs.WalkLemmas.{walks_over}
use Rattle.mi_model_laws.proofs.RowLemmas.{from_ok, bound}
use Rattle.mi_laws.specs.Walks.{StandsAt, Selects, HasSelected}
use Rattle.mi_laws.proofs.UnrefusedLemmas.{IsNext, keeps_all, keeps_at}
use Rattle.mi_laws.proofs.StepKindLemmas.{IsNotEnd, phase_is_no_end}
use Rattle.mi_laws.proofs.StepLemmas.{Steps, Passed, Idle, Costs, Moves, Ran, Ended, row_steps}

-- ---- everywhere

pub record IsSound (g : Given) (w : Walked) : Type 0 where
  pub given : w.world.given ≡ g
  pub selected : HasSelected g w.world
  -- outside InstallInitialize and InstallFinalize nothing waits for the end of a segment
  pub closed : is_inside w.begun ≡ false → w.since ≡ []

or_other : (b : Bool) → (false || false) ≡ false → (b || (false || false)) ≡ b
or_other true e = refl
or_other false e = refl

inside_still : (a b c d : Bool) → d ≡ false → (a && not b) ≡ true → ((a || c) && not (b || (d || false))) ≡ true
inside_still true false true false e is = refl
inside_still true false false false e is = refl
inside_still a b c true e is = cc
inside_still true true c false e is = cc
inside_still false b c false e is = cc

-- an action that isn't the end doesn't lead out
pub stays_inside : (begun : List Name) (action : Name) → IsNotEnd action → is_inside begun ≡ true → is_inside (begun ++ action ∷ []) ≡ true
stays_inside begun action isnt is =
    ap (λ a. a && not (is_among (codes "InstallFinalize") (begun ++ action ∷ []))) (is_among-append (codes "InstallInitialize") begun (action ∷ []))
    ∙ ap (λ b. (is_among (codes "InstallInitialize") begun || is_among (codes "InstallInitialize") (action ∷ [])) && not b) (is_among-append (codes "InstallFinalize") begun (action ∷ []))
    ∙ inside_still (is_among (codes "InstallInitialize") begun) (is_among (codes "InstallFinalize") begun) (is_among (codes "InstallInitialize") (action ∷ [])) (same_name (codes "InstallFinalize") action) isnt is

not_inside : (begun : List Name) (action : Name) → IsNotEnd action → (b : Bool) → is_inside begun ≡ b → is_inside (begun ++ action ∷ []) ≡ false → is_inside begun ≡ false
not_inside begun action isnt true is out = let both = sym (stays_inside begun action isnt is) ∙ out in cc
not_inside begun action isnt false is out = is

cost_selects : (g : Given) (w u : World) → w.given ≡ g → cost w ≡ Ok u → (u.given ≡ g) × HasSelected g u
unfolding cost
cost_selects g w u given e =
    let dirs = bound (resolved w.given w.props) (λ dirs. select w.given w.props dirs >>= λ choice. Ok (placed dirs choice w)) u e in
    let choice = bound (select w.given w.props dirs.value) (λ choice. Ok (placed dirs.value choice w)) u dirs.rest in
    let is = from_ok (placed dirs.value choice.value w) u choice.rest in
    subst (λ (v : World). (v.given ≡ g) × HasSelected g v) is (given, record { props = w.props; dirs = dirs.value; is = ap (λ (h : Given). select h w.props dirs.value) (sym given) ∙ choice.is })

pub sound_row : (g : Given) (w : Walked) (r : InstallExecuteSequenceRow) → IsNext g w r → w.refusal ≡ None → IsSound g w → (walked_row w r).refusal ≡ None → IsSound g (walked_row w r)
sound_row g w r on none s unrefused = by (walked_row w r) (row_steps w r none unrefused)
  where
    by : (v : Walked) → Steps w r.action v → IsSound g v
    by v (Passed is) = subst (IsSound g) (sym is) s
    by v (Idle outer no_cost is) = subst (IsSound g) (sym is) (record { given = s.given; selected = s.selected; closed = λ out. s.closed (not_inside w.begun r.action outer.isnt (is_inside w.begun) refl out) })
    by v (Costs outer named u costs is) =
        let cs = cost_selects g w.world u s.given costs in
        subst (IsSound g) (sym is) (record { given = cs.0; selected = cs.1; closed = λ out. s.closed (not_inside w.begun r.action outer.isnt (is_inside w.begun) refl out) })
    by v (Moves outer no_cost u keeps is) =
        subst (IsSound g) (sym is) (record { given = keeps.given ∙ s.given; selected = subst (λ (o : Option Selection). IfSome o (Selects g)) (sym keeps.choice) s.selected; closed = λ out. s.closed (not_inside w.begun r.action outer.isnt (is_inside w.begun) refl out) })
    by v (Ran effect phase rows touched inside is) =
        subst (IsSound g) (sym is) (record { given = s.given; selected = s.selected; closed = λ out. absurd (let both = sym (stays_inside w.begun r.action (phase_is_no_end r.action effect phase) inside) ∙ out in cc) })
    by v (Ended inside no_cost no_phase is) = subst (IsSound g) (sym is) (record { given = s.given; selected = s.selected; closed = λ out. refl })

pub sound_start : (g : Given) → IsSound g (at_start g)
unfolding at_start started
sound_start g = record { given = refl; selected = tt; closed = λ out. refl }

pub sound_at : (g : Given) (w : Walked) → StandsAt g w → w.refusal ≡ None → IsSound g w
sound_at g w on none = keeps_at g (IsSound g) (sound_row g) w (sound_start g) on none

-- ---- at the end

-- a walk that isn't refused ends after its rows, outside
pub record IsDone (g : Given) (w : Walked) : Type 0 where
  pub whole : walk g ≡ w
  pub rows : w ≡ fold walked_row (at_start g) (sequence g.rows)
  pub none : w.refusal ≡ None
  pub outside : is_inside w.begun ≡ false

pub walk_done : (g : Given) → (walk g).refusal ≡ None → IsDone g (fold walked_row (at_start g) (sequence g.rows))
unfolding walk walked_on
walk_done g none = by (fold walked_row (at_start g) (sequence g.rows)) refl (is_none (fold walked_row (at_start g) (sequence g.rows)).refusal && is_inside (fold walked_row (at_start g) (sequence g.rows)).begun) refl none
  where
    both : (o : Option Cause) (b : Bool) → o ≡ None → (is_none o && b) ≡ false → b ≡ false
    both None b e f = f
    both (Some x) b e f = cc

    by : (w : Walked) → w ≡ fold walked_row (at_start g) (sequence g.rows) → (b : Bool) → (is_none w.refusal && is_inside w.begun) ≡ b → (cond b (refused (Table NoFinalize) w) w).refusal ≡ None → IsDone g w
    by w rows true is none = cc
    by w rows false is none = record {
      whole = ap at_end (sym rows) ∙ ap (λ b. cond b (refused (Table NoFinalize) w) w) is;
      rows = rows;
      none = none;
      outside = both w.refusal (is_inside w.begun) none is;
    }

-- its last machine is the one that it has reached
pub last_is : (g : Given) (w : Walked) → IsDone g w → IsSound g w → last_machine (walk g) ≡ w.world.machine
unfolding last_machine
last_is g w done s =
    let over = subst (WalksOver g) done.whole (walks_over g) in
    ap last_machine done.whole
    ∙ ap (λ (h : Given). after_rows h.former (ended_rows w)) over.given
    ∙ ap (after_rows g.former) (sym (append-nil (ended_rows w)) ∙ ap (λ (since : List Touches). ended_rows w ++ since) (sym (s.closed done.outside)))
    ∙ sym over.machine

-- what each row keeps holds at the end
pub at_the_end : (g : Given) (I : Walked → Type 0) → ((w : Walked) (r : InstallExecuteSequenceRow) → IsNext g w r → w.refusal ≡ None → I w → (walked_row w r).refusal ≡ None → I (walked_row w r)) → (w : Walked) → I (at_start g) → IsDone g w → I w
at_the_end g I step w start done = subst I (sym done.rows) (keeps_all g I step start (ap (λ (v : Walked). v.refusal) (sym done.rows) ∙ done.none))

pub sound_end : (g : Given) (w : Walked) → IsDone g w → IsSound g w
sound_end g w done = at_the_end g (IsSound g) (sound_row g) w (sound_start g) done
