-- The engine's loop over the walk turn by turn, and the carrying out of what it planned.
use Rattle.std.proofs.Common.{◌≡◌, ℕ, true, false, List, [], ◌∷◌, ◌++◌, Some, None, refl, sym, ap, ◌∙◌, append_assoc, subst, cond, Option}
use Rattle.std.proofs.lemmas.List.{append-nil}
use Rattle.std.specs.Prelude.{fold, length, Result, Ok}
use Rattle.std.specs.List.{flat_map}
use Rattle.mi_text.specs.Maps.{Name, Map}
use Rattle.mi_base.specs.Machine.{Machine, volume_of}
use Rattle.mi_source.specs.Paths.{Files}
use Rattle.mi_schema.specs.declared.typed_rows.InstallExecuteSequenceRow.{InstallExecuteSequenceRow}
use Rattle.mi_base.specs.declared.answers.Fault.{Fault}
use Rattle.mi_base.specs.declared.answers.Cause.{Cause}
use Rattle.mi_model.specs.World.{Given, World, Effect}
use Rattle.mi_model.specs.Asked.{lookups}
use Rattle.mi_model.specs.Conditions.{holds}
use Rattle.mi_model.specs.Properties.{started}
use Rattle.mi_model.specs.Steps.{Step, Plain, Launch, Runs, Ends, step_of}
use Rattle.mi_model.specs.Sequence.{sequence, next_row}
use Rattle.mi_model.specs.LaunchConditions.{launch_refusal}
use Rattle.mi_script.specs.declared.rec.Rec.{Rec}
use Rattle.mi_script.specs.Scripts.{after_script}
use Rattle.mi_model.specs.PhaseRows.{after_rows, phase_rows}
use Rattle.mi_model.specs.Walk.{Part, Walked, refused, or_refused, unless_refused, with_world, with_rows, ended, walked_on, at_end, acted, begin, taken, walk, at_start, last_machine, ended_rows}
use Rattle.mi_model.specs.Plans.{Spells, Plans, Planned, IsPlanned, ArePlanned}
use Rattle.mi_model.specs.Planning.{Walking, IsPlan, at_last_end}
use Rattle.mi_model_laws.proofs.WalkLemmas.{false_row, true_row, refused_on, one_row, no_row}
use Rattle.mi_model_laws.proofs.RowLemmas.{after-append}
use Rattle.mi_model_laws.proofs.SpellLemmas.{after_spells, no_script, joined}

-- ---- the parts

rows-append : (parts : List Part) (p : Part) → flat_map (λ (q : Part). q.rows) (parts ++ p ∷ []) ≡ flat_map (λ (q : Part). q.rows) parts ++ p.rows
rows-append [] p = append-nil p.rows
rows-append (q ∷ parts) p = ap (λ rows. q.rows ++ rows) (rows-append parts p) ∙ sym (append_assoc q.rows _ p.rows)

pub one_part : (files : Files) (m : Machine) (parts : List Part) (plans : List Planned) (p : Part) (planned : Planned)
    → ArePlanned files m parts plans → IsPlanned files (after_rows m (flat_map (λ (q : Part). q.rows) parts)) p planned → ArePlanned files m (parts ++ p ∷ []) (plans ++ planned ∷ [])
one_part files m [] [] p planned are is = (is, tt)
one_part files m [] (q ∷ plans) p planned are is = absurd are
one_part files m (q ∷ parts) [] p planned are is = absurd are
one_part files m (q ∷ parts) (x ∷ plans) p planned are is =
    (are.0, one_part files (after_rows m q.rows) parts plans p planned are.1 (subst (λ n. IsPlanned files n p planned) (after-append m q.rows (flat_map (λ (r : Part). r.rows) parts)) is))

-- ---- the loop

pub starts : (files : Files) (g : Given) → Walking files g (sequence g.rows) (started g) [] [] []
unfolding walk at_start last_machine started
starts files g = record {
  so_far = at_start g;
  goes_on = refl;
  given = refl;
  world = refl;
  begun = refl;
  unrefused = refl;
  ended = tt;
  script = no_script files g.former;
  machine = refl;
}

-- a row whose condition is false
pub passes : (files : Files) (g : Given) (r : InstallExecuteSequenceRow) (rest : List InstallExecuteSequenceRow) (w : World) (names : List Name) (plans : List Planned) (records : List Rec)
    → Walking files g (r ∷ rest) w names plans records → holds (lookups w) r.condition ≡ false → Walking files g rest w names plans records
passes files g r rest w names plans records k isnt = record {
  so_far = k.so_far;
  goes_on = sym (one_row k.so_far k.so_far r rest (false_row k.so_far r (ap (λ v. holds (lookups v) r.condition) k.world ∙ isnt))) ∙ k.goes_on;
  given = k.given;
  world = k.world;
  begun = k.begun;
  unrefused = k.unrefused;
  ended = k.ended;
  script = k.script;
  machine = k.machine;
}

-- what a begun action makes of the walk so far, walked on, is the walk
pub begins : (files : Files) (g : Given) (r : InstallExecuteSequenceRow) (rest : List InstallExecuteSequenceRow) (w : World) (names : List Name) (plans : List Planned) (records : List Rec)
    → (k : Walking files g (r ∷ rest) w names plans records) → holds (lookups w) r.condition ≡ true
    → walked_on (or_refused (step_of g.rows (lookups w) names r.action) (taken r.action (begin r.action k.so_far)) (begin r.action k.so_far)) rest ≡ walk g
begins files g r rest w names plans records k is =
    ap (λ x. walked_on (or_refused x (taken r.action (begin r.action k.so_far)) (begin r.action k.so_far)) rest) same_step
    ∙ sym (one_row k.so_far (acted r.action k.so_far) r rest (true_row k.so_far r k.unrefused (ap (λ v. holds (lookups v) r.condition) k.world ∙ is)))
    ∙ k.goes_on
  where
    same_step : step_of g.rows (lookups w) names r.action ≡ step_of k.so_far.world.given.rows (lookups k.so_far.world) k.so_far.begun r.action
    same_step = ap (λ (h : Given). step_of h.rows (lookups w) names r.action) (sym k.given)
        ∙ ap (λ v. step_of k.so_far.world.given.rows (lookups v) names r.action) (sym k.world)
        ∙ ap (λ ns. step_of k.so_far.world.given.rows (lookups k.so_far.world) ns r.action) (sym k.begun)

-- an action without effect
pub plain : (files : Files) (g : Given) (r : InstallExecuteSequenceRow) (rest : List InstallExecuteSequenceRow) (w : World) (names : List Name) (plans : List Planned) (records : List Rec)
    → Walking files g (r ∷ rest) w names plans records → holds (lookups w) r.condition ≡ true → step_of g.rows (lookups w) names r.action ≡ Ok Plain
    → Walking files g rest w (names ++ r.action ∷ []) plans records
plain files g r rest w names plans records k is step = record {
  so_far = begin r.action k.so_far;
  goes_on = sym (ap (λ x. walked_on (or_refused x (taken r.action (begin r.action k.so_far)) (begin r.action k.so_far)) rest) step) ∙ begins files g r rest w names plans records k is;
  given = k.given;
  world = k.world;
  begun = ap (λ (ns : List Name). ns ++ r.action ∷ []) k.begun;
  unrefused = k.unrefused;
  ended = k.ended;
  script = k.script;
  machine = k.machine;
}

-- an action that makes another world and leaves the machine: CostFinalize, types 51 and 35
pub resets : (files : Files) (g : Given) (r : InstallExecuteSequenceRow) (rest : List InstallExecuteSequenceRow) (w v : World) (names : List Name) (plans : List Planned) (records : List Rec)
    → (k : Walking files g (r ∷ rest) w names plans records) → holds (lookups w) r.condition ≡ true
    → (does : World → Result World Fault) (step : Step) → step_of g.rows (lookups w) names r.action ≡ Ok step
    → ((x : Walked) → taken r.action x step ≡ or_refused (does x.world) (with_world x) x)
    → does w ≡ Ok v → v.given ≡ g → v.machine ≡ w.machine
    → Walking files g rest v (names ++ r.action ∷ []) plans records
resets files g r rest w v names plans records k is does step steps takes made given machine = record {
  so_far = with_world (begin r.action k.so_far) v;
  goes_on =
      sym (ap (λ x. walked_on (or_refused x (with_world (begin r.action k.so_far)) (begin r.action k.so_far)) rest) (ap does k.world ∙ made))
      ∙ sym (ap (λ x. walked_on x rest) (takes (begin r.action k.so_far)))
      ∙ sym (ap (λ x. walked_on (or_refused x (taken r.action (begin r.action k.so_far)) (begin r.action k.so_far)) rest) steps)
      ∙ begins files g r rest w names plans records k is;
  given = given;
  world = refl;
  begun = ap (λ (ns : List Name). ns ++ r.action ∷ []) k.begun;
  unrefused = k.unrefused;
  ended = k.ended;
  script = k.script;
  machine = machine ∙ k.machine;
}

-- LaunchConditions, where none is false
pub launches : (files : Files) (g : Given) (r : InstallExecuteSequenceRow) (rest : List InstallExecuteSequenceRow) (w : World) (names : List Name) (plans : List Planned) (records : List Rec)
    → Walking files g (r ∷ rest) w names plans records → holds (lookups w) r.condition ≡ true → step_of g.rows (lookups w) names r.action ≡ Ok Launch
    → launch_refusal w.given.rows (lookups w) ≡ None
    → Walking files g rest w (names ++ r.action ∷ []) plans records
launches files g r rest w names plans records k is step none = record {
  so_far = begin r.action k.so_far;
  goes_on =
      sym (ap (λ o. walked_on (unless_refused o (begin r.action k.so_far)) rest) (ap (λ v. launch_refusal v.given.rows (lookups v)) k.world ∙ none))
      ∙ sym (ap (λ x. walked_on (or_refused x (taken r.action (begin r.action k.so_far)) (begin r.action k.so_far)) rest) step) ∙ begins files g r rest w names plans records k is;
  given = k.given;
  world = k.world;
  begun = ap (λ (ns : List Name). ns ++ r.action ∷ []) k.begun;
  unrefused = k.unrefused;
  ended = k.ended;
  script = k.script;
  machine = k.machine;
}

-- a phase, by what its plan call says
pub runs : (files : Files) (g : Given) (r : InstallExecuteSequenceRow) (rest : List InstallExecuteSequenceRow) (w v : World) (names : List Name) (plans : List Planned) (had has : List Rec)
    → Walking files g (r ∷ rest) w names plans had → holds (lookups w) r.condition ≡ true
    → (effect : Effect) → step_of g.rows (lookups w) names r.action ≡ Ok (Runs effect)
    → Plans files effect w v.machine had has → v ≡ record w { machine = v.machine }
    → Walking files g rest v (names ++ r.action ∷ []) plans has
runs files g r rest w v names plans had has k is effect steps p stays = record {
  so_far = with_rows (begin r.action k.so_far) p.rows;
  goes_on =
      sym (ap (λ x. walked_on (or_refused x (with_rows (begin r.action k.so_far)) (begin r.action k.so_far)) rest) (ap (phase_rows effect) k.world ∙ p.effects))
      ∙ sym (ap (λ x. walked_on (or_refused x (taken r.action (begin r.action k.so_far)) (begin r.action k.so_far)) rest) steps)
      ∙ begins files g r rest w names plans had k is;
  given = k.given;
  world = ap (λ (u : World). record u { machine = after_rows u.machine p.rows }) k.world ∙ ap (λ m. record w { machine = m }) (sym p.image) ∙ sym stays;
  begun = ap (λ (ns : List Name). ns ++ r.action ∷ []) k.begun;
  unrefused = k.unrefused;
  ended = k.ended;
  script = subst (λ rs. Spells files (at_last_end g k.so_far) (k.so_far.since ++ p.rows) rs) (sym p.grows)
      (joined files (at_last_end g k.so_far) k.so_far.since p.rows had p.records k.script (subst (λ m. Spells files m p.rows p.records) k.machine p.spells));
  machine = p.image ∙ ap (λ m. after_rows m p.rows) k.machine ∙ sym (after-append (at_last_end g k.so_far) k.so_far.since p.rows);
}

-- the end of a segment: its script is kept, and a new one begins
pub ends : (files : Files) (g : Given) (r : InstallExecuteSequenceRow) (rest : List InstallExecuteSequenceRow) (w : World) (names : List Name) (plans : List Planned) (records : List Rec)
    → Walking files g (r ∷ rest) w names plans records → holds (lookups w) r.condition ≡ true → step_of g.rows (lookups w) names r.action ≡ Ok Ends
    → Walking files g rest w (names ++ r.action ∷ []) (plans ++ record { records = records; reached = length (names ++ r.action ∷ []) } ∷ []) []
ends files g r rest w names plans records k is steps = record {
  so_far = ended (begin r.action k.so_far);
  goes_on = sym (ap (λ x. walked_on (or_refused x (taken r.action (begin r.action k.so_far)) (begin r.action k.so_far)) rest) steps) ∙ begins files g r rest w names plans records k is;
  given = k.given;
  world = k.world;
  begun = ap (λ (ns : List Name). ns ++ r.action ∷ []) k.begun;
  unrefused = k.unrefused;
  ended = one_part files g.former k.so_far.parts plans (record { rows = k.so_far.since; reached = length (k.so_far.begun ++ r.action ∷ []) }) _ k.ended
      (record { spells = k.script; reached = ap (λ (ns : List Name). length (ns ++ r.action ∷ [])) (sym k.begun) });
  script = no_script files _;
  machine = k.machine ∙ sym (after-append g.former (ended_rows k.so_far) k.so_far.since) ∙ ap (after_rows g.former) (sym (rows-append k.so_far.parts (record { rows = k.so_far.since; reached = length (k.so_far.begun ++ r.action ∷ []) })));
}

-- ---- its exits

-- a row that is refused: the walk ends there, and all that has ended is planned
pub refuses : (files : Files) (g : Given) (r : InstallExecuteSequenceRow) (rest : List InstallExecuteSequenceRow) (w : World) (names : List Name) (plans : List Planned) (records : List Rec)
    → (k : Walking files g (r ∷ rest) w names plans records) → holds (lookups w) r.condition ≡ true → (cause : Cause)
    → acted r.action k.so_far ≡ refused cause (begin r.action k.so_far)
    → IsPlan files (walk g) (names ++ r.action ∷ []) plans (Some cause)
refuses files g r rest w names plans records k is cause at = subst (λ v. IsPlan files v (names ++ r.action ∷ []) plans (Some cause)) whole (record {
  begun = ap (λ (ns : List Name). ns ++ r.action ∷ []) k.begun;
  ended = subst (λ (h : Given). ArePlanned files h.former k.so_far.parts plans) (sym k.given) k.ended;
  refusal = refl;
})
  where
    whole : refused cause (begin r.action k.so_far) ≡ walk g
    whole =
        sym (refused_on (refused cause (begin r.action k.so_far)) cause rest refl)
        ∙ ap (λ x. walked_on x rest) (sym at)
        ∙ sym (one_row k.so_far (acted r.action k.so_far) r rest (true_row k.so_far r k.unrefused (ap (λ v. holds (lookups v) r.condition) k.world ∙ is)))
        ∙ k.goes_on

-- no row is left, and the walk may end here
pub finishes : (files : Files) (g : Given) (w : World) (names : List Name) (plans : List Planned) (records : List Rec)
    → (k : Walking files g [] w names plans records) → at_end k.so_far ≡ k.so_far → IsPlan files (walk g) names plans None
finishes files g w names plans records k stays = subst (λ v. IsPlan files v names plans None) (sym stays ∙ sym (no_row k.so_far) ∙ k.goes_on) (record {
  begun = k.begun;
  ended = subst (λ (h : Given). ArePlanned files h.former k.so_far.parts plans) (sym k.given) k.ended;
  refusal = k.unrefused;
})

-- no row is left after InstallInitialize without InstallFinalize
pub unfinished : (files : Files) (g : Given) (w : World) (names : List Name) (plans : List Planned) (records : List Rec)
    → (k : Walking files g [] w names plans records) → (cause : Cause) → at_end k.so_far ≡ refused cause k.so_far → IsPlan files (walk g) names plans (Some cause)
unfinished files g w names plans records k cause at = subst (λ v. IsPlan files v names plans (Some cause)) (sym at ∙ sym (no_row k.so_far) ∙ k.goes_on) (record {
  begun = k.begun;
  ended = subst (λ (h : Given). ArePlanned files h.former k.so_far.parts plans) (sym k.given) k.ended;
  refusal = refl;
})

-- ---- carrying out

-- the first segments are carried out: what is held outside the area is the map of the machine at their end
pub carried_one : (files : Files) (m : Machine) (p : Part) (planned : Planned) (d : Map (List ℕ)) → IsPlanned files m p planned → d ≡ volume_of m
    → after_script files d planned.records ≡ volume_of (after_rows m p.rows)
carried_one files m p planned d is at = ap (λ e. after_script files e planned.records) at ∙ after_spells files m p.rows planned.records is.spells

-- the map after all of them, one behind another
pub carried_all : (files : Files) (m : Machine) (parts : List Part) (plans : List Planned) (d : Map (List ℕ)) → ArePlanned files m parts plans → d ≡ volume_of m
    → fold (λ e (planned : Planned). after_script files e planned.records) d plans ≡ volume_of (after_rows m (flat_map (λ (p : Part). p.rows) parts))
carried_all files m [] [] d are at = at
carried_all files m [] (x ∷ plans) d are at = absurd are
carried_all files m (p ∷ parts) [] d are at = absurd are
carried_all files m (p ∷ parts) (x ∷ plans) d are at =
    carried_all files (after_rows m p.rows) parts plans (after_script files d x.records) are.1 (carried_one files m p x d are.0 at)
    ∙ ap volume_of (sym (after-append m p.rows (flat_map (λ (q : Part). q.rows) parts)))

-- ---- rows that are passed over

-- Where a row that holds is next, the walk so far stands before it.
pub before_next : (files : Files) (g : Given) (rows : List InstallExecuteSequenceRow) (r : InstallExecuteSequenceRow) (rest : List InstallExecuteSequenceRow) (w : World) (names : List Name) (plans : List Planned) (records : List Rec)
    → Walking files g rows w names plans records → ◌≡◌ {A = Option (InstallExecuteSequenceRow × List InstallExecuteSequenceRow)} (next_row (lookups w) rows) (Some (r, rest))
    → Walking files g (r ∷ rest) w names plans records × (holds (lookups w) r.condition ≡ true)
before_next files g [] r rest w names plans records k is = cc
before_next files g (s ∷ rows) r rest w names plans records k is =
    elim (holds (lookups w) s.condition) as (λ b. holds (lookups w) s.condition ≡ b → ◌≡◌ {A = Option (InstallExecuteSequenceRow × List InstallExecuteSequenceRow)} (cond b (Some (s, rows)) (next_row (lookups w) rows)) (Some (r, rest)) → Walking files g (r ∷ rest) w names plans records × (holds (lookups w) r.condition ≡ true)) [
      | true ↦ λ e at. found e (same_pair at)
      | false ↦ λ e at. before_next files g rows r rest w names plans records (passes files g s rows w names plans records k e) at
    ] refl is
  where
    pair_in : Option (InstallExecuteSequenceRow × List InstallExecuteSequenceRow) → InstallExecuteSequenceRow × List InstallExecuteSequenceRow
    pair_in (Some p) = p
    pair_in None = (s, rows)

    same_pair : ◌≡◌ {A = Option (InstallExecuteSequenceRow × List InstallExecuteSequenceRow)} (Some (s, rows)) (Some (r, rest)) → ◌≡◌ {A = InstallExecuteSequenceRow × List InstallExecuteSequenceRow} (s, rows) (r, rest)
    same_pair e = ap pair_in e

    found : holds (lookups w) s.condition ≡ true → ◌≡◌ {A = InstallExecuteSequenceRow × List InstallExecuteSequenceRow} (s, rows) (r, rest) → Walking files g (r ∷ rest) w names plans records × (holds (lookups w) r.condition ≡ true)
    found e p = subst (λ (x : InstallExecuteSequenceRow × List InstallExecuteSequenceRow). Walking files g (x.0 ∷ x.1) w names plans records × (holds (lookups w) x.0.condition ≡ true)) p (k, e)

-- Where none is next, it stands behind all rows.
pub behind_all : (files : Files) (g : Given) (rows : List InstallExecuteSequenceRow) (w : World) (names : List Name) (plans : List Planned) (records : List Rec)
    → Walking files g rows w names plans records → next_row (lookups w) rows ≡ None → Walking files g [] w names plans records
behind_all files g [] w names plans records k is = k
behind_all files g (s ∷ rows) w names plans records k is =
    elim (holds (lookups w) s.condition) as (λ b. holds (lookups w) s.condition ≡ b → ◌≡◌ {A = Option (InstallExecuteSequenceRow × List InstallExecuteSequenceRow)} (cond b (Some (s, rows)) (next_row (lookups w) rows)) None → Walking files g [] w names plans records) [
      | true ↦ λ e at. cc
      | false ↦ λ e at. behind_all files g rows w names plans records (passes files g s rows w names plans records k e) at
    ] refl is
