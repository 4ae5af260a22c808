-- A run takes files and values away by rows alone.
use Rattle.std.proofs.Common.{◌≡◌, ℕ, Bool, true, false, ◌||◌, List, Option, Some, None, refl, sym, ap, subst, ◌∙◌}
use Rattle.std.specs.Prelude.{◌&&◌, not}
use Rattle.std.specs.List.{AllByRecursion}
use Rattle.std.specs.FinMap.{get}
use Rattle.mi_text.specs.Maps.{Name}
use Rattle.mi_base.specs.declared.entry.Entry.{Entry}
use Rattle.mi_base.specs.Machine.{Machine}
use Rattle.mi_base.specs.Names.{file_name, value_name}
use Rattle.mi_schema.specs.declared.typed_rows.InstallExecuteSequenceRow.{InstallExecuteSequenceRow}
use Rattle.mi_model.specs.Texts.{Text}
use Rattle.mi_model.specs.World.{Given, World, Effect}
use Rattle.mi_model.specs.Phases.{phases}
use Rattle.mi_model.specs.PhaseRows.{Touches, after_rows}
use Rattle.mi_model.specs.Properties.{started}
use Rattle.mi_model.specs.Walk.{Walked, at_start, walked_row, walk, last_machine}
use Rattle.mi_model_laws.specs.PhaseLaws.{IsAfter}
use Rattle.mi_model_laws.proofs.WalkLemmas.{cost_keeps}
use Rattle.mi_model.specs.FilePaths.{is_guarded_file}
use Rattle.mi_model_laws.specs.FileLaws.{is_removed}
use Rattle.mi_model_laws.specs.CopyLaws.{is_copy_of_leaving}
use Rattle.mi_laws.specs.ValueLaws.{is_named_by_leaving, is_named_by_removal, is_count_of_leaving, KeepsValues, ValuesGoByRows}
use Rattle.mi_laws.specs.ValueLaws as phase
use Rattle.mi_laws.specs.FileLaws.{KeepsFiles}
use Rattle.mi_laws.proofs.FileLemmas.{files_go_by_rows}
use Rattle.mi_laws.proofs.ValueLemmas.{values_go_by_rows}
use Rattle.mi_laws.specs.Removal.{names_file, names_value, IsNamedBy, GoesInRun, RunsTakeByRows}
use Rattle.mi_laws.proofs.UnrefusedLemmas.{IsNext, stands_at}
use Rattle.mi_laws.proofs.StepKindLemmas.{phase_of}
use Rattle.mi_laws.proofs.StepLemmas.{Steps, Passed, Idle, Costs, Moves, Ran, Ended, row_steps}
use Rattle.mi_laws.proofs.SelectLemmas.{leaving_may}
use Rattle.mi_laws.proofs.SoundLemmas.{sound_at, walk_done, sound_end, last_is, at_the_end}

-- what an effect takes away at a name, rows name
abbrev pub TakesByRows : (World → Name → Bool) → Name → Effect → Type 0
TakesByRows names q effect = (w : World) → phase.Goes effect w q → names w q ≡ true

-- one that keeps the name takes nothing away there
kept : (names : World → Name → Bool) (q : Name) (effect : Effect) → ((w : World) (m : Machine) → IsAfter effect w m → get m q ≡ get w.machine q) → TakesByRows names q effect
kept names q effect keeps w g = let both = sym g.stood ∙ sym (keeps w g.machine g.after) ∙ g.gone in cc

or_first : (a b : Bool) → a ≡ true → (a || b) ≡ true
or_first true b e = refl
or_first false b e = cc

or_second : (a b : Bool) → b ≡ true → (a || b) ≡ true
or_second true b e = refl
or_second false b e = e

-- ---- along the walk

module _ (g : Given) (names : World → Name → Bool) (q : Name) (each : AllByRecursion (λ (p : Name × Effect). TakesByRows names q p.1) phases) (entry : Entry) (stood : get g.former q ≡ Some entry) where
  abbrev Named : Walked → Type 0
  Named w = get w.world.machine q ≡ None → IsNamedBy names g q

  named_row : (w : Walked) (r : InstallExecuteSequenceRow) → IsNext g w r → w.refusal ≡ None → Named w → (walked_row w r).refusal ≡ None → Named (walked_row w r)
  named_row w r on none so unrefused = by (walked_row w r) (row_steps w r none unrefused)
    where
      ran : (effect : Effect) (rows : List Touches) → TakesByRows names q effect → (after : IsAfter effect w.world (after_rows w.world.machine rows)) → (o : Option Entry) → get w.world.machine q ≡ o → get (after_rows w.world.machine rows) q ≡ None → IsNamedBy names g q
      ran effect rows takes after None is gone = so is
      ran effect rows takes after (Some e) is gone = record { at = w; on = stands_at g w r on; named = takes w.world (record { machine = after_rows w.world.machine rows; after = after; entry = e; stood = is; gone = gone }) }

      by : (v : Walked) → Steps w r.action v → Named v
      by v (Passed is) = subst Named (sym is) so
      by v (Idle outer no_cost is) = subst Named (sym is) so
      by v (Costs outer named u costs is) = subst Named (sym is) (λ gone. so (ap (λ (m : Machine). get m q) (sym (cost_keeps w.world u costs).machine) ∙ gone))
      by v (Moves outer no_cost u keeps is) = subst Named (sym is) (λ gone. so (ap (λ (m : Machine). get m q) (sym keeps.machine) ∙ gone))
      by v (Ran effect phase rows touched inside is) =
          subst Named (sym is) (ran effect rows (phase_of (TakesByRows names q) each r.action effect phase) (record { rows = rows; touched = touched; machine = refl }) (get w.world.machine q) refl)
      by v (Ended inside no_cost no_phase is) = subst Named (sym is) so

  named_start : Named (at_start g)
  unfolding at_start started
  named_start gone = let both = sym stood ∙ gone in cc

  taken_by_rows : (walk g).refusal ≡ None → get (last_machine (walk g)) q ≡ None → IsNamedBy names g q
  taken_by_rows none gone =
      let done = walk_done g none in
      at_the_end g Named named_row _ named_start done (ap (λ (m : Machine). get m q) (sym (last_is g _ done (sound_end g _ done))) ∙ gone)

-- ---- files

files_each : (path : Text) → AllByRecursion (λ (p : Name × Effect). TakesByRows names_file (file_name path) p.1) phases
unfolding phases
files_each path =
    let q = file_name path in
    let law = files_go_by_rows in
    let others = law.others in
    let k = λ (effect : Effect) (keeps : KeepsFiles effect). kept names_file q effect (λ w m after. keeps w m after path) in (
      k _ others.0,
      (
        k _ others.1.0,
        (
          k _ others.1.1.0,
          (
            k _ others.1.1.1.0,
            (
              (λ w g. or_second (is_removed w q) (is_copy_of_leaving w q && not (is_guarded_file w q)) (law.copies w path g)),
              (
                (λ w g. or_first (is_removed w q) (is_copy_of_leaving w q && not (is_guarded_file w q)) (law.removed w path g)),
                (
                  k _ others.1.1.1.1.0,
                  (
                    k _ others.1.1.1.1.1.0,
                    (
                      (λ w g. absurd (law.installed w path g)),
                      (
                        (λ w g. absurd (law.copied w path g)),
                        (
                          k _ others.1.1.1.1.1.1.0,
                          (
                            k _ others.1.1.1.1.1.1.1.0,
                            (
                              k _ others.1.1.1.1.1.1.1.1.0,
                              (
                                k _ others.1.1.1.1.1.1.1.1.1.0,
                                tt,
                              ),
                            ),
                          ),
                        ),
                      ),
                    ),
                  ),
                ),
              ),
            ),
          ),
        ),
      ),
    )

pub files_taken : (g : Given) (path : Text) → (walk g).refusal ≡ None → GoesInRun g (file_name path) → IsNamedBy names_file g (file_name path)
files_taken g path none goes = taken_by_rows g names_file (file_name path) (files_each path) goes.entry goes.stood none goes.gone

-- ---- values

values_each : (root : ℕ) (key name : Text) → AllByRecursion (λ (p : Name × Effect). TakesByRows names_value (value_name root key name) p.1) phases
unfolding phases
values_each root key name =
    let q = value_name root key name in
    let law = values_go_by_rows in
    let others = law.others in
    let k = λ (effect : Effect) (keeps : KeepsValues effect). kept names_value q effect (λ w m after. keeps w m after root key name) in (
      (λ w g. or_second (is_named_by_leaving w q || is_named_by_removal w q) (is_count_of_leaving w q) (law.counted w root key name g)),
      (
        (λ w g. or_first (is_named_by_leaving w q || is_named_by_removal w q) (is_count_of_leaving w q) (law.removed w root key name g)),
        (
          k _ others.0,
          (
            k _ others.1.0,
            (
              k _ others.1.1.0,
              (
                k _ others.1.1.1.0,
                (
                  k _ others.1.1.1.1.0,
                  (
                    k _ others.1.1.1.1.1.0,
                    (
                      k _ others.1.1.1.1.1.1.0,
                      (
                        k _ others.1.1.1.1.1.1.1.0,
                        (
                          k _ others.1.1.1.1.1.1.1.1.0,
                          (
                            (λ w g. absurd (law.written w root key name g)),
                            (
                              k _ others.1.1.1.1.1.1.1.1.1.0,
                              (
                                k _ others.1.1.1.1.1.1.1.1.1.1.0,
                                tt,
                              ),
                            ),
                          ),
                        ),
                      ),
                    ),
                  ),
                ),
              ),
            ),
          ),
        ),
      ),
    )

pub values_taken : (g : Given) (root : ℕ) (key name : Text) → (walk g).refusal ≡ None → GoesInRun g (value_name root key name) → IsNamedBy names_value g (value_name root key name)
values_taken g root key name none goes = taken_by_rows g names_value (value_name root key name) (values_each root key name) goes.entry goes.stood none goes.gone

-- ---- the law

pub law_removal : RunsTakeByRows
law_removal = record {
  files = files_taken;
  values = values_taken;
  leaving = λ g w c on none is. leaving_may g w.world c (sound_at g w on none).selected is;
}
