-- Each folder at its end.
use Rattle.std.proofs.Common.{◌≡◌, ◌<◌, ◌+◌, true, false, List, [], ◌∷◌, ℕ, sym, ap, subst, ◌∙◌, arith, take, length}
use Rattle.std.specs.Prelude.{◌==◌, nat_eq}
use Rattle.std.specs.List.{slice_index_or}
use Rattle.std.proofs.lemmas.Bool.Decides.{nat_tests}
use Rattle.std.proofs.lemmas.Str.{IsCharBoundary-after_ascii}
use Rattle.mi_text.specs.Maps.{Map}
use Rattle.mi_base.specs.declared.entry.Entry.TheVariants as entry
use Rattle.mi_base.specs.Limits.{fits}
use Rattle.mi_steps.specs.declared.plan.Plan.{Plan}
use Rattle.mi_steps.specs.Follows.{Follows}
use Rattle.mi_steps.specs.Makes.{plan_machine}
use Rattle.mi_model.specs.Parents.{folder_touch}
use Rattle.mi_records.specs.Keeps.{Keeps}
use Rattle.mi_records.proofs.KeyLemmas.{keeps_not, keeps_on, front_at}
use Rattle.mi_files.proofs.ParentLemmas.{Along, along_start, along_pass, along_end, along_all, folder_fits, ends_there, ends_not, in_drive}
use Rattle.mi_files.proofs.parents.make_folders.Goals as goal
use Rattle.mi_files.proofs.parents.make_folders.Goals.{then-place-gt2+then-byte-eq92+in_ok-make_folder, else-place-gt2, else-place-gt2-via-then-place-gt2+else-byte-eq92, else-place-gt2-via-else-place-gt2}

pub loop-place-init : goal.loop-place-init
loop-place-init c = record {
  along = λ held files. along_start files (plan_machine held files c.args.plan.now) c.args.plan.now.script c.args.folder.now;
  keeps = keeps_not c.args.plan.now;
}

pub range-requires-clause-end_boundary : goal.range-requires-clause-end_boundary
range-requires-clause-end_boundary c =
    let long = c.as_bytes-byte-items.ensures.len in
    let byte = ap (λ (l : List ℕ). slice_index_or l c.loop-place.place 0) (sym c.as_bytes-byte-items.ensures.value) ∙ c.if-byte-eq92.true in
    IsCharBoundary-after_ascii c.as_str-text.result.now c.loop-place.place c.as_str-text.utf8 (omega (arith, long, c.loop-place-test.true)) (omega (arith, byte))

pub make_folder-requires : goal.make_folder-requires
make_folder-requires c =
    let path = c.args.folder.now in
    let place = c.loop-place.place in
    let same = c.as_bytes-byte-items.ensures.value ∙ c.as_str-text.ensures.text in
    let long : place < length path = subst (λ (l : List ℕ). place < length l) same c.loop-place-test.true in
    let slash : (slice_index_or path place 0 == 92) ≡ true = ap (λ (l : List ℕ). nat_eq (slice_index_or l place 0) 92) (sym same) ∙ ap (λ n. nat_eq n 92) c.if-byte-eq92.true in
    ap (λ (p : List ℕ). fits (entry.Folder p)) (c.range.ensures.value ∙ front_at c.as_str-text.result.now (place + 1) ∙ ap (λ (p : List ℕ). take (place + 1) p) c.as_str-text.ensures.text)
    ∙ folder_fits path place c.requires c.if-place-gt2.true long slash

pub loop-place-preserved : goal.loop-place-preserved
loop-place-preserved c =
    let path = c.args.folder.now in
    let place = c.loop-place.place in
    let same = c.as_bytes-byte-items.ensures.value ∙ c.as_str-text.ensures.text in
    let long : place < length path = subst (λ (l : List ℕ). place < length l) same c.loop-place-test.true in
    elim c.if-place-gt2.branch [
      | then-place-gt2+then-byte-eq92+in_ok-make_folder w ↦
          let slash : (slice_index_or path place 0 == 92) ≡ true = ap (λ (l : List ℕ). nat_eq (slice_index_or l place 0) 92) (sym same) ∙ ap (λ n. nat_eq n 92) w.if-byte-eq92.true in
          subst (λ (p : Plan). record {
            along : (held files : Map (List ℕ)) → Along files (plan_machine held files c.args.plan.now) (plan_machine held files p) c.args.plan.now.script p.script path (place + 1);
            keeps : Keeps c.args.plan.now p;
          }) (sym w.plan-is)
          (record {
            along = λ held files. along_end files (plan_machine held files c.args.plan.now) (plan_machine held files c.loop-place.plan) c.args.plan.now.script c.loop-place.plan.script path place (c.loop-place.invariant.along held files)
                (plan_machine held files w.make_folder.new.plan) w.make_folder.new.plan.script long (ends_there path place w.if-place-gt2.true slash)
                (subst (λ (p : List ℕ). Follows files (plan_machine held files c.loop-place.plan) (plan_machine held files w.make_folder.new.plan) c.loop-place.plan.script w.make_folder.new.plan.script (folder_touch p ∷ []))
                (w.range.ensures.value ∙ front_at c.as_str-text.result.now (place + 1) ∙ ap (λ (p : List ℕ). take (place + 1) p) c.as_str-text.ensures.text) (w.in_ok-make_folder.ensures.makes held files));
            keeps = keeps_on c.args.plan.now c.loop-place.plan w.make_folder.new.plan c.loop-place.invariant.keeps w.in_ok-make_folder.ensures.keeps;
          })
      | else-place-gt2 w ↦
          subst (λ (p : Plan). record {
            along : (held files : Map (List ℕ)) → Along files (plan_machine held files c.args.plan.now) (plan_machine held files p) c.args.plan.now.script p.script path (place + 1);
            keeps : Keeps c.args.plan.now p;
          }) (sym w.plan-is)
          (elim w.else-place-gt2.branch [
            | else-place-gt2-via-then-place-gt2+else-byte-eq92 v ↦
                let other = v.if-byte-eq92.false in
                let inner : (slice_index_or path place 0 == 92) ≡ false = ap (λ (l : List ℕ). nat_eq (slice_index_or l place 0) 92) (sym same) ∙ grind (arith, nat_tests) in
                (record {
                  along = λ held files. along_pass files (plan_machine held files c.args.plan.now) (plan_machine held files c.loop-place.plan) c.args.plan.now.script c.loop-place.plan.script path place (c.loop-place.invariant.along held files) long (ends_not path place inner);
                  keeps = c.loop-place.invariant.keeps;
                })
            | else-place-gt2-via-else-place-gt2 v ↦
                (record {
                  along = λ held files. along_pass files (plan_machine held files c.args.plan.now) (plan_machine held files c.loop-place.plan) c.args.plan.now.script c.loop-place.plan.script path place (c.loop-place.invariant.along held files) long (in_drive path place (omega (arith, v.if-place-gt2.false)));
                  keeps = c.loop-place.invariant.keeps;
                })
          ])
    ]

pub returns-clause-makes : goal.returns-clause-makes
returns-clause-makes c = λ held files.
    let same = c.as_bytes-byte-items.ensures.value ∙ c.as_str-text.ensures.text in
    let long = ap (λ (l : List ℕ). length l) same in
    along_all files (plan_machine held files c.args.plan.now) (plan_machine held files c.loop-place.plan) c.args.plan.now.script c.loop-place.plan.script c.args.folder.now c.loop-place.place (c.loop-place.invariant.along held files) (omega (arith, long, c.loop-place-test.false)) c.requires
