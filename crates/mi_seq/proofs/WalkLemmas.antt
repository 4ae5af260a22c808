-- Steps of a walk, from those of its actions.
use Rattle.std.proofs.Common.{◌≡◌, ℕ, false, List, [], ◌∷◌, ◌++◌, Option, Some, None, sym, ap, ◌∙◌, subst}
use Rattle.std.specs.Prelude.{option_map, unwrap_or, Result, Ok, Err, IfOk}
use Rattle.mi_text.specs.Maps.{Name}
use Rattle.mi_text.specs.Lookups.{Lookups}
use Rattle.mi_base.specs.declared.answers.Fault.{Fault}
use Rattle.mi_schema.specs.declared.package.Package.{Package}
use Rattle.mi_schema.specs.declared.typed_rows.InstallExecuteSequenceRow.{InstallExecuteSequenceRow}
use Rattle.mi_schema.specs.RowsOf.{rows_in}
use Rattle.mi_model.specs.Sequence.{next_row}
use Rattle.mi_model.specs.Steps.{step_of}
use Rattle.mi_seq_rows.specs.Stages.{Reaches}
use Rattle.mi_seq.specs.declared.step.Step.{Step}
use Rattle.mi_seq.specs.declared.step.Step.TheVariants as step
use Rattle.mi_seq.specs.declared.walk.Walk.{Walk}
use Rattle.mi_seq.specs.declared.walk.Refusal.{Refusal}
use Rattle.mi_seq.specs.declared.walk.Refusal.TheVariants as refusal
use Rattle.mi_seq.specs.declared.row.Next.{Next}
use Rattle.mi_seq.specs.declared.refusal.Why.{Why}
use Rattle.mi_seq.specs.declared.refusal.Stop.{Stop}
use Rattle.mi_seq.specs.declared.refusal.Stop.TheVariants as stop
use Rattle.mi_seq.specs.declared.error.SeqError.{SeqError}
use Rattle.mi_seq.specs.declared.error.SeqError.TheVariants.{NoMemory, Refused}
use Rattle.mi_seq.specs.Orders.{rows_at}
use Rattle.mi_seq.specs.Stops.{Answers, is_end, fault_of}
use Rattle.mi_seq.specs.Turns.{IsNext}
use Rattle.mi_seq.specs.Walks.{rest, Stands, Begins, Steps, IsRefused, action_at, told, refusal_of, Tells, IfRefused, IfNoMemory, IsAgain, Turned, KeepsRefusal, Halts}

-- a step that isn't the end begins its row
pub steps : (p : Package) (L : Lookups) (begun : List Name) (old new : Walk) (s : Step) → is_end s ≡ false → Begins p L begun old new s → Steps p L begun old new s
steps p L begun old new (step.Plain action) e b = b
steps p L begun old new step.Launch e b = b
steps p L begun old new step.Cost e b = b
steps p L begun old new step.Initialize e b = b
steps p L begun old new (step.Phase phase) e b = b
steps p L begun old new (step.SetProperty action name text) e b = b
steps p L begun old new (step.SetDir action dir text) e b = b
steps p L begun old new (step.Error action text) e b = b
steps p L begun old new (step.Execute action) e b = b
steps p L begun old new step.Finalize e b = b
steps p L begun old new step.End e b = cc

-- ---- one turn

abbrev NextOf : Type 0
NextOf = Option (InstallExecuteSequenceRow × List InstallExecuteSequenceRow)

module _ (p : Package) (L : Lookups) (old new : Walk) where
  -- a row is begun
  pub begun_row : (n : Next) (s : Step) → IsNext p L old.rest.now n
      → ((begun : List Name) → Reaches old.stage begun → Answers (step_of (rows_in p) L begun n.row.now.action) n.row.now.action (Ok s))
      → new.rest.now ≡ n.behind.now → new.refusal ≡ old.refusal
      → ((begun : List Name) → Reaches old.stage begun → Reaches new.stage (begun ++ n.row.now.action ∷ []))
      → (begun : List Name) → Stands old begun → Steps p L begun old new s
  begun_row n s is answers behind unrefused stage begun stands =
      let a = answers begun stands.stage in
      steps p L begun old new s a.2 (record {
        row = n.row.now;
        next = subst (λ (places : List ℕ). ◌≡◌ {A = NextOf} (next_row L (rest p old)) (Some (n.row.now, rows_at (rows_in p).install_execute_sequence places))) (sym behind) is.next;
        does = a.0;
        action = a.1;
        stands = record { unrefused = unrefused ∙ stands.unrefused; stage = stage begun stands.stage };
      })

  -- the action of the next row
  action_there : (n : Next) → IsNext p L old.rest.now n → action_at p n.place ≡ n.row.now.action
  action_there n is = ap (λ o. unwrap_or (option_map (λ (r : InstallExecuteSequenceRow). r.action) o) []) is.at

  pub refused_row : (n : Next) (why : Why) → IsNext p L old.rest.now n
      → ((begun : List Name) → Reaches old.stage begun → Answers (step_of (rows_in p) L begun n.row.now.action) n.row.now.action (Err (stop.Refused why)))
      → (begun : List Name) → Stands old begun → IsRefused p L begun old (Some (action_at p n.place)) (fault_of (action_at p n.place) why)
  refused_row n why is answers begun stands = record {
    row = n.row.now;
    behind = rows_at (rows_in p).install_execute_sequence n.behind.now;
    next = is.next;
    named = action_there n is;
    does = answers begun stands.stage ∙ ap (λ (a : Name). Err (fault_of a why)) (sym (action_there n is));
  }

  -- what is refused is told and kept
  pub refused_turn : (r : Refusal) (error : SeqError) → Tells error (told p r) → KeepsRefusal old new r error
      → ((begun : List Name) → Stands old begun → IsRefused p L begun old (told p r).0 (told p r).1) → Turned p L old new (Err error)
  refused_turn r NoMemory tells keeps is = keeps
  refused_turn r (Refused action fault) tells keeps is =
      ((λ begun stands. subst (λ (x : Option Name × Fault). IsRefused p L begun old x.0 x.1) (sym tells) (is begun stands)), ap (refusal_of p) keeps ∙ ap Some (sym tells))

  pub halted_turn : (n : Next) (s : Stop) (error : SeqError) → IsNext p L old.rest.now n
      → ((begun : List Name) → Reaches old.stage begun → Answers (step_of (rows_in p) L begun n.row.now.action) n.row.now.action (Err s))
      → Halts p old new n.place s error → Turned p L old new (Err error)
  halted_turn n stop.NoMemory error is answers halts = subst (λ (e : SeqError). Turned p L old new (Err e)) (sym halts.0) halts.1
  halted_turn n (stop.Refused why) error is answers halts = refused_turn (refusal.Action n.place why) error halts.0 halts.1 (refused_row n why is answers)

  -- ---- by its answer

  pub turned_steps : (r : Result Step SeqError) → Turned p L old new r → IfOk r (λ s. (begun : List Name) → Stands old begun → Steps p L begun old new s)
  turned_steps (Ok s) t = t
  turned_steps (Err e) t = tt

  pub turned_refused : (r : Result Step SeqError) → Turned p L old new r → IfRefused r (λ action fault. (begun : List Name) → Stands old begun → IsRefused p L begun old action fault)
  turned_refused (Ok s) t = tt
  turned_refused (Err NoMemory) t = tt
  turned_refused (Err (Refused action fault)) t = t.0

  pub turned_kept : (r : Result Step SeqError) → Turned p L old new r → IfRefused r (λ action fault. ◌≡◌ {A = Option (Option Name × Fault)} (refusal_of p new) (Some (action, fault)))
  turned_kept (Ok s) t = tt
  turned_kept (Err NoMemory) t = tt
  turned_kept (Err (Refused action fault)) t = t.1

  pub turned_unchanged : (r : Result Step SeqError) → Turned p L old new r → IfNoMemory r (new ≡ old)
  turned_unchanged (Ok s) t = tt
  turned_unchanged (Err NoMemory) t = t
  turned_unchanged (Err (Refused action fault)) t = tt

-- ---- a walk that was refused

module _ (p : Package) (w : Walk) (r : Refusal) (is : w.refusal ≡ Some r) where
  refusal_is : refusal_of p w ≡ Some (told p r)
  refusal_is = ap (option_map (told p)) is

  pub none_stands : (P : List Name → Option Name → Fault → Type 0) (e : SeqError) → IfRefused (Err e) (λ action fault. (begun : List Name) → Stands w begun → P begun action fault)
  none_stands P NoMemory = tt
  none_stands P (Refused action fault) = λ begun stands. let here : Some r ≡ None = sym is ∙ stands.unrefused in cc

  pub kept_again : (e : SeqError) → Tells e (told p r) → IfRefused (Err e) (λ action fault. ◌≡◌ {A = Option (Option Name × Fault)} (refusal_of p w) (Some (action, fault)))
  kept_again NoMemory tells = tt
  kept_again (Refused action fault) tells = refusal_is ∙ ap Some (sym tells)

  pub told_again : (e : SeqError) (action : Option Name) (fault : Fault) → Tells e (told p r) → ◌≡◌ {A = Option (Option Name × Fault)} (refusal_of p w) (Some (action, fault)) → IsAgain (Err e) (action, fault)
  told_again e action fault tells at = subst (λ (x : Option Name × Fault). Tells e x) same tells
    where
      same : ◌≡◌ {A = Option Name × Fault} (told p r) (action, fault)
      same = let both : ◌≡◌ {A = Option (Option Name × Fault)} (Some (told p r)) (Some (action, fault)) = sym refusal_is ∙ at in ap (λ (o : Option (Option Name × Fault)). unwrap_or o (told p r)) both

-- a walk that wasn't has no refusal
pub never_again : (p : Package) (w : Walk) (r : Option Name × Fault) → w.refusal ≡ None → ◌≡◌ {A = Option (Option Name × Fault)} (refusal_of p w) (Some r) → ⊥
never_again p w r none at = let e : ◌≡◌ {A = Option (Option Name × Fault)} None (Some r) = sym (ap (option_map (told p)) none) ∙ at in cc

pub unchanged_err : {P : Type 0} (e : SeqError) → P → IfNoMemory (Err e) P
unchanged_err NoMemory is = is
unchanged_err (Refused action fault) is = tt
