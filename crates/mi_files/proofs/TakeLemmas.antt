-- What rows that take files away make of a plan, and the folders that they touch.
use Rattle.std.proofs.Common.{◌≡◌, ℕ, ◌<◌, ◌≤◌, ◌+◌, Bool, true, false, cond, List, [], ◌∷◌, ◌++◌, map, take, length, get_or, Option, Some, None, refl, sym, ap, subst, ◌∙◌, append_assoc, arith}
use Rattle.std.specs.Prelude.{Result, Ok, Err, OnOk, is_none}
use Rattle.std.specs.List.{filter_map}
use Rattle.std.specs.Option.{option_to_list, option_flatten}
use Rattle.std.proofs.lemmas.List.{append-nil, map-append, take_all}
use Rattle.mi_text.specs.Fold.{folded}
use Rattle.mi_text.specs.Maps.{Map}
use Rattle.mi_base.specs.declared.answers.Fault.{Fault}
use Rattle.mi_base.specs.Names.{file_name}
use Rattle.mi_source.specs.Paths.{Files}
use Rattle.mi_changes.specs.Touches.{Clear}
use Rattle.mi_dirs.specs.Places.{Folder}
use Rattle.mi_text.specs.FileNames.{long_name}
use Rattle.mi_schema.specs.declared.typed_rows.RemoveFileRow.{RemoveFileRow}
use Rattle.mi_model.specs.ComponentRows.{is_local}
use Rattle.mi_model.specs.RemoveFiles.{takes_in}
use Rattle.mi_model.specs.Texts.{Text}
use Rattle.mi_model.specs.World.{World, RowEffect}
use Rattle.mi_model.specs.FilePaths.{is_guarded_file, takes_file}
use Rattle.mi_steps.specs.declared.plan.Plan.{Plan}
use Rattle.mi_steps.specs.Follows.{drop_touch}
use Rattle.mi_steps.specs.Makes.{Makes, plan_machine}
use Rattle.mi_steps.proofs.FollowLemmas.{started}
use Rattle.mi_records.specs.declared.error.PlanError.{PlanError}
use Rattle.mi_records.specs.declared.error.PlanError.TheVariants as error
use Rattle.mi_records.specs.Clients.{IsFault}
use Rattle.mi_records.specs.Rows.{Row}
use Rattle.mi_records.proofs.NamedLemmas.{picked_one}
use Rattle.mi_files.specs.Taking.{takes, touched_more}

-- ---- the file of a path

module _ (held : Map (List ℕ)) (files : Files) (w : World) (path : Text) where
  -- a guarded one stays
  pub guarded_stays : (p : Plan) → is_guarded_file w (file_name path) ≡ true → Makes held files p p (takes_file w path)
  guarded_stays p is = subst (λ b. Makes held files p p (cond b [] (drop_touch (file_name path) ∷ []))) (sym is) (started files (plan_machine held files p) p.script)

  -- any other goes
  pub free_goes : (a b : Plan) → is_guarded_file w (file_name path) ≡ false → Makes held files a b (drop_touch (file_name path) ∷ []) → Makes held files a b (takes_file w path)
  free_goes a b is made = subst (λ t. Makes held files a b (cond t [] (drop_touch (file_name path) ∷ []))) (sym is) made

-- ---- a row

module _ (held : Map (List ℕ)) (files : Files) (a b : Plan) where
  -- the row is refused so
  pub row_refused_so : (A : Type 0) (effect : RowEffect) (f : Fault) (e : PlanError) → effect (plan_machine held files a) ≡ Err f → IsFault f e → Row held files a b {A = A} effect (Err e)
  row_refused_so A effect f error.NoMemory at is = tt
  row_refused_so A effect f (error.Fault g) at is = at ∙ ap Err (sym is)

-- ---- the folders that rows touch

module _ {R : Type 0} (tell : R → Option Text) (xs : List R) (old : List (List ℕ)) where
  pub touched_none : old ≡ touched_more tell (take 0 xs) old
  touched_none = sym (append-nil old)

  pub touched_one : (k : ℕ) (x : R) (o : Option Text) (mid new : List (List ℕ)) → k < length xs → x ≡ get_or xs k x → o ≡ tell x → mid ≡ touched_more tell (take k xs) old → new ≡ mid ++ map folded (option_to_list o) → new ≡ touched_more tell (take (k + 1) xs) old
  touched_one k x o mid new within is found so_far grown =
      grown
      ∙ ap (λ (l : List (List ℕ)). l ++ map folded (option_to_list o)) so_far
      ∙ append_assoc old (map folded (filter_map tell (take k xs))) (map folded (option_to_list o))
      ∙ ap (λ (l : List (List ℕ)). old ++ l) (sym (map-append folded (filter_map tell (take k xs)) (option_to_list o)))
      ∙ ap (λ (l : List Text). old ++ map folded l) (picked_one tell xs k x o (filter_map tell (take k xs)) (filter_map tell (take k xs) ++ option_to_list o) within is found refl refl)

  pub touched_all : (k : ℕ) (new : List (List ℕ)) → length xs ≤ k → new ≡ touched_more tell (take k xs) old → new ≡ touched_more tell xs old
  touched_all k new at is = is ∙ ap (λ (rs : List R). touched_more tell rs old) (take_all k xs (omega (arith, at)))

-- ---- a row of RemoveFile

module _ (w : World) (r : RemoveFileRow) (folder : Folder) (held : Map (List ℕ)) (files : Files) (a b : Plan) where
  -- with a FileName
  pub pattern_taken : (name pattern : Text) (local : Bool) → r.file_name ≡ Some name → pattern ≡ long_name name → local ≡ is_local w r.component → Makes held files a b (Clear (takes (is_guarded_file w) local folder pattern) ∷ []) → Makes held files a b (takes_in w r folder r.file_name)
  pattern_taken name pattern local is pattern_is local_is made =
      subst (λ (o : Option Text). Makes held files a b (takes_in w r folder o)) (sym is)
      (subst (λ t. Makes held files a b (Clear (takes (is_guarded_file w) t folder (long_name name)) ∷ [])) local_is
      (subst (λ (p : Text). Makes held files a b (Clear (takes (is_guarded_file w) local folder p) ∷ [])) pattern_is made))

-- without one
pub nothing_taken : (w : World) (r : RemoveFileRow) (folder : Folder) (held : Map (List ℕ)) (files : Files) (a : Plan) → r.file_name ≡ None → Makes held files a a (takes_in w r folder r.file_name)
nothing_taken w r folder held files a is = subst (λ (o : Option Text). Makes held files a a (takes_in w r folder o)) (sym is) (started files (plan_machine held files a) a.script)

-- then its folder is touched, and else it isn't
pub named_untouched : (o : Option Text) (name : Text) (folder : Folder) (places : List (List ℕ)) → o ≡ Some name → places ≡ places ++ map folded (option_to_list (cond (is_none o) (Some folder) None))
named_untouched o name folder places is = sym (ap (λ (n : Option Text). places ++ map folded (option_to_list (cond (is_none n) (Some folder) None))) is ∙ append-nil places)

pub unnamed_touched : (o : Option Text) (folder : Folder) (place : List ℕ) (old new : List (List ℕ)) → o ≡ None → place ≡ folded folder → new ≡ old ++ place ∷ [] → new ≡ old ++ map folded (option_to_list (cond (is_none o) (Some folder) None))
unnamed_touched o folder place old new is at grown =
    grown
    ∙ ap (λ (p : List ℕ). old ++ p ∷ []) at
    ∙ sym (ap (λ (n : Option Text). old ++ map folded (option_to_list (cond (is_none n) (Some folder) None))) is)

none_either : (b : Bool) → cond {A = Option Folder} b None None ≡ None
none_either true = refl
none_either false = refl

-- a row whose property is empty touches nothing
pub empty_untouched : (b : Bool) (o : Option (Option Folder)) (places : List (List ℕ)) → None ≡ o → places ≡ places ++ map folded (option_to_list (cond b (option_flatten o) None))
empty_untouched b o places is =
    sym (ap (λ (x : Option (Option Folder)). places ++ map folded (option_to_list (cond b (option_flatten x) None))) (sym is) ∙ ap (λ (x : Option Folder). places ++ map folded (option_to_list x)) (none_either b) ∙ append-nil places)

-- what holds holds of any answer
pub on_ok : {A E : Type 0} {P : Type 0} (r : Result A E) → P → OnOk r P
on_ok (Ok x) is = is
on_ok (Err e) is = tt
