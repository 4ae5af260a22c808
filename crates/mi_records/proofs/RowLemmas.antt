-- Rows that are carried out, one after the other.
use Rattle.std.proofs.Common.{◌≡◌, ℕ, suc, ◌+◌, ◌<◌, ◌≤◌, List, [], ◌∷◌, ◌++◌, map, take, drop, length, get_or, sym, ap, ◌∙◌, subst, arith, drop-cons}
use Rattle.std.specs.Prelude.{Ok, Err}
use Rattle.std.proofs.lemmas.List.{map-append, take_more, take-append-drop, take_all}
use Rattle.mi_base.specs.declared.entry.Entry.{Entry}
use Rattle.mi_base.specs.declared.answers.Fault.{Fault}
use Rattle.mi_base.specs.Machine.{Machine}
use Rattle.mi_source.specs.Paths.{Files}
use Rattle.mi_changes.specs.Touches.{Touch}
use Rattle.mi_script.specs.declared.rec.Rec.{Rec}
use Rattle.mi_model.specs.World.{RowEffect}
use Rattle.mi_model.specs.PhaseRows.{by_rows}
use Rattle.mi_steps.specs.Follows.{Follows}
use Rattle.mi_steps.specs.Rows.{FollowsRows}
use Rattle.mi_steps.proofs.RowLemmas.{row_more, row_refused}

module _ {X : Type 0} (f : X → RowEffect) (xs : List X) (k : ℕ) (x : X) (within : k < length xs) (is : x ≡ get_or xs k x) where
  more : take (k + 1) xs ≡ take k xs ++ x ∷ []
  more = take_more xs k x within ∙ ap (λ (y : X). take k xs ++ y ∷ []) (sym is)

  split : take k xs ++ x ∷ drop (suc k) xs ≡ xs
  split = ap (λ (y : X). take k xs ++ y ∷ drop (suc k) xs) is ∙ ap (λ (ys : List X). take k xs ++ ys) (sym (drop-cons xs k x within)) ∙ take-append-drop k xs

  module _ (files : Files) (a b : Machine) (h i : List Rec) (so_far : FollowsRows files a b h i (map f (take k xs))) where
    -- one row more
    pub one_row : (c : Machine) (j : List Rec) (ts : List (Touch Entry)) → f x b ≡ Ok ts → Follows files b c i j ts → FollowsRows files a c h j (map f (take (k + 1) xs))
    one_row c j ts gives made = subst (λ effects. FollowsRows files a c h j effects) (sym (ap (map f) more ∙ map-append f (take k xs) (x ∷ []))) (row_more files a b h i (map f (take k xs)) so_far c j (f x) ts gives made)

    -- a row that is refused
    pub refused_row : (e : Fault) → f x b ≡ Err e → by_rows a (map f xs) ≡ Err e
    refused_row e refused = ap (by_rows a) (ap (map f) (sym split) ∙ map-append f (take k xs) (x ∷ drop (suc k) xs)) ∙ row_refused files a b h i (map f (take k xs)) so_far (f x) (map f (drop (suc k) xs)) e refused

pub all_rows : {X : Type 0} (f : X → RowEffect) (xs : List X) (k : ℕ) (files : Files) (a b : Machine) (h i : List Rec) → length xs ≤ k → FollowsRows files a b h i (map f (take k xs)) → FollowsRows files a b h i (map f xs)
all_rows f xs k files a b h i at so_far = subst (λ ys. FollowsRows files a b h i (map f ys)) (take_all k xs (omega (arith, at))) so_far
