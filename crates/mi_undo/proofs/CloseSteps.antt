-- What the calls of the commit write leave.
use Rattle.std.proofs.Common.{◌≡◌, ℕ, true, List, Result, Ok, Err, OnOk, is_ok, subst}
use Rattle.mi_volume.specs.Maps.{Map}
use Rattle.mi_volume.specs.State.{State, GoesOn, ImagesOf, NothingDirty}
use Rattle.mi_volume.proofs.Moments.{weaker, joined}
use Rattle.mi_undo.specs.Names.{marker}
use Rattle.mi_undo.specs.Notes.{Note}
use Rattle.mi_undo.specs.Stands.{outside}
use Rattle.mi_undo.specs.Steps.{SealsByte}
use Rattle.mi_undo.specs.Keeps.{IsStanding, EitherFor}
use Rattle.mi_undo.specs.Commit.{IsHalfway, Closes}
use Rattle.mi_undo.specs.declared.fault.CommitFault.TheVariants.{Undoable, Unknown}
use Rattle.mi_undo.proofs.StepLemmas.{only_then}
use Rattle.mi_undo.proofs.CloseLemmas.{halfway_open, halfway_image, halfway_step, closed, open_again}

at_ok : {T E P : Type 0} (r : Result T E) → is_ok r ≡ true → OnOk r P → P
at_ok (Ok x) is p = p
at_ok (Err e) is p = absurd (cc)

module _ (s : State) (F : Map) (parts : List (List Note)) (o : IsStanding s F parts) (clean : NothingDirty s) (name : List ℕ) (is : name ≡ marker) {T E : Type 0} (t : State) (r : Result T E) (by_name : SealsByte name 0 s t r) where
  A : Map
  A = outside s.held

  seals : SealsByte marker 0 s t r
  seals = subst (λ (n : List ℕ). SealsByte n 0 s t r) is by_name

  half : IsHalfway s F (outside s.held)
  half = halfway_open s F parts o clean

  first : GoesOn s t (EitherFor F (outside s.held))
  first = weaker s t (ImagesOf marker s) (EitherFor F (outside s.held)) (halfway_image s F (outside s.held) half) seals.only.goes

  half_after : IsHalfway t F (outside s.held)
  half_after = halfway_step s t F (outside s.held) half seals.only.others seals.only.dirty seals.one_byte

  pub close_ok : {U : Type 0} (x : U) → is_ok r ≡ true → Closes s t F parts (Ok x)
  close_ok x fine =
      let done = at_ok r fine seals.ok in
      record {
        goes = first;
        only = seals.only;
        ok = closed s t F (outside s.held) half done.0 done.1;
        undoable = λ clash. absurd (cc);
        unknown = tt;
      }

  module _ (u : State) (r2 : Result T E) (again_by_name : SealsByte name 1 t u r2) where
    again : SealsByte marker 1 t u r2
    again = subst (λ (n : List ℕ). SealsByte n 1 t u r2) is again_by_name

    second : GoesOn s u (EitherFor F (outside s.held))
    second = joined s t u (EitherFor F (outside s.held)) first (weaker t u (ImagesOf marker t) (EitherFor F (outside s.held)) (halfway_image t F (outside s.held) half_after) again.only.goes)

    pub close_undoable : {U : Type 0} → is_ok r2 ≡ true → Closes {T = U} s u F parts (Err Undoable)
    close_undoable fine =
        let done = at_ok r2 fine again.ok in
        record {
          goes = second;
          only = only_then s t u marker seals.only again.only;
          ok = tt;
          undoable = λ _. open_again s t u F parts o seals.only.others done.0 done.1;
          unknown = tt;
        }

    pub close_unknown : {U : Type 0} → (a b : ℕ) → Closes {T = U} s u F parts (Err (Unknown a b))
    close_unknown a b = record {
      goes = second;
      only = only_then s t u marker seals.only again.only;
      ok = tt;
      undoable = λ clash. absurd (cc);
      unknown = halfway_step t u F (outside s.held) half_after again.only.others again.only.dirty again.one_byte;
    }
