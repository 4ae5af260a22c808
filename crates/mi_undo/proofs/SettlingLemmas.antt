-- The whole of a settling, by its exits.
use Rattle.std.proofs.Common.{◌≡◌, ℕ, List, Option, IsSome, Result, Err, IsErr, IsErrOf, IfOk, OnOk, refl, sym, ap, subst, ◌∙◌}
use Rattle.std.specs.FinMap.{get}
use Rattle.mi_text.specs.declared.answers.Settled.{Settled}
use Rattle.mi_volume.specs.Maps.{Map}
use Rattle.mi_volume.specs.State.{State, Images, Passes, Rose}
use Rattle.mi_volume.proofs.Moments.{weaker, joined, then_passes, rose_before}
use Rattle.mi_undo.specs.Stands.{StandsFor, noted, stands, settled}
use Rattle.mi_undo.specs.Reading.{Looks}
use Rattle.mi_undo.specs.Short.{IsShort}
use Rattle.mi_undo.specs.Settle.{Settles, IsSettling}
use Rattle.mi_undo.specs.Answers.{IfBad, IfFull}
use Rattle.mi_undo.specs.declared.fault.UndoError.{UndoError}
use Rattle.mi_undo.specs.declared.fault.UndoError.TheVariants.{Fault}
use Rattle.mi_undo.proofs.FaultLemmas.{value_at_err}
use Rattle.mi_undo.proofs.StandsLemmas.{clean_same, unnoted_is}
use Rattle.mi_undo.proofs.SettleSteps.{clean_image, looked_goes, looked_short, short_after, by_answer, known_free, known_value, full_weaker, bad_weaker}
use Rattle.mi_undo.proofs.ShortLemmas.{short_same}

-- before anything is changed
pub settling_looked : (s t : State) (r : Result Settled UndoError) → Looks s t → Passes s t → IsErr r → IfBad r (λ name. ⊥) → IfFull r (λ name. ⊥) → (IsErrOf r Fault → Rose s t) → IsSettling s t r
settling_looked s t r looks passes fails never_bad never_full fault = record {
  settled = value_at_err r _ fails;
  free = value_at_err r _ fails;
  value = value_at_err r _ fails;
  stops = λ clean F sf. looked_goes s t F clean sf looks;
  leaves = λ clean F sf d image. clean_image t s.held F looks.stays.held (λ q now. clean q (looks.stays.dirty q now)) sf d image;
  room = λ clean. looked_short s t clean looks;
  again = λ F sf. ap stands looks.stays.held ∙ sf;
  others = λ F ns sf is q out none. ap (λ (m : Map). get m q) looks.stays.held ∙ unnoted_is s.held F ns sf is q out none;
  unread = λ clean bad refused. weaker s t (Images s) (λ d. d ≡ s.held) (clean_same s s.held refl clean) looks.goes;
  unread_stays = λ bad refused. looks.stays.held;
  unread_leaves = λ clean bad refused d image. clean_same t s.held looks.stays.held (λ q now. clean q (looks.stays.dirty q now)) d image;
  bad = bad_weaker r _ _ (λ name never. absurd never) never_bad;
  passes = passes;
  fault = fault;
  full = full_weaker r _ _ (λ name never. absurd never) never_full;
  short = λ name short. fails;
}

-- behind the first sync
pub settling_synced : (s t u : State) (r : Result Settled UndoError) → Looks s t → Passes s t → IfOk r (λ x. x ≡ settled t.held) → OnOk r ((F : Map) × StandsFor F t.held) → ((F : Map) → StandsFor F t.held → Settles t u F r)
    → ((bad : List ℕ) → stands t.held ≡ Err bad → Looks t u) → IfBad r (λ bad. stands t.held ≡ Err bad) → Passes t u → (IsErrOf r Fault → Rose t u)
    → IfFull r (λ name. IsSome t.capacity × IsShort t.capacity t.held name) → ((name : List ℕ) → IsShort t.capacity t.held name → IsErr r) → IsSettling s u r
settling_synced s t u r looks passes settled_is known settles unread bad then rose full short = record {
  settled = subst (λ (m : Map). IfOk r (λ x. x ≡ settled m)) looks.stays.held settled_is;
  free = known_free t u r known settles;
  value = known_value s.held t u r looks.stays.held known settles;
  stops = λ clean F sf. joined s t u (StandsFor F) (looked_goes s t F clean sf looks) (settles F (ap stands looks.stays.held ∙ sf)).goes;
  leaves = λ clean F sf. (settles F (ap stands looks.stays.held ∙ sf)).leaves;
  room = λ clean. short_after s t u clean looks (by_answer t u (λ q now. clean q (looks.stays.dirty q now)) (stands t.held) refl (λ F sf. (settles F sf).short) unread);
  again = λ F sf. (settles F (ap stands looks.stays.held ∙ sf)).stands;
  others = λ F ns sf is. (settles F (ap stands looks.stays.held ∙ sf)).others ns (ap noted looks.stays.held ∙ is);
  unread = λ clean bad refused.
      let same_held = looks.stays.held in
      joined s t u (λ d. d ≡ s.held) (weaker s t (Images s) (λ d. d ≡ s.held) (clean_same s s.held refl clean) looks.goes)
      (weaker t u (Images t) (λ d. d ≡ s.held) (clean_same t s.held same_held (λ q now. clean q (looks.stays.dirty q now))) (unread bad (ap stands same_held ∙ refused)).goes);
  unread_stays = λ bad refused. (unread bad (ap stands looks.stays.held ∙ refused)).stays.held ∙ looks.stays.held;
  unread_leaves = λ clean bad refused d image.
      let again = (unread bad (ap stands looks.stays.held ∙ refused)).stays in
      clean_same u s.held (again.held ∙ looks.stays.held) (λ q now. clean q (looks.stays.dirty q (again.dirty q now))) d image;
  bad = bad_weaker r _ _ (λ name is. ap stands (sym looks.stays.held) ∙ is) bad;
  passes = then_passes s t u passes then;
  fault = λ fails. rose_before s t u passes (rose fails);
  full = full_weaker r _ _ (λ name h. (subst (λ (k : Option ℕ). IsSome k) passes.capacity h.0, short_same s.capacity t.capacity s.held t.held name passes.capacity looks.stays.held h.1)) full;
  short = λ name h. short name (short_same t.capacity s.capacity t.held s.held name (sym passes.capacity) (sym looks.stays.held) h);
}
