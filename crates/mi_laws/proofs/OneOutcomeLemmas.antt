-- Every run comes to exactly one outcome.
use Rattle.std.proofs.Common.{◌≡◌, ℕ, Option, Some, None, Result, Ok, Err, refl, sym, ap, ◌∙◌}
use Rattle.mi_text.specs.Maps.{Name}
use Rattle.mi_base.specs.declared.answers.Cause.TheVariants.{RecoveryFull}
use Rattle.mi_model.specs.Words.{Command, command_of}
use Rattle.mi_model.specs.PackageOutcome.{Outcome, Refused, only}
use Rattle.mi_model.specs.Outcome.{Handed, IsWithoutRoom, ComesTo, outcome}
use Rattle.mi_laws.specs.Outcomes.{RunsComeToOne}
use Rattle.mi_laws.proofs.ShortLemmas.{short_name, short_name_is, is_short_name}

module _ (h : Handed) where
  -- the name for which settling has no room, if it is asked for
  abbrev room_by : Result Command ℕ → Option Name
  room_by (Ok command) = short_name h.capacity h.held
  room_by (Err place) = None

  is_without : (r : Result Command ℕ) (name : Name) → command_of h.words ≡ r → room_by r ≡ Some name → IsWithoutRoom h name
  is_without (Err place) name asked e = cc
  is_without (Ok command) name asked e = record { command = command; asked = asked; short = short_name_is h.capacity h.held name e }

  without_is : (name : Name) → IsWithoutRoom h name → room_by (command_of h.words) ≡ Some name
  without_is name w = ap room_by w.asked ∙ is_short_name h.capacity h.held name w.short

  abbrev outcome_by : Option Name → Outcome
  outcome_by None = outcome h
  outcome_by (Some name) = only (Refused (RecoveryFull name))

  comes : (o : Option Name) → room_by (command_of h.words) ≡ o → ComesTo h (outcome_by o)
  comes None is = record { short = λ name w. let both = sym is ∙ without_is name w in cc; room = λ none. refl }
  comes (Some name) is = record {
    short = λ other w. ap outcome_by (sym is ∙ without_is other w);
    room = λ none. absurd (none name (is_without (command_of h.words) name refl is));
  }

  is_it : (o : Option Name) (p : Outcome) → room_by (command_of h.words) ≡ o → ComesTo h p → p ≡ outcome_by o
  is_it None p is c = c.room (λ name w. let both = sym is ∙ without_is name w in cc)
  is_it (Some name) p is c = c.short name (is_without (command_of h.words) name refl is)

pub every_run_comes_to_one_outcome : RunsComeToOne
every_run_comes_to_one_outcome = record {
  some = λ h. (outcome_by h (room_by h (command_of h.words)), comes h (room_by h (command_of h.words)) refl);
  only = λ h o p first second. is_it h (room_by h (command_of h.words)) o refl first ∙ sym (is_it h (room_by h (command_of h.words)) p refl second);
}
