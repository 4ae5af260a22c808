-- How a run of calls goes on.
use Rattle.std.proofs.Common.{inl, inr, ⊎_elim, ◌∙◌, refl, arith}
use Rattle.mi_volume.specs.Maps.{Map}
use Rattle.mi_volume.specs.State.{State, Images, GoesOn, Passes, Rose}

-- before the first call
pub started : (s : State) (P : Map → Type 0) → GoesOn s s P
started s P = record { later = omega arith; since = λ t d le left. inl left; capacity = refl; faults = omega arith }

-- what is left has what follows from it
pub weaker : (old new : State) (P Q : Map → Type 0) → ((d : Map) → P d → Q d) → GoesOn old new P → GoesOn old new Q
weaker old new P Q then go = record {
  later = go.later;
  since = λ t d le left. ⊎_elim (λ before. inl before) (λ now. inr (then d now)) (go.since t d le left);
  capacity = go.capacity;
  faults = go.faults;
}

-- one run after another
pub joined : (old mid new : State) (P : Map → Type 0) → GoesOn old mid P → GoesOn mid new P → GoesOn old new P
joined old mid new P first second = record {
  later = omega (arith, first.later, second.later);
  since = λ t d le left. ⊎_elim (first.since t d le) (λ now. inr now) (second.since t d (omega (arith, le, first.later)) left);
  capacity = second.capacity ∙ first.capacity;
  faults = omega (arith, first.faults, second.faults);
}

-- one call more
pub then_call : (old mid new : State) (P Q : Map → Type 0) → GoesOn old mid P → GoesOn mid new Q → ((d : Map) → Q d → P d) → GoesOn old new P
then_call old mid new P Q first second then = joined old mid new P first (weaker mid new Q P then second)

-- each image since the run began, where those at its beginning have P
pub each : (old new : State) (P : Map → Type 0) → GoesOn old new P → ((d : Map) → Images old d → P d) → (d : Map) → new.left_since old.moment d → P d
each old new P go at_start d left = ⊎_elim (λ before. at_start d (old.only_now d before)) (λ now. now) (go.since old.moment d (omega arith) left)

pub passes : (old new : State) (P : Map → Type 0) → GoesOn old new P → Passes old new
passes old new P go = record { later = go.later; faults = go.faults; capacity = go.capacity }

pub then_passes : (old mid new : State) → Passes old mid → Passes mid new → Passes old new
then_passes old mid new first second = record {
  later = omega (arith, first.later, second.later);
  faults = omega (arith, first.faults, second.faults);
  capacity = second.capacity ∙ first.capacity;
}

pub rose_before : (old mid new : State) → Passes old mid → Rose mid new → Rose old new
rose_before old mid new go rose = record { rose = λ below. omega (arith, go.faults, rose.rose below) }

pub rose_after : (old mid new : State) → Rose old mid → Passes mid new → Rose old new
rose_after old mid new rose go = record { rose = λ below. omega (arith, go.faults, rose.rose (omega (arith, go.faults))) }
