-- Logs of replies.
use Rattle.std.proofs.Common.{◌≡◌, ℕ, Bool, false, List, [], refl, sym, subst, ◌∙◌}
use Rattle.std.specs.Prelude.{codes, length}
use Rattle.std.proofs.Math.Seq.{take-length}
use Rattle.mi_text.specs.declared.answers.Settled.{Settled}
use Rattle.mi_base.specs.declared.answers.Kind.TheVariants.{NoMemory}
use Rattle.mi_commands.specs.Replies.{log_of, IsFront}

-- ---- fronts

pub nothing_front : (text : List ℕ) → IsFront text []
nothing_front text = (0, refl)

pub whole_front : (text bytes : List ℕ) → bytes ≡ text → IsFront text bytes
whole_front text bytes is = (length text, is ∙ sym (take-length text))

-- the result line of want of memory, where no other line stands before it
pub memory_front : (walks : Bool) → walks ≡ false → (found : Settled) → IsFront (log_of walks found NoMemory) (codes "Result: NoMemory\n")
memory_front walks is found = subst (λ (b : Bool). IsFront (log_of b found NoMemory) (codes "Result: NoMemory\n")) (sym is) (whole_front (log_of false found NoMemory) (codes "Result: NoMemory\n") refl)
