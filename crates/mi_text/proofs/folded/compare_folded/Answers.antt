-- Where one of the two ends before the other.
use Rattle.std.proofs.Common.{◌≡◌, ℕ, ◌<◌, ◌≤◌, List, length, drop, refl, sym, ap, ◌∙◌, arith}
use Rattle.std.proofs.Math.Seq.{drop-cons}
use Rattle.std.proofs.lemmas.List.{drop_all}
use Rattle.std.specs.declared.cmp.Ordering.TheVariants.{Less, Greater}
use Rattle.mi_text.specs.Fold.{folded}
use Rattle.mi_text.specs.Maps.{name_cmp}
use Rattle.mi_text.proofs.folded.compare_folded.Goals as goal

left_over : (key name : List ℕ) (i : ℕ) → i < length key → length name ≤ i → name_cmp (drop i key) (folded (drop i name)) ≡ Greater
left_over key name i more none = rw (drop-cons key i 0 more, drop_all i name none) refl

run_out : (key name : List ℕ) (i : ℕ) → length key ≤ i → i < length name → name_cmp (drop i key) (folded (drop i name)) ≡ Less
run_out key name i none more = rw (drop_all i key none, drop-cons name i 0 more) refl

pub returns-then-i-name : goal.returns-then-i-name
returns-then-i-name c =
    sym (left_over c.args.key.now c.as_bytes-name.result.now c.loop-i.i (omega arith) (omega arith))
    ∙ c.loop-i.invariant.1
    ∙ ap (λ n. name_cmp c.args.key.now (folded n)) c.as_bytes-name.ensures.value

pub returns-then-key-name : goal.returns-then-key-name
returns-then-key-name c =
    sym (run_out c.args.key.now c.as_bytes-name.result.now c.loop-i.i (omega arith) (omega arith))
    ∙ c.loop-i.invariant.1
    ∙ ap (λ n. name_cmp c.args.key.now (folded n)) c.as_bytes-name.ensures.value
