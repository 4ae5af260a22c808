-- By the head that is there, and the names.
use Rattle.std.proofs.Common.{◌≡◌, Bool, true, false, not, ◌&&◌, List, ℕ, sym, ap, ◌∙◌}
use Rattle.std.specs.Prelude.{is_some}
use Rattle.std.specs.FinMap.{get}
use Rattle.std.specs.Str.{bytes_eq}
use Rattle.std.proofs.lemmas.Slice.Eq.{bytes_eq-Decides}
use Rattle.mi_text.specs.Maps.{same_name}
use Rattle.mi_base.specs.Machine.{as_file}
use Rattle.mi_base.specs.Names.{file_name}
use Rattle.mi_image.specs.Items.{machine_over}
use Rattle.mi_files.proofs.CopyLemmas.{is_there, told_apart}
use Rattle.mi_files.proofs.duplicate.is_copied.Goals as goal
use Rattle.mi_files.proofs.duplicate.is_copied.Goals.{then-is_some, else-is_some}

pub returns-clause-copied : goal.returns-clause-copied
returns-clause-copied c = λ held files there.
    let own = file_name c.args.path.now in
    let from = c.args.from.now in
    let file = as_file (get (machine_over held files c.args.image.now) from) in
    let some : is_some file ≡ c.is_some.result = is_there c.head_at.result file (c.head_at.ensures.file held files there) ∙ sym c.is_some.ensures in
    elim c.if-is_some.branch [
      | then-is_some w ↦
          w.result-is ∙ w.ne.ensures
          ∙ ap (λ (q : List ℕ). not (bytes_eq q w.as_bytes-then-is_some.result.now)) (w.as_bytes.ensures.bytes ∙ c.in_ok-own.ensures)
          ∙ ap (λ (q : List ℕ). not (bytes_eq own q)) w.as_bytes-then-is_some.ensures.bytes
          ∙ sym (told_apart own from (bytes_eq own from) (bytes_eq-Decides own from))
          ∙ ap (λ (t : Bool). t && not (same_name own from)) (sym (some ∙ w.if-is_some.true))
      | else-is_some w ↦ w.result-is ∙ w.if-is_some.false ∙ ap (λ (t : Bool). t && not (same_name own from)) (sym (some ∙ w.if-is_some.false))
    ]

pub returns-clause-other : goal.returns-clause-other
returns-clause-other c = λ yes same.
    let own = file_name c.args.path.now in
    let from = c.args.from.now in
    let alike : bytes_eq own from ≡ true = (bytes_eq-Decides own from).1 (sym same) in
    elim c.if-is_some.branch [
      | then-is_some w ↦
          let apart : false ≡ true =
          sym (ap not alike)
          ∙ sym (w.result-is ∙ w.ne.ensures
          ∙ ap (λ (q : List ℕ). not (bytes_eq q w.as_bytes-then-is_some.result.now)) (w.as_bytes.ensures.bytes ∙ c.in_ok-own.ensures)
          ∙ ap (λ (q : List ℕ). not (bytes_eq own q)) w.as_bytes-then-is_some.ensures.bytes)
          ∙ yes in
          cc
      | else-is_some w ↦ let none : false ≡ true = sym (w.result-is ∙ w.if-is_some.false) ∙ yes in cc
    ]
