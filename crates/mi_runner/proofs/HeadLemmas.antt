-- The record of a file without a byte.
use Rattle.std.proofs.Common.{◌≡◌, List, ℕ, [], Result, Ok, Err, IfOk, ap, ◌∙◌}
use Rattle.std.proofs.lemmas.List.{append-nil}
use Rattle.mi_base.specs.declared.entry.Entry.TheVariants as entry
use Rattle.mi_base.specs.declared.entry.FileEntry.{FileEntry}
use Rattle.mi_base.specs.declared.entry.FileHead.{FileHead}
use Rattle.mi_base.specs.Records.{with_bytes}
use Rattle.mi_base.specs.Spelling.{head_bytes, record_of}

pub head_is : (h : FileHead) → record_of (entry.File (with_bytes h [])) ≡ head_bytes h
unfolding record_of head_bytes
head_is h = append-nil (head_bytes h)

pub empty_is_head : {E : Type 0} (r : Result (List ℕ) E) (h : FileHead) (f : FileEntry) → f ≡ with_bytes h [] → IfOk r (λ b. b ≡ record_of (entry.File f)) → IfOk r (λ b. b ≡ head_bytes h)
empty_is_head (Ok b) h f is made = made ∙ ap (λ (x : FileEntry). record_of (entry.File x)) is ∙ head_is h
empty_is_head (Err e) h f is made = tt
