use Rattle.std.proofs.Common.{◌≡◌, Bool, false, Some, sym, refl, ap, ◌∙◌, inl, inr}
use Rattle.mi_fver.specs.Rules.{replaces_of}
use Rattle.mi_model.specs.FileVersions.{has_same_hash}
use Rattle.mi_installs.proofs.CallLemmas.{if_ok}
use Rattle.mi_installs.proofs.HashLemmas.{unlooked, looked}
use Rattle.mi_installs.proofs.hashes.same_hash.Goals as goal

pub returns-then-looks_at_hash-clause-same : goal.returns-then-looks_at_hash-clause-same
returns-then-looks_at_hash-clause-same g c = λ w f product same_rows told src there at.
    let row = c.args.placed.now.row.now in
    if_ok c.has_same_hash.result (λ (b : Bool). b ≡ has_same_hash w row f) (λ (b : Bool). replaces_of c.args.mode (Some c.args.old.now) c.args.new.now product b ≡ replaces_of c.args.mode (Some c.args.old.now) c.args.new.now product (has_same_hash w row f))
    (λ b e. ap (replaces_of c.args.mode (Some c.args.old.now) c.args.new.now product) e)
    (c.has_same_hash.ensures.same w row f same_rows refl told src there at)

pub returns-else-looks_at_hash-clause-same : goal.returns-else-looks_at_hash-clause-same
returns-else-looks_at_hash-clause-same g c = λ w f product same_rows told src there at.
    unlooked c.args.mode c.args.old.now c.args.new.now product false (has_same_hash w c.args.placed.now.row.now f) (sym c.looks_at_hash.ensures ∙ c.if-looks_at_hash.false)

pub returns-then-looks_at_hash-clause-untouched : goal.returns-then-looks_at_hash-clause-untouched
returns-then-looks_at_hash-clause-untouched g c = λ why. elim why [
  | inl ignores ↦ absurd (looked c.args.mode c.args.old.now c.args.new.now (sym c.looks_at_hash.ensures ∙ c.if-looks_at_hash.true) ignores)
  | inr unstated ↦ c.has_same_hash.ensures.untouched unstated
]
