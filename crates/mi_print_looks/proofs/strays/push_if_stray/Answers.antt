-- Written out, so that an edit that turns it is refused at once (docs/CONTRIBUTING.md).
use Rattle.std.proofs.Common.{◌≡◌, ◌++◌, [], ℕ, List, Bool, true, false, cond, sym, ap, subst, ◌∙◌, append-nil}
use Rattle.std.specs.Prelude.{OnOk, is_some}
use Rattle.mi_base.specs.Machine.{key_at}
use Rattle.mi_print.specs.Registry.{stray}
use Rattle.mi_print_looks.specs.Machines.{no_files, plain_machine}
use Rattle.mi_print_looks.proofs.LookLemmas.{none_by}
use Rattle.mi_print_looks.proofs.strays.push_if_stray.Goals as goal

pub returns-then-key : goal.returns-then-key
returns-then-key c =
    let o : List ℕ = c.args.out.now.items in
    let k = c.args.key.now in
    let m = plain_machine c.args.image.now in
    let there : is_some (key_at m k.root k.key) ≡ true = sym (c.key.ensures no_files no_files ∙ ap (λ (t : List ℕ). is_some (key_at m k.root t)) c.as_str.ensures) ∙ c.if-key.true in
    sym (append-nil o) ∙ ap (λ (t : Bool). o ++ cond t (stray k.root k.key k.shown c.args.value.now) []) (sym (none_by (key_at m k.root k.key) true there))

pub returns : goal.returns
returns c =
    let o : List ℕ = c.args.out.now.items in
    let k = c.args.key.now in
    let m = plain_machine c.args.image.now in
    let gone : is_some (key_at m k.root k.key) ≡ false = sym (c.key.ensures no_files no_files ∙ ap (λ (t : List ℕ). is_some (key_at m k.root t)) c.as_str.ensures) ∙ c.if-key.false in
    let text =
    (λ i. o ++ stray k.root (c.as_str-2.ensures i) (c.as_str-3.ensures i) c.args.value.now)
    ∙ ap (λ (t : Bool). o ++ cond t (stray k.root k.key k.shown c.args.value.now) []) (sym (none_by (key_at m k.root k.key) false gone)) in
    subst (λ (l : List ℕ). OnOk c.push_stray.result (c.push_stray.new.out.items ≡ l)) text c.push_stray.ensures
