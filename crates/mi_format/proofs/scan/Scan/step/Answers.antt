-- Each token by its kind.
use Rattle.std.proofs.Common.{◌≡◌, sym, subst}
use Rattle.std.specs.Prelude.{IfOk}
use Rattle.mi_format.specs.declared.token.Token.{Token}
use Rattle.mi_format.specs.Scan.{step}
use Rattle.mi_format.specs.State.{parts}
use Rattle.mi_format.specs.Kept.{kept_state}
use Rattle.mi_format.specs.Marks.{state_of, frames_of}
use Rattle.mi_format.proofs.StepLemmas.{if_ok_along, char_kept, escape_kept}
use Rattle.mi_format.proofs.scan.Scan.step.Goals as goal

pub returns-in-Char : goal.returns-in-Char
returns-in-Char g c = λ full r e.
    let L = g.E.Env.lookups c.args.env.now in
    subst (λ (t : Token). IfOk c.text.result (λ s. state_of s ≡ kept_state c.args.room.most (step (parts L) full t))) (sym c.in-Char.is)
    (if_ok_along c.text.result (λ s. state_of s) _ _ (char_kept L c.args.room.most (frames_of c.args.self.marks.items) c.args.self.current full c.in-Char.ch e) c.text.ensures)

pub returns-in-Escape : goal.returns-in-Escape
returns-in-Escape g c = λ full r e.
    let L = g.E.Env.lookups c.args.env.now in
    subst (λ (t : Token). IfOk c.text-in-Escape.result (λ s. state_of s ≡ kept_state c.args.room.most (step (parts L) full t))) (sym c.in-Escape.is)
    (if_ok_along c.text-in-Escape.result (λ s. state_of s) _ _ (escape_kept L c.args.room.most (frames_of c.args.self.marks.items) c.args.self.current full c.in-Escape.ch e) c.text-in-Escape.ensures)

pub returns-in-Open : goal.returns-in-Open
returns-in-Open g c = λ full r e.
    let L = g.E.Env.lookups c.args.env.now in
    subst (λ (t : Token). IfOk c.open.result (λ s. state_of s ≡ kept_state c.args.room.most (step (parts L) full t))) (sym c.in-Open.is)
    (c.open.ensures L c.args.room.most full e)
