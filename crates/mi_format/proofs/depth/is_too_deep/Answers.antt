use Rattle.std.proofs.Common.{List, length, sym, ap, ◌∙◌, ◌&&◌}
use Rattle.std.specs.Prelude.{nat_le, is_some}
use Rattle.mi_format.specs.declared.token.Kind.{Kind}
use Rattle.mi_format.specs.Tokens.{opened}
use Rattle.mi_format.specs.Scan.{scan_passes}
use Rattle.mi_format.specs.Bare.{bare, bare_state}
use Rattle.mi_format.proofs.DepthLemmas.{depth, passed_at}
use Rattle.mi_format.proofs.depth.is_too_deep.Goals as goal

pub returns-then-passes : goal.returns-then-passes
returns-then-passes c =
    let test = c.passes.ensures ∙ ap (λ (ms : List Kind). is_some (opened c.in-Some.token) && nat_le 64 (length ms)) c.deref.ensures.value in
    sym (passed_at c.loop-token.marks.items c.loop-token.rest.now c.in-Some.behind.now c.in-Some.token c.passes.result c.in-Some.ensures.0 test c.if-passes.true)
    ∙ c.loop-token.invariant.1 ∙ depth c.args.text.now

pub returns : goal.returns
returns c = sym (ap (scan_passes bare (bare_state c.loop-token.marks.items)) c.in_default.ensures) ∙ c.loop-token.invariant.1 ∙ depth c.args.text.now
