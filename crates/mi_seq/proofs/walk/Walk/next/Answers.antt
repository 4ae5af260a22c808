-- A refusal again, or the next step.
use Rattle.std.proofs.Common.{refl}
use Rattle.mi_seq.specs.Walks.{IsRefused}
use Rattle.mi_seq.proofs.WalkLemmas.{turned_steps, turned_refused, turned_kept, turned_unchanged, none_stands, kept_again, told_again, unchanged_err, never_again}
use Rattle.mi_seq.proofs.walk.Walk.next.Goals as goal

pub returns-in-Some : goal.returns-in-Some
returns-in-Some g c = record {
  steps = tt;
  refused = none_stands c.args.loaded.now c.args.self.now c.in-Some.refusal c.in-Some.is (λ begun action fault. IsRefused c.args.loaded.now (g.E.Env.lookups c.args.env.now) begun c.args.self.now action fault) c.error.result;
  kept = kept_again c.args.loaded.now c.args.self.now c.in-Some.refusal c.in-Some.is c.error.result c.error.ensures;
  again = λ action fault at. (told_again c.args.loaded.now c.args.self.now c.in-Some.refusal c.in-Some.is c.error.result action fault c.error.ensures at, refl);
  unchanged = unchanged_err c.error.result refl;
}

pub returns-in-None : goal.returns-in-None
returns-in-None g c = record {
  steps = turned_steps c.args.loaded.now (g.E.Env.lookups c.args.env.now) c.args.self.now c.go_on.new.self c.go_on.result c.go_on.ensures;
  refused = turned_refused c.args.loaded.now (g.E.Env.lookups c.args.env.now) c.args.self.now c.go_on.new.self c.go_on.result c.go_on.ensures;
  kept = turned_kept c.args.loaded.now (g.E.Env.lookups c.args.env.now) c.args.self.now c.go_on.new.self c.go_on.result c.go_on.ensures;
  again = λ action fault at. absurd (never_again c.args.loaded.now c.args.self.now (action, fault) c.in-None.is at);
  unchanged = turned_unchanged c.args.loaded.now (g.E.Env.lookups c.args.env.now) c.args.self.now c.go_on.new.self c.go_on.result c.go_on.ensures;
}
