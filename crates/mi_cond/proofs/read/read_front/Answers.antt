use Rattle.std.proofs.Common.{◌-◌, ℕ, List, take, drop, length}
use Rattle.std.proofs.lemmas.List.{take_rest}
use Rattle.mi_cond.specs.declared.front.Front.TheVariants as front
use Rattle.mi_cond.specs.States.{state_of}
use Rattle.mi_cond.proofs.ReadLaws.{front_here, blank_on, bracket_on, token_on, dead_on}
use Rattle.mi_cond.proofs.read.read_front.Goals as goal

pub returns-in-Blank : goal.returns-in-Blank
returns-in-Blank g c = λ s is.
    let env = g.E.Env.lookups c.args.env.now in
    let text = c.args.text.now in
    let old = state_of c.args.reader.now in
    let rest : List ℕ = take (length text - c.args.at) (drop c.args.at text) in
    let at_f = front_here env c.wants_value-wants.result c.has_value-has.result rest s old c.front_of.result front.Blank is c.wants_value-wants.ensures c.has_value-has.ensures c.in-Blank.is c.front_of.ensures in
    blank_on env text rest c.args.at s old c.read_blank.result c.requires.within (take_rest text c.args.at) at_f is c.read_blank.ensures

pub returns-in-Bracket : goal.returns-in-Bracket
returns-in-Bracket g c = λ s is.
    let env = g.E.Env.lookups c.args.env.now in
    let text = c.args.text.now in
    let old = state_of c.args.reader.now in
    let rest : List ℕ = take (length text - c.args.at) (drop c.args.at text) in
    let at_f = front_here env c.wants_value-wants.result c.has_value-has.result rest s old c.front_of.result (front.Bracket c.in-Bracket.bracket) is c.wants_value-wants.ensures c.has_value-has.ensures c.in-Bracket.is c.front_of.ensures in
    bracket_on env text rest c.args.at s old (state_of c.read_bracket.new.reader) c.in-Bracket.bracket c.read_bracket.result c.requires.within (take_rest text c.args.at) at_f is c.read_bracket.ensures

pub returns-in-Token : goal.returns-in-Token
returns-in-Token g c = λ s is.
    let env = g.E.Env.lookups c.args.env.now in
    let text = c.args.text.now in
    let old = state_of c.args.reader.now in
    let rest : List ℕ = take (length text - c.args.at) (drop c.args.at text) in
    let at_f = front_here env c.wants_value-wants.result c.has_value-has.result rest s old c.front_of.result (front.Token c.in-Token.token c.in-Token.n) is c.wants_value-wants.ensures c.has_value-has.ensures c.in-Token.is c.front_of.ensures in
    token_on env text rest c.args.at c.in-Token.n s old (state_of c.read_token.new.reader) c.in-Token.token c.read_token.result c.requires.within (take_rest text c.args.at) at_f is c.read_token.ensures

pub returns-in-Dead : goal.returns-in-Dead
returns-in-Dead g c = λ s is.
    let env = g.E.Env.lookups c.args.env.now in
    let text = c.args.text.now in
    let old = state_of c.args.reader.now in
    let rest : List ℕ = take (length text - c.args.at) (drop c.args.at text) in
    let at_f = front_here env c.wants_value-wants.result c.has_value-has.result rest s old c.front_of.result (front.Dead c.in-Dead.n) is c.wants_value-wants.ensures c.has_value-has.ensures c.in-Dead.is c.front_of.ensures in
    dead_on env text rest c.args.at c.in-Dead.n s old c.read_dead.result (take_rest text c.args.at) at_f is c.read_dead.ensures
