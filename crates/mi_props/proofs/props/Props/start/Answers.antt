use Rattle.mi_props.proofs.Values.{three_layers, is_started}
use Rattle.mi_props.proofs.props.Props.start.Goals as goal

pub returns-clause-precedence : goal.returns-clause-precedence
returns-clause-precedence c =
    three_layers c.args.system.now c.args.words.now c.args.table.now c.none-props.result c.put_all.new.self c.put_all-2.new.self c.put_all-3.new.self
    c.none-props.ensures c.in_ok-put_all.ensures c.in_ok-put_all-2.ensures c.in_ok-put_all-3.ensures

pub returns-clause-whole : goal.returns-clause-whole
returns-clause-whole c = is_started c.args.system.now c.args.words.now c.args.table.now c.put_all-3.new.self (returns-clause-precedence c)
