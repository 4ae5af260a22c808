-- The product, then the system.
use Rattle.mi_records.proofs.KeyLemmas.{if_ok, keeps_on}
use Rattle.mi_client_steps.proofs.ClientLemmas.{client_alone, client_more}
use Rattle.mi_client_steps.proofs.clients.put_clients.Goals as goal

pub returns-then-permanent-clause-makes : goal.returns-then-permanent-clause-makes
returns-then-permanent-clause-makes c = λ held files.
    if_ok c.put_client-then-permanent.result (c.put_client-then-permanent.ensures.makes held files)
    (client_more held files c.args.plan.now c.put_client.new.plan c.put_client-then-permanent.new.plan c.args.component c.args.path.now c.args.product.number c.args.permanent c.if-permanent.true (c.in_ok-put_client.ensures.makes held files))

pub returns-then-permanent-clause-keeps : goal.returns-then-permanent-clause-keeps
returns-then-permanent-clause-keeps c = keeps_on c.args.plan.now c.put_client.new.plan c.put_client-then-permanent.new.plan c.in_ok-put_client.ensures.keeps c.put_client-then-permanent.ensures.keeps

pub returns-else-permanent-clause-makes : goal.returns-else-permanent-clause-makes
returns-else-permanent-clause-makes c = λ held files.
    client_alone held files c.args.plan.now c.put_client.new.plan c.args.component c.args.path.now c.args.product.number c.args.permanent c.if-permanent.false (c.in_ok-put_client.ensures.makes held files)
