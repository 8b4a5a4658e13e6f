use Rattle.scram_sha256.proofs.Rounds.{first-round, next-round, last-round}
use Rattle.scram_sha256.proofs.salted.salted_password.Goals as goal

pub loop-init : goal.loop-init
loop-init c = first-round c.args.password.now c.args.salt.now c.of_both-last.result c.args.rounds (c.of_both-last.ensures c.args.password.now c.new-key.ensures)

pub loop-preserved : goal.loop-preserved
loop-preserved c = next-round c.args.password.now c.loop.last c.loop.total c.of-last.result c.xored-total.result _ c.args.rounds c.loop.counter
    c.loop-test.true (c.of-last.ensures c.args.password.now c.new-key.ensures) c.xored-total.ensures c.loop.invariant

pub returns : goal.returns
returns c = last-round c.args.password.now c.loop.last c.loop.total _ c.args.rounds c.loop.counter c.loop-test.false c.loop.invariant
