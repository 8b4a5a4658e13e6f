use Rattle.bank_model.specs.Rules.{named_by_pair}
use Rattle.bank_model.proofs.NamingLemmas.{named_more}
use Rattle.bank_model.proofs.named.add_deeds.Goals as goal

pub loop-deed-preserved : goal.loop-deed-preserved
loop-deed-preserved c =
    named_more (named_by_pair c.args.setup.now) c.loop-deed.accounts.items c.add_deed.new.accounts.items _ c.args.deeds.now c.loop-deed.deed-index c.deed-item.result c.loop-deed-test.true c.deed-item.is c.in_ok-add_deed.ensures c.loop-deed.invariant
