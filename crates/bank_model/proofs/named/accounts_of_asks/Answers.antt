use Rattle.bank_model.specs.Rules.{named_by}
use Rattle.bank_model.proofs.NamingLemmas.{named_more}
use Rattle.bank_model.proofs.named.accounts_of_asks.Goals as goal

pub loop-ask-preserved : goal.loop-ask-preserved
loop-ask-preserved c =
    named_more (named_by c.args.setup.now) c.loop-ask.accounts.items c.add_ask.new.accounts.items _ c.args.asks.now c.loop-ask.ask-index c.ask-item.result c.loop-ask-test.true c.ask-item.is c.in_ok-add_ask.ensures c.loop-ask.invariant
