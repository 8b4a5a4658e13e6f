use Rattle.std.proofs.Common.{◌∙◌}
use Rattle.bank_model.proofs.NamingLemmas.{inserted_same, inserted_new, inserted_last}
use Rattle.bank_model.proofs.named.insert.Goals as goal

pub returns-then-index-account : goal.returns-then-index-account
returns-then-index-account c = inserted_same c.args.account c.index.result.now c.args.accounts.now.items c.deref.result.now c.index_of.result c.in-Some.at c.index_of.ensures c.deref.ensures.value c.in-Some.is c.index.ensures c.if-index-account.true

pub returns-in_ok-insert-in-Some : goal.returns-in_ok-insert-in-Some
returns-in_ok-insert-in-Some c =
    c.in_ok-insert-in-Some.ensures.items
    ∙ inserted_new c.args.account c.index.result.now c.args.accounts.now.items c.deref.result.now c.index_of.result c.in-Some.at c.index_of.ensures c.deref.ensures.value c.in-Some.is c.index.ensures c.if-index-account.false

pub returns-in_ok-push-in-None : goal.returns-in_ok-push-in-None
returns-in_ok-push-in-None c =
    c.in_ok-push-in-None.ensures.items ∙ inserted_last c.args.account c.args.accounts.now.items c.deref.result.now c.index_of.result c.index_of.ensures c.deref.ensures.value c.in-None.is
