use Rattle.bank_solo.proofs.Accounts.{none_lent}
use Rattle.bank_solo.proofs.solo.SoloBank.new.Goals as goal

pub invariant_of-result : goal.invariant_of-result
invariant_of-result g c = (
  c.requires.within,
  none_lent c.args.book.tables c.args.accounts.items c.in_ok-pool.pool c.new.result c.requires.accounts c.in_ok-pool.ensures.pool c.new.ensures,
)
