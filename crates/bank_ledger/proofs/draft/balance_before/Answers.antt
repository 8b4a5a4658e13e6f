use Rattle.bank_accounts.proofs.HeldLemmas.{balance_held-some}
use Rattle.bank_ledger.proofs.draft.balance_before.Goals as goal

pub unreachable-requires : goal.unreachable-requires
unreachable-requires c = balance_held-some c.args.held.now c.args.account c.requires (cc)
