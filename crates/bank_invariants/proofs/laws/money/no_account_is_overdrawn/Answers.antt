use Rattle.bank_invariants.proofs.RunLaws.{IsSoundState-run}
use Rattle.bank_invariants.proofs.laws.money.no_account_is_overdrawn.Goals as goal

pub returns : goal.returns
returns c = λ setup run account within legal. (IsSoundState-run setup run within legal).covered account
