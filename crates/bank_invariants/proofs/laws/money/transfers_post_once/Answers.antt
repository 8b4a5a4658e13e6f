use Rattle.bank_invariants.proofs.RunLaws.{IsSoundState-run}
use Rattle.bank_invariants.proofs.OnceLemmas.{posts_once}
use Rattle.bank_invariants.proofs.laws.money.transfers_post_once.Goals as goal

pub returns : goal.returns
returns c = λ setup run within legal. posts_once setup _ (IsSoundState-run setup run within legal)
