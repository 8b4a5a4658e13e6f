use Rattle.std.proofs.Common.{ap, refl}
use Rattle.bank_solo.proofs.Accounts.{lent_at, none_lent}
use Rattle.bank_engine.specs.Views.{EngineView}
use Rattle.bank_engine.proofs.CheckedOutAccounts.{none_lent_for}
use Rattle.bank_engine.proofs.solo.SoloEngine.new.Goals as goal

pub invariant_of-result : goal.invariant_of-result
invariant_of-result g c = (
  lent_at c.args.book.tables c.new.result.tables c.in_ok-pool.pool c.new-2.result c.new-2.result (ap (λ (v : EngineView). v.tables) c.new.ensures) refl
      (none_lent c.args.book.tables c.args.accounts.items c.in_ok-pool.pool c.new-2.result c.requires c.in_ok-pool.ensures.pool c.new-2.ensures),
  none_lent_for c.new.result.setup c.new.result.state c.new-2.result c.new.result.pending (ap (λ (v : EngineView). v.pending) c.new.ensures) c.new-2.ensures,
)
