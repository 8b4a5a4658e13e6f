use Rattle.std.proofs.Common.{refl, ap}
use Rattle.std.specs.Prelude.{ℤ}
use Rattle.ofx_types.specs.declared.number.Cents.{Cents}
use Rattle.bank_queries.proofs.statement.body.Goals as goal

amount_with : ℤ → Cents
amount_with amount = record { 0 = amount }

pub returns : goal.returns
unfolding amount_with
returns c =
    let balance = ap amount_with c.held_balance-balance.ensures in
    rw (c.in_ok-copy.ensures, c.in_ok-list.ensures, balance, c.at.ensures.value) refl
