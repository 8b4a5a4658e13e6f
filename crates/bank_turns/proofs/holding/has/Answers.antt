use Rattle.std.proofs.Common.{◌≡◌, ◌∙◌, true, ap}
use Rattle.std.specs.Option.{is_some}
use Rattle.bank_accounts.specs.HeldAccounts.{balance_held}
use Rattle.bank_turns.proofs.TurnLemmas.{found_held, held_found}
use Rattle.bank_turns.proofs.holding.has.Goals as goal

pub returns : goal.returns
returns c =
    let asked : c.is_some.result ≡ is_some (balance_held c.args.held.now c.args.number) = c.is_some.ensures ∙ ap is_some c.balance.ensures in (
      (λ yes. found_held c.args.held.now c.args.number (let found : is_some (balance_held c.args.held.now c.args.number) ≡ true = cc in found)),
      (λ there. let found = held_found c.args.held.now c.args.number there in cc),
    )
