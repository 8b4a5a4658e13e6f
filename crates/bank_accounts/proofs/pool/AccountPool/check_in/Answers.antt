use Rattle.std.proofs.Common.{◌≡◌, ◌<◌, ◌∷◌, ◌++◌, [], List, Option, Some, length, sym, ap, ◌∙◌, subst}
use Rattle.std.proofs.lemmas.List.{length-set}
use Rattle.std.proofs.lemmas.List.Elements.{All-pop}
use Rattle.std.specs.List.{All}
use Rattle.bank_accounts.specs.AccountView.{AccountView}
use Rattle.bank_accounts.specs.HeldAccounts.{NumbersRise}
use Rattle.bank_accounts.specs.Pool.{AreCheckedOut}
use Rattle.bank_accounts.proofs.HomeLemmas.{lent_back}
use Rattle.bank_accounts.proofs.pool.AccountPool.check_in.Goals as goal

pub loop-account-preserved : goal.loop-account-preserved
loop-account-preserved c =
    let last : c.loop-account.held ≡ c.pop.new.self ++ c.in-Some.account ∷ [] = c.in-Some.ensures.last in
    let size : length c.put.new.self ≡ length c.loop-account.self =
    ap (length {A = Option AccountView}) c.put.ensures ∙ length-set c.loop-account.self c.in-Some.account.number.0 (Some c.in-Some.account) in
    let known = All-pop (λ (account : AccountView). account.number.0 < length c.loop-account.self) c.loop-account.held c.pop.new.self (Some c.in-Some.account) last c.loop-account.invariant.known in
    record {
      known = subst (λ (n : _). All (λ (account : AccountView). account.number.0 < n) c.pop.new.self) (sym size) known.0;
      checked_out = λ tables checked_out.
          subst (λ (slots : List (Option AccountView)). AreCheckedOut tables slots c.pop.new.self) (sym c.put.ensures)
          (lent_back tables c.loop-account.self c.pop.new.self c.in-Some.account
          (subst (AreCheckedOut tables c.loop-account.self) last (c.loop-account.invariant.checked_out tables checked_out))
          (subst NumbersRise last c.in-Some.ensures.rising)
          known.1);
    }

pub returns-clause-pool : goal.returns-clause-pool
returns-clause-pool c tables checked_out =
    subst (AreCheckedOut tables c.loop-account.self) (c.in_default.ensures.none.0 ∙ sym c.in_default.ensures.none.1) (c.loop-account.invariant.checked_out tables checked_out)
