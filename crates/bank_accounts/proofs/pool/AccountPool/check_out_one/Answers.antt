use Rattle.std.proofs.Common.{◌≡◌, List, Option, None, Some, set, ap, ◌∙◌}
use Rattle.std.proofs.lemmas.List.{set-set, set-get_or}
use Rattle.ofx_types.specs.declared.number.AcctId.{AcctId}
use Rattle.bank_accounts.specs.AccountView.{AccountView}
use Rattle.bank_accounts.specs.declared.held.HeldFault.TheVariants.{NoMemory}
use Rattle.bank_accounts.proofs.pool.AccountPool.check_out_one.Goals as goal

-- What was taken is put back where it was.
pub returns-in-Err-clause-refused : goal.returns-in-Err-clause-refused
returns-in-Err-clause-refused c =
    let given : c.in-Err.fault ≡ NoMemory c.in-Some.account = c.in-Err.ensures.handed_back in
    let back : c.in-Err.fault ≡ NoMemory c.into_account.result = c.into_account.ensures in
    let same : c.into_account.result ≡ c.in-Some.account = cc in
    let gone : c.take.new.self ≡ set c.args.self.now c.args.number.0 None = c.in-Some.ensures.gone in
    c.put.ensures
    ∙ ap (λ (account : AccountView). set c.take.new.self account.number.0 (Some account)) same
    ∙ ap (λ (number : AcctId). set c.take.new.self number.0 (Some c.in-Some.account)) c.in-Some.ensures.own
    ∙ ap (λ (slots : List (Option AccountView)). set slots c.args.number.0 (Some c.in-Some.account)) gone
    ∙ set-set c.args.self.now c.args.number.0 None (Some c.in-Some.account)
    ∙ ap (set c.args.self.now c.args.number.0) c.in-Some.ensures.account
    ∙ set-get_or c.args.self.now c.args.number.0 None
