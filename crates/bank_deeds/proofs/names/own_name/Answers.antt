use Rattle.std.proofs.Common.{◌≡◌, ℕ, List, Some, get_or, sym, ap, ◌∙◌}
use Rattle.std.proofs.lemmas.List.Quantifiers.{position-Some}
use Rattle.std.proofs.lemmas.Result.{IfOk-weaker}
use Rattle.std.specs.List.{position}
use Rattle.ofx_types.specs.AccountForm.{same_account}
use Rattle.ofx_types.specs.declared.account.AcctName.{AcctName}
use Rattle.bank_model.specs.declared.setup.AccountLine.{AccountLine}
use Rattle.bank_model.proofs.AccountNames.{same_account-is}
use Rattle.bank_deeds.proofs.names.own_name.Goals as goal

-- the account that is found by a name has that name
found_name : (accounts : List AccountLine) (name : AcctName) (index : ℕ) (default : AccountLine) → position (λ (account : AccountLine). same_account account.name name) accounts ≡ Some index → (get_or accounts index default).name ≡ name
found_name accounts name index default found =
    same_account-is (get_or accounts index default).name name (position-Some (λ (account : AccountLine). same_account account.name name) accounts index default found).1

pub returns-in-Some : goal.returns-in-Some
returns-in-Some c =
    let found = found_name c.args.setup.now.accounts c.args.name.now c.in-Some.index c.index-items-index.result (sym c.find.ensures ∙ c.in-Some.is) in
    let name = ap (λ (accounts : List AccountLine). (get_or accounts c.in-Some.index c.index-items-index.result).name) c.items.ensures ∙ found in
    IfOk-weaker c.copy.result _ _ (λ own is. is ∙ name) c.copy.ensures
