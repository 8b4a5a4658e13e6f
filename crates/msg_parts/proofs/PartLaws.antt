-- A TRNUID and an account have their forms exactly where reading finds them.
use Rattle.std.proofs.Common.{◌≡◌, ℕ, List, Ok, codes, refl, subst, ◌∙◌}
use Rattle.ofx_types.specs.Nodes.{Item}
use Rattle.ofx_types.specs.FormWords.{one, text_in}
use Rattle.ofx_types.specs.RequestForm.{IsTrnUidOf, IsAccount}
use Rattle.ofx_types.specs.RequestReading.{kind_at, account_of, trnuid_of}
use Rattle.ofx_types.specs.declared.account.AcctName.{AcctName}
use Rattle.ofx_tree.proofs.FormLaws.{bind_ok, bind_to, one_value, one_found, one_again, text_in_found, text_in_again}
use Rattle.msg_parts.proofs.AccountLaws.{kind_found, kind_again, unless_zero_found, unless_zero_again}

-- ---- TRNUID

pub trnuid_found : (wrapper : Item) (trnuid : List ℕ) → trnuid_of wrapper ≡ Ok trnuid → IsTrnUidOf wrapper trnuid
unfolding trnuid_of
trnuid_found wrapper trnuid h =
    let text = bind_ok (text_in (codes "TRNUID") 36 wrapper) _ trnuid h in
    let child = bind_ok (one (codes "TRNUID") wrapper) _ trnuid text.2 in
    let own = unless_zero_found child.0.node.offset text.0 trnuid child.2 in
    record { text = rw own.0 at (text_in_found (codes "TRNUID") 36 wrapper text.0 text.1); is_own = own.1 }

pub trnuid_again : (wrapper : Item) (trnuid : List ℕ) → IsTrnUidOf wrapper trnuid → trnuid_of wrapper ≡ Ok trnuid
unfolding trnuid_of
trnuid_again wrapper trnuid t =
    bind_to _ _ trnuid (text_in_again (codes "TRNUID") 36 wrapper trnuid t.text)
    ∙ bind_to _ _ t.text.child (one_again (codes "TRNUID") wrapper t.text.child t.text.is_only)
    ∙ unless_zero_again t.text.child.node.offset trnuid t.is_own

-- ---- accounts

pub account_found : (aggregate : Item) (account : AcctName) → account_of aggregate ≡ Ok account → IsAccount aggregate account
unfolding account_of
account_found aggregate account h =
    let bank = bind_ok (text_in (codes "BANKID") 32 aggregate) _ account h in
    let number = bind_ok (text_in (codes "ACCTID") 32 aggregate) _ account bank.2 in
    let child = bind_ok (one (codes "ACCTTYPE") aggregate) _ account number.2 in
    let kind = bind_ok (kind_at child.0.node) _ account child.2 in
    let P : AcctName → Type 0 = λ a. IsAccount aggregate a in
    subst P (one_value _ _ account refl kind.2) (record {
      bank = text_in_found (codes "BANKID") 32 aggregate bank.0 bank.1;
      number = text_in_found (codes "ACCTID") 32 aggregate number.0 number.1;
      kind = child.0;
      has_kind = one_found (codes "ACCTTYPE") aggregate child.0 child.1;
      is_kind = kind_found _ child.0.node.offset kind.0 kind.1;
    })

pub account_again : (aggregate : Item) (account : AcctName) → IsAccount aggregate account → account_of aggregate ≡ Ok account
unfolding account_of
account_again aggregate account a =
    bind_to _ _ account.bank (text_in_again (codes "BANKID") 32 aggregate account.bank a.bank)
    ∙ bind_to _ _ account.number (text_in_again (codes "ACCTID") 32 aggregate account.number a.number)
    ∙ bind_to _ _ a.kind (one_again (codes "ACCTTYPE") aggregate a.kind a.has_kind)
    ∙ bind_to _ _ account.kind (kind_again _ a.kind.node.offset account.kind a.is_kind)
