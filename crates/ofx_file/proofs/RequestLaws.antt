-- A request has its form exactly where reading finds it.
use Rattle.std.proofs.Common.{◌≡◌, ℕ, inl, inr, true, false, List, Result, Ok, codes, refl, sym, ap, subst, ◌∙◌}
use Rattle.ofx_types.specs.TagNames.{is_one_of}
use Rattle.ofx_types.specs.Nodes.{Item}
use Rattle.ofx_types.specs.FormWords.{has_name, ◌>>=◌, one, maybe}
use Rattle.ofx_types.specs.RequestForm.{IsStatement}
use Rattle.ofx_types.specs.RequestReading.{signon_of, statement_of}
use Rattle.ofx_types.specs.DeedForm.{family_of, request_name}
use Rattle.ofx_types.specs.MailForm.{IsMailRequest}
use Rattle.ofx_types.specs.SyncForm.{object_family, sync_name, IsTransaction}
use Rattle.ofx_types.specs.SyncReading.{transaction_of, sync_of}
use Rattle.ofx_types.specs.MessageForm.{is_named_one_of, bank_names, mail_names, IsAsk, IsRequest}
use Rattle.ofx_types.specs.MessageReading.{messages_in, RequestParts, transaction_names, one_ask, ask_of, request_of}
use Rattle.ofx_types.specs.declared.fault.TreeFault.{TreeFault}
use Rattle.ofx_types.specs.declared.transfer.Deed.{Deed}
use Rattle.ofx_types.specs.declared.transfer.Deed.TheVariants as deeds
use Rattle.ofx_types.specs.declared.transfer.Family.{Family}
use Rattle.ofx_types.specs.declared.transfer.Family.TheVariants.{Intra, RecIntra, BankMail, Mail}
use Rattle.ofx_types.specs.declared.sync.SyncAsk.{SyncAsk}
use Rattle.ofx_types.specs.declared.request.Ask.{Ask}
use Rattle.ofx_types.specs.declared.request.Ask.TheVariants.{Statement, One, Sync}
use Rattle.ofx_types.proofs.Bytes.{bytes_eq_is, went}
use Rattle.ofx_tree.proofs.FormLaws.{bind_ok, bind_to, one_value, one_found, one_again}
use Rattle.msg_statement.specs.StatementLaws.{StatementsAreFound}
use Rattle.msg_mail.specs.SignonLaws.{SignonsAreFound}
use Rattle.msg_sync.specs.SyncLaws.{TransactionsAreFound, SyncsAreFound}
use Rattle.msg_sync.proofs.Forms.{AreRead}
use Rattle.ofx_file.specs.FileLaws.{RequestsAreFound}
use Rattle.ofx_file.proofs.InSets.{set_found, set_again}

-- the laws of the messages that a request is made of
pub record Laws : Type 0 where
  pub statements : StatementsAreFound
  pub transactions : TransactionsAreFound
  pub syncs : SyncsAreFound
  pub signons : SignonsAreFound

-- ---- one request

statement_found : Laws → (request : Item) (ask : Ask) → request.node.name ≡ codes "STMTTRNRQ" → statement_of request ≡ Ok ask → IsAsk request ask
statement_found laws request ask name h =
    let is = (laws.statements request ask).1 h in
    let P : Ask → Type 0 = λ a. IsStatement request a → IsAsk request a in
    subst P (sym is.is_statement) (λ s. (name, s)) is

transaction_found : Laws → (request : Item) (ask : Ask) → (transaction_of request >>= one_ask) ≡ Ok ask → IsAsk request ask
transaction_found laws request ask h =
    let deed = bind_ok (transaction_of request) one_ask ask h in
    let P : Ask → Type 0 = λ a. IsAsk request a in
    subst P (one_value _ _ ask refl deed.2) ((laws.transactions request deed.0).1 deed.1)

sync_found : Laws → (request : Item) (ask : Ask) → (sync_of request >>= λ said. Ok (Sync said)) ≡ Ok ask → IsAsk request ask
sync_found laws request ask h =
    let said = bind_ok (sync_of request) _ ask h in
    let P : Ask → Type 0 = λ a. IsAsk request a in
    subst P (one_value _ _ ask refl said.2) ((laws.syncs request said.0).1 said.1)

ask_found : Laws → (request : Item) (ask : Ask) → ask_of request ≡ Ok ask → IsAsk request ask
unfolding ask_of
ask_found laws request ask h = elim (went (has_name (codes "STMTTRNRQ") request) _ _ _ h) [
  | inl (is, read) ↦ statement_found laws request ask (bytes_eq_is _ _ is) read
  | inr (other, more) ↦ elim (went (is_named_one_of transaction_names request) _ _ _ more) [
    | inl (is, read) ↦ transaction_found laws request ask read
    | inr (none, read) ↦ sync_found laws request ask read
  ]
]

-- the transaction of a deed has one of their names
deed_named : (request : Item) (family : Family) → request.node.name ≡ request_name family →
    (has_name (codes "STMTTRNRQ") request ≡ false) × (is_named_one_of transaction_names request ≡ true)
deed_named request Intra name = rw name (refl, refl)
deed_named request RecIntra name = rw name (refl, refl)
deed_named request BankMail name = rw name (refl, refl)
deed_named request Mail name = rw name (refl, refl)

mail_named : (request : Item) (deed : Deed) → IsMailRequest request deed →
    (has_name (codes "STMTTRNRQ") request ≡ false) × (is_named_one_of transaction_names request ≡ true)
mail_named request (deeds.BankMail account text) r = deed_named request BankMail r.0
mail_named request (deeds.Mail text) r = deed_named request Mail r.0
mail_named request deed r = absurd r

transaction_named : (request : Item) (deed : List ℕ × Deed) → IsTransaction request deed →
    (has_name (codes "STMTTRNRQ") request ≡ false) × (is_named_one_of transaction_names request ≡ true)
transaction_named request deed (inl d) = deed_named request (family_of deed.1) d.is_named
transaction_named request deed (inr d) = mail_named request deed.1 d.is_request

sync_named : (request : Item) (family : Family) → request.node.name ≡ sync_name family →
    (has_name (codes "STMTTRNRQ") request ≡ false) × (is_named_one_of transaction_names request ≡ false)
sync_named request Intra name = rw name (refl, refl)
sync_named request RecIntra name = rw name (refl, refl)
sync_named request BankMail name = rw name (refl, refl)
sync_named request Mail name = rw name (refl, refl)

-- what is read of a deed's request is read of the ask that it is
pub transaction_branch_read : (family : Family) (request : Item) (deed : List ℕ × Deed) → request.node.name ≡ request_name family → transaction_of request ≡ Ok deed →
    ask_of request ≡ Ok (One deed.0 deed.1)
unfolding ask_of
transaction_branch_read family request deed name h =
    let named = deed_named request family name in
    rw (named.0, named.1) (bind_to (transaction_of request) one_ask deed h)

-- and the same of a synchronisation
pub sync_branch_read : (family : Family) (request : Item) (ask : SyncAsk) → request.node.name ≡ sync_name family → sync_of request ≡ Ok ask → ask_of request ≡ Ok (Sync ask)
unfolding ask_of
sync_branch_read family request ask name h =
    let named = sync_named request family name in
    rw (named.0, named.1) (bind_to (sync_of request) _ ask h)

ask_again : Laws → (request : Item) (ask : Ask) → IsAsk request ask → ask_of request ≡ Ok ask
unfolding ask_of
ask_again laws request (Statement trnuid account period) (name, is) =
    let named : has_name (codes "STMTTRNRQ") request ≡ true = rw name refl in
    rw named ((laws.statements request (Statement trnuid account period)).0 is)
ask_again laws request (One trnuid deed) is =
    let named = transaction_named request (trnuid, deed) is in
    rw (named.0, named.1) (bind_to (transaction_of request) one_ask (trnuid, deed) ((laws.transactions request (trnuid, deed)).0 is))
ask_again laws request (Sync ask) is =
    let named = sync_named request (object_family ask.object) is.is_named in
    rw (named.0, named.1) (bind_to (sync_of request) _ ask ((laws.syncs request ask).0 is))

bank_read : Laws → AreRead IsAsk ask_of (is_one_of bank_names)
bank_read laws request ask named = (ask_again laws request ask, ask_found laws request ask)

mail_read : Laws → AreRead IsAsk ask_of (is_one_of mail_names)
mail_read laws request ask named = (ask_again laws request ask, ask_found laws request ask)

-- ---- the whole request

request_found : Laws → (ofx : Item) (parts : RequestParts) → request_of ofx ≡ Ok parts → IsRequest ofx parts.user parts.pass parts.asks
unfolding request_of
request_found laws ofx parts h =
    let set = bind_ok (one (codes "SIGNONMSGSRQV1") ofx) _ parts h in
    let sonrq = bind_ok (one (codes "SONRQ") set.0) _ parts set.2 in
    let signon = bind_ok (signon_of sonrq.0) _ parts sonrq.2 in
    let bank_set = bind_ok (maybe (codes "BANKMSGSRQV1") ofx) _ parts signon.2 in
    let bank = bind_ok (messages_in ask_of bank_names bank_set.0) _ parts bank_set.2 in
    let mail_set = bind_ok (maybe (codes "EMAILMSGSRQV1") ofx) _ parts bank.2 in
    let mail = bind_ok (messages_in ask_of mail_names mail_set.0) _ parts mail_set.2 in
    let P : RequestParts → Type 0 = λ p. IsRequest ofx p.user p.pass p.asks in
    subst P (one_value _ _ parts refl mail.2) (record {
      signon_set = set.0;
      has_signon_set = one_found (codes "SIGNONMSGSRQV1") ofx set.0 set.1;
      sonrq = sonrq.0;
      has_sonrq = one_found (codes "SONRQ") set.0 sonrq.0 sonrq.1;
      is_signon = (laws.signons sonrq.0 signon.0.0 signon.0.1).1 signon.1;
      bank = bank.0;
      are_bank = set_found IsAsk ask_of (codes "BANKMSGSRQV1") bank_names (bank_read laws) ofx bank_set.0 bank.0 bank_set.1 bank.1;
      mail = mail.0;
      are_mail = set_found IsAsk ask_of (codes "EMAILMSGSRQV1") mail_names (mail_read laws) ofx mail_set.0 mail.0 mail_set.1 mail.1;
      are_asks = refl;
    })

unfoldable pub parts_with : List ℕ → List ℕ → List Ask → RequestParts
parts_with user pass asks = record { user = user; pass = pass; asks = asks }

request_again : Laws → (ofx : Item) (parts : RequestParts) → IsRequest ofx parts.user parts.pass parts.asks → request_of ofx ≡ Ok parts
unfolding request_of parts_with
request_again laws ofx parts r =
    let bank = set_again IsAsk ask_of (codes "BANKMSGSRQV1") bank_names (bank_read laws) ofx r.bank r.are_bank in
    let mail = set_again IsAsk ask_of (codes "EMAILMSGSRQV1") mail_names (mail_read laws) ofx r.mail r.are_mail in
    bind_to _ _ r.signon_set (one_again (codes "SIGNONMSGSRQV1") ofx r.signon_set r.has_signon_set)
    ∙ bind_to _ _ r.sonrq (one_again (codes "SONRQ") r.signon_set r.sonrq r.has_sonrq)
    ∙ bind_to _ _ (parts.user, parts.pass) ((laws.signons r.sonrq parts.user parts.pass).0 r.is_signon)
    ∙ bind_to _ _ bank.0 bank.1
    ∙ bind_to _ _ r.bank bank.2
    ∙ bind_to _ _ mail.0 mail.1
    ∙ bind_to _ _ r.mail mail.2
    ∙ ap (λ (asks : List Ask). let read : Result RequestParts TreeFault = Ok (parts_with parts.user parts.pass asks) in read) (sym r.are_asks)

pub requests_are_found : Laws → RequestsAreFound
requests_are_found laws ofx parts = (request_again laws ofx parts, request_found laws ofx parts)
