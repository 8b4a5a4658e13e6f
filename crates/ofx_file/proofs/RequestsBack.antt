-- Sound request files spell what was written.
use Rattle.std.proofs.Common.{◌≡◌, ℕ, ◌+◌, ◌-◌, ◌<◌, Bool, true, false, not, List, [], ◌∷◌, ◌++◌, length, map, Result, Ok, codes, refl, sym, ap, subst, ◌∙◌, arith}
use Rattle.std.specs.List.{flat_map, AllByRecursion}
use Rattle.ofx_types.specs.Sheet.{header_text, aggregate, aggregate_of_some, start_line}
use Rattle.ofx_types.specs.TagNames.{is_one_of}
use Rattle.ofx_types.specs.Nodes.{Item}
use Rattle.ofx_types.specs.FormWords.{one, maybe, if_any}
use Rattle.ofx_types.specs.DeedForm.{family_of, request_name}
use Rattle.ofx_types.specs.SyncForm.{object_family, is_mail_family, sync_name}
use Rattle.ofx_types.specs.RequestText.{signon_request}
use Rattle.ofx_types.specs.RequestReading.{signon_of}
use Rattle.ofx_types.specs.MessageForm.{bank_names, mail_names}
use Rattle.ofx_types.specs.MessageReading.{RequestParts, ask_of, messages_in, request_of}
use Rattle.ofx_types.specs.PrintedFile.{ask_text, file_text}
use Rattle.ofx_types.specs.FileForm.{SpellsFile}
use Rattle.ofx_types.specs.declared.fault.TreeFault.{TreeFault}
use Rattle.ofx_types.specs.declared.number.Moment.{Moment}
use Rattle.ofx_types.specs.declared.transfer.Family.{Family}
use Rattle.ofx_types.specs.declared.transfer.Family.TheVariants as families
use Rattle.ofx_types.specs.declared.request.Ask.{Ask}
use Rattle.ofx_types.specs.declared.request.Ask.TheVariants.{Statement, One, Sync}
use Rattle.ofx_types.specs.declared.request.RequestFile.{RequestFile}
use Rattle.ofx_tree.specs.Documents.{Documents, empty, branch, printed, AreLawful, IsBranch, branch_item, items_of}
use Rattle.ofx_tree.proofs.DocumentItems.{named_of_branch}
use Rattle.ofx_tree.proofs.FormLaws.{bind_to, one_again}
use Rattle.ofx_header.specs.HeaderLaws.{WrittenIsSpelled}
use Rattle.msg_statement.specs.StatementDocuments.{statement_documents, StatementsAreDocuments, StatementsAreLawful, StatementsReadBack}
use Rattle.msg_parts.specs.DeedDocuments.{deed_documents}
use Rattle.msg_parts.proofs.Lawful.{is_branch}
use Rattle.msg_mail.specs.SignonsAsDocuments.{signon_documents, SignonsAreDocuments, SignonsAreLawful, SignonsReadBack}
use Rattle.msg_sync.specs.SyncSteps.{is_name_of}
use Rattle.msg_sync.specs.SyncsAsDocuments.{sync_inner, TransactionsAreDocuments, TransactionsAreLawful, TransactionsReadBack, SyncsAreDocuments, SyncsAreLawful, SyncsReadBack}
use Rattle.msg_sync.proofs.Forms.{wanted}
use Rattle.msg_sync.proofs.Skipped.{Everywhere, wanted_skips, branch_skipped, IsNone}
use Rattle.std.proofs.lemmas.List.{append-nil, map-id}
use Rattle.ofx_file.specs.declared.messages.MessageSet.{MessageSet}
use Rattle.ofx_file.specs.declared.messages.MessageSet.TheVariants.{Bank, Mail}
use Rattle.ofx_file.specs.MessageSets.{request_set, request_names, is_ask_in, asks_in}
use Rattle.ofx_file.specs.FileLaws.{RequestsAreFound}
use Rattle.ofx_file.specs.Written.{IsSoundAsk, IsSoundFile, FilesReadBack}
use Rattle.ofx_file.proofs.RequestLaws.{transaction_branch_read, sync_branch_read, parts_with}
use Rattle.ofx_file.proofs.Sets.{maybe_set, set_printed, set_lawful, set_skipped, HasSet, set_skips, set_back, kept_sound, passed_sound, written_body, no_more}
use Rattle.ofx_file.proofs.Texts.{ask_is_there}

-- the laws of the messages that a request is made of
pub record Laws : Type 0 where
  pub headers : WrittenIsSpelled
  pub requests : RequestsAreFound
  pub signons_written : SignonsAreDocuments
  pub signons_lawful : SignonsAreLawful
  pub signons_read : SignonsReadBack
  pub statements_written : StatementsAreDocuments
  pub statements_lawful : StatementsAreLawful
  pub statements_read : StatementsReadBack
  pub transactions_written : TransactionsAreDocuments
  pub transactions_lawful : TransactionsAreLawful
  pub transactions_read : TransactionsReadBack
  pub syncs_written : SyncsAreDocuments
  pub syncs_lawful : SyncsAreLawful
  pub syncs_read : SyncsReadBack

-- ---- asks

-- the name of an ask's request, and what is in it
abbrev ask_name : Ask → List ℕ
ask_name (Statement trnuid account period) = codes "STMTTRNRQ"
ask_name (One trnuid deed) = request_name (family_of deed)
ask_name (Sync ask) = sync_name (object_family ask.object)

abbrev ask_inner : Ask → Documents
ask_inner (Statement trnuid account period) = statement_documents trnuid account period
ask_inner (One trnuid deed) = deed_documents trnuid deed
ask_inner (Sync ask) = sync_inner ask

ask_printed : Laws → (ask : Ask) (suffix : Documents) → printed (branch (ask_name ask) (ask_inner ask) suffix) ≡ ask_text ask ++ printed suffix
unfolding ask_text
ask_printed laws (Statement trnuid account period) suffix = laws.statements_written trnuid account period suffix
ask_printed laws (One trnuid deed) suffix = laws.transactions_written (trnuid, deed) suffix
ask_printed laws (Sync ask) suffix = laws.syncs_written ask suffix

ask_lawful : Laws → (room : ℕ) (ask : Ask) (suffix : Documents) → 5 < room → IsSoundAsk ask → AreLawful room suffix → AreLawful room (branch (ask_name ask) (ask_inner ask) suffix)
ask_lawful laws room (Statement trnuid account period) suffix some s more = laws.statements_lawful room trnuid account period suffix (omega arith) s more
ask_lawful laws room (One trnuid deed) suffix some s more = laws.transactions_lawful room (trnuid, deed) suffix (omega arith) s more
ask_lawful laws room (Sync ask) suffix some s more = laws.syncs_lawful room ask suffix some s more

ask_back : Laws → (offset index : ℕ) (ask : Ask) → IsSoundAsk ask → ask_of (branch_item offset index (ask_name ask) (ask_inner ask)) ≡ Ok ask
unfolding ask_of
ask_back laws offset index (Statement trnuid account period) s = laws.statements_read offset index trnuid account period s
ask_back laws offset index (One trnuid deed) s =
    transaction_branch_read (family_of deed) (branch_item offset index (request_name (family_of deed)) (deed_documents trnuid deed)) (trnuid, deed) refl
    (laws.transactions_read offset index (trnuid, deed) s)
ask_back laws offset index (Sync ask) s =
    sync_branch_read (object_family ask.object) (branch_item offset index (sync_name (object_family ask.object)) (sync_inner ask)) ask refl (laws.syncs_read offset index ask s)

-- An ask is in a message set exactly where its name does.
bank_deed : (family : Family) → is_one_of bank_names (request_name family) ≡ not (is_mail_family family)
bank_deed families.Intra = refl
bank_deed families.RecIntra = refl
bank_deed families.BankMail = refl
bank_deed families.Mail = refl

bank_sync : (family : Family) → is_one_of bank_names (sync_name family) ≡ not (is_mail_family family)
bank_sync families.Intra = refl
bank_sync families.RecIntra = refl
bank_sync families.BankMail = refl
bank_sync families.Mail = refl

mail_deed : (family : Family) → is_one_of mail_names (request_name family) ≡ is_mail_family family
mail_deed families.Intra = refl
mail_deed families.RecIntra = refl
mail_deed families.BankMail = refl
mail_deed families.Mail = refl

mail_sync : (family : Family) → is_one_of mail_names (sync_name family) ≡ is_mail_family family
mail_sync families.Intra = refl
mail_sync families.RecIntra = refl
mail_sync families.BankMail = refl
mail_sync families.Mail = refl

set_named : (set : MessageSet) (ask : Ask) → is_one_of (request_names set) (ask_name ask) ≡ is_ask_in set ask
set_named Bank (Statement trnuid account period) = refl
set_named Bank (One trnuid deed) = bank_deed (family_of deed)
set_named Bank (Sync ask) = bank_sync (object_family ask.object)
set_named Mail (Statement trnuid account period) = refl
set_named Mail (One trnuid deed) = mail_deed (family_of deed)
set_named Mail (Sync ask) = mail_sync (object_family ask.object)

-- a sound ask that is in the message set
abbrev IsSoundIn : MessageSet → Ask → Type 0
IsSoundIn set ask = IsSoundAsk ask × (is_ask_in set ask ≡ true)

-- ---- the documents of a request

abbrev set_documents : MessageSet → List Ask → Documents → Documents
set_documents set asks suffix = maybe_set (request_set set) ask_name ask_inner (asks_in set asks) suffix

abbrev signon_inner : List ℕ → List ℕ → Moment → Documents
signon_inner user pass at = branch (codes "SONRQ") (signon_documents user pass at) empty

abbrev request_inner : RequestFile → Moment → Documents
request_inner file at =
    branch (codes "SIGNONMSGSRQV1") (signon_inner file.user file.pass at) (set_documents Bank file.asks (set_documents Mail file.asks empty))

set_text : MessageSet → List Ask → List ℕ
set_text set asks = aggregate_of_some (request_set set) (flat_map ask_text (asks_in set asks))

set_written : Laws → (set : MessageSet) (asks : List Ask) (suffix : Documents) → printed (set_documents set asks suffix) ≡ set_text set asks ++ printed suffix
unfolding set_text
set_written laws set asks suffix = set_printed (request_set set) ask_name ask_inner ask_text (ask_printed laws) ask_is_there (asks_in set asks) suffix

request_printed : Laws → (file : RequestFile) (at : Moment) →
    printed (request_inner file at) ≡ aggregate (codes "SIGNONMSGSRQV1") (signon_request file.user file.pass at) ++ (set_text Bank file.asks ++ set_text Mail file.asks)
request_printed laws file at =
    let signon = laws.signons_written file.user file.pass at empty ∙ append-nil (signon_request file.user file.pass at) in
    let mail = set_written laws Mail file.asks empty ∙ append-nil (set_text Mail file.asks) in
    let sets = set_written laws Bank file.asks (set_documents Mail file.asks empty) ∙ ap (λ (text : List ℕ). set_text Bank file.asks ++ text) mail in
    ap (λ (text : List ℕ). aggregate (codes "SIGNONMSGSRQV1") text ++ printed (set_documents Bank file.asks (set_documents Mail file.asks empty))) signon
    ∙ ap (λ (text : List ℕ). aggregate (codes "SIGNONMSGSRQV1") (signon_request file.user file.pass at) ++ text) sets

set_branch : (set : MessageSet) → IsBranch (request_set set)
set_branch Bank = is_branch (codes "BANKMSGSRQV1") refl refl refl
set_branch Mail = is_branch (codes "EMAILMSGSRQV1") refl refl refl

one_set_lawful : Laws → (room : ℕ) (set : MessageSet) (asks : List Ask) (suffix : Documents) → 6 < room → AllByRecursion IsSoundAsk asks → AreLawful room suffix →
    AreLawful room (set_documents set asks suffix)
one_set_lawful laws room set asks suffix some sound more =
    set_lawful room IsSoundAsk (request_set set) ask_name ask_inner (set_branch set) (omega arith)
    (λ ask others is rest. ask_lawful laws (room - 1) ask others (omega arith) is rest) (asks_in set asks) suffix
    (kept_sound IsSoundAsk (is_ask_in set) asks sound) more

request_lawful : Laws → (file : RequestFile) (at : Moment) → IsSoundFile file at → AreLawful 15 (request_inner file at)
request_lawful laws file at s = (
  is_branch (codes "SIGNONMSGSRQV1") refl refl refl,
  omega arith,
  laws.signons_lawful 14 file.user file.pass at empty (omega arith) s.signon tt,
  one_set_lawful laws 15 Bank file.asks (set_documents Mail file.asks empty) (omega arith) s.asks (one_set_lawful laws 15 Mail file.asks empty (omega arith) s.asks tt),
)

-- ---- what is read of them

-- the sets after the signon's have other names
none_after : (is_wanted : List ℕ → Bool) → ((set : MessageSet) → is_wanted (request_set set) ≡ false) → (asks : List Ask) →
    Everywhere (IsNone is_wanted) (set_documents Bank asks (set_documents Mail asks empty))
none_after is_wanted other asks =
    let skips = wanted_skips is_wanted [] in
    set_skipped (IsNone is_wanted) is_wanted skips (request_set Bank) ask_name ask_inner (other Bank) (asks_in Bank asks) (set_documents Mail asks empty)
    (set_skipped (IsNone is_wanted) is_wanted skips (request_set Mail) ask_name ask_inner (other Mail) (asks_in Mail asks) empty (no_more is_wanted))

no_signon : (set : MessageSet) → is_name_of (codes "SIGNONMSGSRQV1") (request_set set) ≡ false
no_signon Bank = refl
no_signon Mail = refl

signon_holds : (offset index : ℕ) (file : RequestFile) (at : Moment) →
    wanted (is_name_of (codes "SIGNONMSGSRQV1")) (items_of offset index (request_inner file at))
    ≡ branch_item offset index (codes "SIGNONMSGSRQV1") (signon_inner file.user file.pass at) ∷ []
signon_holds offset index file at =
    let set = branch_item offset index (codes "SIGNONMSGSRQV1") (signon_inner file.user file.pass at) in
    ap (λ (more : List Item). set ∷ more) (none_after (is_name_of (codes "SIGNONMSGSRQV1")) no_signon file.asks _ _)

HasAsks : MessageSet → List Ask → List Item → Type 0
HasAsks set asks items = HasSet ask_of (request_set set) (request_names set) (map (λ (ask : Ask). ask) (asks_in set asks)) items

-- a message set of these asks, before none
asks_read : Laws → (set : MessageSet) (asks : List Ask) (suffix : Documents) → AllByRecursion IsSoundAsk asks → Everywhere (IsNone (is_name_of (request_set set))) suffix →
    Everywhere (HasAsks set asks) (set_documents set asks suffix)
unfolding HasAsks
asks_read laws set asks suffix sound none =
    set_back (IsSoundIn set) ask_name ask_inner ask_of (λ ask. ask) (request_set set) (request_names set)
    (λ ask is. set_named set ask ∙ is.1) (λ offset index ask is. ask_back laws offset index ask is.0)
    (asks_in set asks) suffix (passed_sound IsSoundAsk (is_ask_in set) asks sound) none

bank_holds : Laws → (file : RequestFile) (at : Moment) → AllByRecursion IsSoundAsk file.asks → Everywhere (HasAsks Bank file.asks) (request_inner file at)
unfolding HasAsks
bank_holds laws file at sound =
    let is_bank : List ℕ → Bool = is_name_of (codes "BANKMSGSRQV1") in
    let none = set_skipped (IsNone is_bank) is_bank (wanted_skips is_bank []) (request_set Mail) ask_name ask_inner refl (asks_in Mail file.asks) empty (no_more is_bank) in
    branch_skipped (HasAsks Bank file.asks) is_bank (set_skips ask_of (codes "BANKMSGSRQV1") bank_names (map (λ (ask : Ask). ask) (asks_in Bank file.asks)))
    (codes "SIGNONMSGSRQV1") (signon_inner file.user file.pass at) (set_documents Bank file.asks (set_documents Mail file.asks empty)) refl
    (asks_read laws Bank file.asks (set_documents Mail file.asks empty) sound none)

mail_holds : Laws → (file : RequestFile) (at : Moment) → AllByRecursion IsSoundAsk file.asks → Everywhere (HasAsks Mail file.asks) (request_inner file at)
unfolding HasAsks
mail_holds laws file at sound =
    let is_mail : List ℕ → Bool = is_name_of (codes "EMAILMSGSRQV1") in
    let skips = set_skips ask_of (codes "EMAILMSGSRQV1") mail_names (map (λ (ask : Ask). ask) (asks_in Mail file.asks)) in
    branch_skipped (HasAsks Mail file.asks) is_mail skips
    (codes "SIGNONMSGSRQV1") (signon_inner file.user file.pass at) (set_documents Bank file.asks (set_documents Mail file.asks empty)) refl
    (set_skipped (HasAsks Mail file.asks) is_mail skips (request_set Bank) ask_name ask_inner refl (asks_in Bank file.asks) (set_documents Mail file.asks empty)
    (asks_read laws Mail file.asks empty sound (no_more is_mail)))

request_back : Laws → (file : RequestFile) (at : Moment) → IsSoundFile file at →
    request_of (branch_item 2 0 (codes "OFX") (request_inner file at)) ≡ Ok (parts_with file.user file.pass file.asks)
unfolding request_of parts_with HasAsks
request_back laws file at s =
    let inner = request_inner file at in
    let ofx = branch_item 2 0 (codes "OFX") inner in
    let lawful = request_lawful laws file at s in
    let offset : ℕ = 2 + length (start_line (codes "OFX")) in
    let set = branch_item offset 1 (codes "SIGNONMSGSRQV1") (signon_inner file.user file.pass at) in
    let suffix : ℕ = offset + length (start_line (codes "SIGNONMSGSRQV1")) in
    let sonrq = branch_item suffix 2 (codes "SONRQ") (signon_documents file.user file.pass at) in
    let bank = bank_holds laws file at s.asks offset 1 in
    let mail = mail_holds laws file at s.asks offset 1 in
    let bank_asks : map (λ (ask : Ask). ask) (asks_in Bank file.asks) ≡ asks_in Bank file.asks = map-id (asks_in Bank file.asks) in
    let mail_asks : map (λ (ask : Ask). ask) (asks_in Mail file.asks) ≡ asks_in Mail file.asks = map-id (asks_in Mail file.asks) in
    bind_to (one (codes "SIGNONMSGSRQV1") ofx) _ set
    (one_again (codes "SIGNONMSGSRQV1") ofx set (named_of_branch 2 0 15 (codes "OFX") (codes "SIGNONMSGSRQV1") inner lawful ∙ signon_holds offset 1 file at))
    ∙ bind_to (one (codes "SONRQ") set) _ sonrq
    (one_again (codes "SONRQ") set sonrq (named_of_branch offset 1 14 (codes "SIGNONMSGSRQV1") (codes "SONRQ") (signon_inner file.user file.pass at) lawful.2))
    ∙ bind_to (signon_of sonrq) _ (file.user, file.pass) (laws.signons_read suffix 2 file.user file.pass at s.signon)
    ∙ bind_to (maybe (codes "BANKMSGSRQV1") ofx) _ bank.0 (ap if_any (named_of_branch 2 0 15 (codes "OFX") (codes "BANKMSGSRQV1") inner lawful) ∙ bank.1)
    ∙ bind_to (messages_in ask_of bank_names bank.0) _ (asks_in Bank file.asks) (bank.2 ∙ ap Ok bank_asks)
    ∙ bind_to (maybe (codes "EMAILMSGSRQV1") ofx) _ mail.0 (ap if_any (named_of_branch 2 0 15 (codes "OFX") (codes "EMAILMSGSRQV1") inner lawful) ∙ mail.1)
    ∙ bind_to (messages_in ask_of mail_names mail.0) _ (asks_in Mail file.asks) (mail.2 ∙ ap Ok mail_asks)
    ∙ ap (λ (asks : List Ask). let read : Result RequestParts TreeFault = Ok (parts_with file.user file.pass asks) in read) (sym s.bank_first)

-- ---- the whole file

file_text_as : Laws → (file : RequestFile) (at : Moment) →
    file_text file at ≡ header_text file.version file.older file.newer ++ aggregate (codes "OFX") (printed (request_inner file at))
unfolding file_text set_text
file_text_as laws file at =
    ap (λ (text : List ℕ). header_text file.version file.older file.newer ++ aggregate (codes "OFX") text) (sym (request_printed laws file at))

pub files_read_back : Laws → FilesReadBack
unfolding parts_with
files_read_back laws file at s =
    let inner = request_inner file at in
    let text = header_text file.version file.older file.newer in
    let ofx = branch_item 2 0 (codes "OFX") inner in
    let P : List ℕ → Type 0 = λ bytes. SpellsFile bytes file in
    subst P (sym (file_text_as laws file at)) (record {
      size = length text - 2;
      nodes = ofx.node ∷ ofx.inner;
      ofx = ofx;
      header = laws.headers file.version file.older file.newer (aggregate (codes "OFX") (printed inner)) s.version s.older s.newer;
      body = written_body file.version file.older file.newer inner (request_lawful laws file at s);
      form = (laws.requests ofx (parts_with file.user file.pass file.asks)).1 (request_back laws file at s);
    })
