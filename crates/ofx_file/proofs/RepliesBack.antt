-- Sound reply files spell what was written, apart from the models of changed transfers.
use Rattle.std.proofs.Common.{◌≡◌, ℕ, ◌+◌, ◌-◌, ◌<◌, Bool, true, false, not, List, [], ◌∷◌, ◌++◌, length, map, None, Result, Ok, codes, refl, sym, ap, subst, ◌∙◌, arith}
use Rattle.std.proofs.lemmas.List.{append-nil}
use Rattle.std.specs.List.{flat_map, AllByRecursion}
use Rattle.ofx_types.specs.Sheet.{header_text, aggregate, aggregate_of_some, start_line}
use Rattle.ofx_types.specs.TagNames.{is_one_of}
use Rattle.ofx_types.specs.Nodes.{Item}
use Rattle.ofx_types.specs.FormWords.{one, maybe, if_any}
use Rattle.ofx_types.specs.DeedForm.{reply_name}
use Rattle.ofx_types.specs.SyncForm.{object_family, is_mail_family, sync_reply_name}
use Rattle.ofx_types.specs.ReplyReading.{signon_reply_of}
use Rattle.ofx_types.specs.MessageForm.{bank_reply_names, mail_reply_names}
use Rattle.ofx_types.specs.MessageReading.{ReplyParts, ask_reply_of, messages_in, reply_of}
use Rattle.ofx_types.specs.ReplyForm.{signon_reply, ask_reply, reply_text}
use Rattle.ofx_types.specs.FileForm.{SpellsReply}
use Rattle.ofx_types.specs.Wire.{wire, wire_sync, wire_answer, wire_file}
use Rattle.ofx_types.specs.declared.fault.TreeFault.{TreeFault}
use Rattle.ofx_types.specs.declared.number.Moment.{Moment}
use Rattle.ofx_types.specs.declared.transfer.Family.{Family}
use Rattle.ofx_types.specs.declared.transfer.Family.TheVariants as families
use Rattle.ofx_types.specs.declared.reply.AskReply.{AskReply}
use Rattle.ofx_types.specs.declared.reply.AskReply.TheVariants.{Statement, One, Sync}
use Rattle.ofx_types.specs.declared.reply.ReplyFile.{ReplyFile}
use Rattle.ofx_tree.specs.Documents.{Documents, empty, branch, printed, AreLawful, IsBranch, branch_item, items_of}
use Rattle.ofx_tree.proofs.DocumentItems.{named_of_branch}
use Rattle.ofx_tree.proofs.FormLaws.{bind_to, one_again}
use Rattle.ofx_header.specs.HeaderLaws.{WrittenIsSpelled}
use Rattle.msg_statement.specs.StatementDocuments.{reply_documents, StatementRepliesAreDocuments, StatementRepliesAreLawful, StatementRepliesReadBack}
use Rattle.msg_parts.specs.DeedDocuments.{deed_reply_documents}
use Rattle.msg_parts.proofs.Lawful.{is_branch}
use Rattle.msg_mail.specs.SignonsAsDocuments.{signon_reply_documents, SignonRepliesAreDocuments, SignonRepliesAreLawful, SignonRepliesReadBack}
use Rattle.msg_sync.specs.SyncSteps.{is_name_of}
use Rattle.msg_sync.specs.SyncsAsDocuments.{sync_reply_inner, AnswersAreDocuments, AnswersAreLawful, AnswersReadBack, SyncRepliesAreDocuments, SyncRepliesAreLawful, SyncRepliesReadBack}
use Rattle.msg_sync.proofs.Forms.{wanted}
use Rattle.msg_sync.proofs.Skipped.{Everywhere, wanted_skips, branch_skipped, IsNone}
use Rattle.ofx_file.specs.declared.messages.MessageSet.{MessageSet}
use Rattle.ofx_file.specs.declared.messages.MessageSet.TheVariants.{Bank, Mail}
use Rattle.ofx_file.specs.MessageSets.{reply_set, reply_names, is_reply_in, replies_in}
use Rattle.ofx_file.specs.FileLaws.{RepliesAreFound}
use Rattle.ofx_file.specs.Written.{IsSoundAskReply, IsSoundReplyFile, RepliesReadBack}
use Rattle.ofx_file.proofs.ReplyLaws.{transaction_branch_read, sync_branch_read, parts_with}
use Rattle.ofx_file.proofs.Sets.{maybe_set, set_printed, set_lawful, set_skipped, HasSet, set_skips, set_back, kept_sound, passed_sound, written_body, no_more}
use Rattle.ofx_file.proofs.Texts.{answer_is_there}

-- the laws of the messages that a reply is made of
pub record Laws : Type 0 where
  pub headers : WrittenIsSpelled
  pub replies : RepliesAreFound
  pub signons_written : SignonRepliesAreDocuments
  pub signons_lawful : SignonRepliesAreLawful
  pub signons_read : SignonRepliesReadBack
  pub statements_written : StatementRepliesAreDocuments
  pub statements_lawful : StatementRepliesAreLawful
  pub statements_read : StatementRepliesReadBack
  pub transactions_written : AnswersAreDocuments
  pub transactions_lawful : AnswersAreLawful
  pub transactions_read : AnswersReadBack
  pub syncs_written : SyncRepliesAreDocuments
  pub syncs_lawful : SyncRepliesAreLawful
  pub syncs_read : SyncRepliesReadBack

-- ---- answers

-- the name of an answer, and what is in it
abbrev answer_name : AskReply → List ℕ
answer_name (Statement trnuid code body) = codes "STMTTRNRS"
answer_name (One answer) = reply_name answer.family
answer_name (Sync answer) = sync_reply_name (object_family answer.object)

abbrev answer_inner : AskReply → Documents
answer_inner (Statement trnuid code body) = reply_documents trnuid code body
answer_inner (One answer) = deed_reply_documents answer.trnuid answer.code answer.change
answer_inner (Sync answer) = sync_reply_inner answer

answer_printed : Laws → (answer : AskReply) (suffix : Documents) → printed (branch (answer_name answer) (answer_inner answer) suffix) ≡ ask_reply answer ++ printed suffix
unfolding ask_reply
answer_printed laws (Statement trnuid code body) suffix = laws.statements_written trnuid code body suffix
answer_printed laws (One answer) suffix = laws.transactions_written answer suffix
answer_printed laws (Sync answer) suffix = laws.syncs_written answer suffix

answer_lawful : Laws → (room : ℕ) (answer : AskReply) (suffix : Documents) → 5 < room → IsSoundAskReply answer → AreLawful room suffix →
    AreLawful room (branch (answer_name answer) (answer_inner answer) suffix)
answer_lawful laws room (Statement trnuid code body) suffix some s more = laws.statements_lawful room trnuid code body suffix (omega arith) s more
answer_lawful laws room (One answer) suffix some s more = laws.transactions_lawful room answer suffix (omega arith) s more
answer_lawful laws room (Sync answer) suffix some s more = laws.syncs_lawful room answer suffix some s more

answer_back : Laws → (offset index : ℕ) (answer : AskReply) → IsSoundAskReply answer →
    ask_reply_of (branch_item offset index (answer_name answer) (answer_inner answer)) ≡ Ok (wire_answer answer)
unfolding ask_reply_of
answer_back laws offset index (Statement trnuid code body) s = laws.statements_read offset index trnuid code body s
answer_back laws offset index (One answer) s =
    transaction_branch_read answer.family (branch_item offset index (reply_name answer.family) (deed_reply_documents answer.trnuid answer.code answer.change)) (wire answer) refl
    (laws.transactions_read offset index answer s)
answer_back laws offset index (Sync answer) s =
    sync_branch_read (object_family answer.object) (branch_item offset index (sync_reply_name (object_family answer.object)) (sync_reply_inner answer)) (wire_sync answer) refl
    (laws.syncs_read offset index answer s)

-- An answer is in a message set exactly where its name does.
bank_answer : (family : Family) → is_one_of bank_reply_names (reply_name family) ≡ not (is_mail_family family)
bank_answer families.Intra = refl
bank_answer families.RecIntra = refl
bank_answer families.BankMail = refl
bank_answer families.Mail = refl

bank_sync : (family : Family) → is_one_of bank_reply_names (sync_reply_name family) ≡ not (is_mail_family family)
bank_sync families.Intra = refl
bank_sync families.RecIntra = refl
bank_sync families.BankMail = refl
bank_sync families.Mail = refl

mail_answer : (family : Family) → is_one_of mail_reply_names (reply_name family) ≡ is_mail_family family
mail_answer families.Intra = refl
mail_answer families.RecIntra = refl
mail_answer families.BankMail = refl
mail_answer families.Mail = refl

mail_sync : (family : Family) → is_one_of mail_reply_names (sync_reply_name family) ≡ is_mail_family family
mail_sync families.Intra = refl
mail_sync families.RecIntra = refl
mail_sync families.BankMail = refl
mail_sync families.Mail = refl

set_named : (set : MessageSet) (answer : AskReply) → is_one_of (reply_names set) (answer_name answer) ≡ is_reply_in set answer
set_named Bank (Statement trnuid code body) = refl
set_named Bank (One answer) = bank_answer answer.family
set_named Bank (Sync answer) = bank_sync (object_family answer.object)
set_named Mail (Statement trnuid code body) = refl
set_named Mail (One answer) = mail_answer answer.family
set_named Mail (Sync answer) = mail_sync (object_family answer.object)

-- a sound answer that is in the message set
abbrev IsSoundIn : MessageSet → AskReply → Type 0
IsSoundIn set answer = IsSoundAskReply answer × (is_reply_in set answer ≡ true)

-- ---- the documents of a reply

abbrev set_documents : MessageSet → List AskReply → Documents → Documents
set_documents set answers suffix = maybe_set (reply_set set) answer_name answer_inner (replies_in set answers) suffix

abbrev signon_inner : ℕ → Moment → Documents
signon_inner code moment = branch (codes "SONRS") (signon_reply_documents code moment) empty

abbrev reply_inner : ReplyFile → Documents
reply_inner reply =
    branch (codes "SIGNONMSGSRSV1") (signon_inner reply.signon reply.moment) (set_documents Bank reply.replies (set_documents Mail reply.replies empty))

set_text : MessageSet → List AskReply → List ℕ
set_text set answers = aggregate_of_some (reply_set set) (flat_map ask_reply (replies_in set answers))

set_written : Laws → (set : MessageSet) (answers : List AskReply) (suffix : Documents) → printed (set_documents set answers suffix) ≡ set_text set answers ++ printed suffix
unfolding set_text
set_written laws set answers suffix = set_printed (reply_set set) answer_name answer_inner ask_reply (answer_printed laws) answer_is_there (replies_in set answers) suffix

reply_printed : Laws → (reply : ReplyFile) →
    printed (reply_inner reply) ≡ aggregate (codes "SIGNONMSGSRSV1") (signon_reply reply.signon reply.moment) ++ (set_text Bank reply.replies ++ set_text Mail reply.replies)
reply_printed laws reply =
    let signon = laws.signons_written reply.signon reply.moment empty ∙ append-nil (signon_reply reply.signon reply.moment) in
    let mail = set_written laws Mail reply.replies empty ∙ append-nil (set_text Mail reply.replies) in
    let sets = set_written laws Bank reply.replies (set_documents Mail reply.replies empty) ∙ ap (λ (text : List ℕ). set_text Bank reply.replies ++ text) mail in
    ap (λ (text : List ℕ). aggregate (codes "SIGNONMSGSRSV1") text ++ printed (set_documents Bank reply.replies (set_documents Mail reply.replies empty))) signon
    ∙ ap (λ (text : List ℕ). aggregate (codes "SIGNONMSGSRSV1") (signon_reply reply.signon reply.moment) ++ text) sets

set_branch : (set : MessageSet) → IsBranch (reply_set set)
set_branch Bank = is_branch (codes "BANKMSGSRSV1") refl refl refl
set_branch Mail = is_branch (codes "EMAILMSGSRSV1") refl refl refl

one_set_lawful : Laws → (room : ℕ) (set : MessageSet) (answers : List AskReply) (suffix : Documents) → 6 < room → AllByRecursion IsSoundAskReply answers → AreLawful room suffix →
    AreLawful room (set_documents set answers suffix)
one_set_lawful laws room set answers suffix some sound more =
    set_lawful room IsSoundAskReply (reply_set set) answer_name answer_inner (set_branch set) (omega arith)
    (λ answer others is rest. answer_lawful laws (room - 1) answer others (omega arith) is rest) (replies_in set answers) suffix
    (kept_sound IsSoundAskReply (is_reply_in set) answers sound) more

reply_lawful : Laws → (reply : ReplyFile) → IsSoundReplyFile reply → AreLawful 15 (reply_inner reply)
reply_lawful laws reply s = (
  is_branch (codes "SIGNONMSGSRSV1") refl refl refl,
  omega arith,
  laws.signons_lawful 14 reply.signon reply.moment empty (omega arith) s.signon tt,
  one_set_lawful laws 15 Bank reply.replies (set_documents Mail reply.replies empty) (omega arith) s.replies (one_set_lawful laws 15 Mail reply.replies empty (omega arith) s.replies tt),
)

-- ---- what is read of them

-- the sets after the signon's have other names
none_after : (is_wanted : List ℕ → Bool) → ((set : MessageSet) → is_wanted (reply_set set) ≡ false) → (answers : List AskReply) →
    Everywhere (IsNone is_wanted) (set_documents Bank answers (set_documents Mail answers empty))
none_after is_wanted other answers =
    let skips = wanted_skips is_wanted [] in
    set_skipped (IsNone is_wanted) is_wanted skips (reply_set Bank) answer_name answer_inner (other Bank) (replies_in Bank answers) (set_documents Mail answers empty)
    (set_skipped (IsNone is_wanted) is_wanted skips (reply_set Mail) answer_name answer_inner (other Mail) (replies_in Mail answers) empty (no_more is_wanted))

no_signon : (set : MessageSet) → is_name_of (codes "SIGNONMSGSRSV1") (reply_set set) ≡ false
no_signon Bank = refl
no_signon Mail = refl

signon_holds : (offset index : ℕ) (reply : ReplyFile) →
    wanted (is_name_of (codes "SIGNONMSGSRSV1")) (items_of offset index (reply_inner reply))
    ≡ branch_item offset index (codes "SIGNONMSGSRSV1") (signon_inner reply.signon reply.moment) ∷ []
signon_holds offset index reply =
    let set = branch_item offset index (codes "SIGNONMSGSRSV1") (signon_inner reply.signon reply.moment) in
    ap (λ (more : List Item). set ∷ more) (none_after (is_name_of (codes "SIGNONMSGSRSV1")) no_signon reply.replies _ _)

HasAnswers : MessageSet → List AskReply → List Item → Type 0
HasAnswers set answers items = HasSet ask_reply_of (reply_set set) (reply_names set) (map wire_answer (replies_in set answers)) items

-- a message set of these answers, before none
answers_read : Laws → (set : MessageSet) (answers : List AskReply) (suffix : Documents) → AllByRecursion IsSoundAskReply answers → Everywhere (IsNone (is_name_of (reply_set set))) suffix →
    Everywhere (HasAnswers set answers) (set_documents set answers suffix)
unfolding HasAnswers
answers_read laws set answers suffix sound none =
    set_back (IsSoundIn set) answer_name answer_inner ask_reply_of wire_answer (reply_set set) (reply_names set)
    (λ answer is. set_named set answer ∙ is.1) (λ offset index answer is. answer_back laws offset index answer is.0)
    (replies_in set answers) suffix (passed_sound IsSoundAskReply (is_reply_in set) answers sound) none

bank_holds : Laws → (reply : ReplyFile) → AllByRecursion IsSoundAskReply reply.replies → Everywhere (HasAnswers Bank reply.replies) (reply_inner reply)
unfolding HasAnswers
bank_holds laws reply sound =
    let is_bank : List ℕ → Bool = is_name_of (codes "BANKMSGSRSV1") in
    let none = set_skipped (IsNone is_bank) is_bank (wanted_skips is_bank []) (reply_set Mail) answer_name answer_inner refl (replies_in Mail reply.replies) empty (no_more is_bank) in
    branch_skipped (HasAnswers Bank reply.replies) is_bank (set_skips ask_reply_of (codes "BANKMSGSRSV1") bank_reply_names (map wire_answer (replies_in Bank reply.replies)))
    (codes "SIGNONMSGSRSV1") (signon_inner reply.signon reply.moment) (set_documents Bank reply.replies (set_documents Mail reply.replies empty)) refl
    (answers_read laws Bank reply.replies (set_documents Mail reply.replies empty) sound none)

mail_holds : Laws → (reply : ReplyFile) → AllByRecursion IsSoundAskReply reply.replies → Everywhere (HasAnswers Mail reply.replies) (reply_inner reply)
unfolding HasAnswers
mail_holds laws reply sound =
    let is_mail : List ℕ → Bool = is_name_of (codes "EMAILMSGSRSV1") in
    let skips = set_skips ask_reply_of (codes "EMAILMSGSRSV1") mail_reply_names (map wire_answer (replies_in Mail reply.replies)) in
    branch_skipped (HasAnswers Mail reply.replies) is_mail skips
    (codes "SIGNONMSGSRSV1") (signon_inner reply.signon reply.moment) (set_documents Bank reply.replies (set_documents Mail reply.replies empty)) refl
    (set_skipped (HasAnswers Mail reply.replies) is_mail skips (reply_set Bank) answer_name answer_inner refl (replies_in Bank reply.replies) (set_documents Mail reply.replies empty)
    (answers_read laws Mail reply.replies empty sound (no_more is_mail)))

-- what is reported of both sets is told of all
reported_of_both : (bank mail : List AskReply) → map wire_answer bank ++ map wire_answer mail ≡ map wire_answer (bank ++ mail)
reported_of_both [] mail = refl
reported_of_both (answer ∷ bank) mail = ap (λ (more : List AskReply). wire_answer answer ∷ more) (reported_of_both bank mail)

reply_back : Laws → (reply : ReplyFile) → IsSoundReplyFile reply →
    reply_of (branch_item 2 0 (codes "OFX") (reply_inner reply)) ≡ Ok (parts_with reply.signon reply.moment (map wire_answer reply.replies))
unfolding reply_of parts_with HasAnswers
reply_back laws reply s =
    let inner = reply_inner reply in
    let ofx = branch_item 2 0 (codes "OFX") inner in
    let lawful = reply_lawful laws reply s in
    let offset : ℕ = 2 + length (start_line (codes "OFX")) in
    let set = branch_item offset 1 (codes "SIGNONMSGSRSV1") (signon_inner reply.signon reply.moment) in
    let suffix : ℕ = offset + length (start_line (codes "SIGNONMSGSRSV1")) in
    let sonrs = branch_item suffix 2 (codes "SONRS") (signon_reply_documents reply.signon reply.moment) in
    let bank = bank_holds laws reply s.replies offset 1 in
    let mail = mail_holds laws reply s.replies offset 1 in
    bind_to (one (codes "SIGNONMSGSRSV1") ofx) _ set
    (one_again (codes "SIGNONMSGSRSV1") ofx set (named_of_branch 2 0 15 (codes "OFX") (codes "SIGNONMSGSRSV1") inner lawful ∙ signon_holds offset 1 reply))
    ∙ bind_to (one (codes "SONRS") set) _ sonrs
    (one_again (codes "SONRS") set sonrs (named_of_branch offset 1 14 (codes "SIGNONMSGSRSV1") (codes "SONRS") (signon_inner reply.signon reply.moment) lawful.2))
    ∙ bind_to (signon_reply_of sonrs) _ (reply.signon, reply.moment) (laws.signons_read suffix 2 reply.signon reply.moment s.signon)
    ∙ bind_to (maybe (codes "BANKMSGSRSV1") ofx) _ bank.0 (ap if_any (named_of_branch 2 0 15 (codes "OFX") (codes "BANKMSGSRSV1") inner lawful) ∙ bank.1)
    ∙ bind_to (messages_in ask_reply_of bank_reply_names bank.0) _ (map wire_answer (replies_in Bank reply.replies)) bank.2
    ∙ bind_to (maybe (codes "EMAILMSGSRSV1") ofx) _ mail.0 (ap if_any (named_of_branch 2 0 15 (codes "OFX") (codes "EMAILMSGSRSV1") inner lawful) ∙ mail.1)
    ∙ bind_to (messages_in ask_reply_of mail_reply_names mail.0) _ (map wire_answer (replies_in Mail reply.replies)) mail.2
    ∙ ap (λ (replies : List AskReply). let read : Result ReplyParts TreeFault = Ok (parts_with reply.signon reply.moment replies) in read)
    (reported_of_both (replies_in Bank reply.replies) (replies_in Mail reply.replies) ∙ ap (map wire_answer) (sym s.bank_first))

-- ---- the whole file

reply_text_as : Laws → (reply : ReplyFile) → reply_text reply ≡ header_text reply.version None reply.newer ++ aggregate (codes "OFX") (printed (reply_inner reply))
unfolding reply_text set_text
reply_text_as laws reply =
    ap (λ (text : List ℕ). header_text reply.version None reply.newer ++ aggregate (codes "OFX") text) (sym (reply_printed laws reply))

pub replies_read_back : Laws → RepliesReadBack
unfolding parts_with
replies_read_back laws reply s =
    let inner = reply_inner reply in
    let text = header_text reply.version None reply.newer in
    let ofx = branch_item 2 0 (codes "OFX") inner in
    let P : List ℕ → Type 0 = λ bytes. SpellsReply bytes (wire_file reply) in
    subst P (sym (reply_text_as laws reply)) (record {
      size = length text - 2;
      nodes = ofx.node ∷ ofx.inner;
      ofx = ofx;
      older = None;
      header = laws.headers reply.version None reply.newer (aggregate (codes "OFX") (printed inner)) s.version tt s.newer;
      body = written_body reply.version None reply.newer inner (reply_lawful laws reply s);
      form = (laws.replies ofx (parts_with reply.signon reply.moment (map wire_answer reply.replies))).1 (reply_back laws reply s);
    })
