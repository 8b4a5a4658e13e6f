-- The bank's reply to a file answers each of its asks.
use Rattle.std.proofs.Common.{◌≡◌, ℕ, ◌+◌, ◌-◌, ◌≤◌, Bool, true, false, ◌&&◌, cond, not, eqb, List, [], ◌∷◌, ◌++◌, length, map, drop, codes, Option, None, Some, is_some, Result, Ok, refl, sym, ap, ◌∙◌, subst, length-append, arith}
use Rattle.std.specs.Str.{bytes_eq}
use Rattle.std.specs.Fmt.{decimal}
use Rattle.std.proofs.lemmas.Bool.{and_from, and_parts}
use Rattle.std.proofs.lemmas.List.{map-append}
use Rattle.ofx_types.specs.AccountForm.{kind_word, same_account}
use Rattle.ofx_types.specs.NumberReading.{number_at}
use Rattle.ofx_types.specs.DeedForm.{family_of}
use Rattle.ofx_types.specs.SyncForm.{object_family}
use Rattle.ofx_types.specs.Wire.{wire, wire_sync, wire_answer, wire_file}
use Rattle.ofx_types.specs.declared.number.AcctId.{AcctId}
use Rattle.ofx_types.specs.declared.number.ObjectId.{ObjectId}
use Rattle.ofx_types.specs.declared.number.Moment.{Moment}
use Rattle.ofx_types.specs.declared.number.UserId.{UserId}
use Rattle.ofx_types.specs.declared.account.AcctName.{AcctName}
use Rattle.ofx_types.specs.declared.transfer.Deed.{Deed}
use Rattle.ofx_types.specs.declared.transfer.DeedReply.{DeedReply}
use Rattle.ofx_types.specs.declared.transfer.Family.{Family}
use Rattle.ofx_types.specs.declared.transfer.Family.TheVariants as families
use Rattle.ofx_types.specs.declared.sync.ObjectName.{ObjectName}
use Rattle.ofx_types.specs.declared.sync.ObjectName.TheVariants.{Intra, RecIntra, BankMail, Mail}
use Rattle.ofx_types.specs.declared.sync.SyncAsk.{SyncAsk}
use Rattle.ofx_types.specs.declared.sync.SyncReply.{SyncReply}
use Rattle.ofx_types.specs.declared.request.Period.{Period}
use Rattle.ofx_types.specs.declared.request.Ask.{Ask}
use Rattle.ofx_types.specs.declared.request.Ask.TheVariants as asks
use Rattle.ofx_types.specs.declared.request.RequestFile.{RequestFile}
use Rattle.ofx_types.proofs.Bytes.{bytes_eq_self}
use Rattle.bank_model.specs.declared.event.State.{State}
use Rattle.bank_model.specs.declared.setup.Setup.{Setup}
use Rattle.bank_model.specs.Deeds.{deed_answer}
use Rattle.bank_model.specs.Objects.{account_about, object_named, newest}
use Rattle.bank_model.specs.SetupForm.{IsWithinLimits}
use Rattle.bank_model.specs.SetupLookups.{own_account}
use Rattle.bank_model.specs.Sync.{token_of, refused_with, rejection, history_replies, deed_answers, deeds_or_rejection, sync_on, sync_answer}
use Rattle.bank_model.specs.Rules.{raised, statement_reply, ask_answer, ask_answers, reply_file}
use Rattle.sync_laws.specs.Histories.{IsInOrder}
use Rattle.sync_laws.proofs.Events.{grows_ask, grows_raised}
use Rattle.sync_laws.proofs.Tokens.{newest_read}
use Rattle.client_saved.specs.declared.state.ClientState.{ClientState}
use Rattle.client_saved.specs.declared.state.Outstanding.{Outstanding}
use Rattle.client_saved.specs.Bounds.{same_object}
use Rattle.client_core.specs.Answering.{same_family, have_uids, last_replies, is_token, is_sync_answered, is_answered, unanswered_from, first_unanswered}
use Rattle.client_core.specs.Accepting.{same_name, accepted_for, accepted_to, accepted, with_replies}
use Rattle.client_laws.specs.Answers.{bank_reply}

-- ---- what is the same as itself

account_itself : (account : AcctName) → same_account account account ≡ true
account_itself account =
    and_from _ _ (and_from _ _ (bytes_eq_self account.bank) (bytes_eq_self account.number)) (bytes_eq_self (kind_word account.kind))

object_itself : (object : ObjectName) → same_object object object ≡ true
object_itself (Intra account) = account_itself account
object_itself (RecIntra account) = account_itself account
object_itself (BankMail account) = account_itself account
object_itself Mail = refl

family_itself : (family : Family) → same_family family family ≡ true
family_itself families.Intra = refl
family_itself families.RecIntra = refl
family_itself families.BankMail = refl
family_itself families.Mail = refl

name_itself : (name : Option (List ℕ)) → same_name name name ≡ true
name_itself None = refl
name_itself (Some name) = bytes_eq_self name

-- ---- the replies to deeds

uids_length : (deeds : List (List ℕ × Deed)) (replies : List DeedReply) → have_uids deeds replies ≡ true → length replies ≡ length deeds
uids_length [] [] have = refl
uids_length [] (reply ∷ replies) have = absurd cc
uids_length (deed ∷ deeds) [] have = absurd cc
uids_length (deed ∷ deeds) (reply ∷ replies) have =
    let rest = uids_length deeds replies (and_parts (bytes_eq deed.0 reply.trnuid) (have_uids deeds replies) have).1 in omega (arith, rest)

drop_prefix : (prefix back : List DeedReply) → drop (length prefix) (prefix ++ back) ≡ back
drop_prefix [] back = refl
drop_prefix (reply ∷ prefix) back = drop_prefix prefix back

-- the replies to the deeds stand last
have_last : (deeds : List (List ℕ × Deed)) (prefix back : List DeedReply) → have_uids deeds back ≡ true
    → have_uids deeds (last_replies deeds (prefix ++ back)) ≡ true
have_last deeds prefix back have =
    let same = uids_length deeds back have in
    let count : length (prefix ++ back) - length deeds ≡ length prefix = omega (arith, same, length-append prefix back) in
    ap (have_uids deeds) (ap (λ (n : ℕ). drop n (prefix ++ back)) count ∙ drop_prefix prefix back) ∙ have

wired : (deeds : List (List ℕ × Deed)) (replies : List DeedReply) → have_uids deeds replies ≡ true → have_uids deeds (map wire replies) ≡ true
wired [] [] have = refl
wired [] (reply ∷ replies) have = absurd cc
wired (deed ∷ deeds) [] have = absurd cc
wired (deed ∷ deeds) (reply ∷ replies) have =
    let parts = and_parts (bytes_eq deed.0 reply.trnuid) (have_uids deeds replies) have in
    and_from _ _ parts.0 (wired deeds replies parts.1)

refused_uids : (family : Family) (code : ℕ) (deeds : List (List ℕ × Deed)) → have_uids deeds (map (refused_with family code) deeds) ≡ true
refused_uids family code [] = refl
refused_uids family code (deed ∷ deeds) = and_from _ _ (bytes_eq_self deed.0) (refused_uids family code deeds)

answer_uid : (setup : Setup) (S : State) (user : UserId) (only : Option AcctId) (at : Moment) (trnuid : List ℕ) (deed : Deed)
    → (deed_answer setup S user only at trnuid deed).reply.trnuid ≡ trnuid
unfolding deed_answer
answer_uid setup S user only at trnuid deed = refl

answer_family : (setup : Setup) (S : State) (user : UserId) (only : Option AcctId) (at : Moment) (trnuid : List ℕ) (deed : Deed)
    → (deed_answer setup S user only at trnuid deed).reply.family ≡ family_of deed
unfolding deed_answer
answer_family setup S user only at trnuid deed = refl

answered_uids : (setup : Setup) (S : State) (user : UserId) (only : Option AcctId) (at : Moment) (deeds : List (List ℕ × Deed))
    → have_uids deeds (deed_answers setup S user only at deeds).replies ≡ true
unfolding deed_answers
answered_uids setup S user only at [] = refl
answered_uids setup S user only at (deed ∷ more) =
    and_from _ _ (ap (bytes_eq deed.0) (answer_uid setup S user only at deed.0 deed.1) ∙ bytes_eq_self deed.0)
    (answered_uids setup (deed_answer setup S user only at deed.0 deed.1).after user only at more)

reported_uids : (setup : Setup) (S : State) (user : UserId) (at : Moment) (ask : SyncAsk) (code : Option ℕ)
    → have_uids ask.deeds (deeds_or_rejection setup S user at ask code).replies ≡ true
unfolding deeds_or_rejection
reported_uids setup S user at ask None = answered_uids setup S user (account_about setup user ask.object) at ask.deeds
reported_uids setup S user at ask (Some code) = refused_uids (object_family ask.object) code ask.deeds

-- ---- synchronisations

zero_token : is_token (codes "0") ≡ true
unfolding number_at
zero_token = refl

-- the token and the last replies of an answer, as they come over the wire
sync_is : (ask : SyncAsk) (reply : SyncReply) → same_object ask.object reply.object ≡ true → is_token reply.token ≡ true
    → have_uids ask.deeds (last_replies ask.deeds (map wire reply.replies)) ≡ true → is_sync_answered ask (wire_sync reply) ≡ true
sync_is ask reply object token uids = and_from _ _ object (and_from _ _ token uids)

stranger_answered : (setup : Setup) (S : State) (user : UserId) (at : Moment) (ask : SyncAsk)
    → is_sync_answered ask (wire_sync (sync_on setup S user at ask None).reply) ≡ true
unfolding sync_on
stranger_answered setup S user at ask =
    sync_is ask (sync_on setup S user at ask None).reply (object_itself ask.object) zero_token
    (have_last ask.deeds [] (map wire (map (refused_with (object_family ask.object) 2003) ask.deeds))
    (wired ask.deeds (map (refused_with (object_family ask.object) 2003) ask.deeds) (refused_uids (object_family ask.object) 2003 ask.deeds)))

known_answered : (setup : Setup) (S : State) (user : UserId) (at : Moment) (ask : SyncAsk) (object : ObjectId) → IsWithinLimits setup
    → IsInOrder setup (sync_on setup S user at ask (Some object)).after
    → is_sync_answered ask (wire_sync (sync_on setup S user at ask (Some object)).reply) ≡ true
unfolding sync_on
known_answered setup S user at ask object within order =
    let answers = deeds_or_rejection setup S user at ask (rejection ask.reject (newest object S.entries) ask.kind) in
    let history = history_replies setup.window object (object_family ask.object) S.entries ask.kind in
    let uids = wired ask.deeds answers.replies (reported_uids setup S user at ask (rejection ask.reject (newest object S.entries) ask.kind)) in
    sync_is ask (sync_on setup S user at ask (Some object)).reply (object_itself ask.object)
    (ap is_some (newest_read setup answers.after object within order))
    (ap (λ (all : List DeedReply). have_uids ask.deeds (last_replies ask.deeds all)) (map-append wire history answers.replies)
    ∙ have_last ask.deeds (map wire history) (map wire answers.replies) uids)

sync_answered : (setup : Setup) (S : State) (user : UserId) (at : Moment) (ask : SyncAsk) (found : Option ObjectId) → IsWithinLimits setup
    → IsInOrder setup (sync_on setup S user at ask found).after → is_sync_answered ask (wire_sync (sync_on setup S user at ask found).reply) ≡ true
sync_answered setup S user at ask None within order = stranger_answered setup S user at ask
sync_answered setup S user at ask (Some object) within order = known_answered setup S user at ask object within order

sync_order : (setup : Setup) (S : State) (user : UserId) (at : Moment) (ask : SyncAsk) → IsInOrder setup S
    → IsInOrder setup (sync_on setup S user at ask (object_named setup user ask.object)).after
unfolding ask_answer sync_answer
sync_order setup S user at ask order = (grows_ask setup S user at (asks.Sync ask)).order order

-- ---- asks

statement_answered : (setup : Setup) (S : State) (at : Moment) (trnuid : List ℕ) (name : AcctName) (period : Option Period) (found : Option AcctId)
    → is_answered (asks.Statement trnuid name period) (wire_answer (statement_reply setup S at trnuid name period found)) ≡ true
statement_answered setup S at trnuid name period None = bytes_eq_self trnuid
statement_answered setup S at trnuid name period (Some account) = bytes_eq_self trnuid

one_answered : (setup : Setup) (S : State) (user : UserId) (at : Moment) (ask : Ask) → IsWithinLimits setup → IsInOrder setup S
    → is_answered ask (wire_answer (ask_answer setup S user at ask).reply) ≡ true
unfolding ask_answer sync_answer
one_answered setup S user at (asks.Statement trnuid name period) within order =
    statement_answered setup S at trnuid name period (own_account setup user name)
one_answered setup S user at (asks.One trnuid deed) within order =
    and_from _ _ (ap (bytes_eq trnuid) (answer_uid setup S user None at trnuid deed) ∙ bytes_eq_self trnuid)
    (ap (same_family (family_of deed)) (answer_family setup S user None at trnuid deed) ∙ family_itself (family_of deed))
one_answered setup S user at (asks.Sync ask) within order =
    sync_answered setup S user at ask (object_named setup user ask.object) within (sync_order setup S user at ask order)

all_answered : (setup : Setup) (S : State) (user : UserId) (at : Moment) (number : ℕ) (asked : List Ask) → IsWithinLimits setup → IsInOrder setup S
    → unanswered_from number asked (map wire_answer (ask_answers setup S user at asked).replies) ≡ None
unfolding ask_answers
all_answered setup S user at number [] within order = refl
all_answered setup S user at number (ask ∷ more) within order =
    let after = (ask_answer setup S user at ask).after in
    ap (λ (b : Bool). cond b (unanswered_from (number + 1) more (map wire_answer (ask_answers setup after user at more).replies)) (Some number))
    (one_answered setup S user at ask within order)
    ∙ all_answered setup after user at (number + 1) more within ((grows_ask setup S user at ask).order order)

-- ---- files

pub file_answered : (setup : Setup) (S : State) (user : UserId) (at : Moment) (file : RequestFile) → IsWithinLimits setup → IsInOrder setup S
    → first_unanswered file.asks (bank_reply setup S user at file).replies ≡ None
unfolding first_unanswered reply_file
file_answered setup S user at file within order =
    all_answered setup (raised S at) user at 1 file.asks within ((grows_raised setup S at).order order)

for_accepted : (setup : Setup) (S : State) (user : UserId) (at : Moment) (client : ClientState) (file : RequestFile) → IsWithinLimits setup
    → IsInOrder setup S → accepted_for client file (bank_reply setup S user at file) ≡ Ok (with_replies client file (bank_reply setup S user at file).replies)
unfolding reply_file
for_accepted setup S user at client file within order =
    rw (name_itself file.newer, file_answered setup S user at file within order) refl

pub reply_accepted : (setup : Setup) (S : State) (user : UserId) (at : Moment) (client : ClientState) (kept : Outstanding) → IsWithinLimits setup
    → IsInOrder setup S → client.outstanding ≡ Some kept
    → accepted client (bank_reply setup S user at kept.file) ≡ Ok (with_replies client kept.file (bank_reply setup S user at kept.file).replies)
unfolding accepted
reply_accepted setup S user at client kept within order is =
    ap (λ (found : Option Outstanding). accepted_to client found (bank_reply setup S user at kept.file)) is
    ∙ for_accepted setup S user at client kept.file within order
