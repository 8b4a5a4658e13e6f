-- An event posts transfers between accounts that it names, so all other balances stay.
use Rattle.std.proofs.Common.{◌≡◌, ℕ, ◌+◌, Bool, true, false, cond, eqb, List, [], ◌∷◌, ◌++◌, length, Option, None, Some, ℤ, pos, ◌+ℤ◌, zero, suc, refl, sym, ap, ◌∙◌, arith}
use Rattle.std.proofs.lemmas.Int.{ints}
use Rattle.std.proofs.lemmas.List.{append_assoc, append-nil}
use Rattle.std.proofs.lemmas.List.Sums.{fold-append}
use Rattle.std.proofs.lemmas.List.Elements.{All-filter, filter_passes, recursion_from_All}
use Rattle.std.specs.List.{AllByRecursion, Contains, flat_map}
use Rattle.ofx_types.specs.AccountForm.{same_account}
use Rattle.ofx_types.specs.declared.account.AcctName.{AcctName}
use Rattle.ofx_types.specs.declared.number.AcctId.{AcctId}
use Rattle.ofx_types.specs.declared.number.ObjectId.{ObjectId}
use Rattle.ofx_types.specs.declared.number.UserId.{UserId}
use Rattle.ofx_types.specs.declared.number.Day.{Day}
use Rattle.ofx_types.specs.declared.number.Moment.{Moment}
use Rattle.ofx_types.specs.declared.recurring.ModelRow.{ModelRow}
use Rattle.ofx_types.specs.declared.request.Ask.{Ask}
use Rattle.ofx_types.specs.declared.request.Ask.TheVariants as asks
use Rattle.ofx_types.specs.declared.request.RequestFile.{RequestFile}
use Rattle.ofx_types.specs.declared.sync.SyncAsk.{SyncAsk}
use Rattle.ofx_types.specs.declared.transfer.Change.{Change}
use Rattle.ofx_types.specs.declared.transfer.Change.TheVariants.{SetTransfer, DropTransfer}
use Rattle.ofx_types.specs.declared.transfer.Deed.{Deed}
use Rattle.ofx_types.specs.declared.transfer.Deed.TheVariants.{Transfer, ModifyTransfer, CancelTransfer, Model, ModifyModel, CancelModel, BankMail, Mail}
use Rattle.ofx_types.specs.declared.transfer.TransferRow.{TransferRow}
use Rattle.ofx_types.specs.declared.transfer.XferCode.{XferCode}
use Rattle.ofx_types.specs.declared.transfer.XferCode.TheVariants.{Waiting, Posted, NoFunds, Cancelled}
use Rattle.ofx_types.specs.declared.transfer.XferInfo.{XferInfo}
use Rattle.bank_model.specs.declared.entry.Entry.{Entry}
use Rattle.bank_model.specs.declared.event.Event.{Event}
use Rattle.bank_model.specs.declared.event.Event.TheVariants.{File, Post, Spawn, Letter}
use Rattle.bank_model.specs.declared.event.State.{State}
use Rattle.bank_model.specs.declared.setup.AccountLine.{AccountLine}
use Rattle.bank_model.specs.declared.setup.Setup.{Setup}
use Rattle.bank_model.specs.SetupForm.{IsWithinLimits}
use Rattle.bank_model.specs.SetupLookups.{account_of, line_at}
use Rattle.bank_model.specs.Ledger.{Posting, row_in, row_of, is_posted, posting_of, moved, part, sum_from, balance_on, balance}
use Rattle.bank_model.specs.Models.{is_waiting, made_in, all_waiting, waiting_of, model_of}
use Rattle.bank_model.specs.Deeds.{new_row, changed_row, with_terms, entries_after, if_pending, entry_on, model_entries_on, added, done, code_of, deed_answer}
use Rattle.bank_model.specs.Due.{processed_row, posts, spawned_row, spawns_on, spawns, occurrence_date}
use Rattle.bank_model.specs.Objects.{account_about, object_named, newest}
use Rattle.bank_model.specs.Sync.{rejection, deed_answers, deeds_or_rejection, sync_on, sync_answer}
use Rattle.bank_model.specs.Rules.{raised, ask_answer, ask_answers, kept_for, outcome_or_kept, new_outcome, file_outcome, state_after, named_by_deed, named_by_pair, named_by_object, named_by, named_by_row, named}
use Rattle.bank_invariants.proofs.AccountIndices.{account_of-line}
use Rattle.bank_model.proofs.Lists.{all_append}
use Rattle.bank_model.proofs.AccountNames.{same_account-is}
use Rattle.bank_invariants.proofs.LedgerSteps.{moved-append}

-- ---- lists

all_left : {X : Type 0} (P : X → Type 0) (xs ys : List X) → AllByRecursion P (xs ++ ys) → AllByRecursion P xs
all_left P [] ys all = tt
all_left P (x ∷ xs) ys all = (all.0, all_left P xs ys all.1)

all_right : {X : Type 0} (P : X → Type 0) (xs ys : List X) → AllByRecursion P (xs ++ ys) → AllByRecursion P ys
all_right P [] ys all = all
all_right P (x ∷ xs) ys all = all_right P xs ys all.1

there : {X : Type 0} (x y : X) (xs : List X) → Contains xs x → Contains (y ∷ xs) x
there x y xs has = (suc has.0, omega (arith, has.1), has.2)

absent : {X : Type 0} (x : X) (xs : List X) → (Contains xs x → ⊥) → AllByRecursion (λ (y : X). y ≡ x → ⊥) xs
absent x [] none = tt
absent x (y ∷ xs) none = ((λ is. none (zero, omega arith, is)), absent x xs (λ has. none (there x y xs has)))

-- ---- what leaves a balance alone

-- none of these is the account
abbrev Misses : AcctId → List (Option AcctId) → Type 0
Misses account named = AllByRecursion (λ (entry : Option AcctId). entry ≡ Some account → ⊥) named

-- a transfer that is posted is of other accounts
abbrev LeavesRow : Setup → AcctId → Option TransferRow → Type 0
LeavesRow setup account None = Unit {0}
LeavesRow setup account (Some row) = is_posted row.code ≡ true → Misses account (account_of setup row.from ∷ account_of setup row.to ∷ [])

abbrev Leaves : Setup → AcctId → Entry → Type 0
Leaves setup account entry = LeavesRow setup account (row_in entry.change)

elsewhere : (setup : Setup) (account : AcctId) (line : AccountLine) (name : AcctName) (amount : ℤ) (b : Bool) → IsWithinLimits setup → line_at setup account ≡ Some line → (account_of setup name ≡ Some account → ⊥) → same_account name line.name ≡ b → cond b amount (pos 0) ≡ pos 0
elsewhere setup account line name amount true within at other same =
    absurd (other (ap (account_of setup) (same_account-is name line.name same) ∙ account_of-line setup account line within at))
elsewhere setup account line name amount false within at other same = refl

no_part : (setup : Setup) (account : AcctId) (line : AccountLine) (row : TransferRow) → IsWithinLimits setup → line_at setup account ≡ Some line → Misses account (account_of setup row.from ∷ account_of setup row.to ∷ []) → part line.name row ≡ pos 0
no_part setup account line row within at misses =
    rw (elsewhere setup account line row.to row.amount.0 (same_account row.to line.name) within at misses.1.0 refl, elsewhere setup account line row.from row.amount.0 (same_account row.from line.name) within at misses.0 refl) refl

abbrev BringsNothing : AcctName → Posting → Type 0
BringsNothing name posting = part name posting.row ≡ pos 0

nothing_if_posted : (name : AcctName) (number : ℕ) (row : TransferRow) (b : Bool) → (b ≡ true → part name row ≡ pos 0) → AllByRecursion (BringsNothing name) (cond b (record { number = number; row = row } ∷ []) [])
nothing_if_posted name number row true none = (none refl, tt)
nothing_if_posted name number row false none = tt

nothing_of : (setup : Setup) (account : AcctId) (line : AccountLine) (number : ℕ) (row : Option TransferRow) → IsWithinLimits setup → line_at setup account ≡ Some line → LeavesRow setup account row → AllByRecursion (BringsNothing line.name) (posting_of number row)
nothing_of setup account line number None within at leaves = tt
nothing_of setup account line number (Some row) within at leaves =
    nothing_if_posted line.name number row (is_posted row.code) (λ posted. no_part setup account line row within at (leaves posted))

nothing_brought : (setup : Setup) (account : AcctId) (line : AccountLine) (entries : List Entry) → IsWithinLimits setup → line_at setup account ≡ Some line → AllByRecursion (Leaves setup account) entries → AllByRecursion (BringsNothing line.name) (moved entries)
unfolding moved
nothing_brought setup account line [] within at leave = tt
nothing_brought setup account line (entry ∷ entries) within at leave =
    all_append (BringsNothing line.name) (posting_of entry.number (row_in entry.change)) (moved entries)
    (nothing_of setup account line entry.number (row_in entry.change) within at leave.0) (nothing_brought setup account line entries within at leave.1)

same_sum : (name : AcctName) (sum : ℤ) (postings : List Posting) → AllByRecursion (BringsNothing name) postings → sum_from sum name postings ≡ sum
unfolding sum_from
same_sum name sum [] none = refl
same_sum name sum (posting ∷ postings) none =
    let same : sum +ℤ part name posting.row ≡ sum = rw none.0 (omega (arith, ints)) in
    ap (λ (s : ℤ). sum_from s name postings) same ∙ same_sum name sum postings none.1

sum-append : (name : AcctName) (sum : ℤ) (postings more : List Posting) → sum_from sum name (postings ++ more) ≡ sum_from (sum_from sum name postings) name more
unfolding sum_from
sum-append name sum postings more = fold-append (λ (s : ℤ) (posting : Posting). s +ℤ part name posting.row) sum postings more

balance_left : (setup : Setup) (account : AcctId) (entries more : List Entry) (line : Option AccountLine) → IsWithinLimits setup → line_at setup account ≡ line → AllByRecursion (Leaves setup account) more → balance_on (entries ++ more) line ≡ balance_on entries line
balance_left setup account entries more None within at leave = refl
balance_left setup account entries more (Some line) within at leave =
    ap (sum_from line.opening.0 line.name) (moved-append entries more)
    ∙ sum-append line.name line.opening.0 (moved entries) (moved more)
    ∙ same_sum line.name (sum_from line.opening.0 line.name (moved entries)) (moved more) (nothing_brought setup account line more within at leave)

-- ---- what a step adds

-- entries are added, each of which leaves the account alone
record Adds (setup : Setup) (account : AcctId) (before after : List Entry) : Type 0 where
  pub more : List Entry
  pub is : after ≡ before ++ more
  pub leave : AllByRecursion (Leaves setup account) more

adds_none : (setup : Setup) (account : AcctId) (entries : List Entry) → Adds setup account entries entries
adds_none setup account entries = record { more = []; is = sym (append-nil entries); leave = tt }

adds_on : (setup : Setup) (account : AcctId) (first mid last : List Entry) → Adds setup account first mid → Adds setup account mid last → Adds setup account first last
adds_on setup account first mid last a b = record {
  more = a.more ++ b.more;
  is = b.is ∙ ap (λ (entries : List Entry). entries ++ b.more) a.is ∙ append_assoc first a.more b.more;
  leave = all_append (Leaves setup account) a.more b.more a.leave b.leave;
}

balance_kept : (setup : Setup) (account : AcctId) (before after : List Entry) → IsWithinLimits setup → Adds setup account before after → balance setup after account ≡ balance setup before account
balance_kept setup account before after within adds =
    ap (λ (entries : List Entry). balance setup entries account) adds.is
    ∙ balance_left setup account before adds.more (line_at setup account) within refl adds.leave

-- ---- the entries of a deed

not_both : (code : XferCode) → is_waiting code ≡ true → is_posted code ≡ true → ⊥
not_both Waiting waits posted = cc
not_both Posted waits posted = cc
not_both NoFunds waits posted = cc
not_both Cancelled waits posted = cc

abbrev Waits : TransferRow → Type 0
Waits row = is_waiting row.code ≡ true

waiting_wait : (id : ℕ) (entries : List Entry) → AllByRecursion Waits (waiting_of id entries)
unfolding waiting_of all_waiting
waiting_wait id entries =
    recursion_from_All Waits (waiting_of id entries)
    (All-filter (λ (row : TransferRow). eqb row.model id) Waits (all_waiting entries) (filter_passes (λ (row : TransferRow). is_waiting row.code) (flat_map (λ (entry : Entry). made_in entries entry.change) entries)))

-- what waits on is given other terms, or dropped
after_leave : (setup : Setup) (account : AcctId) (count : ℕ) (change : TransferRow → Change) (rows : List TransferRow) → ((row : TransferRow) → Waits row → LeavesRow setup account (row_in (change row))) → AllByRecursion Waits rows → AllByRecursion (Leaves setup account) (entries_after setup count change rows)
unfolding entries_after
after_leave setup account count change [] each wait = tt
after_leave setup account count change (row ∷ rows) each wait = (each row wait.0, after_leave setup account (count + 1) change rows each wait.1)

pending_leave : (setup : Setup) (account : AcctId) (pending : Bool) (entries : List Entry) → AllByRecursion (Leaves setup account) entries → AllByRecursion (Leaves setup account) (if_pending pending entries)
pending_leave setup account true entries leave = leave
pending_leave setup account false entries leave = tt

terms_leave : (setup : Setup) (account : AcctId) (info : XferInfo) (row : TransferRow) → Waits row → LeavesRow setup account (Some (with_terms info row))
unfolding with_terms
terms_leave setup account info row waits posted = absurd (not_both row.code waits posted)

changed_leaves : (setup : Setup) (account : AcctId) (S : State) (trnuid : List ℕ) (info : XferInfo) (found : Option TransferRow) → AllByRecursion (Leaves setup account) (entry_on setup S trnuid found (λ row. SetTransfer (changed_row S.day info row)))
unfolding changed_row
changed_leaves setup account S trnuid info None = tt
changed_leaves setup account S trnuid info (Some row) = ((λ posted. absurd cc), tt)

dropped_leaves : (setup : Setup) (account : AcctId) (S : State) (trnuid : List ℕ) (id : ℕ) (found : Option TransferRow) → AllByRecursion (Leaves setup account) (entry_on setup S trnuid found (λ row. DropTransfer id))
dropped_leaves setup account S trnuid id None = tt
dropped_leaves setup account S trnuid id (Some row) = (tt, tt)

model_leaves : (setup : Setup) (account : AcctId) (S : State) (trnuid : List ℕ) (found : Option ModelRow) (change : ModelRow → Change) (more : List Entry) → ((row : ModelRow) → LeavesRow setup account (row_in (change row))) → AllByRecursion (Leaves setup account) more → AllByRecursion (Leaves setup account) (model_entries_on setup S trnuid found change more)
model_leaves setup account S trnuid None change more first leave = tt
model_leaves setup account S trnuid (Some row) change more first leave = (first row, leave)

done_leaves : (setup : Setup) (account : AcctId) (S : State) (user : UserId) (at : Moment) (trnuid : List ℕ) (deed : Deed) → Misses account (named_by_deed setup deed) → AllByRecursion (Leaves setup account) (done setup S user at trnuid deed)
unfolding done new_row
done_leaves setup account S user at trnuid (Transfer info) misses = ((λ posted. misses), tt)
done_leaves setup account S user at trnuid (ModifyTransfer id info) misses = changed_leaves setup account S trnuid info (row_of id S.entries)
done_leaves setup account S user at trnuid (CancelTransfer id) misses = dropped_leaves setup account S trnuid id (row_of id S.entries)
done_leaves setup account S user at trnuid (Model recur info) misses = (tt, tt)
done_leaves setup account S user at trnuid (ModifyModel id recur info pending) misses =
    model_leaves setup account S trnuid (model_of id S.entries) _ _ (λ row. tt)
    (pending_leave setup account pending _ (after_leave setup account (length S.entries + 1) (λ row. SetTransfer (with_terms info row)) (waiting_of id S.entries) (terms_leave setup account info) (waiting_wait id S.entries)))
done_leaves setup account S user at trnuid (CancelModel id pending) misses =
    model_leaves setup account S trnuid (model_of id S.entries) _ _ (λ row. tt)
    (pending_leave setup account pending _ (after_leave setup account (length S.entries + 1) (λ row. DropTransfer row.id) (waiting_of id S.entries) (λ row waits. tt) (waiting_wait id S.entries)))
done_leaves setup account S user at trnuid (BankMail about mail) misses = (tt, tt)
done_leaves setup account S user at trnuid (Mail mail) misses = (tt, tt)

added_leave : (setup : Setup) (account : AcctId) (S : State) (user : UserId) (at : Moment) (trnuid : List ℕ) (deed : Deed) (b : Bool) → Misses account (named_by_deed setup deed) → AllByRecursion (Leaves setup account) (cond b (done setup S user at trnuid deed) [])
added_leave setup account S user at trnuid deed true misses = done_leaves setup account S user at trnuid deed misses
added_leave setup account S user at trnuid deed false misses = tt

deed_adds : (setup : Setup) (account : AcctId) (S : State) (user : UserId) (only : Option AcctId) (at : Moment) (trnuid : List ℕ) (deed : Deed) → Misses account (named_by_deed setup deed) → Adds setup account S.entries (deed_answer setup S user only at trnuid deed).after.entries
unfolding deed_answer
deed_adds setup account S user only at trnuid deed misses = record {
  more = added setup S user at trnuid deed (code_of setup S user only at trnuid deed);
  is = refl;
  leave = added_leave setup account S user at trnuid deed (eqb (code_of setup S user only at trnuid deed) 0) misses;
}

-- ---- deeds of a synchronisation, asks and files

deeds_add : (setup : Setup) (account : AcctId) (S : State) (user : UserId) (only : Option AcctId) (at : Moment) (deeds : List (List ℕ × Deed)) → Misses account (flat_map (named_by_pair setup) deeds) → Adds setup account S.entries (deed_answers setup S user only at deeds).after.entries
unfolding deed_answers
deeds_add setup account S user only at [] misses = adds_none setup account S.entries
deeds_add setup account S user only at (deed ∷ deeds) misses =
    let here : AllByRecursion (λ (entry : Option AcctId). entry ≡ Some account → ⊥) (named_by_deed setup deed.1) = all_left _ (named_by_deed setup deed.1) (flat_map (named_by_pair setup) deeds) misses in
    let mid : State = (deed_answer setup S user only at deed.0 deed.1).after in
    adds_on setup account S.entries mid.entries (deed_answers setup mid user only at deeds).after.entries
    (deed_adds setup account S user only at deed.0 deed.1 here)
    (deeds_add setup account mid user only at deeds (all_right _ (named_by_deed setup deed.1) (flat_map (named_by_pair setup) deeds) misses))

unless_rejected : (setup : Setup) (account : AcctId) (S : State) (user : UserId) (at : Moment) (ask : SyncAsk) (code : Option ℕ) → Misses account (flat_map (named_by_pair setup) ask.deeds) → Adds setup account S.entries (deeds_or_rejection setup S user at ask code).after.entries
unfolding deeds_or_rejection
unless_rejected setup account S user at ask None misses = deeds_add setup account S user (account_about setup user ask.object) at ask.deeds misses
unless_rejected setup account S user at ask (Some code) misses = adds_none setup account S.entries

sync_on_adds : (setup : Setup) (account : AcctId) (S : State) (user : UserId) (at : Moment) (ask : SyncAsk) (object : Option ObjectId) → Misses account (flat_map (named_by_pair setup) ask.deeds) → Adds setup account S.entries (sync_on setup S user at ask object).after.entries
unfolding sync_on
sync_on_adds setup account S user at ask None misses = adds_none setup account S.entries
sync_on_adds setup account S user at ask (Some object) misses = unless_rejected setup account S user at ask (rejection ask.reject (newest object S.entries) ask.kind) misses

ask_adds : (setup : Setup) (account : AcctId) (S : State) (user : UserId) (at : Moment) (ask : Ask) → Misses account (named_by setup ask) → Adds setup account S.entries (ask_answer setup S user at ask).after.entries
unfolding ask_answer sync_answer
ask_adds setup account S user at (asks.Statement trnuid name period) misses = adds_none setup account S.entries
ask_adds setup account S user at (asks.One trnuid deed) misses = deed_adds setup account S user None at trnuid deed misses
ask_adds setup account S user at (asks.Sync ask) misses =
    sync_on_adds setup account S user at ask (object_named setup user ask.object)
    (all_right _ (named_by_object setup ask.object) (flat_map (named_by_pair setup) ask.deeds) misses)

asks_add : (setup : Setup) (account : AcctId) (S : State) (user : UserId) (at : Moment) (items : List Ask) → Misses account (flat_map (named_by setup) items) → Adds setup account S.entries (ask_answers setup S user at items).after.entries
unfolding ask_answers
asks_add setup account S user at [] misses = adds_none setup account S.entries
asks_add setup account S user at (ask ∷ items) misses =
    let here : Misses account (named_by setup ask) = all_left _ (named_by setup ask) (flat_map (named_by setup) items) misses in
    let mid : State = (ask_answer setup S user at ask).after in
    adds_on setup account S.entries mid.entries (ask_answers setup mid user at items).after.entries
    (ask_adds setup account S user at ask here)
    (asks_add setup account mid user at items (all_right _ (named_by setup ask) (flat_map (named_by setup) items) misses))

new_adds : (setup : Setup) (account : AcctId) (S : State) (user : UserId) (at : Moment) (file : RequestFile) → Misses account (flat_map (named_by setup) file.asks) → Adds setup account S.entries (new_outcome setup S user at file).after.entries
unfolding new_outcome
new_adds setup account S user at file misses = asks_add setup account S user at file.asks misses

unless_kept : (setup : Setup) (account : AcctId) (S : State) (user : UserId) (at : Moment) (file : RequestFile) (kept : Option (List ℕ)) → Misses account (flat_map (named_by setup) file.asks) → Adds setup account S.entries (outcome_or_kept setup S user at file kept).after.entries
unless_kept setup account S user at file None misses = new_adds setup account S user at file misses
unless_kept setup account S user at file (Some reply) misses = adds_none setup account S.entries

file_adds : (setup : Setup) (account : AcctId) (S : State) (user : UserId) (at : Moment) (file : RequestFile) → Misses account (flat_map (named_by setup) file.asks) → Adds setup account S.entries (file_outcome setup S user at file).after.entries
unfolding file_outcome
file_adds setup account S user at file misses = unless_kept setup account S user at file (kept_for S user file.newer) misses

-- ---- what the bank does by itself

post_leaves : (setup : Setup) (account : AcctId) (S : State) (at : Moment) (row : Option TransferRow) → Misses account (named_by_row setup row) → AllByRecursion (Leaves setup account) (posts setup S at row)
unfolding processed_row
post_leaves setup account S at None misses = tt
post_leaves setup account S at (Some row) misses = ((λ posted. misses), tt)

spawn_leaves : (setup : Setup) (account : AcctId) (S : State) (row : Option ModelRow) (date : Option Day) → AllByRecursion (Leaves setup account) (spawns_on setup S row date)
unfolding spawned_row
spawn_leaves setup account S None date = tt
spawn_leaves setup account S (Some row) None = tt
spawn_leaves setup account S (Some row) (Some date) = ((λ posted. absurd cc), tt)

spawned_leave : (setup : Setup) (account : AcctId) (S : State) (id index : ℕ) → AllByRecursion (Leaves setup account) (spawns setup S id index)
unfolding spawns
spawned_leave setup account S id index = spawn_leaves setup account S (model_of id S.entries) (occurrence_date (model_of id S.entries) index)

-- ---- an event

event_adds : (setup : Setup) (account : AcctId) (S : State) (at : Moment) (event : Event) → Misses account (named setup S event) → Adds setup account S.entries (state_after setup S at event).entries
event_adds setup account S at (File user file) misses = file_adds setup account (raised S at) user at file misses
event_adds setup account S at (Post id) misses = record {
  more = posts setup (raised S at) at (row_of id S.entries);
  is = refl;
  leave = post_leaves setup account (raised S at) at (row_of id S.entries) misses;
}
event_adds setup account S at (Spawn id index) misses = record {
  more = spawns setup (raised S at) id index;
  is = refl;
  leave = spawned_leave setup account (raised S at) id index;
}
event_adds setup account S at (Letter user subject body) misses = record { more = _; is = refl; leave = (tt, tt) }

-- The balance of an account that an event doesn't name stays.
pub unnamed_stays : (setup : Setup) (S : State) (at : Moment) (event : Event) (account : AcctId) → IsWithinLimits setup → (Contains (named setup S event) (Some account) → ⊥) → balance setup (state_after setup S at event).entries account ≡ balance setup S.entries account
unnamed_stays setup S at event account within unnamed =
    balance_kept setup account S.entries (state_after setup S at event).entries within
    (event_adds setup account S at event (absent (Some account) (named setup S event) unnamed))
