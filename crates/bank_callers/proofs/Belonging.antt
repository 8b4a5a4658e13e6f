-- Whatever a bank does, its entries belong to the objects of its setup.
use Rattle.std.proofs.Common.{◌≡◌, ℕ, ◌+◌, ◌*◌, ◌<◌, Bool, true, false, cond, List, [], ◌∷◌, ◌++◌, length, fold, Option, None, Some, refl, arith}
use Rattle.std.specs.List.{AllByRecursion}
use Rattle.ofx_types.specs.declared.account.AcctName.{AcctName}
use Rattle.ofx_types.specs.declared.number.AcctId.{AcctId}
use Rattle.ofx_types.specs.declared.number.Moment.{Moment}
use Rattle.ofx_types.specs.declared.number.Day.{Day}
use Rattle.ofx_types.specs.declared.number.UserId.{UserId}
use Rattle.ofx_types.specs.declared.transfer.Change.{Change}
use Rattle.ofx_types.specs.declared.transfer.Deed.{Deed}
use Rattle.ofx_types.specs.declared.transfer.Deed.TheVariants.{Transfer, ModifyTransfer, CancelTransfer, Model, ModifyModel, CancelModel, BankMail, Mail}
use Rattle.ofx_types.specs.declared.transfer.TransferRow.{TransferRow}
use Rattle.ofx_types.specs.declared.recurring.ModelRow.{ModelRow}
use Rattle.bank_model.specs.declared.entry.Entry.{Entry}
use Rattle.bank_model.specs.declared.event.Event.{Event}
use Rattle.bank_model.specs.declared.event.Event.TheVariants.{File, Post, Spawn, Letter}
use Rattle.bank_model.specs.declared.event.State.{State}
use Rattle.bank_model.specs.declared.log.LogItem.{LogItem}
use Rattle.bank_model.specs.declared.log.LogItem.TheVariants.{Effect, Answer, Adopted, Fault}
use Rattle.bank_model.specs.declared.setup.Setup.{Setup}
use Rattle.bank_model.specs.Log.{endings}
use Rattle.bank_model.specs.LegalLog.{AreLegalEndings, IsWholeLog, after_ending, ends}
use Rattle.bank_model.specs.SetupForm.{IsWithinLimits}
use Rattle.bank_model.specs.SetupLookups.{account_of}
use Rattle.bank_model.specs.Ledger.{row_of}
use Rattle.bank_model.specs.Models.{model_of, waiting_of}
use Rattle.bank_model.specs.Deeds.{intra_of, recurring_of, mail_about_of, mail_object, entry_on, entries_after, if_pending, model_entries_on, done, code_of, added, deed_answer}
use Rattle.bank_model.specs.Due.{posts, spawns_on, spawns, occurrence_date}
use Rattle.bank_model.specs.Rules.{opening_state, state_after, IsLegal}
use Rattle.bank_model.proofs.Lists.{all_append}
use Rattle.bank_callers.specs.Belonging.{object_count, BelongsIn, AllBelong}
use Rattle.bank_invariants.specs.Runs.{Happening, after_all, AreLegal}
use Rattle.bank_invariants.specs.Stages.{Stage, day, deed, names, post, spawn, letter, IsKnownEvent}
use Rattle.bank_invariants.proofs.AccountIndices.{slice_get-below, line_of-account}
use Rattle.bank_invariants.proofs.StageLemmas.{Lasts, lasts, leads_step, each_asks}

-- ---- objects

account_below : (setup : Setup) (name : AcctName) (a : AcctId) → account_of setup name ≡ Some a → a.0 < length setup.accounts
account_below setup name a found = let line = line_of-account setup name a found in slice_get-below setup.accounts a.0 line.0 line.1

intra_below : (setup : Setup) (name : AcctName) (found : Option AcctId) → IsWithinLimits setup → account_of setup name ≡ found → (intra_of found).0 < object_count setup
intra_below setup name None within is = let some = within.lines.accounts_low in omega arith
intra_below setup name (Some a) within is = let less = account_below setup name a is in omega arith

recurring_below : (setup : Setup) (name : AcctName) (found : Option AcctId) → IsWithinLimits setup → account_of setup name ≡ found → (recurring_of found).0 < object_count setup
recurring_below setup name None within is = let some = within.lines.accounts_low in omega arith
recurring_below setup name (Some a) within is = let less = account_below setup name a is in omega arith

letters_below : (setup : Setup) (name : AcctName) (found : Option AcctId) → IsWithinLimits setup → account_of setup name ≡ found → (mail_about_of found).0 < object_count setup
letters_below setup name None within is = let some = within.lines.accounts_low in omega arith
letters_below setup name (Some a) within is = let less = account_below setup name a is in omega arith

mail_below : (setup : Setup) (user : UserId) → user.0 < length setup.users → (mail_object setup user).0 < object_count setup
mail_below setup user known = omega arith

-- ---- what a deed adds

on_row : (setup : Setup) (S : State) (trnuid : List ℕ) (found : Option TransferRow) (change : TransferRow → Change) → IsWithinLimits setup → AllBelong setup (entry_on setup S trnuid found change)
on_row setup S trnuid None change within = tt
on_row setup S trnuid (Some row) change within = (intra_below setup row.from (account_of setup row.from) within refl, tt)

on_model : (setup : Setup) (S : State) (trnuid : List ℕ) (found : Option ModelRow) (change : ModelRow → Change) (more : List Entry) → IsWithinLimits setup → AllBelong setup more → AllBelong setup (model_entries_on setup S trnuid found change more)
on_model setup S trnuid None change more within rest = tt
on_model setup S trnuid (Some row) change more within rest = (recurring_below setup row.from (account_of setup row.from) within refl, rest)

along : (setup : Setup) (count : ℕ) (change : TransferRow → Change) (rows : List TransferRow) → IsWithinLimits setup → AllBelong setup (entries_after setup count change rows)
unfolding entries_after
along setup count change [] within = tt
along setup count change (row ∷ rows) within = (intra_below setup row.from (account_of setup row.from) within refl, along setup (count + 1) change rows within)

pending_too : (setup : Setup) (pending : Bool) (entries : List Entry) → AllBelong setup entries → AllBelong setup (if_pending pending entries)
pending_too setup true entries all = all
pending_too setup false entries all = tt

done_belong : (setup : Setup) (S : State) (user : UserId) (at : Moment) (trnuid : List ℕ) (what : Deed) → IsWithinLimits setup → user.0 < length setup.users → AllBelong setup (done setup S user at trnuid what)
unfolding done
done_belong setup S user at trnuid (Transfer info) within known = (intra_below setup info.from (account_of setup info.from) within refl, tt)
done_belong setup S user at trnuid (ModifyTransfer id info) within known = on_row setup S trnuid (row_of id S.entries) _ within
done_belong setup S user at trnuid (CancelTransfer id) within known = on_row setup S trnuid (row_of id S.entries) _ within
done_belong setup S user at trnuid (Model recur info) within known = (recurring_below setup info.from (account_of setup info.from) within refl, tt)
done_belong setup S user at trnuid (ModifyModel id recur info pending) within known =
    on_model setup S trnuid (model_of id S.entries) _ _ within
    (pending_too setup pending _ (along setup (length S.entries + 1) _ (waiting_of id S.entries) within))
done_belong setup S user at trnuid (CancelModel id pending) within known =
    on_model setup S trnuid (model_of id S.entries) _ _ within
    (pending_too setup pending _ (along setup (length S.entries + 1) _ (waiting_of id S.entries) within))
done_belong setup S user at trnuid (BankMail account mail) within known = (letters_below setup account (account_of setup account) within refl, tt)
done_belong setup S user at trnuid (Mail mail) within known = (mail_below setup user known, tt)

if_accepted : (setup : Setup) (accepted : Bool) (entries : List Entry) → AllBelong setup entries → AllBelong setup (cond accepted entries [])
if_accepted setup true entries all = all
if_accepted setup false entries all = tt

-- ---- what the bank adds by itself

posts_belong : (setup : Setup) (S : State) (at : Moment) (found : Option TransferRow) → IsWithinLimits setup → AllBelong setup (posts setup S at found)
posts_belong setup S at None within = tt
posts_belong setup S at (Some row) within = (intra_below setup row.from (account_of setup row.from) within refl, tt)

spawns_on_belong : (setup : Setup) (S : State) (found : Option ModelRow) (date : Option Day) → IsWithinLimits setup → AllBelong setup (spawns_on setup S found date)
spawns_on_belong setup S None date within = tt
spawns_on_belong setup S (Some row) None within = tt
spawns_on_belong setup S (Some row) (Some date) within = (intra_below setup row.from (account_of setup row.from) within refl, tt)

spawns_belong : (setup : Setup) (S : State) (id occurrence : ℕ) → IsWithinLimits setup → AllBelong setup (spawns setup S id occurrence)
unfolding spawns
spawns_belong setup S id occurrence within = spawns_on_belong setup S (model_of id S.entries) (occurrence_date (model_of id S.entries) occurrence) within

-- ---- any event

-- The user of a stage is one of the setup's.
abbrev HasUser : Setup → Stage → Type 0
HasUser setup (day at) = Unit {0}
HasUser setup (deed user only at trnuid what) = user.0 < length setup.users
HasUser setup (names user older newer reply) = Unit {0}
HasUser setup (post at id) = Unit {0}
HasUser setup (spawn id occurrence) = Unit {0}
HasUser setup (letter user at subject body) = user.0 < length setup.users

stage_belongs : (setup : Setup) → IsWithinLimits setup → Lasts setup (HasUser setup) (λ (S : State). AllBelong setup S.entries)
unfolding deed_answer
stage_belongs setup within S (day at) may known all = all
stage_belongs setup within S (deed user only at trnuid what) may known all =
    all_append (BelongsIn setup) S.entries (added setup S user at trnuid what (code_of setup S user only at trnuid what)) all
    (if_accepted setup _ (done setup S user at trnuid what) (done_belong setup S user at trnuid what within known))
stage_belongs setup within S (names user older newer reply) may known all = all
stage_belongs setup within S (post at id) may known all =
    all_append (BelongsIn setup) S.entries (posts setup S at (row_of id S.entries)) all (posts_belong setup S at (row_of id S.entries) within)
stage_belongs setup within S (spawn id occurrence) may known all =
    all_append (BelongsIn setup) S.entries (spawns setup S id occurrence) all (spawns_belong setup S id occurrence within)
stage_belongs setup within S (letter user at subject body) may known all =
    all_append (BelongsIn setup) S.entries (_ ∷ []) all (mail_below setup user known, tt)

event_users : (setup : Setup) (S : State) (at : Moment) (event : Event) → IsLegal setup S at event → IsKnownEvent (HasUser setup) at event
event_users setup S at (File user file) legal = (tt, each_asks (HasUser setup) user at file.asks (λ only trnuid what. legal.0), λ reply. tt)
event_users setup S at (Post id) legal = (tt, tt)
event_users setup S at (Spawn id occurrence) legal = (tt, tt)
event_users setup S at (Letter user subject body) legal = (tt, legal.0)

pub belong-step : (setup : Setup) (S : State) (at : Moment) (event : Event) → IsWithinLimits setup → AllBelong setup S.entries → IsLegal setup S at event → AllBelong setup (state_after setup S at event).entries
belong-step setup S at event within all legal =
    lasts setup (HasUser setup) (λ (T : State). AllBelong setup T.entries) S (state_after setup S at event) (stage_belongs setup within)
    (leads_step setup (HasUser setup) S at event legal (event_users setup S at event legal)) all

pub belong-run : (setup : Setup) (S : State) (run : List Happening) → IsWithinLimits setup → AllBelong setup S.entries → AreLegal setup S run → AllBelong setup (after_all setup S run).entries
belong-run setup S [] within all legal = all
belong-run setup S (first ∷ more) within all legal =
    belong-run setup (state_after setup S first.at first.event) more within (belong-step setup S first.at first.event within all legal.0.1) legal.1

-- ---- logs

belong_endings : (setup : Setup) (S : State) (before items : List LogItem) → IsWithinLimits setup → AllBelong setup S.entries → AreLegalEndings setup S before items → AllBelong setup (fold (after_ending setup) S items).entries
belong_endings setup S before [] within all legal = all
belong_endings setup S before (Effect entry ∷ items) within all legal = absurd legal.0
belong_endings setup S before (Answer event at reply ∷ items) within all legal =
    belong_endings setup (state_after setup S at event) (before ++ Answer event at reply ∷ []) items within (belong-step setup S at event within all legal.0.0.1) legal.1
belong_endings setup S before (Adopted fault event at ∷ items) within all legal =
    belong_endings setup (state_after setup S at event) (before ++ Adopted fault event at ∷ []) items within (belong-step setup S at event within all legal.0.0.1) legal.1
belong_endings setup S before (Fault count pending ∷ items) within all legal =
    belong_endings setup S (before ++ Fault count pending ∷ []) items within all legal.1

pub belong-log : (setup : Setup) (S : State) (log : List LogItem) → IsWithinLimits setup → AllBelong setup S.entries → IsWholeLog setup S log → AllBelong setup (ends setup S log).entries
belong-log setup S log within all whole = belong_endings setup S [] (endings log) within all whole.may_end
