-- Entries are added in the step that uses up their uid.
use Rattle.std.proofs.Common.{◌≡◌, ℕ, ◌+◌, ◌⊎◌, inl, inr, Bool, true, false, ◌||◌, cond, eqb, List, [], ◌∷◌, ◌++◌, length, codes, Option, None, Some, refl, sym, ap, ◌∙◌, subst, append_assoc}
use Rattle.std.specs.List.{AllByRecursion}
use Rattle.std.specs.Str.{bytes_eq}
use Rattle.std.proofs.lemmas.Bool.{and_from, eqb-true, eq-eqb, true≢false}
use Rattle.std.proofs.lemmas.List.{append-nil}
use Rattle.std.proofs.lemmas.List.Folds.{list_any-append}
use Rattle.ofx_types.specs.declared.number.AcctId.{AcctId}
use Rattle.ofx_types.specs.declared.number.Moment.{Moment}
use Rattle.ofx_types.specs.declared.number.UserId.{UserId}
use Rattle.ofx_types.specs.declared.transfer.TransferRow.{TransferRow}
use Rattle.ofx_types.specs.declared.transfer.Change.{Change}
use Rattle.ofx_types.specs.declared.transfer.Deed.{Deed}
use Rattle.ofx_types.specs.declared.transfer.Deed.TheVariants.{Transfer, ModifyTransfer, CancelTransfer, Model, ModifyModel, CancelModel, BankMail, Mail}
use Rattle.ofx_types.specs.declared.recurring.ModelRow.{ModelRow}
use Rattle.ofx_types.specs.declared.number.Day.{Day}
use Rattle.ofx_types.specs.declared.request.Ask.{Ask}
use Rattle.ofx_types.proofs.Bytes.{bytes_eq_self}
use Rattle.bank_model.specs.declared.entry.Entry.{Entry}
use Rattle.bank_model.specs.declared.once.UsedPair.{UsedPair}
use Rattle.bank_model.specs.declared.setup.Setup.{Setup}
use Rattle.bank_model.specs.declared.event.State.{State}
use Rattle.bank_model.specs.declared.event.Event.{Event}
use Rattle.bank_model.specs.declared.event.Event.TheVariants.{File, Post, Spawn, Letter}
use Rattle.bank_model.specs.Ledger.{row_of}
use Rattle.bank_model.specs.Models.{model_of, waiting_of}
use Rattle.bank_model.specs.Due.{posts, occurrence_date, spawns_on, spawns}
use Rattle.bank_model.specs.Deeds.{entry_on, entries_after, if_pending, model_entries_on, done, code_of, deed_answer}
use Rattle.bank_model.specs.Once.{is_pair, is_used}
use Rattle.bank_model.specs.Sync.{deed_answers}
use Rattle.bank_model.specs.Rules.{raised, ask_answer, ask_answers, state_after}
use Rattle.bank_invariants.specs.Stages.{Stage, day, deed, names, post, spawn, letter, after_stage}
use Rattle.bank_invariants.specs.Runs.{Happening}
use Rattle.bank_invariants.specs.Uids.{asker, is_used_by, AddsByUids, AllAddByUids}
use Rattle.bank_model.proofs.Lists.{all_append}
use Rattle.bank_invariants.proofs.StageLemmas.{Lasts, lasts, each_deed, each_ask, each_asks, leads_deeds, leads_ask, leads_asks, leads_file}
use Rattle.bank_invariants.proofs.StateLemmas.{unused-from_code}

-- ---- the uids of a deed's entries

-- an entry has this uid, or the bank's own
abbrev HasUid : List ℕ → Entry → Type 0
HasUid trnuid entry = (entry.trnuid ≡ codes "0") ⊎ (entry.trnuid ≡ trnuid)

on_uids : (setup : Setup) (S : State) (trnuid : List ℕ) (row : Option TransferRow) (change : TransferRow → Change) → AllByRecursion (HasUid trnuid) (entry_on setup S trnuid row change)
on_uids setup S trnuid None change = tt
on_uids setup S trnuid (Some row) change = (inr refl, tt)

after_uids : (setup : Setup) (trnuid : List ℕ) (count : ℕ) (change : TransferRow → Change) (rows : List TransferRow) → AllByRecursion (HasUid trnuid) (entries_after setup count change rows)
unfolding entries_after
after_uids setup trnuid count change [] = tt
after_uids setup trnuid count change (row ∷ more) = (inl refl, after_uids setup trnuid (count + 1) change more)

along_uids : (setup : Setup) (trnuid : List ℕ) (count : ℕ) (change : TransferRow → Change) (rows : List TransferRow) (also : Bool) → AllByRecursion (HasUid trnuid) (if_pending also (entries_after setup count change rows))
along_uids setup trnuid count change rows true = after_uids setup trnuid count change rows
along_uids setup trnuid count change rows false = tt

model_uids : (setup : Setup) (S : State) (trnuid : List ℕ) (row : Option ModelRow) (change : ModelRow → Change) (more : List Entry) → AllByRecursion (HasUid trnuid) more → AllByRecursion (HasUid trnuid) (model_entries_on setup S trnuid row change more)
model_uids setup S trnuid None change more all = tt
model_uids setup S trnuid (Some row) change more all = (inr refl, all)

done_uids : (setup : Setup) (S : State) (user : UserId) (at : Moment) (trnuid : List ℕ) (what : Deed) → AllByRecursion (HasUid trnuid) (done setup S user at trnuid what)
unfolding done
done_uids setup S user at trnuid (Transfer info) = (inr refl, tt)
done_uids setup S user at trnuid (ModifyTransfer id info) = on_uids setup S trnuid (row_of id S.entries) _
done_uids setup S user at trnuid (CancelTransfer id) = on_uids setup S trnuid (row_of id S.entries) _
done_uids setup S user at trnuid (Model recur info) = (inr refl, tt)
done_uids setup S user at trnuid (ModifyModel id recur info also) =
    model_uids setup S trnuid (model_of id S.entries) _ _ (along_uids setup trnuid (length S.entries + 1) _ (waiting_of id S.entries) also)
done_uids setup S user at trnuid (CancelModel id also) =
    model_uids setup S trnuid (model_of id S.entries) _ _ (along_uids setup trnuid (length S.entries + 1) _ (waiting_of id S.entries) also)
done_uids setup S user at trnuid (BankMail account mail) = (inr refl, tt)
done_uids setup S user at trnuid (Mail mail) = (inr refl, tt)

-- ---- one after another

or_left : (b c : Bool) → b ≡ true → (b || c) ≡ true
or_left true c is = refl
or_left false c is = cc

or_right : (b c : Bool) → c ≡ true → (b || c) ≡ true
or_right true c is = refl
or_right false c is = is

or_none : (b c : Bool) → (b || c) ≡ false → b ≡ false
or_none true c none = cc
or_none false c none = refl

used_first : (user : Option UserId) (trnuid : List ℕ) (first last : List UsedPair) → is_used_by user trnuid first ≡ true → is_used_by user trnuid (first ++ last) ≡ true
used_first None trnuid first last is = is
used_first (Some user) trnuid first last is = list_any-append (is_pair user trnuid) first last ∙ or_left (is_used user trnuid first) (is_used user trnuid last) is

used_last : (user : Option UserId) (trnuid : List ℕ) (first last : List UsedPair) → is_used_by user trnuid last ≡ true → is_used_by user trnuid (first ++ last) ≡ true
used_last None trnuid first last is = is
used_last (Some user) trnuid first last is = list_any-append (is_pair user trnuid) first last ∙ or_right (is_used user trnuid first) (is_used user trnuid last) is

abbrev IsByUid : Option UserId → List UsedPair → Entry → Type 0
IsByUid user pairs entry = (entry.trnuid ≡ codes "0") ⊎ (is_used_by user entry.trnuid pairs ≡ true)

by_first : (user : Option UserId) (first last : List UsedPair) (entries : List Entry) → AllByRecursion (IsByUid user first) entries → AllByRecursion (IsByUid user (first ++ last)) entries
by_first user first last [] all = tt
by_first user first last (entry ∷ entries) all = (either all.0, by_first user first last entries all.1)
  where
    either : IsByUid user first entry → IsByUid user (first ++ last) entry
    either (inl own) = inl own
    either (inr used) = inr (used_first user entry.trnuid first last used)

by_last : (user : Option UserId) (first last : List UsedPair) (entries : List Entry) → AllByRecursion (IsByUid user last) entries → AllByRecursion (IsByUid user (first ++ last)) entries
by_last user first last [] all = tt
by_last user first last (entry ∷ entries) all = (either all.0, by_last user first last entries all.1)
  where
    either : IsByUid user last entry → IsByUid user (first ++ last) entry
    either (inl own) = inl own
    either (inr used) = inr (used_last user entry.trnuid first last used)

still_unused : (before first last : List UsedPair) → AllByRecursion (λ (pair : UsedPair). is_used pair.user pair.trnuid (before ++ first) ≡ false) last → AllByRecursion (λ (pair : UsedPair). is_used pair.user pair.trnuid before ≡ false) last
still_unused before first [] all = tt
still_unused before first (pair ∷ last) all =
    (or_none (is_used pair.user pair.trnuid before) (is_used pair.user pair.trnuid first) (sym (list_any-append (is_pair pair.user pair.trnuid) before first) ∙ all.0), still_unused before first last all.1)

adds_nothing : (user : Option UserId) (S T : State) → T.entries ≡ S.entries → T.used ≡ S.used → AddsByUids user S T
adds_nothing user S T entries used = record {
  added = [];
  pairs = [];
  entries = entries ∙ sym (append-nil S.entries);
  used = used ∙ sym (append-nil S.used);
  uids = tt;
  unused = tt;
}

adds_on : (user : Option UserId) (S T U : State) → AddsByUids user S T → AddsByUids user T U → AddsByUids user S U
adds_on user S T U first last = record {
  added = first.added ++ last.added;
  pairs = first.pairs ++ last.pairs;
  entries = last.entries ∙ ap (λ (l : List Entry). l ++ last.added) first.entries ∙ append_assoc S.entries first.added last.added;
  used = last.used ∙ ap (λ (l : List UsedPair). l ++ last.pairs) first.used ∙ append_assoc S.used first.pairs last.pairs;
  uids = all_append (IsByUid user (first.pairs ++ last.pairs)) first.added last.added (by_first user first.pairs last.pairs first.added first.uids) (by_last user first.pairs last.pairs last.added last.uids);
  unused = all_append (λ (pair : UsedPair). is_used pair.user pair.trnuid S.used ≡ false) first.pairs last.pairs first.unused
      (still_unused S.used first.pairs last.pairs (subst (λ (l : List UsedPair). AllByRecursion (λ (pair : UsedPair). is_used pair.user pair.trnuid l ≡ false) last.pairs) first.used last.unused));
}

-- ---- a deed

pair_itself : (user : UserId) (trnuid : List ℕ) → is_used user trnuid (record { user = user; trnuid = trnuid } ∷ []) ≡ true
pair_itself user trnuid = or_left (is_pair user trnuid (record { user = user; trnuid = trnuid })) false (and_from (eqb user.0 user.0) (bytes_eq trnuid trnuid) (eq-eqb user.0 user.0 refl) (bytes_eq_self trnuid))

uids_used : (user : UserId) (trnuid : List ℕ) (entries : List Entry) → AllByRecursion (HasUid trnuid) entries → AllByRecursion (IsByUid (Some user) (record { user = user; trnuid = trnuid } ∷ [])) entries
uids_used user trnuid [] all = tt
uids_used user trnuid (entry ∷ entries) all = (either all.0, uids_used user trnuid entries all.1)
  where
    either : HasUid trnuid entry → IsByUid (Some user) (record { user = user; trnuid = trnuid } ∷ []) entry
    either (inl own) = inl own
    either (inr same) = inr (ap (λ (uid : List ℕ). is_used user uid (record { user = user; trnuid = trnuid } ∷ [])) same ∙ pair_itself user trnuid)

-- A deed with code 0 adds its entries and its pair, any other refused one its pair alone, and one with a used uid nothing.
adds_by_code : (setup : Setup) (S : State) (user : UserId) (only : Option AcctId) (at : Moment) (trnuid : List ℕ) (what : Deed) (zero again : Bool) → eqb (code_of setup S user only at trnuid what) 0 ≡ zero → eqb (code_of setup S user only at trnuid what) 2019 ≡ again → AddsByUids (Some user) S (record S { entries = S.entries ++ cond zero (done setup S user at trnuid what) []; used = cond again S.used (S.used ++ record { user = user; trnuid = trnuid } ∷ []) })
adds_by_code setup S user only at trnuid what true true is other =
    absurd (let same : code_of setup S user only at trnuid what ≡ 0 = eqb-true (code_of setup S user only at trnuid what) 0 is in
    let different : eqb (code_of setup S user only at trnuid what) 2019 ≡ false = ap (λ (n : ℕ). eqb n 2019) same in
    true≢false (sym other ∙ different))
adds_by_code setup S user only at trnuid what true false is other = record {
  added = done setup S user at trnuid what;
  pairs = record { user = user; trnuid = trnuid } ∷ [];
  entries = refl;
  used = refl;
  uids = uids_used user trnuid (done setup S user at trnuid what) (done_uids setup S user at trnuid what);
  unused = (unused-from_code setup S user only at trnuid what other, tt);
}
adds_by_code setup S user only at trnuid what false true is other = adds_nothing (Some user) S _ (append-nil S.entries) refl
adds_by_code setup S user only at trnuid what false false is other = record {
  added = [];
  pairs = record { user = user; trnuid = trnuid } ∷ [];
  entries = refl;
  used = refl;
  uids = tt;
  unused = (unused-from_code setup S user only at trnuid what other, tt);
}

adds_deed : (setup : Setup) (S : State) (user : UserId) (only : Option AcctId) (at : Moment) (trnuid : List ℕ) (what : Deed) → AddsByUids (Some user) S (deed_answer setup S user only at trnuid what).after
unfolding deed_answer
adds_deed setup S user only at trnuid what = adds_by_code setup S user only at trnuid what _ _ refl refl

-- ---- stages and steps

-- The deeds are those of one user.
abbrev IsAskedBy : Option UserId → Stage → Type 0
IsAskedBy asked (day at) = Unit {0}
IsAskedBy asked (deed user only at trnuid what) = asked ≡ Some user
IsAskedBy asked (names user older newer reply) = Unit {0}
IsAskedBy asked (post at id) = Unit {0}
IsAskedBy asked (spawn id occurrence) = Unit {0}
IsAskedBy asked (letter user at subject body) = Unit {0}

adds_own : (user : Option UserId) (S T : State) (added : List Entry) → T.entries ≡ S.entries ++ added → T.used ≡ S.used → AllByRecursion (IsByUid user []) added → AddsByUids user S T
adds_own user S T added entries used own = record {
  added = added;
  pairs = [];
  entries = entries;
  used = used ∙ sym (append-nil S.used);
  uids = own;
  unused = tt;
}

posts_own : (setup : Setup) (S : State) (at : Moment) (user : Option UserId) (found : Option TransferRow) → AllByRecursion (IsByUid user []) (posts setup S at found)
posts_own setup S at user None = tt
posts_own setup S at user (Some row) = (inl refl, tt)

spawns_own : (setup : Setup) (S : State) (user : Option UserId) (found : Option ModelRow) (date : Option Day) → AllByRecursion (IsByUid user []) (spawns_on setup S found date)
spawns_own setup S user None date = tt
spawns_own setup S user (Some row) None = tt
spawns_own setup S user (Some row) (Some date) = (inl refl, tt)

adds_stage : (setup : Setup) (asked : Option UserId) (S : State) (stage : Stage) → IsAskedBy asked stage → AddsByUids asked S (after_stage setup S stage)
unfolding spawns
adds_stage setup asked S (day at) known = adds_nothing asked S (raised S at) refl refl
adds_stage setup asked S (deed user only at trnuid what) known = subst (λ (by : Option UserId). AddsByUids by S (deed_answer setup S user only at trnuid what).after) (sym known) (adds_deed setup S user only at trnuid what)
adds_stage setup asked S (names user older newer reply) known = adds_nothing asked S _ refl refl
adds_stage setup asked S (post at id) known = adds_own asked S _ (posts setup S at (row_of id S.entries)) refl refl (posts_own setup S at asked (row_of id S.entries))
adds_stage setup asked S (spawn id occurrence) known = adds_own asked S _ (spawns setup S id occurrence) refl refl (spawns_own setup S asked (model_of id S.entries) (occurrence_date (model_of id S.entries) occurrence))
adds_stage setup asked S (letter user at subject body) known = adds_own asked S _ _ refl refl (inl refl, tt)

adds_lasts : (setup : Setup) (asked : Option UserId) (S : State) → Lasts setup (IsAskedBy asked) (AddsByUids asked S)
adds_lasts setup asked S T stage may known adds = adds_on asked S T (after_stage setup T stage) adds (adds_stage setup asked T stage known)

pub adds_deeds : (setup : Setup) (S : State) (user : UserId) (only : Option AcctId) (at : Moment) (deeds : List (List ℕ × Deed)) → AddsByUids (Some user) S (deed_answers setup S user only at deeds).after
adds_deeds setup S user only at deeds =
    lasts setup (IsAskedBy (Some user)) (AddsByUids (Some user) S) S _ (adds_lasts setup (Some user) S)
    (leads_deeds setup (IsAskedBy (Some user)) S user only at deeds (each_deed (IsAskedBy (Some user)) user at deeds (λ only trnuid what. refl))) (adds_nothing (Some user) S S refl refl)

pub adds_ask : (setup : Setup) (S : State) (user : UserId) (at : Moment) (ask : Ask) → AddsByUids (Some user) S (ask_answer setup S user at ask).after
adds_ask setup S user at ask =
    lasts setup (IsAskedBy (Some user)) (AddsByUids (Some user) S) S _ (adds_lasts setup (Some user) S)
    (leads_ask setup (IsAskedBy (Some user)) S user at ask (each_ask (IsAskedBy (Some user)) user at ask (λ only trnuid what. refl))) (adds_nothing (Some user) S S refl refl)

pub adds_asks : (setup : Setup) (S : State) (user : UserId) (at : Moment) (asks : List Ask) → AddsByUids (Some user) S (ask_answers setup S user at asks).after
adds_asks setup S user at asks =
    lasts setup (IsAskedBy (Some user)) (AddsByUids (Some user) S) S _ (adds_lasts setup (Some user) S)
    (leads_asks setup (IsAskedBy (Some user)) S user at asks (each_asks (IsAskedBy (Some user)) user at asks (λ only trnuid what. refl))) (adds_nothing (Some user) S S refl refl)

adds_alone : (setup : Setup) (S : State) (at : Moment) (stage : Stage) → IsAskedBy None stage → AddsByUids None S (after_stage setup (raised S at) stage)
adds_alone setup S at stage known =
    adds_on None S (raised S at) (after_stage setup (raised S at) stage) (adds_nothing None S (raised S at) refl refl) (adds_stage setup None (raised S at) stage known)

pub adds_step : (setup : Setup) (S : State) (at : Moment) (event : Event) → AddsByUids (asker event) S (state_after setup S at event)
adds_step setup S at (File user file) =
    lasts setup (IsAskedBy (Some user)) (AddsByUids (Some user) S) S _ (adds_lasts setup (Some user) S)
    (leads_file setup (IsAskedBy (Some user)) S at user file (tt, each_asks (IsAskedBy (Some user)) user at file.asks (λ only trnuid what. refl), λ reply. tt))
    (adds_nothing (Some user) S S refl refl)
adds_step setup S at (Post id) = adds_alone setup S at (post at id) tt
adds_step setup S at (Spawn id occurrence) = adds_alone setup S at (spawn id occurrence) tt
adds_step setup S at (Letter user subject body) = adds_alone setup S at (letter user at subject body) tt

pub adds_run : (setup : Setup) (S : State) (run : List Happening) → AllAddByUids setup S run
adds_run setup S [] = tt
adds_run setup S (first ∷ more) = (adds_step setup S first.at first.event, adds_run setup (state_after setup S first.at first.event) more)
