-- What a file leaves and is answered, by the draft of its asks.
use Rattle.std.proofs.Common.{◌≡◌, ℕ, ◌+◌, ◌<◌, ◌≤◌, true, List, [], ◌∷◌, ◌++◌, length, length-append, map, Option, None, Some, refl, sym, ap, ◌∙◌, subst, arith, true≢false}
use Rattle.std.specs.Prelude.{is_some}
use Rattle.std.specs.List.{flat_map}
use Rattle.std.specs.Option.{IfSome}
use Rattle.std.proofs.lemmas.List.{append-nil}
use Rattle.ofx_types.specs.Calendar.{IsMoment}
use Rattle.ofx_types.specs.ReplyForm.{reply_text}
use Rattle.ofx_types.specs.declared.number.UserId.{UserId}
use Rattle.ofx_types.specs.declared.number.Moment.{Moment}
use Rattle.ofx_types.specs.declared.request.Ask.{Ask}
use Rattle.ofx_types.specs.declared.request.RequestFile.{RequestFile}
use Rattle.ofx_types.specs.declared.reply.AskReply.{AskReply}
use Rattle.ofx_types.specs.declared.reply.ReplyFile.{ReplyFile}
use Rattle.bank_model.specs.declared.once.KeptReply.{KeptReply}
use Rattle.bank_model.specs.declared.setup.Setup.{Setup}
use Rattle.bank_model.specs.declared.event.State.{State}
use Rattle.bank_model.specs.declared.event.Event.{Event}
use Rattle.bank_model.specs.declared.event.Event.TheVariants.{File, Post, Spawn, Letter}
use Rattle.bank_model.specs.SetupForm.{IsWithinLimits}
use Rattle.bank_model.specs.Once.{reply_kept}
use Rattle.bank_model.specs.Ledger.{row_of}
use Rattle.bank_model.specs.Due.{may_post, posts, may_spawn, spawns}
use Rattle.bank_model.specs.declared.entry.Entry.{Entry}
use Rattle.bank_model.specs.Rules.{Outcome, with_entries, unasked, raised, ask_answers, reply_file, release, keep, with_kept, kept_for, outcome_with, new_outcome, outcome_or_kept, file_outcome, letter_entry, step, state_after, answer_to, named_by, named_by_row, named, IsLegal}
use Rattle.bank_accounts.specs.AccountView.{AccountView}
use Rattle.bank_accounts.specs.HeldAccounts.{AreHeld}
use Rattle.bank_invariants.specs.SoundStates.{IsSoundState}
use Rattle.bank_invariants.proofs.EventLemmas.{few_number}
use Rattle.bank_invariants.proofs.StateLemmas.{IsSoundState-raised, IsSoundState-step, absent-release}
use Rattle.bank_ledger.specs.LedgerView.{Room}
use Rattle.bank_ledger.specs.DraftView.{AddedView, DraftView, pair_of, with_added, IsAdded, AreGiven, drafted, IsSameFile, HasAdded, IsAddedBy}
use Rattle.bank_ledger.proofs.StateParts.{same_state}
use Rattle.bank_ledger.proofs.DraftStates.{drafted-added, added_as}
use Rattle.bank_core.specs.BookView.{PreparedView, HasRoom}
use Rattle.bank_core.specs.Preparing.{prepared_after, IsPrepared}
use Rattle.bank_invariants.proofs.RunLaws.{kept_for-raised, again_outcome}

abbrev pub started : Setup → State → List AccountView → UserId → Moment → DraftView
started setup S held user at = record { setup = setup; before = S; held = held; user = user; at = at; day = (raised S at).day; entries = []; uids = [] }

-- A draft in which nothing is added yet makes the raised state.
pub drafted-started : (setup : Setup) (S : State) (held : List AccountView) (user : UserId) (at : Moment) → drafted (started setup S held user at) ≡ raised S at
drafted-started setup S held user at = same_state _ _ _ _ _ _ _ _ (append-nil S.entries) (append-nil S.used) refl refl

-- What a draft adds makes the state that it makes.
added_state : (draft : DraftView) (added : AddedView) → IsAddedBy draft added → with_added draft.before added ≡ drafted draft
added_state draft added by =
    same_state _ _ _ _ _ _ _ _ (ap (λ (l : List Entry). draft.before.entries ++ l) by.entries)
    (ap (λ (u : UserId). draft.before.used ++ map (pair_of u) added.uids) by.user ∙ ap (λ (l : List (List ℕ)). draft.before.used ++ map (pair_of draft.user) l) by.uids)
    refl by.day

-- What a draft of a state adds to it.
pub record IsAddedTo (setup : Setup) (S : State) (draft : DraftView) (added : AddedView) : Type 0 where
  pub user : added.user ≡ draft.user
  pub rows : IsAdded S added
  pub balances : AreGiven setup S added
  pub state : with_added S added ≡ drafted draft

pub IsAddedTo-of : (setup : Setup) (S : State) (old draft : DraftView) (added : AddedView) → old.setup ≡ setup → old.before ≡ S → IsSameFile old draft → IsAddedBy draft added → IsAddedTo setup S draft added
IsAddedTo-of setup S old draft added is_setup is_before same by =
    let before : draft.before ≡ S = same.before ∙ is_before in
    record {
      user = by.user;
      rows = subst (λ (T : State). IsAdded T added) before by.rows;
      balances = subst (λ (T : State). AreGiven setup T added) before (subst (λ (s : Setup). AreGiven s draft.before added) (same.setup ∙ is_setup) by.balances);
      state = ap (λ (T : State). with_added T added) (sym before) ∙ added_state draft added by;
    }

-- ---- a file whose name is kept

abbrev pub prepared_with : Setup → State → Event → State → List ℕ → PreparedView
prepared_with setup S event after reply = record { setup = setup; before = S; event = event; after = after; reply = reply }

same_prepared : (setup : Setup) (S : State) (event : Event) (after other : State) (reply reported : List ℕ) → after ≡ other → reply ≡ reported → prepared_with setup S event after reply ≡ prepared_with setup S event other reported
same_prepared setup S event after other reply reported is_after is_reply =
    ap (λ (T : State). prepared_with setup S event T reply) is_after ∙ ap (prepared_with setup S event other) is_reply

again_after : (setup : Setup) (S : State) (event : Event) (held : List AccountView) (user : UserId) (at : Moment) (draft : DraftView) (added : AddedView) (file : RequestFile) (bytes reply : List ℕ) → event ≡ File user file → draft ≡ started setup S held user at → IsAddedTo setup S draft added → kept_for S user file.newer ≡ Some reply → prepared_after S added None None bytes ≡ state_after setup S at event
again_after setup S event held user at draft added file bytes reply is_file is to kept =
    let outcome : step setup S at event ≡ record { reply = reply; after = raised S at } = ap (step setup S at) is_file ∙ again_outcome setup S user at file reply kept in
    to.state ∙ ap drafted is ∙ drafted-started setup S held user at ∙ sym (ap (λ (o : Outcome). o.after) outcome)

pub IsPrepared-again : (setup : Setup) (S : State) (event : Event) (held : List AccountView) (user : UserId) (at : Moment) (draft : DraftView) (added : AddedView) (file : RequestFile) (bytes reply : List ℕ) → event ≡ File user file → draft ≡ started setup S held user at → IsAddedTo setup S draft added → kept_for S user file.newer ≡ Some reply → IsSoundState setup S → IsMoment at.0 → IsPrepared setup S event added None None bytes
IsPrepared-again setup S event held user at draft added file bytes reply is_file is to kept sound moment = record {
  rows = to.rows;
  balances = to.balances;
  step = (at, again_after setup S event held user at draft added file bytes reply is_file is to kept);
  sound = subst (IsSoundState setup) (sym (to.state ∙ ap drafted is ∙ drafted-started setup S held user at)) (IsSoundState-raised setup S at sound moment);
  absent = tt;
}

pub again_is : (setup : Setup) (S : State) (event : Event) (held : List AccountView) (user : UserId) (at : Moment) (draft : DraftView) (added : AddedView) (file : RequestFile) (bytes reply reported : List ℕ) → event ≡ File user file → draft ≡ started setup S held user at → IsAddedTo setup S draft added → kept_for S user file.newer ≡ Some reply → reported ≡ reply → prepared_with setup S event (prepared_after S added None None bytes) reported ≡ prepared_with setup S event (state_after setup S at event) (answer_to setup S at event)
again_is setup S event held user at draft added file bytes reply reported is_file is to kept same =
    let outcome : step setup S at event ≡ record { reply = reply; after = raised S at } = ap (step setup S at) is_file ∙ again_outcome setup S user at file reply kept in
    same_prepared setup S event _ _ reported _
    (again_after setup S event held user at draft added file bytes reply is_file is to kept)
    (same ∙ sym (ap (λ (o : Outcome). o.reply) outcome))

-- ---- a file that is answered anew

anew_outcome : (setup : Setup) (S : State) (user : UserId) (at : Moment) (file : RequestFile) → kept_for S user file.newer ≡ None → file_outcome setup (raised S at) user at file ≡ outcome_with (ask_answers setup (raised S at) user at file.asks).after user file (reply_text (reply_file at file (ask_answers setup (raised S at) user at file.asks).replies))
unfolding file_outcome new_outcome
anew_outcome setup S user at file absent =
    ap (outcome_or_kept setup (raised S at) user at file) (kept_for-raised S user at file.newer ∙ absent)

same_keep : (user : UserId) (newer : Option (List ℕ)) (reply copy : List ℕ) (kept : List KeptReply) → (is_some newer ≡ true → copy ≡ reply) → keep user newer copy kept ≡ keep user newer reply kept
same_keep user None reply copy kept same = refl
same_keep user (Some newer) reply copy kept same = ap (λ (bytes : List ℕ). kept ++ record { user = user; file = newer; reply = bytes } ∷ []) (same refl)

-- what is known when the asks of a file are answered and the reply is printed
pub record IsAnswered (setup : Setup) (S : State) (user : UserId) (at : Moment) (file : RequestFile) (added : AddedView) (reply copy : List ℕ) : Type 0 where
  pub asked_by : added.user ≡ user
  pub rows : IsAdded S added
  pub balances : AreGiven setup S added
  pub after : with_added S added ≡ (ask_answers setup (raised S at) user at file.asks).after
  pub reported : reply ≡ reply_text (reply_file at file (ask_answers setup (raised S at) user at file.asks).replies)
  pub copied : is_some file.newer ≡ true → copy ≡ reply

pub anew_after : (setup : Setup) (S : State) (user : UserId) (at : Moment) (file : RequestFile) (added : AddedView) (reply copy : List ℕ) → kept_for S user file.newer ≡ None → IsAnswered setup S user at file added reply copy → prepared_after S added file.older file.newer copy ≡ state_after setup S at (File user file)
anew_after setup S user at file added reply copy absent answered =
    let after : State = (ask_answers setup (raised S at) user at file.asks).after in
    let outcome = anew_outcome setup S user at file absent in
    ap (λ (u : UserId). with_kept (with_added S added) (keep u file.newer copy (release u file.older S.kept))) answered.asked_by
    ∙ ap (λ (kept : List KeptReply). with_kept (with_added S added) kept) (same_keep user file.newer reply copy (release user file.older S.kept) answered.copied)
    ∙ ap (λ (T : State). with_kept T (keep user file.newer reply (release user file.older T.kept))) answered.after
    ∙ ap (λ (bytes : List ℕ). with_kept after (keep user file.newer bytes (release user file.older after.kept))) answered.reported
    ∙ sym (ap (λ (o : Outcome). o.after) outcome)

pub anew_is : (setup : Setup) (S : State) (event : Event) (user : UserId) (at : Moment) (file : RequestFile) (added : AddedView) (reply copy : List ℕ) → event ≡ File user file → kept_for S user file.newer ≡ None → IsAnswered setup S user at file added reply copy → prepared_with setup S event (prepared_after S added file.older file.newer copy) reply ≡ prepared_with setup S event (state_after setup S at event) (answer_to setup S at event)
anew_is setup S event user at file added reply copy is_file absent answered =
    same_prepared setup S event _ _ reply _
    (anew_after setup S user at file added reply copy absent answered ∙ sym (ap (state_after setup S at) is_file))
    (answered.reported ∙ sym (ap (λ (o : Outcome). o.reply) (anew_outcome setup S user at file absent)) ∙ sym (ap (answer_to setup S at) is_file))

absent_named : (S : State) (user other : UserId) (older newer : Option (List ℕ)) → other ≡ user → kept_for S user newer ≡ None → IfSome newer (λ (file : List ℕ). reply_kept other file (release other older S.kept) ≡ None)
absent_named S user other older None same absent = tt
absent_named S user other older (Some file) same absent =
    subst (λ (u : UserId). reply_kept u file (release u older S.kept) ≡ None) (sym same) (absent-release user user file older S.kept absent)

pub IsPrepared-anew : (setup : Setup) (S : State) (event : Event) (user : UserId) (at : Moment) (file : RequestFile) (added : AddedView) (reply copy : List ℕ) → event ≡ File user file → IsWithinLimits setup → IsSoundState setup S → IsMoment at.0 → IsLegal setup S at event → kept_for S user file.newer ≡ None → IsAnswered setup S user at file added reply copy → IsPrepared setup S event added file.older file.newer copy
IsPrepared-anew setup S event user at file added reply copy is_file within sound moment legal absent answered = record {
  rows = answered.rows;
  balances = answered.balances;
  step = (at, anew_after setup S user at file added reply copy absent answered ∙ sym (ap (state_after setup S at) is_file));
  sound = subst (IsSoundState setup) (sym (anew_after setup S user at file added reply copy absent answered)) (IsSoundState-step setup S at (File user file) within sound moment (subst (IsLegal setup S at) is_file legal));
  absent = absent_named S user added.user file.older file.newer answered.asked_by absent;
}

-- ---- a file without a name, whose reply is kept nowhere

pub no_copy : (newer : Option (List ℕ)) (reply copy : List ℕ) → newer ≡ None → is_some newer ≡ true → copy ≡ reply
no_copy newer reply copy unnamed some = absurd (true≢false (sym some ∙ ap is_some unnamed))

pub absent_unnamed : (S : State) (user : UserId) (newer : Option (List ℕ)) → newer ≡ None → kept_for S user newer ≡ None
absent_unnamed S user newer unnamed = ap (kept_for S user) unnamed

-- ---- the asks of a file that is answered anew

pub asks_replies-are : (setup : Setup) (S : State) (held : List AccountView) (user : UserId) (at : Moment) (draft : DraftView) (asks items : List Ask) (replies : List AskReply) → draft ≡ started setup S held user at → items ≡ asks → replies ≡ (ask_answers draft.setup (drafted draft) draft.user draft.at items).replies → replies ≡ (ask_answers setup (raised S at) user at asks).replies
asks_replies-are setup S held user at draft asks items replies is are replied =
    replied
    ∙ ap (λ (l : List Ask). (ask_answers draft.setup (drafted draft) draft.user draft.at l).replies) are
    ∙ ap (λ (d : DraftView). (ask_answers d.setup (drafted d) d.user d.at asks).replies) is
    ∙ ap (λ (T : State). (ask_answers setup T user at asks).replies) (drafted-started setup S held user at)

asks_after-is : (setup : Setup) (S next : State) (held : List AccountView) (user : UserId) (at : Moment) (draft : DraftView) (asks items : List Ask) → draft ≡ started setup S held user at → items ≡ asks → next ≡ (ask_answers draft.setup (drafted draft) draft.user draft.at items).after → next ≡ (ask_answers setup (raised S at) user at asks).after
asks_after-is setup S next held user at draft asks items is are after =
    after
    ∙ ap (λ (l : List Ask). (ask_answers draft.setup (drafted draft) draft.user draft.at l).after) are
    ∙ ap (λ (d : DraftView). (ask_answers d.setup (drafted d) d.user d.at asks).after) is
    ∙ ap (λ (T : State). (ask_answers setup T user at asks).after) (drafted-started setup S held user at)

pub named_asks : (setup : Setup) (S : State) (held : List AccountView) (event : Event) (user : UserId) (at : Moment) (draft : DraftView) (file : RequestFile) (items : List Ask) → event ≡ File user file → items ≡ file.asks → draft ≡ started setup S held user at → AreHeld held (named setup S event) → AreHeld draft.held (flat_map (named_by draft.setup) items)
named_asks setup S held event user at draft file items is are started_is named_held =
    let asked : AreHeld held (flat_map (named_by setup) file.asks) = subst (λ (e : Event). AreHeld held (named setup S e)) is named_held in
    rw (started_is, are) asked

pub answered_of : (setup : Setup) (S : State) (held : List AccountView) (user : UserId) (at : Moment) (file : RequestFile) (draft more : DraftView) (added : AddedView) (items : List Ask) (replies : List AskReply) (reply : ReplyFile) (reported copy : List ℕ) → draft ≡ started setup S held user at → items ≡ file.asks → IsSameFile draft more → IsAddedBy more added → drafted more ≡ (ask_answers draft.setup (drafted draft) draft.user draft.at items).after → replies ≡ (ask_answers draft.setup (drafted draft) draft.user draft.at items).replies → reply ≡ reply_file at file replies → reported ≡ reply_text reply → (is_some file.newer ≡ true → copy ≡ reported) → IsAnswered setup S user at file added reported copy
answered_of setup S held user at file draft more added items replies reply reported copy is are same by after replied is_reply is_reported copied =
    let to = IsAddedTo-of setup S draft more added (ap (λ (d : DraftView). d.setup) is) (ap (λ (d : DraftView). d.before) is) same by in
    record {
      asked_by = to.user ∙ same.user ∙ ap (λ (d : DraftView). d.user) is;
      rows = to.rows;
      balances = to.balances;
      after = to.state ∙ asks_after-is setup S (drafted more) held user at draft file.asks items is are after;
      reported = is_reported ∙ ap reply_text (is_reply ∙ ap (reply_file at file) (asks_replies-are setup S held user at draft file.asks items replies is are replied));
      copied = copied;
    }

-- ---- room for what is added

pub HasRoom-added : (room : Room) (before after : State) (entries : List Entry) (count uids : ℕ) → after.entries ≡ before.entries ++ entries → count ≡ length entries → length after.used ≡ length before.used + uids → count ≤ room.entries → count ≤ room.transfers → count ≤ room.models → uids ≤ room.pairs → 0 < room.files → HasRoom room before after
HasRoom-added room before after entries count uids are counted used in_entries in_transfers in_models in_pairs in_files =
    let size : length after.entries ≡ length before.entries + length entries = ap length are ∙ length-append before.entries entries in
    record {
      entries = omega arith;
      transfers = omega arith;
      models = omega arith;
      pairs = omega arith;
      files = in_files;
    }

-- ---- events that nobody asks for

-- What is prepared of such an event, and that it is the event's.
pub record IsUnasked (setup : Setup) (S : State) (event : Event) (at : Moment) (added : AddedView) (kept reported : List ℕ) : Type 0 where
  pub prepared : IsPrepared setup S event added None None kept
  pub is : prepared_with setup S event (prepared_after S added None None kept) reported ≡ prepared_with setup S event (state_after setup S at event) (answer_to setup S at event)

unasked_of : (setup : Setup) (S : State) (event : Event) (held : List AccountView) (user : UserId) (at : Moment) (draft more : DraftView) (added : AddedView) (entries : List Entry) (kept reported : List ℕ) → draft ≡ started setup S held user at → step setup S at event ≡ unasked (raised S at) entries → HasAdded draft more entries → IsAddedBy more added → reported ≡ [] → IsWithinLimits setup → IsSoundState setup S → IsMoment at.0 → IsLegal setup S at event → IsUnasked setup S event at added kept reported
unasked_of setup S event held user at draft more added entries kept reported is does has by none within sound moment legal =
    let to = IsAddedTo-of setup S draft more added (ap (λ (d : DraftView). d.setup) is) (ap (λ (d : DraftView). d.before) is) has.same by in
    let after : with_added S added ≡ with_entries (raised S at) entries =
    to.state ∙ drafted-added draft more entries has ∙ ap (λ (T : State). with_entries T entries) (ap drafted is ∙ drafted-started setup S held user at) in
    record {
      prepared = record {
        rows = to.rows;
        balances = to.balances;
        step = (at, after ∙ sym (ap (λ (o : Outcome). o.after) does));
        sound = subst (IsSoundState setup) (sym after) (subst (IsSoundState setup) (ap (λ (o : Outcome). o.after) does) (IsSoundState-step setup S at event within sound moment legal));
        absent = tt;
      };
      is = same_prepared setup S event _ _ reported _ (after ∙ sym (ap (λ (o : Outcome). o.after) does)) (none ∙ sym (ap (λ (o : Outcome). o.reply) does));
    }

drafted_is : (setup : Setup) (S : State) (held : List AccountView) (user : UserId) (at : Moment) (draft : DraftView) → draft ≡ started setup S held user at → drafted draft ≡ raised S at
drafted_is setup S held user at draft is = ap drafted is ∙ drafted-started setup S held user at

-- posting

pub may_post_started : (setup : Setup) (S : State) (event : Event) (held : List AccountView) (user : UserId) (at : Moment) (draft : DraftView) (id : ℕ) → draft ≡ started setup S held user at → event ≡ Post id → IsLegal setup S at event → may_post draft.setup (drafted draft) (row_of id (drafted draft).entries) ≡ true
may_post_started setup S event held user at draft id is is_event legal =
    subst (λ (d : DraftView). may_post d.setup (drafted d) (row_of id (drafted d).entries) ≡ true) (sym is)
    (subst (λ (T : State). may_post setup T (row_of id T.entries) ≡ true) (sym (drafted-started setup S held user at)) (subst (IsLegal setup S at) is_event legal))

pub named_started : (setup : Setup) (S : State) (event : Event) (held : List AccountView) (user : UserId) (at : Moment) (draft : DraftView) (id : ℕ) → draft ≡ started setup S held user at → event ≡ Post id → AreHeld held (named setup S event) → AreHeld draft.held (named_by_row draft.setup (row_of id (drafted draft).entries))
named_started setup S event held user at draft id is is_event named_held =
    subst (λ (d : DraftView). AreHeld d.held (named_by_row d.setup (row_of id (drafted d).entries))) (sym is)
    (subst (λ (T : State). AreHeld held (named_by_row setup (row_of id T.entries))) (sym (drafted-started setup S held user at)) (subst (λ (e : Event). AreHeld held (named setup S e)) is_event named_held))

pub unasked_post : (setup : Setup) (S : State) (event : Event) (held : List AccountView) (user : UserId) (at : Moment) (draft more : DraftView) (added : AddedView) (id : ℕ) (kept reported : List ℕ) → draft ≡ started setup S held user at → event ≡ Post id → HasAdded draft more (posts draft.setup (drafted draft) draft.at (row_of id (drafted draft).entries)) → IsAddedBy more added → reported ≡ [] → IsWithinLimits setup → IsSoundState setup S → IsMoment at.0 → IsLegal setup S at event → IsUnasked setup S event at added kept reported
unasked_post setup S event held user at draft more added id kept reported is is_event has by none within sound moment legal =
    unasked_of setup S event held user at draft more added (posts setup (raised S at) at (row_of id S.entries)) kept reported is (ap (step setup S at) is_event)
    (added_as draft more _ _ (ap (λ (d : DraftView). posts d.setup (drafted draft) d.at (row_of id (drafted draft).entries)) is ∙ ap (λ (T : State). posts setup T at (row_of id T.entries)) (drafted_is setup S held user at draft is)) has) by none within sound moment legal

-- making the next transfer

pub may_spawn_started : (setup : Setup) (S : State) (event : Event) (held : List AccountView) (user : UserId) (at : Moment) (draft : DraftView) (id occurrence : ℕ) → draft ≡ started setup S held user at → event ≡ Spawn id occurrence → IsLegal setup S at event → may_spawn draft.setup (drafted draft) id occurrence ≡ true
may_spawn_started setup S event held user at draft id occurrence is is_event legal =
    subst (λ (d : DraftView). may_spawn d.setup (drafted d) id occurrence ≡ true) (sym is)
    (subst (λ (T : State). may_spawn setup T id occurrence ≡ true) (sym (drafted-started setup S held user at)) (subst (IsLegal setup S at) is_event legal))

pub unasked_spawn : (setup : Setup) (S : State) (event : Event) (held : List AccountView) (user : UserId) (at : Moment) (draft more : DraftView) (added : AddedView) (id occurrence : ℕ) (kept reported : List ℕ) → draft ≡ started setup S held user at → event ≡ Spawn id occurrence → HasAdded draft more (spawns draft.setup (drafted draft) id occurrence) → IsAddedBy more added → reported ≡ [] → IsWithinLimits setup → IsSoundState setup S → IsMoment at.0 → IsLegal setup S at event → IsUnasked setup S event at added kept reported
unasked_spawn setup S event held user at draft more added id occurrence kept reported is is_event has by none within sound moment legal =
    unasked_of setup S event held user at draft more added (spawns setup (raised S at) id occurrence) kept reported is (ap (step setup S at) is_event)
    (added_as draft more _ _ (ap (λ (d : DraftView). spawns d.setup (drafted draft) id occurrence) is ∙ ap (λ (T : State). spawns setup T id occurrence) (drafted_is setup S held user at draft is)) has) by none within sound moment legal

-- letters

pub letter_few : (setup : Setup) (S : State) (event : Event) (held : List AccountView) (user writer : UserId) (at : Moment) (draft : DraftView) (subject body : List ℕ) → draft ≡ started setup S held writer at → event ≡ Letter user subject body → IsLegal setup S at event → length (drafted draft).entries + 1 ≤ draft.setup.entries
letter_few setup S event held user writer at draft subject body is is_event legal =
    let may = subst (IsLegal setup S at) is_event legal in
    subst (λ (d : DraftView). length (drafted d).entries + 1 ≤ d.setup.entries) (sym is)
    (subst (λ (T : State). length T.entries + 1 ≤ setup.entries) (sym (drafted-started setup S held writer at)) (few_number setup (raised S at) may.3))

pub letter_known : (setup : Setup) (S : State) (event : Event) (held : List AccountView) (user writer : UserId) (at : Moment) (draft : DraftView) (subject body : List ℕ) → draft ≡ started setup S held writer at → event ≡ Letter user subject body → IsLegal setup S at event → user.0 < length draft.setup.users
letter_known setup S event held user writer at draft subject body is is_event legal =
    subst (λ (d : DraftView). user.0 < length d.setup.users) (sym is) (subst (IsLegal setup S at) is_event legal).0

pub unasked_letter : (setup : Setup) (S : State) (event : Event) (held : List AccountView) (user writer : UserId) (at : Moment) (draft more : DraftView) (added : AddedView) (subject body : List ℕ) (kept reported : List ℕ) → draft ≡ started setup S held writer at → event ≡ Letter user subject body → HasAdded draft more (letter_entry draft.setup (drafted draft) user draft.at subject body ∷ []) → IsAddedBy more added → reported ≡ [] → IsWithinLimits setup → IsSoundState setup S → IsMoment at.0 → IsLegal setup S at event → IsUnasked setup S event at added kept reported
unasked_letter setup S event held user writer at draft more added subject body kept reported is is_event has by none within sound moment legal =
    unasked_of setup S event held writer at draft more added (letter_entry setup (raised S at) user at subject body ∷ []) kept reported is (ap (step setup S at) is_event)
    (added_as draft more _ _ (ap (λ (d : DraftView). letter_entry d.setup (drafted draft) user d.at subject body ∷ []) is ∙ ap (λ (T : State). letter_entry setup T user at subject body ∷ []) (drafted_is setup S held writer at draft is)) has) by none within sound moment legal
