-- An event that happens leaves a world sound, whoever sent it, and so does the reply that it gives.
use Rattle.std.proofs.Common.{◌≡◌, not, ℕ, ◌⊎◌, inl, inr, ◌+◌, ◌<◌, Bool, true, false, eqb, List, [], ◌∷◌, ◌++◌, slice_get, Option, None, Some, refl, sym, ap, subst, ◌∙◌, arith}
use Rattle.std.specs.List.{All}
use Rattle.std.specs.Option.{IfSome}
use Rattle.std.specs.Str.{bytes_eq}
use Rattle.std.proofs.lemmas.Bool.{and_parts, eqb-true}
use Rattle.std.proofs.lemmas.List.{append-nil}
use Rattle.std.proofs.lemmas.List.Elements.{All-push, All-weaker, All-filter, recursion_from_All}
use Rattle.ofx_types.specs.FileForm.{SpellsReply}
use Rattle.ofx_types.specs.declared.number.Moment.{Moment}
use Rattle.ofx_types.specs.declared.number.UserId.{UserId}
use Rattle.ofx_types.specs.declared.reply.ReplyFile.{ReplyFile}
use Rattle.ofx_types.specs.declared.request.RequestFile.{RequestFile}
use Rattle.ofx_types.proofs.Bytes.{bytes_eq_is}
use Rattle.sync_laws.specs.Histories.{IsLater}
use Rattle.bank_model.specs.Once.{is_named, reply_kept}
use Rattle.bank_model.specs.Rules.{opening_state, raised, ask_answers, release, keep, kept_for, state_after, answer_to, reply_file}
use Rattle.bank_model.specs.SetupLookups.{user_of}
use Rattle.bank_model.specs.declared.event.Event.{Event}
use Rattle.bank_model.specs.declared.event.Event.TheVariants.{File, Post, Spawn, Letter}
use Rattle.bank_model.specs.declared.event.State.{State}
use Rattle.bank_model.specs.declared.once.KeptReply.{KeptReply}
use Rattle.bank_model.specs.declared.setup.Setup.{Setup}
use Rattle.bank_invariants.specs.SoundStates.{IsSoundState}
use Rattle.bank_invariants.proofs.RunLaws.{kept_for-raised}
use Rattle.sync_laws.proofs.Events.{later_both}
use Rattle.client_core.specs.Making.{file_name}
use Rattle.client_laws.specs.Answers.{bank_reply}
use Rattle.client_saved.specs.declared.state.Outstanding.{Outstanding}
use Rattle.event_codec.specs.Coding.{coded}
use Rattle.ofx_world.specs.Customer.{CustomerView, with_pass}
use Rattle.ofx_world.specs.Laws.{Laws}
use Rattle.ofx_world.specs.Server.{happened}
use Rattle.ofx_world.specs.Sound.{IsGiven, IsNumbered, IsStrange, IsEarlier, IsSentFor, IsStrangers, MayHappen, IsLast, IsSoundCustomer, IsSoundKept, IsKnownReply, IsTheKeptOne, HasKeptReply, IsAnswered, HasAnswer, IsSoundWorld}
use Rattle.ofx_world.specs.Truths.{IsAtItsIndex, Bears, HasRightStores}
use Rattle.ofx_world.specs.World.{WorldView, with_server, with_reply}
use Rattle.ofx_world.proofs.Keeping.{position_stays}
use Rattle.ofx_world.proofs.KeptReplies.{user_at, kept_anew, entries_anew, release_other, keep_other, keep_after, found_kept}
use Rattle.ofx_world.proofs.Lists.{at_all, all_on, same_some, some_weaker}
use Rattle.ofx_world.proofs.Names.{one_client}

-- an option that is there or isn't
either_way : {X P : Type 0} (found : Option X) → ((x : X) → found ≡ Some x → P) → (found ≡ None → P) → P
either_way None there none = none refl
either_way (Some x) there none = there x refl

-- What a file brings about, in a sound world.
module _ (laws : Laws) (world : WorldView) (sound : IsSoundWorld world) (at : Moment) (user : UserId) (file : RequestFile) (may : MayHappen world.server.setup world.server.state world.customers at (File user file)) where
  abbrev setup : Setup
  setup = world.server.setup

  abbrev S : State
  S = world.server.state

  abbrev after : State
  after = state_after setup S at (File user file)

  abbrev answer : List ℕ
  answer = answer_to setup S at (File user file)

  present : IsSoundState setup S
  present =
      let run = laws.records.runs setup world.server.records S sound.reopened in
      subst (IsSoundState setup) (sym run.leaves) (laws.records.sound setup run.run sound.within run.legal).sound

  -- what may be the name of a file of this user
  abbrev IsKnown : List ℕ → Type 0
  IsKnown name = IsGiven world.customers name ⊎ IsStrange setup world.customers user name

  given : (sent : IsSentFor setup world.customers user file) → IsGiven world.customers sent.is_of.name
  given sent = record {
    index = sent.index;
    customer = sent.customer;
    there = sent.there;
    number = sent.is_of.number;
    numbered = sent.is_of.numbered;
  }

  -- Whoever has sent the file, its name is known.
  known : IfSome file.newer IsKnown
  known = by_sender may.sent
    where
      by_sender : IsSentFor setup world.customers user file ⊎ IsStrangers setup world.customers user file → IfSome file.newer IsKnown
      by_sender (inl sent) = subst (λ (newer : Option (List ℕ)). IfSome newer IsKnown) (sym sent.is_of.newer) (inl (given sent))
      by_sender (inr strange) = some_weaker (IsStrange setup world.customers user) IsKnown file.newer (λ name is. inr is) strange.newer

  -- ---- the answer

  answered_anew : kept_for S user file.newer ≡ None → SpellsReply answer (bank_reply setup S user at file)
  answered_anew none =
      subst (λ (bytes : List ℕ). SpellsReply bytes (bank_reply setup S user at file))
      (sym (laws.replies.new setup S user at file (kept_for-raised S user at file.newer ∙ none)))
      (laws.replies.reads_back setup S user at file sound.within present sound.reportable may.codes.moment may.legal.0 may.legal.1)

  -- The answer spells a reply that bears the file's name, where it has one.
  abbrev pub IsSpelled : Type 0
  IsSpelled = (reply : ReplyFile) × SpellsReply answer reply × (reply.newer ≡ file.newer)

  anew_is : kept_for S user file.newer ≡ None → IsSpelled
  unfolding reply_file
  anew_is none = (bank_reply setup S user at file, answered_anew none, refl)

  again_is : (name bytes : List ℕ) → file.newer ≡ Some name → reply_kept user name S.kept ≡ Some bytes → IsSpelled
  again_is name bytes named kept =
      let found = found_kept (IsSoundKept setup world.customers) user name bytes S.kept (recursion_from_All (IsSoundKept setup world.customers) S.kept sound.recorded) kept in
      let bears : Bears name bytes = subst (Bears name) found.bytes_are (subst (λ (n : List ℕ). Bears n found.reply.reply) found.file found.holds.bears) in
      let same : answer ≡ bytes = laws.replies.again setup S user at file bytes (ap (kept_for S user) named ∙ kept) in
      (bears.0, subst (λ (b : List ℕ). SpellsReply b bears.0) (sym same) bears.1, bears.2 ∙ sym named)

  pub answer_is : IsSpelled
  answer_is = by_name file.newer refl
    where
      by_name : (newer : Option (List ℕ)) → file.newer ≡ newer → IsSpelled
      by_name None is = anew_is (ap (kept_for S user) is)
      by_name (Some name) is = either_way (reply_kept user name S.kept) (λ bytes kept. again_is name bytes is kept) (λ none. anew_is (ap (kept_for S user) is ∙ none))

  -- Whatever name it bears is the file's.
  pub bears_own : (name : List ℕ) → Bears name answer → file.newer ≡ Some name
  bears_own name bears =
      sym answer_is.2 ∙ ap (λ (r : ReplyFile). r.newer) (laws.replies.one_reply answer answer_is.0 bears.0 answer_is.1 bears.1) ∙ bears.2

  pub known_answer : IsSentFor setup world.customers user file → IsKnownReply world.customers answer
  known_answer sent = record {
    is_reply = (answer_is.0, answer_is.1);
    given = λ name bears. subst (IsGiven world.customers) (same_some sent.is_of.name name (sym sent.is_of.newer ∙ bears_own name bears)) (given sent);
  }

  -- ---- what is kept

  pub recorded_after : All (IsSoundKept setup world.customers) after.kept
  recorded_after = either_way (kept_for S user file.newer)
      (λ bytes kept. subst (λ (T : State). All (IsSoundKept setup world.customers) T.kept) (sym (laws.replies.again_leaves setup S user at file bytes kept)) sound.recorded)
      (λ none. subst (All (IsSoundKept setup world.customers)) (sym (kept_anew setup S user at file none)) (recorded_anew file.older file.newer refl known))
    where
      rest_of : (older : Option (List ℕ)) → All (IsSoundKept setup world.customers) (release user older S.kept)
      rest_of None = sound.recorded
      rest_of (Some older) = All-filter (λ (reply : KeptReply). not (is_named user older reply)) (IsSoundKept setup world.customers) S.kept sound.recorded

      recorded_anew : (older newer : Option (List ℕ)) → file.newer ≡ newer → IfSome newer IsKnown
          → All (IsSoundKept setup world.customers) (keep user newer answer (release user older S.kept))
      recorded_anew older None is is_known = rest_of older
      recorded_anew older (Some name) is is_known =
          All-push (IsSoundKept setup world.customers) (release user older S.kept) (record { user = user; file = name; reply = answer }) (rest_of older)
          (record { bears = (answer_is.0, answer_is.1, answer_is.2 ∙ is); known = is_known })

  -- ---- what is kept for a client's outstanding file

  module _ (index : ℕ) (customer : CustomerView) (there : slice_get world.customers index ≡ Some customer) (kept : Outstanding) (own : List ℕ) (owner : UserId) (outstanding : customer.client.outstanding ≡ Some kept) (is_own : kept.file.newer ≡ Some own) (is_owner : user_of setup customer.client.user ≡ Some owner) where
    last : IsLast customer.client kept
    last = subst (λ (o : Option Outstanding). IfSome o (IsLast customer.client)) outstanding (at_all (IsSoundCustomer setup) world.customers index customer sound.customers there).outstanding

    own_is : own ≡ file_name customer.client.name last.number
    own_is = same_some own _ (sym is_own ∙ last.name)

    own_number : IsNumbered customer.client last.number own
    own_number = let next = last.last in (omega (arith, next), own_is)

    own_known : user ≡ owner → IsStrange setup world.customers user own → ⊥
    own_known same strange = strange index last.number customer there (is_owner ∙ ap (λ (u : UserId). Some u) (sym same)) own_is

    -- No file of the user releases it: whatever a client's file names as answered is earlier,
    unreleased : (sent : IsSentFor setup world.customers user file) (older : Option (List ℕ)) → IfSome older (IsEarlier sent.customer.client sent.is_of.number)
        → IfSome older (λ (o : List ℕ). o ≡ own → user ≡ owner → ⊥)
    unreleased sent None earlier = tt
    unreleased sent (Some older) earlier = λ same of_owner.
        let below = sent.is_of.numbered.0 in
        let number : IsNumbered sent.customer.client earlier.0 own = (omega (arith, below, earlier.1), sym same ∙ earlier.2) in
        let one = one_client setup world.customers index sent.index customer sent.customer last.number earlier.0 own sound.customers sound.names there sent.there own_number number in
        let most : sent.is_of.number < customer.client.next = subst (λ (c : CustomerView). sent.is_of.number < c.client.next) (sym one.1) below in
        let next = last.last in
        let same_number = one.2 in
        let before = earlier.1 in
        absurd (omega (arith, most, next, same_number, before))

    -- and a stranger's names none of a client's.
    apart : IfSome file.older (λ (o : List ℕ). o ≡ own → user ≡ owner → ⊥)
    apart = by_sender may.sent
      where
        by_sender : IsSentFor setup world.customers user file ⊎ IsStrangers setup world.customers user file
            → IfSome file.older (λ (o : List ℕ). o ≡ own → user ≡ owner → ⊥)
        by_sender (inl sent) = unreleased sent file.older sent.is_of.older
        by_sender (inr strange) = some_weaker (IsStrange setup world.customers user) (λ (o : List ℕ). o ≡ own → user ≡ owner → ⊥) file.older
            (λ name is same of_owner. own_known of_owner (subst (IsStrange setup world.customers user) same is)) strange.older

    pub stays_kept : (reply : List ℕ) → reply_kept owner own S.kept ≡ Some reply → reply_kept owner own after.kept ≡ Some reply
    stays_kept reply found = either_way (kept_for S user file.newer)
        (λ bytes again. ap (λ (T : State). reply_kept owner own T.kept) (laws.replies.again_leaves setup S user at file bytes again) ∙ found)
        (λ none. ap (reply_kept owner own) (kept_anew setup S user at file none)
        ∙ keep_after owner user own file.newer answer reply (release user file.older S.kept) (release_other owner user own file.older S.kept apart ∙ found))

    -- A client's file of this name is this one, of this user.
    same_sent : (sent : IsSentFor setup world.customers user file) → file.newer ≡ Some own → (file ≡ with_pass setup kept.file) × (user ≡ owner)
    same_sent sent named =
        let same : sent.is_of.name ≡ own = same_some sent.is_of.name own (sym sent.is_of.newer ∙ named) in
        let number : IsNumbered sent.customer.client sent.is_of.number own = (sent.is_of.numbered.0, sym same ∙ sent.is_of.numbered.1) in
        let one = one_client setup world.customers index sent.index customer sent.customer last.number sent.is_of.number own sound.customers sound.names there sent.there own_number number in (
          sent.is_of.same kept (ap (λ (c : CustomerView). c.client.outstanding) (sym one.1) ∙ outstanding) (is_own ∙ ap (λ (n : List ℕ). Some n) (sym same)),
          same_some user owner (sym sent.acts ∙ ap (λ (c : CustomerView). user_of setup c.client.user) (sym one.1) ∙ is_owner),
        )

    same_file : file.newer ≡ Some own → user ≡ owner → file ≡ with_pass setup kept.file
    same_file named of_owner = by_sender may.sent
      where
        by_sender : IsSentFor setup world.customers user file ⊎ IsStrangers setup world.customers user file → file ≡ with_pass setup kept.file
        by_sender (inl sent) = (same_sent sent named).0
        by_sender (inr strange) = absurd (own_known of_owner (subst (λ (newer : Option (List ℕ)). IfSome newer (IsStrange setup world.customers user)) named strange.newer))

    -- What is kept for it then is the answer.
    kept_now : file.newer ≡ Some own → user ≡ owner → reply_kept owner own after.kept ≡ Some answer
    kept_now named of_owner = sym (ap (λ (u : UserId). reply_kept u own after.kept) of_owner) ∙ laws.replies.kept setup S user at file own named

    -- It is answered in this state.
    answered_now : kept_for S user file.newer ≡ None → file.newer ≡ Some own → user ≡ owner → (reply : List ℕ) → reply_kept owner own after.kept ≡ Some reply → IsAnswered setup after customer kept owner reply
    unfolding reply_file
    answered_now none named of_owner reply found =
        let is = same_file named of_owner in
        let bytes : reply ≡ answer = same_some reply answer (sym found ∙ kept_now named of_owner) in
        record {
          before = S;
          at = at;
          order = sound.reportable.order;
          stores = at_all (HasRightStores setup S.entries) world.customers index customer sound.stores there;
          spells = subst (λ (b : List ℕ). SpellsReply b (bank_reply setup S owner at kept.file)) (sym bytes)
              (subst (λ (f : RequestFile). SpellsReply answer (bank_reply setup S owner at f)) is
              (subst (λ (u : UserId). SpellsReply answer (bank_reply setup S u at file)) of_owner (answered_anew none)));
          later = (
            [],
            entries_anew setup S user at file none
                ∙ ap (λ (u : UserId). (ask_answers setup (raised S at) u at file.asks).after.entries) of_owner
                ∙ ap (λ (f : RequestFile). (ask_answers setup (raised S at) owner at f.asks).after.entries) is
                ∙ sym (append-nil _),
          );
        }

    answered_on : (T : State) → IsLater S T → (reply : List ℕ) → reply_kept owner own S.kept ≡ Some reply → IsAnswered setup T customer kept owner reply
    answered_on T later reply found =
        let answered = at_all (HasAnswer setup S) world.customers index customer sound.answered there kept own owner outstanding is_own is_owner reply found in
        record {
          before = answered.before;
          at = answered.at;
          order = answered.order;
          stores = answered.stores;
          spells = answered.spells;
          later = later_both (ask_answers setup (raised answered.before answered.at) owner answered.at kept.file.asks).after S T answered.later later;
        }

    pub answered_after : (reply : List ℕ) → reply_kept owner own after.kept ≡ Some reply → IsAnswered setup after customer kept owner reply
    answered_after reply found = either_way (kept_for S user file.newer)
        (λ bytes again. answered_on after (laws.histories.event_grows setup S at (File user file)) reply
        (sym (ap (λ (T : State). reply_kept owner own T.kept) (laws.replies.again_leaves setup S user at file bytes again)) ∙ found))
        (λ none. by_name none file.newer refl (sym (ap (reply_kept owner own) (kept_anew setup S user at file none)) ∙ found))
      where
        -- what is kept for another file is as it was
        other_kept : (newer : Option (List ℕ)) → reply_kept owner own (keep user newer answer (release user file.older S.kept)) ≡ reply_kept owner own (release user file.older S.kept)
            → reply_kept owner own (keep user newer answer (release user file.older S.kept)) ≡ Some reply → IsAnswered setup after customer kept owner reply
        other_kept newer same found_there = answered_on after (laws.histories.event_grows setup S at (File user file)) reply
            (sym (release_other owner user own file.older S.kept apart) ∙ sym same ∙ found_there)

        by_test : (name : List ℕ) → kept_for S user file.newer ≡ None → file.newer ≡ Some name
            → reply_kept owner own (keep user (Some name) answer (release user file.older S.kept)) ≡ Some reply
            → (b : Bool) → is_named owner own (record { user = user; file = name; reply = answer }) ≡ b → IsAnswered setup after customer kept owner reply
        by_test name none is found_there true here =
            let named = and_parts (eqb user.0 owner.0) (bytes_eq name own) here in
            answered_now none (is ∙ ap (λ (n : List ℕ). Some n) (bytes_eq_is name own named.1)) (ap user_at (eqb-true user.0 owner.0 named.0)) reply found
        by_test name none is found_there false other = other_kept (Some name) (keep_other owner user own name answer (release user file.older S.kept) other) found_there

        by_name : kept_for S user file.newer ≡ None → (newer : Option (List ℕ)) → file.newer ≡ newer
            → reply_kept owner own (keep user newer answer (release user file.older S.kept)) ≡ Some reply → IsAnswered setup after customer kept owner reply
        by_name none None is found_there = other_kept None refl found_there
        by_name none (Some name) is found_there = by_test name none is found_there (is_named owner own (record { user = user; file = name; reply = answer })) refl

    -- The reply that is given to it is the kept one.
    pub given_is_kept : IsSentFor setup world.customers user file → Bears own answer → reply_kept owner own after.kept ≡ Some answer
    given_is_kept sent bears = let named = bears_own own bears in kept_now named (same_sent sent named).1

-- ---- any event

module _ (laws : Laws) (world : WorldView) (sound : IsSoundWorld world) (at : Moment) where
  abbrev then_state : Event → State
  then_state event = state_after world.server.setup world.server.state at event

  recorded_then : (event : Event) → MayHappen world.server.setup world.server.state world.customers at event → All (IsSoundKept world.server.setup world.customers) (then_state event).kept
  recorded_then (File user file) may = recorded_after laws world sound at user file may
  recorded_then (Post id) may = sound.recorded
  recorded_then (Spawn model index) may = sound.recorded
  recorded_then (Letter user subject body) may = sound.recorded

  kept_then : (event : Event) → MayHappen world.server.setup world.server.state world.customers at event → All (HasKeptReply world.server.setup (then_state event) world.replies) world.customers
  kept_then (File user file) may = all_on (HasKeptReply world.server.setup world.server.state world.replies) (HasKeptReply world.server.setup (then_state (File user file)) world.replies) world.customers
      (λ k customer there has kept own owner outstanding is_own is_owner i d below bears.
      stays_kept laws world sound at user file may k customer there kept own owner outstanding is_own is_owner _ (has kept own owner outstanding is_own is_owner i d below bears)) sound.kept
  kept_then (Post id) may = sound.kept
  kept_then (Spawn model index) may = sound.kept
  kept_then (Letter user subject body) may = sound.kept

  -- What the bank does by itself changes nothing of what is kept.
  answered_alone : (T : State) → IsLater world.server.state T → T.kept ≡ world.server.state.kept → All (HasAnswer world.server.setup T) world.customers
  answered_alone T later same = all_on (HasAnswer world.server.setup world.server.state) (HasAnswer world.server.setup T) world.customers
      (λ k customer there has kept own owner outstanding is_own is_owner reply found.
      let answered = has kept own owner outstanding is_own is_owner reply (sym (ap (reply_kept owner own) same) ∙ found) in
      record {
        before = answered.before;
        at = answered.at;
        order = answered.order;
        stores = answered.stores;
        spells = answered.spells;
        later = later_both (ask_answers world.server.setup (raised answered.before answered.at) owner answered.at kept.file.asks).after world.server.state T answered.later later;
      }) sound.answered

  answered_then : (event : Event) → MayHappen world.server.setup world.server.state world.customers at event → All (HasAnswer world.server.setup (then_state event)) world.customers
  answered_then (File user file) may = all_on (HasAnswer world.server.setup world.server.state) (HasAnswer world.server.setup (then_state (File user file))) world.customers
      (λ k customer there has kept own owner outstanding is_own is_owner reply found.
      answered_after laws world sound at user file may k customer there kept own owner outstanding is_own is_owner reply found) sound.answered
  answered_then (Post id) may = answered_alone (then_state (Post id)) (laws.histories.event_grows world.server.setup world.server.state at (Post id)) refl
  answered_then (Spawn model index) may = answered_alone (then_state (Spawn model index)) (laws.histories.event_grows world.server.setup world.server.state at (Spawn model index)) refl
  answered_then (Letter user subject body) may = answered_alone (then_state (Letter user subject body)) (laws.histories.event_grows world.server.setup world.server.state at (Letter user subject body)) refl

  -- An event that may happen leaves the world sound.
  pub happened_keeps : (event : Event) → MayHappen world.server.setup world.server.state world.customers at event → IsSoundWorld (with_server world (happened world.server at event))
  happened_keeps event may = record {
    within = sound.within;
    clock = sound.clock;
    reopened = (laws.records.goes_on world.server.setup opening_state world.server.records (coded at event ∷ []) (then_state event)).1 (world.server.state, sound.reopened, (at, event, may.codes, may.legal, refl));
    reportable = laws.records.reported world.server.setup world.server.state at event sound.within sound.reportable may.codes.moment may.legal;
    customers = sound.customers;
    names = sound.names;
    requests = sound.requests;
    pending = tt;
    reported = All-weaker (IsAtItsIndex world.server.setup world.server.records) (IsAtItsIndex world.server.setup (world.server.records ++ coded at event ∷ [])) (λ reply index. position_stays world.server.setup world.server.records (coded at event ∷ []) reply index) world.replies sound.reported;
    named = sound.named;
    recorded = recorded_then event may;
    kept = kept_then event may;
    answered = answered_then event may;
    stores = All-weaker (HasRightStores world.server.setup world.server.state.entries) (HasRightStores world.server.setup (then_state event).entries)
        (λ customer right user is_user. laws.stores.later world.server.setup world.server.state (then_state event) user customer.client sound.reportable.order
        (laws.histories.event world.server.setup world.server.state at event sound.reportable.order may.legal) (laws.histories.event_grows world.server.setup world.server.state at event) (right user is_user)) world.customers sound.stores;
  }

  -- So does a client's file, together with the reply that it gets.
  pub answered_keeps : (user : UserId) (file : RequestFile) → MayHappen world.server.setup world.server.state world.customers at (File user file)
      → IsSentFor world.server.setup world.customers user file
      → IsSoundWorld (with_reply (with_server world (happened world.server at (File user file))) (Some (answer_to world.server.setup world.server.state at (File user file))))
  answered_keeps user file may sent =
      let then_sound = happened_keeps (File user file) may in
      let reply : List ℕ = answer_to world.server.setup world.server.state at (File user file) in
      record {
        within = then_sound.within;
        clock = then_sound.clock;
        reopened = then_sound.reopened;
        reportable = then_sound.reportable;
        customers = then_sound.customers;
        names = then_sound.names;
        requests = then_sound.requests;
        pending = tt;
        reported = All-push (IsAtItsIndex world.server.setup (world.server.records ++ coded at (File user file) ∷ [])) world.replies reply then_sound.reported (record {
          earlier = world.server.records;
          rec = coded at (File user file);
          later = [];
          parts = refl;
          state = world.server.state;
          holds = sound.reopened;
          at = at;
          user = user;
          file = file;
          codes = may.codes;
          is_answer = refl;
        });
        named = All-push (IsKnownReply world.customers) world.replies reply sound.named (known_answer laws world sound at user file may sent);
        recorded = then_sound.recorded;
        kept = all_on (HasKeptReply world.server.setup (then_state (File user file)) world.replies) (HasKeptReply world.server.setup (then_state (File user file)) (world.replies ++ reply ∷ [])) world.customers
            (λ k customer there has kept own owner outstanding is_own is_owner.
            All-push (IsTheKeptOne (then_state (File user file)) owner own) world.replies reply (has kept own owner outstanding is_own is_owner)
            (given_is_kept laws world sound at user file may k customer there kept own owner outstanding is_own is_owner sent)) then_sound.kept;
        answered = then_sound.answered;
        stores = then_sound.stores;
      }
