-- What the bank does leaves a world sound: it settles what is pending, answers a request, does due work, writes a letter, or
-- starts anew.
use Rattle.std.proofs.Common.{◌≡◌, inl, ℕ, ◌<◌, ◌^◌, Bool, true, false, cond, List, length, slice_get, Option, None, Some, refl, sym, ap, subst, ◌∙◌, arith}
use Rattle.std.specs.Option.{option_map}
use Rattle.ofx_types.specs.Calendar.{IsMoment}
use Rattle.ofx_types.specs.declared.number.Moment.{Moment}
use Rattle.ofx_types.specs.declared.number.UserId.{UserId}
use Rattle.ofx_types.specs.declared.request.RequestFile.{RequestFile}
use Rattle.bank_model.specs.Due.{Task, has_number, last_day, first_task, to_make, to_post}
use Rattle.bank_model.specs.Rules.{IsLegal, opening_state, raised, due, spawn_or_post, post_event}
use Rattle.bank_model.specs.SetupLookups.{user_of, signed_on}
use Rattle.bank_model.specs.SetupForm.{IsWithinLimits}
use Rattle.bank_model.specs.declared.event.Event.{Event}
use Rattle.bank_model.specs.declared.event.Event.TheVariants.{File, Letter}
use Rattle.bank_model.specs.declared.event.State.{State}
use Rattle.bank_model.specs.declared.setup.Setup.{Setup}
use Rattle.bank_signon.specs.Signon.{IsSignedOn}
use Rattle.event_codec.specs.Coding.{coded}
use Rattle.event_codec.specs.Records.{Codes, Reopens}
use Rattle.ofx_world.specs.Customer.{CustomerView}
use Rattle.ofx_world.specs.Laws.{Laws}
use Rattle.ofx_world.specs.Server.{ServerView, PendingView, Restarts, happened_unless, committed, reply_unless, reply_to, settled_as, settled, done_if, due_done, happened, given_up}
use Rattle.ofx_world.specs.Kept.{IsRequest, IsUser}
use Rattle.ofx_world.specs.Sound.{IsSentBy, IsSentFor, IsSentEvent, MayHappen, MayBePending, IsSoundCustomer, IsSoundWorld}
use Rattle.ofx_world.specs.World.{WorldView, with_server, with_reply, answered}
use Rattle.ofx_world.proofs.Happened.{happened_keeps, answered_keeps}
use Rattle.ofx_world.proofs.Keeping.{given_up_keeps, put_off_keeps, restart_keeps}
use Rattle.ofx_world.proofs.Lists.{same_some, none_some, at_all}
use Rattle.ofx_world.proofs.Sent.{signed_user}
use Rattle.ofx_world.proofs.Serving.{settled_setup}

-- ---- settling and committing

module _ (laws : Laws) where
  pub settled_keeps : (world : WorldView) → IsSoundWorld world → IsSoundWorld (with_server world (settled world.server))
  unfolding settled
  settled_keeps world sound = go world.server.pending sound.pending
    where
      go : (pending : Option PendingView) → MayBePending world.server.setup world.server.state world.customers pending → IsSoundWorld (with_server world (settled_as world.server pending))
      go None may = sound
      go (Some pending) may =
          elim pending.landed as (λ b. IsSoundWorld (with_server world (cond b (happened world.server pending.at pending.event) (given_up world.server)))) [
            | true ↦ happened_keeps laws world sound pending.at pending.event may
            | false ↦ given_up_keeps world sound
          ]

  pub committed_keeps : (world : WorldView) (at : Moment) (event : Event) → MayHappen world.server.setup world.server.state world.customers at event
      → IsSoundWorld world → IsSoundWorld (with_server world (committed world.server at event))
  unfolding committed
  committed_keeps world at event may sound = go world.server.fault
    where
      go : (fault : Option Bool) → IsSoundWorld (with_server world (happened_unless world.server at event fault))
      go None = happened_keeps laws world sound at event may
      go (Some landed) = put_off_keeps world at event landed may sound

  -- A client's file that is committed, with the reply that it gets where its append doesn't fail.
  pub replied_keeps : (world : WorldView) (at : Moment) (user : UserId) (file : RequestFile) → MayHappen world.server.setup world.server.state world.customers at (File user file)
      → IsSentFor world.server.setup world.customers user file
      → IsSoundWorld world → IsSoundWorld (with_reply (with_server world (committed world.server at (File user file))) (reply_to world.server at (File user file)))
  unfolding committed reply_to
  replied_keeps world at user file may sent sound = go world.server.fault
    where
      go : (fault : Option Bool) → IsSoundWorld (with_reply (with_server world (happened_unless world.server at (File user file) fault)) (reply_unless world.server at (File user file) fault))
      go None = answered_keeps laws world sound at user file may sent
      go (Some landed) = put_off_keeps world at (File user file) landed may sound

  -- ---- a request arrives

  short_user : (setup : Setup) (user : UserId) → IsWithinLimits setup → user.0 < length setup.users → user.0 < 2 ^ 32
  short_user setup user within known = let few = within.lines.users_high in omega (arith, known, few)

  -- Bytes are one user's file.
  one_request : (setup : Setup) (bytes : List ℕ) (request : IsRequest setup bytes) (user : UserId) (file : RequestFile) → IsSignedOn setup bytes file user
      → (request.file ≡ file) × (request.user ≡ user)
  one_request setup bytes request user file signed =
      let same : request.file ≡ file = laws.replies.one_file bytes request.file file request.of_user.signed_on.spelled signed.spelled in (
        same,
        same_some request.user user
            (sym request.of_user.signed_on.signed ∙ ap (λ (f : RequestFile). signed_on setup f.user f.pass) same ∙ signed.signed),
      )

  -- A request that was sent is a client's file, for the user who signs on in it.
  pub sent_for : (world : WorldView) (bytes : List ℕ) (user : UserId) (file : RequestFile) → IsSoundWorld world
      → IsSentBy world.server.setup world.customers bytes → IsSignedOn world.server.setup bytes file user
      → IsSentFor world.server.setup world.customers user file
  sent_for world bytes user file sound sent signed =
      let one = one_request world.server.setup bytes sent.request user file signed in
      subst (λ (f : RequestFile). IsSentFor world.server.setup world.customers user f) one.0
      (subst (λ (u : UserId). IsSentFor world.server.setup world.customers u sent.request.file) one.1 (record {
        index = sent.index;
        customer = sent.customer;
        there = sent.there;
        is_of = sent.is_of;
        acts = user_is sent.request.user sent.customer.client.user sent.request.file.pass
            (ap (λ (name : List ℕ). signed_on world.server.setup name sent.request.file.pass) (sym sent.is_of.user) ∙ sent.request.of_user.signed_on.signed)
            (at_all (IsSoundCustomer world.server.setup) world.customers sent.index sent.customer sound.customers sent.there).user;
      }))
    where
      user_is : (user : UserId) (name pass : List ℕ) → signed_on world.server.setup name pass ≡ Some user → IsUser world.server.setup name → user_of world.server.setup name ≡ Some user
      user_is user name pass signed is = is.1 ∙ ap (λ (u : UserId). Some u) (signed_user world.server.setup name pass is.0 user sound.within is.1 signed)

  file_may : (world : WorldView) (number : ℕ) (bytes : List ℕ) (user : UserId) (file : RequestFile) (state : State) → IsSoundWorld world
      → slice_get world.requests number ≡ Some bytes → IsSignedOn world.server.setup bytes file user
      → MayHappen world.server.setup state world.customers world.clock (File user file)
  file_may world number bytes user file state sound there signed =
      let sent = at_all (IsSentBy world.server.setup world.customers) world.requests number bytes sound.requests there in
      let one = one_request world.server.setup bytes sent.request user file signed in
      subst (λ (f : RequestFile). MayHappen world.server.setup state world.customers world.clock (File user f)) one.0
      (subst (λ (u : UserId). MayHappen world.server.setup state world.customers world.clock (File u sent.request.file)) one.1 (record {
        legal = (sent.request.of_user.known, sent.request.of_user.sound, sent.request.no_poll);
        codes = record {
          moment = sound.clock;
          within = sent.request.of_user.sound;
          typed = short_user world.server.setup sent.request.user sound.within sent.request.of_user.known;
          spelled = refl;
        };
        sent = inl (sent_for world bytes sent.request.user sent.request.file sound sent sent.request.of_user.signed_on);
      }))

  pub delivered_keeps : (world : WorldView) (number : ℕ) (bytes : List ℕ) (user : UserId) (file : RequestFile) → slice_get world.requests number ≡ Some bytes
      → IsSignedOn world.server.setup bytes file user → IsSoundWorld world → IsSoundWorld (answered world user file)
  delivered_keeps world number bytes user file there signed sound =
      let own = sym (settled_setup world.server) in
      replied_keeps (with_server world (settled world.server)) world.clock user file
      (subst (λ (setup : Setup). MayHappen setup (settled world.server).state world.customers world.clock (File user file)) own
      (file_may world number bytes user file (settled world.server).state sound there signed))
      (subst (λ (setup : Setup). IsSentFor setup world.customers user file) own
      (sent_for world bytes user file sound (at_all (IsSentBy world.server.setup world.customers) world.requests number bytes sound.requests there) signed))
      (settled_keeps world sound)

  -- ---- what the bank does by itself

  -- What is due is no file.
  due_unsent : (setup : Setup) (S : State) (at : Moment) (customers : List CustomerView) (event : Event) → due setup S at ≡ Some event → IsSentEvent setup customers event
  unfolding due
  due_unsent setup S at customers event is = by_number (has_number setup (raised S at)) is
    where
      post : (task : Option Task) → option_map post_event task ≡ Some event → IsSentEvent setup customers event
      post None is = absurd (none_some event is)
      post (Some task) is = subst (IsSentEvent setup customers) (same_some (post_event task) event is) tt

      spawn : (task : Option Task) → spawn_or_post (raised S at) task ≡ Some event → IsSentEvent setup customers event
      spawn None is = post (first_task (to_post (raised S at).day S.entries)) is
      spawn (Some task) is = subst (IsSentEvent setup customers) (same_some _ event is) tt

      by_number : (b : Bool) → cond b (spawn_or_post (raised S at) (first_task (to_make (last_day setup (raised S at).day) S.entries))) None ≡ Some event → IsSentEvent setup customers event
      by_number true is = spawn (first_task (to_make (last_day setup (raised S at).day) S.entries)) is
      by_number false is = absurd (none_some event is)

  pub due_keeps : (world : WorldView) (at : Moment) → ((event : Event) → due world.server.setup (settled world.server).state at ≡ Some event → Codes (coded at event) at event)
      → IsSoundWorld world → IsSoundWorld (with_server world (due_done world.server at))
  unfolding due_done
  due_keeps world at codes sound = go (due world.server.setup (settled world.server).state at) refl
    where
      go : (found : Option Event) → due world.server.setup (settled world.server).state at ≡ found → IsSoundWorld (with_server world (done_if (settled world.server) at found))
      go None none = settled_keeps world sound
      go (Some event) is = committed_keeps (with_server world (settled world.server)) at event
          (subst (λ (setup : Setup). MayHappen setup (settled world.server).state world.customers at event) (sym (settled_setup world.server)) (record {
            legal = laws.records.due world.server.setup (settled world.server).state at event is;
            codes = codes event is;
            sent = due_unsent world.server.setup (settled world.server).state at world.customers event is;
          }))
          (settled_keeps world sound)

  -- A letter that is written, where it is legal.
  pub letter_keeps : (world : WorldView) (at : Moment) (user : UserId) (subject body : List ℕ) → IsMoment at.0
      → IsLegal world.server.setup (settled world.server).state at (Letter user subject body)
      → IsSoundWorld world → IsSoundWorld (with_server world (committed (settled world.server) at (Letter user subject body)))
  letter_keeps world at user subject body moment legal sound =
      committed_keeps (with_server world (settled world.server)) at (Letter user subject body)
      (subst (λ (setup : Setup). MayHappen setup (settled world.server).state world.customers at (Letter user subject body)) (sym (settled_setup world.server)) (record {
        legal = legal;
        codes = record {
          moment = moment;
          within = (legal.1, legal.2);
          typed = short_user world.server.setup user sound.within legal.0;
          spelled = refl;
        };
        sent = tt;
      }))
      (settled_keeps world sound)

  -- A bank that starts anew from its records is in the state that it was in.
  pub server_restarts : (world : WorldView) (server : ServerView) → Restarts world.server server → IsSoundWorld world → IsSoundWorld (with_server world server)
  server_restarts world server restarts sound =
      let settled_sound = settled_keeps world sound in
      let reopened = subst (λ (setup : Setup). Reopens setup opening_state (settled world.server).records (settled world.server).state) (settled_setup world.server) settled_sound.reopened in
      let same : restarts.0 ≡ (settled world.server).state = laws.records.one_state world.server.setup opening_state (settled world.server).records restarts.0 (settled world.server).state restarts.1 reopened in
      subst (λ (s : ServerView). IsSoundWorld (with_server world s)) (sym restarts.2)
      (restart_keeps (with_server world (settled world.server)) restarts.0 same settled_sound)
