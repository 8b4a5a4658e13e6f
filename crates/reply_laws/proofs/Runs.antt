-- What a bank answers over a run of events is a printed reply.
use Rattle.std.proofs.Common.{ℕ, ◌<◌, Bool, true, false, cond, List, [], ◌∷◌, length, Option, None, Some, refl, sym, subst}
use Rattle.std.specs.List.{AllByRecursion, find}
use Rattle.std.specs.Option.{IfSome, option_map}
use Rattle.ofx_types.specs.Calendar.{IsMoment}
use Rattle.ofx_types.specs.ReplyForm.{reply_text}
use Rattle.ofx_types.specs.declared.number.Moment.{Moment}
use Rattle.ofx_types.specs.declared.number.UserId.{UserId}
use Rattle.ofx_types.specs.declared.request.RequestFile.{RequestFile}
use Rattle.bank_model.specs.declared.setup.Setup.{Setup}
use Rattle.bank_model.specs.declared.once.KeptReply.{KeptReply}
use Rattle.bank_model.specs.declared.event.State.{State}
use Rattle.bank_model.specs.declared.event.Event.{Event}
use Rattle.bank_model.specs.declared.event.Event.TheVariants.{File, Post, Spawn, Letter}
use Rattle.bank_model.specs.SetupForm.{IsWithinLimits}
use Rattle.bank_model.specs.Once.{is_named, reply_kept}
use Rattle.bank_model.specs.Rules.{opening_state, raised, ask_answers, release, keep, kept_for, new_outcome, outcome_or_kept, file_outcome, state_after, answer_to, IsLegal}
use Rattle.bank_model.specs.Sound as file
use Rattle.bank_invariants.specs.SoundStates.{IsSoundState}
use Rattle.bank_invariants.specs.Runs.{Happening, after_all, AreLegal}
use Rattle.bank_invariants.proofs.StageLemmas.{kept-asks}
use Rattle.bank_invariants.proofs.StateLemmas.{IsSoundState-step}
use Rattle.bank_invariants.proofs.RunLaws.{IsSoundState-run}
use Rattle.bank_model.proofs.Lists.{all_append}
use Rattle.ofx_file.specs.Written.{RepliesReadBack}
use Rattle.reply_laws.specs.Reportable.{IsReportable}
use Rattle.reply_laws.specs.Replies.{new_reply, IsReply}
use Rattle.bank_model.proofs.Lists.{all_filter}
use Rattle.reply_laws.proofs.SoundReplies.{new_sound}
use Rattle.reply_laws.proofs.States.{reportable_opening, reportable_step}

abbrev AreReplies : List KeptReply → Type 0
AreReplies kept = AllByRecursion (λ (reply : KeptReply). IsReply reply.reply) kept

-- What holds of each state that a bank comes to: it is sound, its history may be reported, and what it has kept are replies.
record Holds (setup : Setup) (S : State) : Type 0 where
  sound : IsSoundState setup S
  reportable : IsReportable setup S
  kept : AreReplies S.kept

-- ---- kept replies

found_reply : (user : UserId) (name : List ℕ) (kept : List KeptReply) → AreReplies kept → IfSome (reply_kept user name kept) IsReply
found_reply user name [] all = tt
found_reply user name (reply ∷ kept) all = by_name (is_named user name reply) (found_reply user name kept all.1)
  where
    by_name : (named : Bool) → IfSome (reply_kept user name kept) IsReply → IfSome (option_map (λ (r : KeptReply). r.reply) (cond named (Some reply) (find (is_named user name) kept))) IsReply
    by_name true rest = all.0
    by_name false rest = rest

kept_reply : (user : UserId) (S : State) (newer : Option (List ℕ)) → AreReplies S.kept → IfSome (kept_for S user newer) IsReply
kept_reply user S None all = tt
kept_reply user S (Some name) all = found_reply user name S.kept all

all_released : (user : UserId) (older : Option (List ℕ)) (kept : List KeptReply) → AreReplies kept → AreReplies (release user older kept)
all_released user None kept all = all
all_released user (Some older) kept all =
    all_filter (λ (reply : KeptReply). IsReply reply.reply) (λ (reply : KeptReply). IsReply reply.reply) _ kept (λ reply here stays. here) all

all_kept : (user : UserId) (newer : Option (List ℕ)) (reply : List ℕ) (kept : List KeptReply) → AreReplies kept → IsReply reply → AreReplies (keep user newer reply kept)
all_kept user None reply kept all is = all
all_kept user (Some newer) reply kept all is = all_append (λ (r : KeptReply). IsReply r.reply) kept _ all (is, tt)

-- ---- files

new_is : (setup : Setup) (S : State) (user : UserId) (at : Moment) (sent : RequestFile) → RepliesReadBack → IsWithinLimits setup → Holds setup S → IsMoment at.0 → user.0 < length setup.users → file.IsSound sent → IsReply (reply_text (new_reply setup S user at sent))
new_is setup S user at sent law within holds moment known sound =
    (new_reply setup S user at sent, refl, law (new_reply setup S user at sent) (new_sound setup S user at sent within holds.sound holds.reportable moment known sound))

kept_new : (setup : Setup) (S : State) (user : UserId) (at : Moment) (sent : RequestFile) → AreReplies S.kept → IsReply (new_outcome setup S user at sent).reply → AreReplies (new_outcome setup S user at sent).after.kept
unfolding new_outcome
kept_new setup S user at sent all is =
    all_kept user sent.newer _ _
    (all_released user sent.older (ask_answers setup S user at sent.asks).after.kept (subst AreReplies (sym (kept-asks setup S user at sent.asks)) all)) is

kept_or : (setup : Setup) (S : State) (user : UserId) (at : Moment) (sent : RequestFile) (kept : Option (List ℕ)) → AreReplies S.kept → IfSome kept IsReply → IsReply (new_outcome setup S user at sent).reply → AreReplies (outcome_or_kept setup S user at sent kept).after.kept × IsReply (outcome_or_kept setup S user at sent kept).reply
kept_or setup S user at sent None all found is = (kept_new setup S user at sent all is, is)
kept_or setup S user at sent (Some reply) all found is = (all, found)

anew : (setup : Setup) (S : State) (user : UserId) (at : Moment) (sent : RequestFile) → IsReply (reply_text (new_reply setup S user at sent)) → IsReply (new_outcome setup (raised S at) user at sent).reply
unfolding new_outcome
anew setup S user at sent is = is

file_replies : (setup : Setup) (S : State) (user : UserId) (at : Moment) (sent : RequestFile) → RepliesReadBack → IsWithinLimits setup → Holds setup S → IsMoment at.0 → user.0 < length setup.users → file.IsSound sent → AreReplies (state_after setup S at (File user sent)).kept × IsReply (answer_to setup S at (File user sent))
unfolding file_outcome
file_replies setup S user at sent law within holds moment known sound =
    kept_or setup (raised S at) user at sent (kept_for (raised S at) user sent.newer) holds.kept (kept_reply user (raised S at) sent.newer holds.kept)
    (anew setup S user at sent (new_is setup S user at sent law within holds moment known sound))

-- ---- runs

replies_step : (setup : Setup) (S : State) (at : Moment) (event : Event) → RepliesReadBack → IsWithinLimits setup → Holds setup S → IsMoment at.0 → IsLegal setup S at event → AreReplies (state_after setup S at event).kept
replies_step setup S at (File user sent) law within holds moment legal = (file_replies setup S user at sent law within holds moment legal.0 legal.1).0
replies_step setup S at (Post id) law within holds moment legal = holds.kept
replies_step setup S at (Spawn id occurrence) law within holds moment legal = holds.kept
replies_step setup S at (Letter user subject body) law within holds moment legal = holds.kept

holds_all : (setup : Setup) (S : State) (run : List Happening) → RepliesReadBack → IsWithinLimits setup → Holds setup S → AreLegal setup S run → Holds setup (after_all setup S run)
holds_all setup S [] law within holds legal = holds
holds_all setup S (first ∷ more) law within holds legal =
    holds_all setup (state_after setup S first.at first.event) more law within (record {
      sound = IsSoundState-step setup S first.at first.event within holds.sound legal.0.0 legal.0.1;
      reportable = reportable_step setup S first.at first.event within holds.reportable legal.0.0 legal.0.1;
      kept = replies_step setup S first.at first.event law within holds legal.0.0 legal.0.1;
    }) legal.1

holds_run : (setup : Setup) (run : List Happening) → RepliesReadBack → IsWithinLimits setup → AreLegal setup opening_state run → Holds setup (after_all setup opening_state run)
holds_run setup run law within legal =
    holds_all setup opening_state run law within (record { sound = IsSoundState-run setup [] within tt; reportable = reportable_opening setup; kept = tt }) legal

pub reported_run : (setup : Setup) (run : List Happening) → RepliesReadBack → IsWithinLimits setup → AreLegal setup opening_state run → IsReportable setup (after_all setup opening_state run)
reported_run setup run law within legal = (holds_run setup run law within legal).reportable

pub run_answer : (setup : Setup) (run : List Happening) (user : UserId) (at : Moment) (sent : RequestFile) → RepliesReadBack → IsWithinLimits setup → AreLegal setup opening_state run → IsMoment at.0 → user.0 < length setup.users → file.IsSound sent → IsReply (answer_to setup (after_all setup opening_state run) at (File user sent))
run_answer setup run user at sent law within legal moment known sound =
    (file_replies setup (after_all setup opening_state run) user at sent law within (holds_run setup run law within legal) moment known sound).1
