-- The deeds of a synchronisation, answered one after another.
use Rattle.std.proofs.Common.{◌≡◌, ℕ, ◌+◌, ◌<◌, ◌≤◌, Bool, List, [], ◌∷◌, ◌++◌, length, drop, get_or, Option, Some, refl, sym, ap, ◌∙◌, subst}
use Rattle.std.specs.List.{AllByRecursion}
use Rattle.std.specs.Fmt.{decimal}
use Rattle.ofx_types.specs.declared.number.AcctId.{AcctId}
use Rattle.ofx_types.specs.declared.number.UserId.{UserId}
use Rattle.ofx_types.specs.declared.number.Moment.{Moment}
use Rattle.ofx_types.specs.SyncForm.{object_family}
use Rattle.ofx_types.specs.declared.number.ObjectId.{ObjectId}
use Rattle.ofx_types.specs.declared.sync.ObjectName.{ObjectName}
use Rattle.ofx_types.specs.declared.sync.SyncAsk.{SyncAsk}
use Rattle.ofx_types.specs.declared.sync.SyncReply.{SyncReply}
use Rattle.ofx_types.specs.declared.transfer.Deed.{Deed}
use Rattle.ofx_types.specs.declared.transfer.DeedReply.{DeedReply}
use Rattle.ofx_types.specs.declared.transfer.Family.{Family}
use Rattle.bank_model.specs.declared.setup.Setup.{Setup}
use Rattle.bank_model.specs.declared.event.State.{State}
use Rattle.bank_model.specs.Deeds.{deed_answer}
use Rattle.bank_model.specs.Objects.{newest}
use Rattle.bank_model.specs.Sync.{is_lost, history_replies, rejection, deed_answers, deeds_or_rejection, sync_on}
use Rattle.bank_model.specs.Sound.{IsSoundDeed, IsSoundPair}
use Rattle.bank_core.proofs.AskAnswers.{reported_more, left_more, reported_end, left_end}
use Rattle.bank_model.proofs.Lists.{all_by_index}

pub sound_deeds : (family : Family) (deeds : List (List ℕ × Deed)) → AllByRecursion (IsSoundPair family) deeds → AllByRecursion (λ (deed : List ℕ × Deed). IsSoundDeed deed.1) deeds
sound_deeds family [] sound = tt
sound_deeds family (deed ∷ deeds) sound = (sound.0.1, sound_deeds family deeds sound.1)

step_replies : (setup : Setup) (S next : State) (user : UserId) (only : Option AcctId) (at : Moment) (deed : List ℕ × Deed) (rest : List (List ℕ × Deed)) (reply : DeedReply) → reply ≡ (deed_answer setup S user only at deed.0 deed.1).reply → next ≡ (deed_answer setup S user only at deed.0 deed.1).after → (deed_answers setup S user only at (deed ∷ rest)).replies ≡ reply ∷ (deed_answers setup next user only at rest).replies
unfolding deed_answers
step_replies setup S next user only at deed rest reply is_reply is_next = rw (is_reply, is_next) refl

step_after : (setup : Setup) (S next : State) (user : UserId) (only : Option AcctId) (at : Moment) (deed : List ℕ × Deed) (rest : List (List ℕ × Deed)) → next ≡ (deed_answer setup S user only at deed.0 deed.1).after → (deed_answers setup S user only at (deed ∷ rest)).after ≡ (deed_answers setup next user only at rest).after
unfolding deed_answers
step_after setup S next user only at deed rest is_next = rw is_next refl

none_replies : (setup : Setup) (S : State) (user : UserId) (only : Option AcctId) (at : Moment) → (deed_answers setup S user only at []).replies ≡ []
unfolding deed_answers
none_replies setup S user only at = refl

none_after : (setup : Setup) (S : State) (user : UserId) (only : Option AcctId) (at : Moment) → (deed_answers setup S user only at []).after ≡ S
unfolding deed_answers
none_after setup S user only at = refl

pub deed_replies_more : (setup : Setup) (S next : State) (user : UserId) (only : Option AcctId) (at : Moment) (deeds : List (List ℕ × Deed)) (k : ℕ) (deed : List ℕ × Deed) (all replies more : List DeedReply) (reply : DeedReply) → k < length deeds → deed ≡ get_or deeds k deed → reply ≡ (deed_answer setup S user only at deed.0 deed.1).reply → next ≡ (deed_answer setup S user only at deed.0 deed.1).after → more ≡ replies ++ reply ∷ [] → all ≡ replies ++ (deed_answers setup S user only at (drop k deeds)).replies → all ≡ more ++ (deed_answers setup next user only at (drop (k + 1) deeds)).replies
deed_replies_more setup S next user only at deeds k deed all replies more reply below is is_reply is_next is_more so_far =
    reported_more (λ (T : State) l. (deed_answers setup T user only at l).replies) S next deeds k deed all replies more reply below is (step_replies setup S next user only at deed (drop (k + 1) deeds) reply is_reply is_next) is_more so_far

pub deeds_after_more : (setup : Setup) (S next : State) (user : UserId) (only : Option AcctId) (at : Moment) (deeds : List (List ℕ × Deed)) (k : ℕ) (deed : List ℕ × Deed) (all : State) → k < length deeds → deed ≡ get_or deeds k deed → next ≡ (deed_answer setup S user only at deed.0 deed.1).after → all ≡ (deed_answers setup S user only at (drop k deeds)).after → all ≡ (deed_answers setup next user only at (drop (k + 1) deeds)).after
deeds_after_more setup S next user only at deeds k deed all below is is_next so_far =
    left_more (λ (T : State) l. (deed_answers setup T user only at l).after) S next deeds k deed all below is (step_after setup S next user only at deed (drop (k + 1) deeds) is_next) so_far

pub deed_here : (deeds : List (List ℕ × Deed)) (k : ℕ) (deed : List ℕ × Deed) → AllByRecursion (λ (d : List ℕ × Deed). IsSoundDeed d.1) deeds → k < length deeds → deed ≡ get_or deeds k deed → IsSoundDeed deed.1
deed_here deeds k deed known below is =
    subst (λ (d : List ℕ × Deed). IsSoundDeed d.1) (sym is) (all_by_index (λ (d : List ℕ × Deed). IsSoundDeed d.1) deeds k deed known below)

pub deed_replies_end : (setup : Setup) (S : State) (user : UserId) (only : Option AcctId) (at : Moment) (deeds : List (List ℕ × Deed)) (k : ℕ) (all replies : List DeedReply) → length deeds ≤ k → all ≡ replies ++ (deed_answers setup S user only at (drop k deeds)).replies → replies ≡ all
deed_replies_end setup S user only at deeds k all replies past so_far =
    reported_end (λ (T : State) l. (deed_answers setup T user only at l).replies) S deeds k all replies past (none_replies setup S user only at) so_far

pub deeds_after_end : (setup : Setup) (S : State) (user : UserId) (only : Option AcctId) (at : Moment) (deeds : List (List ℕ × Deed)) (k : ℕ) (all : State) → length deeds ≤ k → all ≡ (deed_answers setup S user only at (drop k deeds)).after → S ≡ all
deeds_after_end setup S user only at deeds k all past so_far =
    left_end (λ (T : State) l. (deed_answers setup T user only at l).after) S deeds k all past (none_after setup S user only at) so_far

-- ---- an object of the user's

-- The deeds are rejected with this code, or answered, and leave this state.
pub record IsAnswered (setup : Setup) (S next : State) (user : UserId) (at : Moment) (ask : SyncAsk) (object : ObjectId) (code : Option ℕ) : Type 0 where
  pub judged : code ≡ rejection ask.reject (newest object S.entries) ask.kind
  pub left : next ≡ (deeds_or_rejection setup S user at ask code).after

abbrev reply_with : ObjectName → List ℕ → Bool → List DeedReply → SyncReply
reply_with object token lost replies = record { object = object; token = token; lost = lost; replies = replies }

same_reply : (o p : ObjectName) (t u : List ℕ) (l m : Bool) (r s : List DeedReply) → o ≡ p → t ≡ u → l ≡ m → r ≡ s → reply_with o t l r ≡ reply_with p u m s
same_reply o p t u l m r s object token lost replies =
    ap (λ (x : ObjectName). reply_with x t l r) object ∙ ap (λ (x : List ℕ). reply_with p x l r) token ∙ ap (λ (x : Bool). reply_with p u x r) lost ∙ ap (reply_with p u m) replies

pub sync_after-is : (setup : Setup) (S next : State) (user : UserId) (at : Moment) (ask : SyncAsk) (object : ObjectId) (code : Option ℕ) → IsAnswered setup S next user at ask object code → next ≡ (sync_on setup S user at ask (Some object)).after
unfolding sync_on
sync_after-is setup S next user at ask object code is = is.left ∙ ap (λ (c : Option ℕ). (deeds_or_rejection setup S user at ask c).after) is.judged

pub sync_reply-is : (setup : Setup) (S next : State) (user : UserId) (at : Moment) (ask : SyncAsk) (object : ObjectId) (code : Option ℕ) (name : ObjectName) (token : List ℕ) (lost : Bool) (reported replies all : List DeedReply) → IsAnswered setup S next user at ask object code → name ≡ ask.object → token ≡ decimal (newest object next.entries) → lost ≡ is_lost setup.window object S.entries ask.kind → reported ≡ history_replies setup.window object (object_family ask.object) S.entries ask.kind → replies ≡ reported ++ (deeds_or_rejection setup S user at ask code).replies → all ≡ replies → reply_with name token lost all ≡ (sync_on setup S user at ask (Some object)).reply
unfolding sync_on
sync_reply-is setup S next user at ask object code name token lost reported replies all is is_name is_token is_lost_is is_reported are same =
    let rest = λ (c : Option ℕ). deeds_or_rejection setup S user at ask c in
    let right : Option ℕ = rejection ask.reject (newest object S.entries) ask.kind in
    same_reply name ask.object token (decimal (newest object (rest right).after.entries)) lost (is_lost setup.window object S.entries ask.kind) all _
    is_name
    (is_token ∙ ap (λ (T : State). decimal (newest object T.entries)) is.left ∙ ap (λ (c : Option ℕ). decimal (newest object (rest c).after.entries)) is.judged)
    is_lost_is
    (same ∙ are ∙ ap (λ l. l ++ (rest code).replies) is_reported ∙ ap (λ (c : Option ℕ). history_replies setup.window object (object_family ask.object) S.entries ask.kind ++ (rest c).replies) is.judged)
