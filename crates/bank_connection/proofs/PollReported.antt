-- The reply to a poll of a bank in a state is the one over the newest tokens.
use Rattle.std.proofs.Common.{◌≡◌, ℕ, zero, suc, ◌≤◌, List, [], ◌∷◌, ◌++◌, map, All, Option, None, Some, option_map, option_to_list, flat_map, refl, sym, ap, ap₂, ◌∙◌, le_refl, arith}
use Rattle.std.proofs.lemmas.List.Elements.{All-append}
use Rattle.ofx_types.specs.declared.number.ObjectId.{ObjectId}
use Rattle.ofx_types.specs.declared.number.UserId.{UserId}
use Rattle.ofx_types.specs.declared.number.Moment.{Moment}
use Rattle.ofx_types.specs.declared.sync.SyncAsk.{SyncAsk}
use Rattle.ofx_types.specs.declared.request.Ask.{Ask}
use Rattle.ofx_types.specs.declared.request.Ask.TheVariants as asks
use Rattle.ofx_types.specs.declared.request.RequestFile.{RequestFile}
use Rattle.ofx_types.specs.declared.reply.AskReply.{AskReply}
use Rattle.ofx_types.specs.declared.reply.AskReply.TheVariants as replies
use Rattle.bank_model.specs.declared.setup.Setup.{Setup}
use Rattle.bank_model.specs.declared.event.State.{State}
use Rattle.bank_model.specs.Objects.{object_named, newest}
use Rattle.bank_model.specs.Polls.{reported_token, newest_if_any, poll_answer, poll_reply}
use Rattle.token_board.specs.declared.view.Load.{Load}
use Rattle.bank_callers.specs.Polled.{object_asked, AreLoadsOf, loads_made, answer_told, answers_reported, poll_reported}
use Rattle.bank_connection.specs.NewestTokens.{newest_load, newest_loads}
use Rattle.bank_callers.specs.Callers.{IsFresh}

one_object : (S : State) (object : Option ObjectId) → option_map (λ (load : Load). load.object) (newest_load S object) ≡ object
one_object S None = refl
one_object S (Some object) = refl

objects_are : (setup : Setup) (S : State) (user : UserId) (all : List Ask)
    → map (option_map (λ (load : Load). load.object)) (newest_loads setup S user all) ≡ map (object_asked setup user) all
objects_are setup S user [] = refl
objects_are setup S user (ask ∷ more) = ap₂ (λ (o : Option ObjectId) (os : List (Option ObjectId)). o ∷ os) (one_object S (object_asked setup user ask)) (objects_are setup S user more)

pub newest_are_loads : (setup : Setup) (S : State) (user : UserId) (file : RequestFile) → AreLoadsOf setup user file (newest_loads setup S user file.asks)
newest_are_loads setup S user file = objects_are setup S user file.asks

one_token : (S : State) (object : Option ObjectId) → option_map (λ (load : Load). load.token) (newest_load S object) ≡ newest_if_any S object
one_token S None = refl
one_token S (Some object) = refl

one_answer : (setup : Setup) (S : State) (user : UserId) (ask : Ask) → answer_told ask (newest_load S (object_asked setup user ask)) ≡ poll_answer setup S user ask
one_answer setup S user (asks.Statement trnuid account period) = refl
one_answer setup S user (asks.One trnuid deed) = refl
one_answer setup S user (asks.Sync ask) = ap (λ (token : Option ℕ). replies.Sync (reported_token ask token) ∷ []) (one_token S (object_named setup user ask.object))

answers_are : (setup : Setup) (S : State) (user : UserId) (all : List Ask) → answers_reported all (newest_loads setup S user all) ≡ flat_map (poll_answer setup S user) all
answers_are setup S user [] = refl
answers_are setup S user (ask ∷ more) = ap₂ (λ (a b : List AskReply). a ++ b) (one_answer setup S user ask) (answers_are setup S user more)

pub newest_reported : (setup : Setup) (S : State) (user : UserId) (at : Moment) (file : RequestFile)
    → poll_reply setup S user at file ≡ poll_reported file at (newest_loads setup S user file.asks)
unfolding poll_reply poll_reported
newest_reported setup S user at file = rw (answers_are setup S user file.asks) refl

one_fresh : (S : State) (object : Option ObjectId) → All (IsFresh S.entries) (option_to_list (newest_load S object))
one_fresh S None k d below = absurd (omega (arith, below))
one_fresh S (Some object) zero d below = le_refl (newest object S.entries)
one_fresh S (Some object) (suc k) d below = absurd (omega (arith, below))

pub newest_fresh : (setup : Setup) (S : State) (user : UserId) (all : List Ask) → All (IsFresh S.entries) (loads_made (newest_loads setup S user all))
newest_fresh setup S user [] = λ k d below. absurd (omega (arith, below))
newest_fresh setup S user (ask ∷ more) =
    All-append (IsFresh S.entries) (option_to_list (newest_load S (object_asked setup user ask))) (loads_made (newest_loads setup S user more))
    (one_fresh S (object_asked setup user ask)) (newest_fresh setup S user more)
