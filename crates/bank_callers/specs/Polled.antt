-- The reply to a poll, over the tokens that were loaded for it.
use Rattle.std.specs.Prelude.{◌≡◌, ℕ, List, [], ◌∷◌, ◌++◌, map, Option, None, Some}
use Rattle.std.specs.Option.{option_map, option_to_list}
use Rattle.std.specs.List.{flat_map}
use Rattle.ofx_types.specs.declared.number.ObjectId.{ObjectId}
use Rattle.ofx_types.specs.declared.number.UserId.{UserId}
use Rattle.ofx_types.specs.declared.number.Moment.{Moment}
use Rattle.ofx_types.specs.declared.request.Ask.{Ask}
use Rattle.ofx_types.specs.declared.request.Ask.TheVariants as asks
use Rattle.ofx_types.specs.declared.request.RequestFile.{RequestFile}
use Rattle.ofx_types.specs.declared.reply.AskReply.{AskReply}
use Rattle.ofx_types.specs.declared.reply.AskReply.TheVariants as replies
use Rattle.ofx_types.specs.declared.reply.ReplyFile.{ReplyFile}
use Rattle.bank_model.specs.declared.setup.Setup.{Setup}
use Rattle.bank_model.specs.Objects.{object_named}
use Rattle.bank_model.specs.Polls.{reported_token}
use Rattle.token_board.specs.declared.view.Load.{Load}

-- the object that an ask of a poll asks about; none where the account isn't the user's
abbrev pub object_asked : Setup → UserId → Ask → Option ObjectId
object_asked setup user (asks.Statement trnuid account period) = None
object_asked setup user (asks.One trnuid deed) = None
object_asked setup user (asks.Sync ask) = object_named setup user ask.object

-- The asks of a poll loaded these one after another: each one token of its object, or nothing where it has none.
abbrev pub AreLoadsOf : Setup → UserId → RequestFile → List (Option Load) → Type 0
AreLoadsOf setup user file loads =
    map (option_map (λ (load : Load). load.object)) loads ≡ map (object_asked setup user) file.asks

-- those that were made
abbrev pub loads_made : List (Option Load) → List Load
loads_made loads = flat_map option_to_list loads

-- An ask is told a token, or that it has none.
abbrev pub answer_with : Ask → Option ℕ → List AskReply
answer_with (asks.Statement trnuid account period) token = []
answer_with (asks.One trnuid deed) token = []
answer_with (asks.Sync ask) token = replies.Sync (reported_token ask token) ∷ []

abbrev pub answer_told : Ask → Option Load → List AskReply
answer_told ask load = answer_with ask (option_map (λ (l : Load). l.token) load)

-- Each synchronisation is answered with its token, or that the account isn't the user's; other asks get no answer.
abbrev pub answers_reported : List Ask → List (Option Load) → List AskReply
answers_reported [] loads = []
answers_reported (ask ∷ more) [] = []
answers_reported (ask ∷ more) (load ∷ loads) = answer_told ask load ++ answers_reported more loads

-- the reply to a poll at a moment
unfoldable pub poll_reported : RequestFile → Moment → List (Option Load) → ReplyFile
poll_reported file at loads = record {
  version = file.version;
  newer = file.newer;
  signon = 0;
  moment = at;
  replies = answers_reported file.asks loads;
}
