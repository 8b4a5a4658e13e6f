-- Poll files: a client asks for nothing but the newest tokens of objects.
use Rattle.std.specs.Prelude.{ℕ, Bool, true, false, not, ◌&&◌, ◌==◌, List, [], ◌∷◌, length, codes, Option, None, Some, is_none}
use Rattle.std.specs.List.{list_all, flat_map}
use Rattle.std.specs.Fmt.{decimal}
use Rattle.ofx_types.specs.declared.number.ObjectId.{ObjectId}
use Rattle.ofx_types.specs.declared.number.UserId.{UserId}
use Rattle.ofx_types.specs.declared.number.Moment.{Moment}
use Rattle.ofx_types.specs.declared.sync.SyncKind.{SyncKind}
use Rattle.ofx_types.specs.declared.sync.SyncKind.TheVariants.{After, TokenOnly, Refresh}
use Rattle.ofx_types.specs.declared.sync.SyncAsk.{SyncAsk}
use Rattle.ofx_types.specs.declared.sync.SyncReply.{SyncReply}
use Rattle.ofx_types.specs.declared.request.Ask.{Ask}
use Rattle.ofx_types.specs.declared.request.Ask.TheVariants as asks
use Rattle.ofx_types.specs.declared.request.RequestFile.{RequestFile}
use Rattle.ofx_types.specs.declared.reply.AskReply.{AskReply}
use Rattle.ofx_types.specs.declared.reply.AskReply.TheVariants as replies
use Rattle.ofx_types.specs.declared.reply.ReplyFile.{ReplyFile}
use Rattle.bank_model.specs.declared.setup.Setup.{Setup}
use Rattle.bank_model.specs.declared.event.State.{State}
use Rattle.bank_model.specs.Objects.{object_named, newest}

abbrev pub is_token_only : SyncKind → Bool
is_token_only (After text) = false
is_token_only TokenOnly = true
is_token_only Refresh = false

-- A poll is a synchronisation that asks for the newest token alone, and for no deed.
abbrev pub is_poll_ask : Ask → Bool
is_poll_ask (asks.Statement trnuid account period) = false
is_poll_ask (asks.One trnuid deed) = false
is_poll_ask (asks.Sync ask) = is_token_only ask.kind && (length ask.deeds == 0)

-- whether a file has neither NEWFILEUID (nothing is kept) nor OLDFILEUID (nothing is released)
abbrev pub is_unnamed : RequestFile → Bool
is_unnamed file = is_none file.older && is_none file.newer

-- one or more polls
abbrev pub are_polls : List Ask → Bool
are_polls asks = not (length asks == 0) && list_all is_poll_ask asks

-- A poll file has no name and releases none, and has one or more asks, each a poll.
unfoldable pub is_poll : RequestFile → Bool
is_poll file = is_unnamed file && are_polls file.asks

-- It gets the newest token of each object, or token 0 and LOSTSYNC where the account isn't the user's.
abbrev pub reported_token : SyncAsk → Option ℕ → SyncReply
reported_token ask None = record { object = ask.object; token = codes "0"; lost = true; replies = [] }
reported_token ask (Some token) = record { object = ask.object; token = decimal token; lost = false; replies = [] }

abbrev pub newest_if_any : State → Option ObjectId → Option ℕ
newest_if_any S None = None
newest_if_any S (Some object) = Some (newest object S.entries)

abbrev pub poll_answer : Setup → State → UserId → Ask → List AskReply
poll_answer setup S user (asks.Statement trnuid account period) = []
poll_answer setup S user (asks.One trnuid deed) = []
poll_answer setup S user (asks.Sync ask) =
    replies.Sync (reported_token ask (newest_if_any S (object_named setup user ask.object))) ∷ []

-- A poll is no event: it is answered at a moment, and nothing changes.
unfoldable pub poll_reply : Setup → State → UserId → Moment → RequestFile → ReplyFile
poll_reply setup S user at file = record {
  version = file.version;
  newer = file.newer;
  signon = 0;
  moment = at;
  replies = flat_map (poll_answer setup S user) file.asks;
}
