-- Which reply answers a file.
use Rattle.std.specs.Prelude.{ℕ, ◌+◌, ◌-◌, ◌&&◌, Bool, true, false, List, [], ◌∷◌, length, drop, Option, None, Some, is_some, if◌then◌else◌}
use Rattle.std.specs.Str.{bytes_eq}
use Rattle.ofx_types.specs.DeedForm.{family_of}
use Rattle.ofx_types.specs.declared.transfer.Deed.{Deed}
use Rattle.ofx_types.specs.declared.transfer.DeedReply.{DeedReply}
use Rattle.ofx_types.specs.declared.transfer.Family.{Family}
use Rattle.ofx_types.specs.declared.transfer.Family.TheVariants as families
use Rattle.ofx_types.specs.declared.sync.SyncAsk.{SyncAsk}
use Rattle.ofx_types.specs.declared.sync.SyncReply.{SyncReply}
use Rattle.ofx_types.specs.declared.request.Ask.{Ask}
use Rattle.ofx_types.specs.declared.request.Ask.TheVariants as asks
use Rattle.ofx_types.specs.declared.reply.AskReply.{AskReply}
use Rattle.ofx_types.specs.declared.reply.AskReply.TheVariants as replies
use Rattle.bank_model.specs.Sync.{token_of}
use Rattle.client_saved.specs.Bounds.{same_object}

abbrev pub same_family : Family → Family → Bool
same_family families.Intra families.Intra = true
same_family families.RecIntra families.RecIntra = true
same_family families.BankMail families.BankMail = true
same_family families.Mail families.Mail = true
same_family a b = false

-- Replies answer deeds where they bear their TRNUIDs, in order.
abbrev pub have_uids : List (List ℕ × Deed) → List DeedReply → Bool
have_uids [] [] = true
have_uids (deed ∷ deeds) (reply ∷ replies) = bytes_eq deed.0 reply.trnuid && have_uids deeds replies
have_uids deeds replies = false

-- the last replies of a synchronisation, as many as there are deeds
abbrev pub last_replies : List (List ℕ × Deed) → List DeedReply → List DeedReply
last_replies deeds replies = drop (length replies - length deeds) replies

-- A token has 1 to 10 digits.
abbrev pub is_token : List ℕ → Bool
is_token text = is_some (token_of text)

-- A synchronisation is answered with its object, a token of 1 to 10 digits, and as the last replies those to its deeds.
abbrev pub is_sync_answered : SyncAsk → SyncReply → Bool
is_sync_answered ask reply = same_object ask.object reply.object
    && (is_token reply.token && have_uids ask.deeds (last_replies ask.deeds reply.replies))

-- A statement is answered by a statement of its TRNUID, and a deed by a reply of its TRNUID and its family.
abbrev pub is_answered : Ask → AskReply → Bool
is_answered (asks.Statement trnuid account period) (replies.Statement uid code body) = bytes_eq trnuid uid
is_answered (asks.One trnuid deed) (replies.One reply) =
    bytes_eq trnuid reply.trnuid && same_family (family_of deed) reply.family
is_answered (asks.Sync ask) (replies.Sync reply) = is_sync_answered ask reply
is_answered ask reply = false

-- The number of the first ask that isn't answered by the reply at its position, or of the first position that one of both
-- lists lacks. They are numbered from this number on.
abbrev pub unanswered_from : ℕ → List Ask → List AskReply → Option ℕ
unanswered_from number [] [] = None
unanswered_from number (ask ∷ asks) (reply ∷ replies) =
    if is_answered ask reply then unanswered_from (number + 1) asks replies else Some number
unanswered_from number asks replies = Some number

-- The first that isn't answered, from 1.
unfoldable pub first_unanswered : List Ask → List AskReply → Option ℕ
first_unanswered asks replies = unanswered_from 1 asks replies
