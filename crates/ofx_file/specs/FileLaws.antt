-- The laws of the forms of requests and replies: each holds exactly where reading gives it, and its faults have offsets.
use Rattle.std.specs.Prelude.{◌≡◌, ◌↔◌, ℕ, Ok}
use Rattle.ofx_types.specs.Nodes.{Item}
use Rattle.ofx_types.specs.MessageForm.{IsRequest, IsReply}
use Rattle.ofx_types.specs.MessageReading.{RequestParts, request_of, ReplyParts, reply_of}
use Rattle.ofx_tree.specs.Located.{IsWithin, Holds, Any}

-- What a request says is in OFX exactly where reading gives it.
abbrev pub RequestsAreFound : Type 0
RequestsAreFound = (ofx : Item) (parts : RequestParts) → IsRequest ofx parts.user parts.pass parts.asks ↔ (request_of ofx ≡ Ok parts)

-- The first fault of a request occurs at most where the last node of OFX does.
abbrev pub RequestFaultsHaveOffsets : Type 0
RequestFaultsHaveOffsets = (most : ℕ) (ofx : Item) → IsWithin most ofx → Holds most Any (request_of ofx)

-- The same of replies.
abbrev pub RepliesAreFound : Type 0
RepliesAreFound = (ofx : Item) (parts : ReplyParts) → IsReply ofx parts.signon parts.moment parts.replies ↔ (reply_of ofx ≡ Ok parts)

abbrev pub ReplyFaultsHaveOffsets : Type 0
ReplyFaultsHaveOffsets = (most : ℕ) (ofx : Item) → IsWithin most ofx → Holds most Any (reply_of ofx)
