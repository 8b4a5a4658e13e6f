-- What holds of the forms of signon: each is there exactly where it is read, and its faults have offsets.
use Rattle.std.specs.Prelude.{◌≡◌, ◌↔◌, ℕ, List, Ok}
use Rattle.ofx_types.specs.Nodes.{Item}
use Rattle.ofx_types.specs.RequestForm.{IsSignon}
use Rattle.ofx_types.specs.RequestReading.{signon_of}
use Rattle.ofx_types.specs.ReplyGrammar.{IsSignonReply}
use Rattle.ofx_types.specs.ReplyReading.{signon_reply_of}
use Rattle.ofx_types.specs.declared.number.Moment.{Moment}
use Rattle.ofx_tree.specs.Located.{IsWithin, Holds, Any}

-- A user's name and password are in a SONRQ exactly where reading gives them.
abbrev pub SignonsAreFound : Type 0
SignonsAreFound = (sonrq : Item) (user pass : List ℕ) → IsSignon sonrq user pass ↔ (signon_of sonrq ≡ Ok (user, pass))

-- The first fault of a SONRQ occurs at most where its last node does.
abbrev pub SignonFaultsHaveOffsets : Type 0
SignonFaultsHaveOffsets = (most : ℕ) (sonrq : Item) → IsWithin most sonrq → Holds most Any (signon_of sonrq)

-- A code and a moment are in a SONRS exactly where reading gives them.
abbrev pub SignonRepliesAreFound : Type 0
SignonRepliesAreFound =
    (sonrs : Item) (code : ℕ) (moment : Moment) → IsSignonReply sonrs code moment ↔ (signon_reply_of sonrs ≡ Ok (code, moment))

-- The first fault of a SONRS occurs at most where its last node does.
abbrev pub SignonReplyFaultsHaveOffsets : Type 0
SignonReplyFaultsHaveOffsets = (most : ℕ) (sonrs : Item) → IsWithin most sonrs → Holds most Any (signon_reply_of sonrs)
