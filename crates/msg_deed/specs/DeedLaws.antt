-- What holds of the forms of deeds and of the answers to them: each is there exactly where it is read, and its faults
-- have offsets.
use Rattle.std.specs.Prelude.{◌≡◌, ◌↔◌, ℕ, List, Ok}
use Rattle.ofx_types.specs.Nodes.{Item}
use Rattle.ofx_types.specs.DeedForm.{IsDeed, IsDeedReply}
use Rattle.ofx_types.specs.DeedReading.{deed_of, deed_reply_of}
use Rattle.ofx_types.specs.declared.transfer.Deed.{Deed}
use Rattle.ofx_types.specs.declared.transfer.DeedReply.{DeedReply}
use Rattle.ofx_tree.specs.Located.{Holds, Any, IsWithin}

-- A uid and a deed are in a transaction, an INTRATRNRQ or a RECINTRATRNRQ, exactly where reading gives them.
abbrev pub DeedsAreFound : Type 0
DeedsAreFound =
    (transaction : Item) (trnuid : List ℕ) (deed : Deed)
    → IsDeed transaction trnuid deed ↔ (deed_of transaction ≡ Ok (trnuid, deed))

-- The first fault of such a transaction occurs at most where its last node does.
abbrev pub DeedFaultsHaveOffsets : Type 0
DeedFaultsHaveOffsets = (most : ℕ) (transaction : Item) → IsWithin most transaction → Holds most Any (deed_of transaction)

-- An answer is in one, an INTRATRNRS or a RECINTRATRNRS, exactly where reading gives it. A changed transfer is read with
-- model 0, since its reply doesn't say which recurring transfer made it.
abbrev pub DeedRepliesAreFound : Type 0
DeedRepliesAreFound =
    (transaction : Item) (reply : DeedReply) → IsDeedReply transaction reply ↔ (deed_reply_of transaction ≡ Ok reply)

-- The first fault of such a transaction occurs at most where its last node does.
abbrev pub DeedReplyFaultsHaveOffsets : Type 0
DeedReplyFaultsHaveOffsets =
    (most : ℕ) (transaction : Item) → IsWithin most transaction → Holds most Any (deed_reply_of transaction)
