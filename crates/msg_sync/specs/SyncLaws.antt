-- What holds of the forms of synchronisation and of the transactions in it: each is there exactly where it is read, and its
-- faults have offsets.
use Rattle.std.specs.Prelude.{◌≡◌, ◌↔◌, ℕ, List, Ok}
use Rattle.ofx_types.specs.Nodes.{Item}
use Rattle.ofx_types.specs.SyncForm.{IsTransaction, IsTransactionReply, IsSync, IsSyncReply}
use Rattle.ofx_types.specs.SyncReading.{transaction_of, transaction_reply_of, sync_of, sync_reply_of}
use Rattle.ofx_types.specs.declared.transfer.Deed.{Deed}
use Rattle.ofx_types.specs.declared.transfer.DeedReply.{DeedReply}
use Rattle.ofx_types.specs.declared.sync.SyncAsk.{SyncAsk}
use Rattle.ofx_types.specs.declared.sync.SyncReply.{SyncReply}
use Rattle.ofx_tree.specs.Located.{Holds, Any, IsWithin}

-- A uid and a deed are in a transaction exactly where reading gives them.
abbrev pub TransactionsAreFound : Type 0
TransactionsAreFound =
    (transaction : Item) (deed : List ℕ × Deed) → IsTransaction transaction deed ↔ (transaction_of transaction ≡ Ok deed)

-- The first fault of a transaction occurs at most where its last node does.
abbrev pub TransactionFaultsHaveOffsets : Type 0
TransactionFaultsHaveOffsets =
    (most : ℕ) (transaction : Item) → IsWithin most transaction → Holds most Any (transaction_of transaction)

-- The same of the answers to transactions.
abbrev pub TransactionRepliesAreFound : Type 0
TransactionRepliesAreFound =
    (transaction : Item) (reply : DeedReply) → IsTransactionReply transaction reply ↔ (transaction_reply_of transaction ≡ Ok reply)

abbrev pub TransactionReplyFaultsHaveOffsets : Type 0
TransactionReplyFaultsHaveOffsets =
    (most : ℕ) (transaction : Item) → IsWithin most transaction → Holds most Any (transaction_reply_of transaction)

-- An ask is in a synchronisation exactly where reading gives it.
abbrev pub SyncsAreFound : Type 0
SyncsAreFound =
    (sync : Item) (ask : SyncAsk) → IsSync sync ask ↔ (sync_of sync ≡ Ok ask)

-- The first fault of a synchronisation occurs at most where its last node does.
abbrev pub SyncFaultsHaveOffsets : Type 0
SyncFaultsHaveOffsets = (most : ℕ) (sync : Item) → IsWithin most sync → Holds most Any (sync_of sync)

-- An answer is in the reply to a synchronisation exactly where reading gives it.
abbrev pub SyncRepliesAreFound : Type 0
SyncRepliesAreFound =
    (sync : Item) (reply : SyncReply) → IsSyncReply sync reply ↔ (sync_reply_of sync ≡ Ok reply)

-- The first fault of such a reply occurs at most where its last node does.
abbrev pub SyncReplyFaultsHaveOffsets : Type 0
SyncReplyFaultsHaveOffsets = (most : ℕ) (sync : Item) → IsWithin most sync → Holds most Any (sync_reply_of sync)
