-- What holds of the forms of statements: each is there exactly where it is read, and its faults have offsets.
use Rattle.std.specs.Prelude.{◌≡◌, ◌↔◌, ℕ, Ok}
use Rattle.ofx_types.specs.Nodes.{Item}
use Rattle.ofx_types.specs.RequestForm.{IsStatement}
use Rattle.ofx_types.specs.RequestReading.{statement_of}
use Rattle.ofx_types.specs.ReplyGrammar.{IsStatementReply}
use Rattle.ofx_types.specs.ReplyReading.{statement_reply_of}
use Rattle.ofx_types.specs.declared.request.Ask.{Ask}
use Rattle.ofx_types.specs.declared.reply.AskReply.{AskReply}
use Rattle.ofx_tree.specs.Located.{Holds, Any, IsWithin}

-- An ask is in a STMTTRNRQ exactly where reading gives it.
abbrev pub StatementsAreFound : Type 0
StatementsAreFound = (stmttrnrq : Item) (ask : Ask) → IsStatement stmttrnrq ask ↔ (statement_of stmttrnrq ≡ Ok ask)

-- The first fault of a STMTTRNRQ occurs at most where its last node does.
abbrev pub StatementFaultsHaveOffsets : Type 0
StatementFaultsHaveOffsets =
    (most : ℕ) (stmttrnrq : Item) → IsWithin most stmttrnrq → Holds most Any (statement_of stmttrnrq)

-- An answer is in a STMTTRNRS exactly where reading gives it.
abbrev pub StatementRepliesAreFound : Type 0
StatementRepliesAreFound =
    (stmttrnrs : Item) (reply : AskReply) → IsStatementReply stmttrnrs reply ↔ (statement_reply_of stmttrnrs ≡ Ok reply)

-- The first fault of a STMTTRNRS occurs at most where its last node does.
abbrev pub StatementReplyFaultsHaveOffsets : Type 0
StatementReplyFaultsHaveOffsets =
    (most : ℕ) (stmttrnrs : Item) → IsWithin most stmttrnrs → Holds most Any (statement_reply_of stmttrnrs)
