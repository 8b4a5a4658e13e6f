-- What holds of the forms of mail: each is there exactly where it is read, and its faults have offsets.
use Rattle.std.specs.Prelude.{◌≡◌, ◌↔◌, ℕ, List, Ok}
use Rattle.ofx_types.specs.Nodes.{Item}
use Rattle.ofx_types.specs.MailForm.{IsMailDeed, IsMailReply}
use Rattle.ofx_types.specs.MailReading.{mail_deed_of, mail_reply_of}
use Rattle.ofx_types.specs.declared.transfer.Deed.{Deed}
use Rattle.ofx_types.specs.declared.transfer.DeedReply.{DeedReply}
use Rattle.ofx_tree.specs.Located.{Holds, Any, IsWithin}

-- A uid and a mail are in a transaction, a BANKMAILTRNRQ or a MAILTRNRQ, exactly where reading gives them.
abbrev pub MailsAreFound : Type 0
MailsAreFound =
    (transaction : Item) (trnuid : List ℕ) (deed : Deed)
    → IsMailDeed transaction trnuid deed ↔ (mail_deed_of transaction ≡ Ok (trnuid, deed))

-- The first fault of such a transaction occurs at most where its last node does.
abbrev pub MailFaultsHaveOffsets : Type 0
MailFaultsHaveOffsets = (most : ℕ) (transaction : Item) → IsWithin most transaction → Holds most Any (mail_deed_of transaction)

-- An answer is in one, a BANKMAILTRNRS or a MAILTRNRS, exactly where reading gives it.
abbrev pub MailRepliesAreFound : Type 0
MailRepliesAreFound =
    (transaction : Item) (reply : DeedReply) → IsMailReply transaction reply ↔ (mail_reply_of transaction ≡ Ok reply)

-- The first fault of such a transaction occurs at most where its last node does.
abbrev pub MailReplyFaultsHaveOffsets : Type 0
MailReplyFaultsHaveOffsets =
    (most : ℕ) (transaction : Item) → IsWithin most transaction → Holds most Any (mail_reply_of transaction)
