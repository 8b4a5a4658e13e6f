-- Mails and the answers to them read back as they were written. The documents that they are written as are those of every
-- deed.
use Rattle.std.specs.Prelude.{◌≡◌, ℕ, ◌<◌, List, Ok}
use Rattle.ofx_types.specs.DeedForm.{family_of, request_name, reply_name}
use Rattle.ofx_types.specs.DeedText.{deed_text, deed_reply_text}
use Rattle.ofx_types.specs.MailReading.{mail_deed_of, mail_reply_of}
use Rattle.ofx_types.specs.declared.transfer.Deed.{Deed}
use Rattle.ofx_types.specs.declared.transfer.DeedReply.{DeedReply}
use Rattle.ofx_tree.specs.Documents.{Documents, AreLawful, branch, branch_item}
use Rattle.msg_parts.specs.PartDocuments.{IsReadAlone}
use Rattle.msg_parts.specs.DeedDocuments.{deed_documents, deed_reply_documents}
use Rattle.msg_mail.specs.SoundMails.{IsSoundMailRequest, IsSoundMailReply}

-- The documents of a sound mail are lawful.
abbrev pub MailsAreLawful : Type 0
MailsAreLawful =
    (room : ℕ) (trnuid : List ℕ) (deed : Deed) (rest : Documents)
    → 2 < room → IsSoundMailRequest trnuid deed → AreLawful room rest
    → AreLawful room (branch (request_name (family_of deed)) (deed_documents trnuid deed) rest)

-- Wherever they are, the uid and the mail are read from them.
abbrev pub MailsReadBack : Type 0
MailsReadBack =
    (offset index : ℕ) (trnuid : List ℕ) (deed : Deed) → IsSoundMailRequest trnuid deed
    → mail_deed_of (branch_item offset index (request_name (family_of deed)) (deed_documents trnuid deed)) ≡ Ok (trnuid, deed)

-- So a sound mail that is written alone reads back.
abbrev pub MailsReadBackAlone : Type 0
MailsReadBackAlone =
    (trnuid : List ℕ) (deed : Deed) → IsSoundMailRequest trnuid deed
    → IsReadAlone (request_name (family_of deed)) (deed_text trnuid deed) mail_deed_of (trnuid, deed)

-- The same of the answers to mails.
abbrev pub MailRepliesAreLawful : Type 0
MailRepliesAreLawful =
    (room : ℕ) (reply : DeedReply) (rest : Documents)
    → 2 < room → IsSoundMailReply reply → AreLawful room rest
    → AreLawful room (branch (reply_name reply.family) (deed_reply_documents reply.trnuid reply.code reply.change) rest)

abbrev pub MailRepliesReadBack : Type 0
MailRepliesReadBack =
    (offset index : ℕ) (reply : DeedReply) → IsSoundMailReply reply
    → mail_reply_of (branch_item offset index (reply_name reply.family) (deed_reply_documents reply.trnuid reply.code reply.change))
    ≡ Ok reply

abbrev pub MailRepliesReadBackAlone : Type 0
MailRepliesReadBackAlone =
    (reply : DeedReply) → IsSoundMailReply reply
    → IsReadAlone (reply_name reply.family) (deed_reply_text reply) mail_reply_of reply
