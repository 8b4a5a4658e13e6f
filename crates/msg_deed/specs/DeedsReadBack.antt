-- Deeds and the answers to them read back as they were written.
use Rattle.std.specs.Prelude.{◌≡◌, ℕ, ◌<◌, List, Ok}
use Rattle.ofx_types.specs.DeedForm.{family_of, request_name, reply_name}
use Rattle.ofx_types.specs.DeedReading.{deed_of, deed_reply_of}
use Rattle.ofx_types.specs.DeedText.{deed_text, deed_reply_text}
use Rattle.ofx_types.specs.Wire.{wire}
use Rattle.ofx_types.specs.declared.transfer.Deed.{Deed}
use Rattle.ofx_types.specs.declared.transfer.DeedReply.{DeedReply}
use Rattle.ofx_tree.specs.Documents.{Documents, branch, AreLawful, branch_item}
use Rattle.msg_parts.specs.PartDocuments.{IsReadAlone}
use Rattle.msg_parts.specs.DeedDocuments.{deed_documents, deed_reply_documents}
use Rattle.msg_deed.specs.SoundDeeds.{IsSoundDeedRequest, IsSoundDeedReply}

-- The documents of a sound deed are lawful.
abbrev pub DeedsAreLawful : Type 0
DeedsAreLawful =
    (room : ℕ) (trnuid : List ℕ) (deed : Deed) (rest : Documents)
    → 4 < room → IsSoundDeedRequest trnuid deed → AreLawful room rest
    → AreLawful room (branch (request_name (family_of deed)) (deed_documents trnuid deed) rest)

-- Wherever they are, the uid and the deed are read from them.
abbrev pub DeedsReadBack : Type 0
DeedsReadBack =
    (offset index : ℕ) (trnuid : List ℕ) (deed : Deed) → IsSoundDeedRequest trnuid deed
    → deed_of (branch_item offset index (request_name (family_of deed)) (deed_documents trnuid deed)) ≡ Ok (trnuid, deed)

-- So a sound deed that is written alone reads back.
abbrev pub DeedsReadBackAlone : Type 0
DeedsReadBackAlone =
    (trnuid : List ℕ) (deed : Deed) → IsSoundDeedRequest trnuid deed
    → IsReadAlone (request_name (family_of deed)) (deed_text trnuid deed) deed_of (trnuid, deed)

abbrev pub DeedRepliesAreLawful : Type 0
DeedRepliesAreLawful =
    (room : ℕ) (reply : DeedReply) (rest : Documents)
    → 4 < room → IsSoundDeedReply reply → AreLawful room rest
    → AreLawful room (branch (reply_name reply.family) (deed_reply_documents reply.trnuid reply.code reply.change) rest)

abbrev pub DeedRepliesReadBack : Type 0
DeedRepliesReadBack =
    (offset index : ℕ) (reply : DeedReply) → IsSoundDeedReply reply
    → deed_reply_of (branch_item offset index (reply_name reply.family) (deed_reply_documents reply.trnuid reply.code reply.change))
    ≡ Ok (wire reply)

abbrev pub DeedRepliesReadBackAlone : Type 0
DeedRepliesReadBackAlone =
    (reply : DeedReply) → IsSoundDeedReply reply
    → IsReadAlone (reply_name reply.family) (deed_reply_text reply) deed_reply_of (wire reply)
