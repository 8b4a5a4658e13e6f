-- Deeds and the answers to them that are written alone between the tags of OFX read back.
use Rattle.std.proofs.Common.{◌∙◌, arith, append-nil}
use Rattle.ofx_types.specs.DeedForm.{family_of, request_name, reply_name}
use Rattle.ofx_types.specs.DeedReading.{deed_of, deed_reply_of}
use Rattle.ofx_types.specs.DeedText.{deed_text, deed_reply_text}
use Rattle.ofx_types.specs.Wire.{wire}
use Rattle.ofx_tree.specs.Documents.{empty}
use Rattle.msg_parts.specs.DeedDocuments.{deed_documents, deed_reply_documents, DeedsAreDocuments, DeedRepliesAreDocuments}
use Rattle.msg_parts.proofs.Alone.{read_alone}
use Rattle.msg_deed.specs.DeedsReadBack.{DeedsReadBackAlone, DeedRepliesReadBackAlone}
use Rattle.msg_deed.proofs.Lawful.{deeds_lawful, deed_replies_lawful}
use Rattle.msg_deed.proofs.DeedsBack.{deeds_back}
use Rattle.msg_deed.proofs.DeedRepliesBack.{deed_replies_back}

pub deeds_alone : DeedsAreDocuments → DeedsReadBackAlone
deeds_alone printed trnuid deed d =
    read_alone (request_name (family_of deed)) (deed_text trnuid deed) (deed_documents trnuid deed) deed_of (trnuid, deed)
    (printed trnuid deed empty ∙ append-nil (deed_text trnuid deed))
    (deeds_lawful 15 trnuid deed empty (omega arith) d tt)
    (λ offset index. deeds_back offset index trnuid deed d)

pub deed_replies_alone : DeedRepliesAreDocuments → DeedRepliesReadBackAlone
deed_replies_alone printed reply r =
    read_alone (reply_name reply.family) (deed_reply_text reply) (deed_reply_documents reply.trnuid reply.code reply.change) deed_reply_of (wire reply)
    (printed reply empty ∙ append-nil (deed_reply_text reply))
    (deed_replies_lawful 15 reply empty (omega arith) r tt)
    (λ offset index. deed_replies_back offset index reply r)
