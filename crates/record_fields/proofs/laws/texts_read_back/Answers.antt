use Rattle.record_fields.proofs.TextLaws.{text_field, trnuid_field, file_uid_field}
use Rattle.record_fields.proofs.laws.texts_read_back.Goals as goal

pub returns : goal.returns
returns c = record { text = text_field; trnuid = trnuid_field; file_uid = file_uid_field }
