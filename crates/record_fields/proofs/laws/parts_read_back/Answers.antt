use Rattle.record_fields.proofs.PartLaws.{acct_field, recur_field, mail_field}
use Rattle.record_fields.proofs.laws.parts_read_back.Goals as goal

pub returns : goal.returns
returns c = record { acct = acct_field; recur = recur_field; mail = mail_field }
