use Rattle.std.proofs.Common.{subst, arith}
use Rattle.record_fields.specs.Answers.{ReadsRecord}
use Rattle.event_codec.proofs.EventLaws.{is_found, is_nameless}
use Rattle.event_codec.proofs.RecordLaws.{record_again}
use Rattle.event_codec.proofs.event.read_event.Goals as goal

pub returns-clause-found : goal.returns-clause-found
returns-clause-found c = is_found c.args.rec.now c.read_record.result (λ i. omega (arith, c.type_inv.rec i)) c.read_record.ensures

pub returns-clause-nameless : goal.returns-clause-nameless
returns-clause-nameless c = is_nameless c.args.rec.now c.read_record.result (λ i. omega (arith, c.type_inv.rec i)) c.read_record.ensures

pub returns-clause-only : goal.returns-clause-only
returns-clause-only c = λ at event codes. subst (ReadsRecord c.read_record.result) (record_again c.args.rec.now at event codes) c.read_record.ensures
