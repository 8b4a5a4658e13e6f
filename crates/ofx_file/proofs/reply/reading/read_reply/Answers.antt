use Rattle.ofx_types.specs.FileForm.{SpellsReply, IsReplyFaultOf}
use Rattle.ofx_file.proofs.Outcomes.{reply_reads_so, reads_all, refuses_all}
use Rattle.ofx_file.proofs.reply.reading.read_reply.Goals as goal

pub returns-clause-all : goal.returns-clause-all
returns-clause-all c =
    reads_all SpellsReply IsReplyFaultOf c.one_reply.ensures c.faults_spell_no_reply.ensures c.args.bytes.now c.read_file.result
    (reply_reads_so c.args.bytes.now c.read_file.result c.read_file.ensures)

pub returns-clause-refuses : goal.returns-clause-refuses
returns-clause-refuses c =
    refuses_all SpellsReply IsReplyFaultOf c.faults_spell_no_reply.ensures c.one_reply_fault.ensures c.args.bytes.now c.read_file.result
    (reply_reads_so c.args.bytes.now c.read_file.result c.read_file.ensures)
