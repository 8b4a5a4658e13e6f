use Rattle.ofx_types.specs.FileForm.{SpellsFile, IsFaultOf}
use Rattle.ofx_file.proofs.Outcomes.{request_reads_so, reads_all, refuses_all}
use Rattle.ofx_file.proofs.request.reading.read_request.Goals as goal

pub returns-clause-all : goal.returns-clause-all
returns-clause-all c =
    reads_all SpellsFile IsFaultOf c.one_file.ensures c.faults_spell_nothing.ensures c.args.bytes.now c.read_file.result
    (request_reads_so c.args.bytes.now c.read_file.result c.read_file.ensures)

pub returns-clause-refuses : goal.returns-clause-refuses
returns-clause-refuses c =
    refuses_all SpellsFile IsFaultOf c.faults_spell_nothing.ensures c.one_fault.ensures c.args.bytes.now c.read_file.result
    (request_reads_so c.args.bytes.now c.read_file.result c.read_file.ensures)
