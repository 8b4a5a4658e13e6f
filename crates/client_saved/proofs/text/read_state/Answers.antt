use Rattle.std.proofs.Common.{arith}
use Rattle.client_saved.proofs.StateLaws.{found_was_saved, saved_is_found, refused_at_fault, fault_is_refused}
use Rattle.client_saved.proofs.text.read_state.Goals as goal

pub returns-clause-found : goal.returns-clause-found
returns-clause-found c = found_was_saved c.args.text.now c.read_text.result (λ i. omega (arith, c.type_inv.text i)) c.read_text.ensures

pub returns-clause-only : goal.returns-clause-only
returns-clause-only c = λ state saved. saved_is_found c.args.text.now c.read_text.result state c.read_text.ensures saved

pub returns-clause-fault : goal.returns-clause-fault
returns-clause-fault c = λ at is. refused_at_fault c.args.text.now c.read_text.result at c.read_text.ensures is

pub returns-clause-faulty : goal.returns-clause-faulty
returns-clause-faulty c = λ at fault. fault_is_refused c.args.text.now c.read_text.result at c.read_text.ensures fault
