use Rattle.std.proofs.Common.{arith}
use Rattle.file_register.proofs.Loading.{found_text, text_found, refused_at, fault_refused}
use Rattle.file_register.proofs.register.Register.load_text.Goals as goal

pub returns-clause-found : goal.returns-clause-found
returns-clause-found c =
    found_text c.args.bytes.now c.load.result (λ i. omega (arith, c.type_inv.bytes i)) (record { empty = c.load.ensures.empty; some = c.load.ensures.some })

pub returns-clause-only : goal.returns-clause-only
returns-clause-only c = λ lines is.
    text_found c.args.bytes.now c.load.result lines (record { empty = c.load.ensures.empty; some = c.load.ensures.some }) is

pub returns-clause-fault : goal.returns-clause-fault
returns-clause-fault c = λ at is. refused_at c.args.bytes.now c.load.result at (record { empty = c.load.ensures.empty; some = c.load.ensures.some }) is

pub returns-clause-faulty : goal.returns-clause-faulty
returns-clause-faulty c = λ at fault. fault_refused c.args.bytes.now c.load.result at (record { empty = c.load.ensures.empty; some = c.load.ensures.some }) fault
