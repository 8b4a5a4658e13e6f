use Rattle.client_arguments.proofs.payment.amount_of.Goals as goal

pub returns-in-Err : goal.returns-in-Err
returns-in-Err c cents is = c.in-Err.ensures.nothing cents.0 (rw c.as_bytes.ensures.bytes is)
