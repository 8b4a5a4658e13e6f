use Rattle.std.proofs.Common.{None, refl}
use Rattle.ofx_ports.proofs.KnownLaws.{Grows-nil}
use Rattle.bank_connection.proofs.Answered.{misspelled_is, no_memory_is}
use Rattle.bank_connection.proofs.answer.misspelled.Goals as goal

pub returns-in-Ok : goal.returns-in-Ok
returns-in-Ok c setup body shown known is = misspelled_is setup body c.args.offset shown known _ is (refl, c.in-Ok.ensures, refl)

pub returns-in-Err : goal.returns-in-Err
returns-in-Err c setup body shown known is = no_memory_is setup body None shown shown known tt (Grows-nil shown)
