use Rattle.std.proofs.Common.{refl}
use Rattle.std.specs.Fmt.{digits}
use Rattle.bank_model.specs.SetupForm.{lines_of}
use Rattle.ofx_world.specs.Rehearsal.{rehearsed_setup}
use Rattle.ofx_world.proofs.rehearsal.bank.setup_bytes.Goals as goal

pub returns-clause-lines : goal.returns-clause-lines
unfolding rehearsed_setup lines_of digits
returns-clause-lines c = refl
