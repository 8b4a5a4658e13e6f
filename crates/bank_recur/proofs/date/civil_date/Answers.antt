use Rattle.std.proofs.Common.{arith, ◌∙◌}
use Rattle.std.proofs.lemmas.Result.{IfOk-at_ok}
use Rattle.jiff_core.proofs.SignedLemmas.{signed_arith}
use Rattle.ofx_values.proofs.CivilLemmas.{civil_date_is}
use Rattle.bank_recur.proofs.date.civil_date.Goals as goal

pub returns : goal.returns
returns c = civil_date_is c.args.day.0 c.unwrap.result c.requires (IfOk-at_ok _ c.unwrap.ensures c.from_unix_epoch_day.ensures.value ∙ omega (arith, signed_arith))
