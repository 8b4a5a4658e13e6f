use Rattle.bank_connection.proofs.PollReported.{newest_are_loads, newest_reported, newest_fresh}
use Rattle.bank_connection.proofs.NewestHold.{all_hold}
use Rattle.bank_connection.proofs.laws.newest_are_reported.Goals as goal

pub returns : goal.returns
returns c setup S user at file =
    (newest_are_loads setup S user file, newest_reported setup S user at file, newest_fresh setup S user file.asks, all_hold setup S user file.asks)
