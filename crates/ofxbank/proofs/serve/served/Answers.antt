use denote.Exit.{no, unseen}
use denote.Param.Send.{Quiet-if}
use mir.Syntax.{of_param}
use Rattle.sqlite_keeper.proofs.Sending.{keeper_send}
use Rattle.sqlite_keeper.specs.contracts.keeper.SqliteKeeper.{the_row}
use Rattle.ofxbank.proofs.serve.served.Goals as goal

-- after the call nothing of the keeper is seen
pub served_over-requires-in-None-strip_prefix-send-K : goal.served_over-requires-in-None-strip_prefix-send-K
served_over-requires-in-None-strip_prefix-send-K g c κs within = record {
  owned = keeper_send.owned;
  leaving = λ k. Quiet-if (k (of_param 1)) (the_row.exit no) unseen (keeper_send.leaving no) (λ x w. tt);
}
