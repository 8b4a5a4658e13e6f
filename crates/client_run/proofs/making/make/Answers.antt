use Rattle.std.proofs.Common.{Ok, Err}
use Rattle.client_run.proofs.Made.{made_none, made_and_kept}
use Rattle.client_run.proofs.making.make.Goals as goal

pub returns-in-Err-clause-makes : goal.returns-in-Err-clause-makes
returns-in-Err-clause-makes g c =
    made_none c.args.wish.now c.args.client.now c.make_file.new.self _ _ _ c.now-at.result c.in-Err.fault c.now-at.ensures.shown
    c.in-Err.ensures.refusal c.in-Err.ensures.err

pub returns-in-Ok-clause-makes : goal.returns-in-Ok-clause-makes
returns-in-Ok-clause-makes g c =
    made_and_kept c.args.wish.now c.args.client.now c.make_file.new.self _ _ _ _ c.now-at.result (Ok tt) c.now-at.ensures.shown
    c.in_default.ensures.made c.in-Ok.ensures

pub returns-in-Err-save-clause-makes : goal.returns-in-Err-save-clause-makes
returns-in-Err-save-clause-makes g c =
    made_and_kept c.args.wish.now c.args.client.now c.make_file.new.self _ _ _ _ c.now-at.result (Err c.in-Err-save.fault) c.now-at.ensures.shown
    c.in_default.ensures.made c.in-Err-save.ensures
