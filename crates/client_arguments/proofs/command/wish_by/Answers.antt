use Rattle.client_arguments.proofs.command.wish_by.Goals as goal

pub returns-in-Sync : goal.returns-in-Sync
returns-in-Sync c = rw c.in-Sync.is c.sync_of.ensures

pub returns-in-Transfer : goal.returns-in-Transfer
returns-in-Transfer c = rw c.in-Transfer.is c.transfer_wish.ensures

pub returns-in-Modify : goal.returns-in-Modify
returns-in-Modify c = rw c.in-Modify.is c.modify_of.ensures

pub returns-in-Cancel : goal.returns-in-Cancel
returns-in-Cancel c = rw c.in-Cancel.is (c.cancel_of.ensures c.args.bank.now)

pub returns-in-Repeat : goal.returns-in-Repeat
returns-in-Repeat c = rw c.in-Repeat.is c.repeat_wish.ensures

pub returns-in-Stop : goal.returns-in-Stop
returns-in-Stop c = rw c.in-Stop.is (c.stop_of.ensures c.args.bank.now)

pub returns-in-Mail : goal.returns-in-Mail
returns-in-Mail c = rw c.in-Mail.is (c.mail_of.ensures c.args.bank.now)

pub returns-in-Check : goal.returns-in-Check
returns-in-Check c = rw c.in-Check.is c.check_of.ensures

pub returns-in-Show : goal.returns-in-Show
returns-in-Show c = rw c.in-Show.is (c.show_of.ensures c.args.bank.now)
