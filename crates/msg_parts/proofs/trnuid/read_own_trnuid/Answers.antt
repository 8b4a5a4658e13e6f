use Rattle.std.proofs.Common.{rules}
use Rattle.msg_parts.proofs.Uids.{trnuid_is}
use Rattle.msg_parts.proofs.trnuid.read_own_trnuid.Goals as goal

pub returns-in_err-child : goal.returns-in_err-child
returns-in_err-child c = rw (trnuid_is c.args.wrapper.now) (search rules)

pub returns-in_err-trnuid_at : goal.returns-in_err-trnuid_at
returns-in_err-trnuid_at c = rw (trnuid_is c.args.wrapper.now) (search rules)

pub returns : goal.returns
returns c = rw (trnuid_is c.args.wrapper.now) (search rules)
