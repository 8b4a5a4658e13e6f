use Rattle.std.proofs.Common.{refl, ap, subst}
use Rattle.ofx_types.specs.declared.transfer.DeedReply.{DeedReply}
use Rattle.ofx_types.specs.declared.reply.AskReply.TheVariants.{One, Sync}
use Rattle.ofx_types.specs.declared.sync.SyncReply.{SyncReply}
use Rattle.ofx_types.specs.declared.request.Ask.{Ask}
use Rattle.bank_model.specs.Sound.{IsSoundAsk}
use Rattle.bank_accounts.specs.HeldAccounts.{AreHeld}
use Rattle.bank_model.specs.Rules.{ask_answer, named_by}
use Rattle.bank_core.proofs.ask.answer_ask.Goals as goal

pub returns-in_ok-reply-in-Statement-clause-reply : goal.returns-in_ok-reply-in-Statement-clause-reply
unfolding ask_answer
returns-in_ok-reply-in-Statement-clause-reply c = rw c.in-Statement.is c.in_ok-reply-in-Statement.ensures

pub returns-in_ok-reply-in-Statement-clause-after : goal.returns-in_ok-reply-in-Statement-clause-after
unfolding ask_answer
returns-in_ok-reply-in-Statement-clause-after c = rw c.in-Statement.is refl

pub returns-in_ok-reply-in-One-clause-reply : goal.returns-in_ok-reply-in-One-clause-reply
unfolding ask_answer
returns-in_ok-reply-in-One-clause-reply c = rw c.in-One.is (ap (λ (reply : DeedReply). One reply) c.in_ok-reply-in-One.ensures.reply)

pub returns-in_ok-reply-in-One-clause-after : goal.returns-in_ok-reply-in-One-clause-after
unfolding ask_answer
returns-in_ok-reply-in-One-clause-after c = rw c.in-One.is c.in_ok-reply-in-One.ensures.after

pub sync-requires-clause-ask : goal.sync-requires-clause-ask
sync-requires-clause-ask c = subst IsSoundAsk c.in-Sync.is c.requires.ask

pub sync-requires-clause-named : goal.sync-requires-clause-named
sync-requires-clause-named c = subst (λ (ask : Ask). AreHeld c.args.draft.now.held (named_by c.args.draft.now.setup ask)) c.in-Sync.is c.requires.named

pub returns-in_ok-reply-in-Sync-clause-reply : goal.returns-in_ok-reply-in-Sync-clause-reply
unfolding ask_answer
returns-in_ok-reply-in-Sync-clause-reply c = rw c.in-Sync.is (ap (λ (reply : SyncReply). Sync reply) c.in_ok-reply-in-Sync.ensures.reply)

pub returns-in_ok-reply-in-Sync-clause-after : goal.returns-in_ok-reply-in-Sync-clause-after
unfolding ask_answer
returns-in_ok-reply-in-Sync-clause-after c = rw c.in-Sync.is c.in_ok-reply-in-Sync.ensures.after
