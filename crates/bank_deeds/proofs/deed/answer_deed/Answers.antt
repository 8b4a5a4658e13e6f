use Rattle.std.proofs.Common.{sym, ◌∙◌, arith}
use Rattle.bank_ledger.specs.DraftView.{drafted}
use Rattle.bank_deeds.proofs.DeedAnswers.{refused_reply-is, refused_after-is, again_after-is, unused-code}
use Rattle.bank_deeds.proofs.deed.answer_deed.Goals as goal

pub returns-in-2019-clause-reply : goal.returns-in-2019-clause-reply
returns-in-2019-clause-reply c =
    c.in_ok-reply-in-2019.ensures ∙ refused_reply-is c.args.draft.now.setup (drafted c.args.draft.now) c.args.draft.now.user c.args.only c.args.draft.now.at c.args.trnuid.now c.args.deed.now 2019 (sym c.code.ensures ∙ c.in-2019.is) (omega arith)

pub returns-in-2019-clause-after : goal.returns-in-2019-clause-after
returns-in-2019-clause-after c = again_after-is c.args.draft.now c.args.only c.args.trnuid.now c.args.deed.now (sym c.code.ensures ∙ c.in-2019.is)

pub returns-clause-reply : goal.returns-clause-reply
returns-clause-reply c =
    c.in_ok-reply-in_default.ensures ∙ refused_reply-is c.args.draft.now.setup (drafted c.args.draft.now) c.args.draft.now.user c.args.only c.args.draft.now.at c.args.trnuid.now c.args.deed.now c.code.result (sym c.code.ensures) (omega arith)

pub returns-clause-after : goal.returns-clause-after
returns-clause-after c =
    rw (c.in_ok-use_up-in_default.ensures, c.in_ok-uid-in_default.ensures)
    (refused_after-is c.args.draft.now c.args.only c.args.trnuid.now c.args.deed.now c.code.result (sym c.code.ensures) (omega arith) (omega arith))

pub use_up-requires : goal.use_up-requires
use_up-requires c =
    rw c.in_ok-uid-in_default.ensures
    (unused-code c.args.draft.now.setup (drafted c.args.draft.now) c.args.draft.now.user c.args.only c.args.draft.now.at c.args.trnuid.now c.args.deed.now c.code.result (sym c.code.ensures) (omega arith))
