use Rattle.std.proofs.Common.{◌≡◌, ap, ◌∙◌}
use Rattle.ofx_types.specs.declared.number.UserId.{UserId}
use Rattle.ofx_types.specs.declared.number.Moment.{Moment}
use Rattle.bank_model.specs.Rules.{AskAnswer, ask_answer, named_by}
use Rattle.bank_model.specs.declared.setup.Setup.{Setup}
use Rattle.bank_ledger.specs.DraftView.{drafted}
use Rattle.bank_ledger.proofs.DraftStates.{IsSameFile-trans}
use Rattle.bank_core.proofs.AskAnswers.{AreHeld-one, replies_more, after_more, replies_end, after_end}
use Rattle.bank_core.proofs.ask.answer_asks.Goals as goal

pub answer_ask-requires-clause-named : goal.answer_ask-requires-clause-named
answer_ask-requires-clause-named c =
    rw (c.loop-ask.invariant.file.held, c.loop-ask.invariant.file.setup)
    (AreHeld-one (named_by c.args.draft.now.setup) c.args.draft.now.held c.args.asks.now c.loop-ask.ask-index c.ask-item.result c.requires.named c.loop-ask-test.true c.ask-item.is)

pub answer_ask-requires-clause-known : goal.answer_ask-requires-clause-known
answer_ask-requires-clause-known c = rw (c.loop-ask.invariant.file.user, c.loop-ask.invariant.file.setup) c.requires.known

pub loop-ask-preserved : goal.loop-ask-preserved
loop-ask-preserved c =
    let file = c.loop-ask.invariant.file in
    let answers_as = λ (setup : Setup) (user : UserId) (at : Moment). ask_answer setup (drafted c.loop-ask.draft) user at c.ask-item.result in
    let same : answers_as c.loop-ask.draft.setup c.loop-ask.draft.user c.loop-ask.draft.at ≡ answers_as c.args.draft.now.setup c.args.draft.now.user c.args.draft.now.at =
    ap (λ (setup : Setup). answers_as setup c.loop-ask.draft.user c.loop-ask.draft.at) file.setup ∙ ap (λ (user : UserId). answers_as c.args.draft.now.setup user c.loop-ask.draft.at) file.user ∙ ap (λ (at : Moment). answers_as c.args.draft.now.setup c.args.draft.now.user at) file.at in
    let reply = c.in_ok-reply.ensures.reply ∙ ap (λ (a : AskAnswer). a.reply) same in
    let after = c.in_ok-reply.ensures.after ∙ ap (λ (a : AskAnswer). a.after) same in
    record {
      replies = replies_more c.args.draft.now.setup (drafted c.loop-ask.draft) (drafted c.answer_ask.new.draft) c.args.draft.now.user c.args.draft.now.at c.args.asks.now c.loop-ask.ask-index c.ask-item.result _ c.loop-ask.replies.items c.push.new.self.items c.in_ok-reply.reply c.loop-ask-test.true c.ask-item.is reply after c.in_ok-push.ensures.items c.loop-ask.invariant.replies;
      after = after_more c.args.draft.now.setup (drafted c.loop-ask.draft) (drafted c.answer_ask.new.draft) c.args.draft.now.user c.args.draft.now.at c.args.asks.now c.loop-ask.ask-index c.ask-item.result _ c.loop-ask-test.true c.ask-item.is after c.loop-ask.invariant.after;
      file = IsSameFile-trans c.args.draft.now c.loop-ask.draft c.answer_ask.new.draft file c.in_ok-reply.ensures.file;
    }

pub returns-clause-replies : goal.returns-clause-replies
returns-clause-replies c =
    c.from_vec.ensures
    ∙ replies_end c.args.draft.now.setup (drafted c.loop-ask.draft) c.args.draft.now.user c.args.draft.now.at c.args.asks.now c.loop-ask.ask-index _ c.loop-ask.replies.items c.loop-ask-test.false c.loop-ask.invariant.replies

pub returns-clause-after : goal.returns-clause-after
returns-clause-after c =
    after_end c.args.draft.now.setup (drafted c.loop-ask.draft) c.args.draft.now.user c.args.draft.now.at c.args.asks.now c.loop-ask.ask-index _ c.loop-ask-test.false c.loop-ask.invariant.after
