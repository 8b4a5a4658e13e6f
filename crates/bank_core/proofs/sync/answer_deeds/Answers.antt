use Rattle.std.proofs.Common.{◌≡◌, ap, ◌∙◌}
use Rattle.ofx_types.specs.declared.number.UserId.{UserId}
use Rattle.ofx_types.specs.declared.number.Moment.{Moment}
use Rattle.bank_model.specs.Deeds.{DeedAnswer, deed_answer}
use Rattle.bank_model.specs.Rules.{named_by_pair}
use Rattle.bank_model.specs.declared.setup.Setup.{Setup}
use Rattle.bank_ledger.specs.DraftView.{drafted}
use Rattle.bank_ledger.proofs.DraftStates.{IsSameFile-trans}
use Rattle.bank_core.proofs.AskAnswers.{AreHeld-one}
use Rattle.bank_core.proofs.SyncAnswers.{deed_here, deed_replies_more, deeds_after_more, deed_replies_end, deeds_after_end}
use Rattle.bank_core.proofs.sync.answer_deeds.Goals as goal

pub answer_deed-requires-clause-known : goal.answer_deed-requires-clause-known
answer_deed-requires-clause-known c = rw (c.loop-deed.invariant.file.user, c.loop-deed.invariant.file.setup) c.requires.known

pub answer_deed-requires-clause-deed : goal.answer_deed-requires-clause-deed
answer_deed-requires-clause-deed c = deed_here c.args.deeds.now c.loop-deed.deed-index c.deed-item.result c.requires.deeds c.loop-deed-test.true c.deed-item.is

pub answer_deed-requires-clause-named : goal.answer_deed-requires-clause-named
answer_deed-requires-clause-named c =
    rw (c.loop-deed.invariant.file.held, c.loop-deed.invariant.file.setup)
    (AreHeld-one (named_by_pair c.args.draft.now.setup) c.args.draft.now.held c.args.deeds.now c.loop-deed.deed-index c.deed-item.result c.requires.named c.loop-deed-test.true c.deed-item.is)

pub loop-deed-preserved : goal.loop-deed-preserved
loop-deed-preserved c =
    let file = c.loop-deed.invariant.file in
    let answers_as = λ (setup : Setup) (user : UserId) (at : Moment). deed_answer setup (drafted c.loop-deed.draft) user c.args.only at c.deed-item.result.0 c.deed-item.result.1 in
    let same : answers_as c.loop-deed.draft.setup c.loop-deed.draft.user c.loop-deed.draft.at ≡ answers_as c.args.draft.now.setup c.args.draft.now.user c.args.draft.now.at =
    ap (λ (setup : Setup). answers_as setup c.loop-deed.draft.user c.loop-deed.draft.at) file.setup ∙ ap (λ (user : UserId). answers_as c.args.draft.now.setup user c.loop-deed.draft.at) file.user ∙ ap (λ (at : Moment). answers_as c.args.draft.now.setup c.args.draft.now.user at) file.at in
    let reply = c.in_ok-reply.ensures.reply ∙ ap (λ (a : DeedAnswer). a.reply) same in
    let after = c.in_ok-reply.ensures.after ∙ ap (λ (a : DeedAnswer). a.after) same in
    record {
      replies = deed_replies_more c.args.draft.now.setup (drafted c.loop-deed.draft) (drafted c.answer_deed.new.draft) c.args.draft.now.user c.args.only c.args.draft.now.at c.args.deeds.now c.loop-deed.deed-index c.deed-item.result _ c.loop-deed.replies.items c.push.new.self.items c.in_ok-reply.reply c.loop-deed-test.true c.deed-item.is reply after c.in_ok-push.ensures.items c.loop-deed.invariant.replies;
      after = deeds_after_more c.args.draft.now.setup (drafted c.loop-deed.draft) (drafted c.answer_deed.new.draft) c.args.draft.now.user c.args.only c.args.draft.now.at c.args.deeds.now c.loop-deed.deed-index c.deed-item.result _ c.loop-deed-test.true c.deed-item.is after c.loop-deed.invariant.after;
      file = IsSameFile-trans c.args.draft.now c.loop-deed.draft c.answer_deed.new.draft file c.in_ok-reply.ensures.file;
    }

pub returns-clause-replies : goal.returns-clause-replies
returns-clause-replies c =
    deed_replies_end c.args.draft.now.setup (drafted c.loop-deed.draft) c.args.draft.now.user c.args.only c.args.draft.now.at c.args.deeds.now c.loop-deed.deed-index _ c.loop-deed.replies.items c.loop-deed-test.false c.loop-deed.invariant.replies

pub returns-clause-after : goal.returns-clause-after
returns-clause-after c =
    deeds_after_end c.args.draft.now.setup (drafted c.loop-deed.draft) c.args.draft.now.user c.args.only c.args.draft.now.at c.args.deeds.now c.loop-deed.deed-index _ c.loop-deed-test.false c.loop-deed.invariant.after
