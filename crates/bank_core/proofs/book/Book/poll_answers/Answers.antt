use Rattle.std.proofs.Common.{◌++◌, [], sym, ap, ◌∙◌}
use Rattle.std.proofs.lemmas.List.{append-nil}
use Rattle.std.proofs.lemmas.Grind.{flat_map-append}
use Rattle.std.specs.List.{flat_map}
use Rattle.bank_model.specs.Polls.{poll_answer}
use Rattle.bank_queries.proofs.HistoryLemmas.{part_more, part_ended}
use Rattle.bank_core.proofs.book.Book.poll_answers.Goals as goal

pub loop-ask-init : goal.loop-ask-init
loop-ask-init g c = c.in_ok-replies.ensures.items

pub loop-ask-preserved : goal.loop-ask-preserved
loop-ask-preserved g c =
    part_more (flat_map (poll_answer c.args.self.now.setup c.args.self.now.state c.args.user)) c.args.asks.now c.loop-ask.ask-index c.ask-item.result [] c.loop-ask.replies.items c.answer_poll.new.replies.items (flat_map-append (poll_answer c.args.self.now.setup c.args.self.now.state c.args.user)) c.loop-ask-test.true c.ask-item.is c.loop-ask.invariant (c.in_ok-answer_poll.ensures ∙ ap (λ l. c.loop-ask.replies.items ++ l) (sym (append-nil (poll_answer c.args.self.now.setup c.args.self.now.state c.args.user c.ask-item.result))))

pub returns : goal.returns
returns g c =
    c.from_vec.ensures
    ∙ part_ended (flat_map (poll_answer c.args.self.now.setup c.args.self.now.state c.args.user)) c.args.asks.now c.loop-ask.ask-index [] c.loop-ask.replies.items c.loop-ask-test.false c.loop-ask.invariant
