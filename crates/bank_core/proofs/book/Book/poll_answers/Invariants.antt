use Rattle.std.proofs.Common.{◌≡◌, take}
use Rattle.std.specs.List.{flat_map}
use Rattle.bank_model.specs.Polls.{poll_answer}
use Rattle.bank_core.proofs.book.Book.poll_answers.Given as goal

abbrev pub invariant-loop-ask : goal.invariant-loop-ask
invariant-loop-ask g l = l.replies.items ≡ flat_map (poll_answer l.self.setup l.self.state l.user) (take l.ask-index l.asks)
