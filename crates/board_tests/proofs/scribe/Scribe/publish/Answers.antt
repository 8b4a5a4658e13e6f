use Rattle.std.proofs.Common.{◌∙◌, ◌++◌, ◌∷◌, [], List, ℕ, ap}
use Rattle.token_board.specs.Tokens.{numbers_in}
use Rattle.token_board.specs.Views.{WriterView}
use Rattle.board_tests.proofs.Numbers.{below_more}
use Rattle.board_tests.proofs.scribe.Scribe.publish.Goals as goal

pub invariant_of-self-clause-below : goal.invariant_of-self-clause-below
invariant_of-self-clause-below c =
    let start = c.args.self.now.board.now.start in
    let numbers : WriterView → List ℕ = λ writer. numbers_in start writer.log in
    below_more (numbers_in start c.args.self.now.writer.log) (numbers_in start c.note.new.self.log) c.args.self.now.last c.args.number
    (ap numbers c.note.ensures.kept
    ∙ (c.publish_answer.ensures.numbers ∙ (c.publish_effect.ensures.numbers ∙ ap (λ (l : List ℕ). l ++ c.args.number ∷ []) (ap numbers c.hear.ensures.same.0))))
    c.requires c.args.self.now.below
