use Rattle.bank_session.proofs.laws.runs_keep_the_books.Goals as goal

pub returns : goal.returns
returns c = λ setup records start state turns within before are.
    c.reopened_books_are_right.ensures setup _ state within (c.runs_reopen.ensures setup records start state turns before are)
