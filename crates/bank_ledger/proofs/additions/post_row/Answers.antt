use Rattle.std.proofs.Common.{sym, ◌∙◌}
use Rattle.bank_ledger.proofs.PostingLemmas.{HoldsPostings-kept, HoldsPostings-posted, HoldsPostings-room}
use Rattle.bank_ledger.proofs.additions.post_row.Goals as goal

pub returns-then-not-is_posted-clause-ok : goal.returns-then-not-is_posted-clause-ok
returns-then-not-is_posted-clause-ok c = λ entries entry holds number posts.
    HoldsPostings-kept c.args.postings.now entries entry c.args.row.now holds posts (sym c.is_posted.ensures ∙ c.if-not-is_posted.true)

pub returns-clause-ok : goal.returns-clause-ok
returns-clause-ok c = λ entries entry holds number posts.
    HoldsPostings-posted c.reserve.new.self c.put.new.self entries entry c.args.row.now
    (HoldsPostings-room c.args.postings.now c.reserve.new.self entries c.reserve.ensures.holds holds)
    posts
    (sym c.is_posted.ensures ∙ c.if-not-is_posted.false)
    (λ posted holds gives. c.put.ensures.holds posted entry holds number (rw c.in_ok-copy.ensures gives))
