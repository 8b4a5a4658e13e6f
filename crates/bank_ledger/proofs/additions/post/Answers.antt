use Rattle.std.proofs.Common.{ap, ◌∙◌}
use Rattle.bank_model.specs.Ledger.{posting_of}
use Rattle.bank_ledger.specs.declared.row_change.RowChange.{RowChange}
use Rattle.bank_ledger.specs.Changes.{row_given_by}
use Rattle.bank_ledger.proofs.PostingLemmas.{HoldsPostings-nothing}
use Rattle.bank_ledger.proofs.additions.post.Goals as goal

pub returns-in-Model-clause-ok : goal.returns-in-Model-clause-ok
returns-in-Model-clause-ok c = λ entries entry holds number posts.
    HoldsPostings-nothing c.args.postings.now entries entry holds (posts ∙ ap (λ (row_change : RowChange). posting_of entry.number (row_given_by row_change)) c.in-Model.is)

pub returns-in-NoModel-clause-ok : goal.returns-in-NoModel-clause-ok
returns-in-NoModel-clause-ok c = λ entries entry holds number posts.
    HoldsPostings-nothing c.args.postings.now entries entry holds (posts ∙ ap (λ (row_change : RowChange). posting_of entry.number (row_given_by row_change)) c.in-NoModel.is)

pub returns-in-Mail-clause-ok : goal.returns-in-Mail-clause-ok
returns-in-Mail-clause-ok c = λ entries entry holds number posts.
    HoldsPostings-nothing c.args.postings.now entries entry holds (posts ∙ ap (λ (row_change : RowChange). posting_of entry.number (row_given_by row_change)) c.in-Mail.is)
