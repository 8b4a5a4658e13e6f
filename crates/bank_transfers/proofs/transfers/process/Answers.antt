use Rattle.std.proofs.Common.{◌++◌, sym, subst, ap, ◌∙◌}
use Rattle.std.proofs.lemmas.List.{append-nil}
use Rattle.std.specs.List.{All}
use Rattle.std.proofs.lemmas.List.Elements.{All-push}
use Rattle.bank_model.specs.Ledger.{Posting}
use Rattle.bank_transfers.specs.PostingsView.{IsPosted}
use Rattle.bank_transfers.specs.TransfersView.{row_settled}
use Rattle.bank_transfers.proofs.HeldLemmas.{closed_put, closed_out}
use Rattle.bank_transfers.proofs.RepresentsLemmas.{settled_closed, settled_posted, posting_if}
use Rattle.bank_transfers.proofs.transfers.process.Goals as goal

pub returns-then-is_posted-clause-rows : goal.returns-then-is_posted-clause-rows
returns-then-is_posted-clause-rows c id =
    ap (λ ps. row_settled c.remove_row.new.self.rows ps id) c.post.ensures.postings
    ∙ settled_posted c.args.number c.args.row c.args.closed.now.rows c.remove_row.new.self.rows c.args.postings.now.postings c.remove_row.ensures.found id

pub returns-then-is_posted-clause-postings : goal.returns-then-is_posted-clause-postings
returns-then-is_posted-clause-postings c =
    c.post.ensures.postings ∙ ap (λ ps. c.args.postings.now.postings ++ ps) (sym (posting_if c.args.number c.args.row _ (sym c.is_posted.ensures ∙ c.if-is_posted.true)))

pub returns-then-is_posted-clause-posted : goal.returns-then-is_posted-clause-posted
returns-then-is_posted-clause-posted c all =
    let last : Posting = record { number = c.args.number; row = c.args.row } in
    subst (All IsPosted) (sym c.post.ensures.postings) (All-push IsPosted c.args.postings.now.postings last all (c.requires.amount, sym c.is_posted.ensures ∙ c.if-is_posted.true))

pub returns-then-is_posted-clause-closed : goal.returns-then-is_posted-clause-closed
returns-then-is_posted-clause-closed c all =
    closed_out c.args.row.id c.args.closed.now.rows c.remove_row.new.self.rows c.remove_row.ensures.found all

pub returns-else-is_posted-clause-rows : goal.returns-else-is_posted-clause-rows
returns-else-is_posted-clause-rows c id =
    settled_closed c.args.row c.args.closed.now.rows c.put.new.self.rows c.args.postings.now.postings c.put.ensures.found id

pub returns-else-is_posted-clause-postings : goal.returns-else-is_posted-clause-postings
returns-else-is_posted-clause-postings c =
    sym (ap (λ ps. c.args.postings.now.postings ++ ps) (posting_if c.args.number c.args.row _ (sym c.is_posted.ensures ∙ c.if-is_posted.false)) ∙ append-nil c.args.postings.now.postings)

pub returns-else-is_posted-clause-closed : goal.returns-else-is_posted-clause-closed
returns-else-is_posted-clause-closed c all =
    closed_put c.args.row c.args.closed.now.rows c.put.new.self.rows c.put.ensures.found c.requires.waits all
