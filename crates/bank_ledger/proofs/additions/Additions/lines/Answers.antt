use Rattle.std.proofs.Common.{◌++◌, List, ap, ◌∙◌}
use Rattle.ofx_types.specs.declared.reply.StatementLine.{StatementLine}
use Rattle.bank_model.specs.Ledger.{lines_of, moved}
use Rattle.bank_ledger.specs.DraftView.{AddedView}
use Rattle.bank_ledger.proofs.PostingLemmas.{lines_drafted}
use Rattle.bank_ledger.proofs.additions.Additions.lines.Goals as goal

pub returns : goal.returns
returns c =
    c.in_ok-lines.ensures
    ∙ ap (λ (lines : List StatementLine). lines ++ c.in_ok-more.more) c.in_ok-before.ensures
    ∙ lines_drafted c.self.inside.postings c.args.name.now c.args.period.0 c.args.period.1 c.args.ledger.now.state.entries c.self.inside.entries.items c.in_ok-more.more c.self.invariant c.in_ok-more.ensures
    ∙ ap (λ (added : AddedView). lines_of c.args.name.now c.args.period.0 c.args.period.1 (moved (c.args.ledger.now.state.entries ++ added.entries))) c.self.view_is
