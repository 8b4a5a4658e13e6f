use Rattle.std.proofs.Common.{◌≡◌, ◌∙◌, ap, List}
use Rattle.std.proofs.lemmas.Result.{IfOk-weaker}
use Rattle.ofx_types.specs.declared.reply.StatementLine.{StatementLine}
use Rattle.bank_model.specs.declared.entry.Entry.{Entry}
use Rattle.bank_model.specs.Ledger.{lines_of, moved}
use Rattle.bank_transfers.specs.TransfersView.{TransfersView, Represents}
use Rattle.bank_transfers.proofs.transfers.Transfers.posted.Goals as goal

pub returns : goal.returns
returns c =
    let reported = lines_of c.args.name.now c.args.period.0 c.args.period.1 in
    IfOk-weaker c.lines.result (λ (lines : List StatementLine). lines ≡ reported c.self.inside.postings.postings) (λ (lines : List StatementLine). (entries : List Entry) → Represents c.args.self.now entries → lines ≡ reported (moved entries))
    (λ lines is entries holds. is ∙ ap reported (ap (λ (v : TransfersView). v.postings) c.self.view_is ∙ holds.postings))
    c.lines.ensures
