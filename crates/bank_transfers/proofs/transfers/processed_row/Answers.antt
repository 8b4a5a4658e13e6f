use Rattle.std.proofs.Common.{ap, ◌∙◌, sym, map, reverse}
use Rattle.std.specs.Option.{option_or}
use Rattle.bank_model.specs.Ledger.{Posting}
use Rattle.bank_transfers.specs.TransfersView.{row_found}
use Rattle.bank_transfers.proofs.HeldLemmas.{found_posted}
use Rattle.bank_transfers.proofs.transfers.processed_row.Goals as goal

pub returns-in-Some : goal.returns-in-Some
returns-in-Some c =
    let rest = map (λ (p : Posting). p.row) (reverse c.args.postings.now.postings) in
    ap (λ found. option_or found (row_found c.args.id rest)) c.in-Some.ensures

pub returns-in-None : goal.returns-in-None
returns-in-None c =
    let rest = map (λ (p : Posting). p.row) (reverse c.args.postings.now.postings) in
    c.row.ensures ∙ sym (found_posted c.args.id c.args.postings.now.postings)
    ∙ ap (λ found. option_or found (row_found c.args.id rest)) c.in-None.ensures
