use Rattle.std.proofs.Common.{◌≡◌, eqb, length, reverse, ap, ◌∙◌, arith}
use Rattle.std.specs.List.{find}
use Rattle.std.specs.Option.{option_map}
use Rattle.bank_model.specs.Ledger.{Posting}
use Rattle.bank_transfers.specs.Chain.{is_of, postings_of}
use Rattle.bank_transfers.specs.PostingsView.{PostingsView}
use Rattle.std.proofs.lemmas.List.{length-map}
use Rattle.bank_transfers.specs.Chain.{posting_of}
use Rattle.bank_transfers.proofs.ChainLemmas.{last_within}
use Rattle.bank_transfers.proofs.LineLemmas.{last_row, no_row}
use Rattle.bank_transfers.proofs.postings.Postings.row.Goals as goal

pub returns : goal.returns
returns c =
    last_row c.args.id c.self.inside.held.items c.last_at-index.result c.index-linked.result.now (c.last_at-index.ensures ∙ c.self.invariant.3 c.args.id) (omega (arith, c.if-index-eq0.false)) c.index-linked.ensures
    ∙ ap (λ (v : PostingsView). option_map (λ (p : Posting). p.row) (find (λ (p : Posting). eqb p.row.id c.args.id) (reverse v.postings))) c.self.view_is

pub returns-then-index-eq0 : goal.returns-then-index-eq0
returns-then-index-eq0 c =
    no_row c.args.id c.self.inside.held.items c.last_at-index.result (c.last_at-index.ensures ∙ c.self.invariant.3 c.args.id) c.if-index-eq0.true
    ∙ ap (λ (v : PostingsView). option_map (λ (p : Posting). p.row) (find (λ (p : Posting). eqb p.row.id c.args.id) (reverse v.postings))) c.self.view_is

pub index-linked-requires : goal.index-linked-requires
index-linked-requires c =
    let held = c.self.inside.held.items in
    let bound = last_within (is_of c.args.id) (postings_of held) in
    let index = c.last_at-index.ensures ∙ c.self.invariant.3 c.args.id in
    let count : length (postings_of held) ≡ length held = length-map held posting_of in
    omega (arith, bound, index, count, c.self.inside.held.ok.0, c.if-index-eq0.false)
