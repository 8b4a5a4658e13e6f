use Rattle.std.proofs.Common.{◌≡◌, ◌-◌, length, subst, sym, arith}
use Rattle.std.proofs.lemmas.List.{length-map}
use Rattle.bank_transfers.specs.declared.skip_link.SkipLink.{SkipLink}
use Rattle.bank_transfers.specs.Chain.{posting_of, postings_of, IsLinked}
use Rattle.bank_transfers.proofs.ChainLemmas.{link_at}
use Rattle.bank_transfers.proofs.postings.link_at.Goals as goal

pub returns : goal.returns
returns c =
    let held = c.args.held.now in
    let count : length (postings_of held) ≡ length held = length-map held posting_of in
    subst (λ (l : SkipLink). IsLinked c.args.key l (c.args.index - 1) (postings_of held)) (sym c.link.ensures)
    (link_at c.args.key held c.args.index c.index-held-index.result c.requires.linked c.requires.some (omega (arith, c.requires.bound, count)) c.requires.passes c.index-held-index.is)
