use Rattle.std.proofs.Common.{◌≡◌, ◌-◌, cond, eqb, length, ap, ◌∙◌, arith}
use Rattle.std.proofs.lemmas.List.{length-map}
use Rattle.bank_model.specs.Ledger.{lines_of}
use Rattle.bank_transfers.specs.Chain.{key_of, touches, last_by, posting_of, postings_of}
use Rattle.bank_transfers.specs.PostingsView.{PostingsView}
use Rattle.bank_transfers.proofs.ChainLemmas.{amount_at}
use Rattle.bank_transfers.proofs.LineLemmas.{at_last, step_back, at_first}
use Rattle.bank_transfers.proofs.postings.Postings.lines.Goals as goal

pub loop-index-init : goal.loop-index-init
loop-index-init c =
    let held = c.self.inside.held.items in
    let last = c.last_at-index.ensures ∙ c.self.invariant.2 c.key_of-key.result ∙ ap (λ n. last_by (touches n) (postings_of held)) c.key_of-key.ensures in
    at_last c.args.name.now c.args.period.0 c.args.period.1 (postings_of held) c.last_at-index.result c.new-lines.result.items last c.new-lines.ensures.items

pub push_listed-requires : goal.push_listed-requires
push_listed-requires c =
    let held = c.self.inside.held.items in
    let count : length (postings_of held) ≡ length held = length-map held posting_of in
    amount_at held (c.loop-index.index - 1) c.index-linked.result.now c.self.invariant.0 (omega (arith, c.loop-index.invariant.within, count, c.loop-index-test.true)) c.index-linked.ensures

pub loop-index-preserved : goal.loop-index-preserved
loop-index-preserved c =
    let linked = c.index-linked.result.now in
    let its = c.link.ensures ∙ ap (λ n. cond (eqb (key_of linked.row.from) n) linked.from_link linked.to_link) c.key_of-key.ensures in
    (step_back c.args.name.now c.args.period.0 c.args.period.1 c.self.inside.held.items c.loop-index.index c.next-index.result linked c.link.result c.loop-index.lines.items c.push_listed.new.lines.items
    c.self.invariant.1 c.loop-index-test.true c.index-linked.ensures its c.next-index.ensures c.in_ok-push_listed.ensures c.loop-index.invariant).1

pub loop-index-smaller : goal.loop-index-smaller
loop-index-smaller c =
    let linked = c.index-linked.result.now in
    let its = c.link.ensures ∙ ap (λ n. cond (eqb (key_of linked.row.from) n) linked.from_link linked.to_link) c.key_of-key.ensures in
    (step_back c.args.name.now c.args.period.0 c.args.period.1 c.self.inside.held.items c.loop-index.index c.next-index.result linked c.link.result c.loop-index.lines.items c.push_listed.new.lines.items
    c.self.invariant.1 c.loop-index-test.true c.index-linked.ensures its c.next-index.ensures c.in_ok-push_listed.ensures c.loop-index.invariant).0

pub returns : goal.returns
returns c =
    let held = c.self.inside.held.items in
    let none : c.loop-index.index ≡ 0 = omega (arith, c.loop-index-test.false) in
    at_first c.args.name.now c.args.period.0 c.args.period.1 (postings_of held) c.loop-index.index c.loop-index.lines.items c.from_vec.result c.loop-index.invariant none (c.from_vec.ensures ∙ c.reverse.ensures.items)
    ∙ ap (λ (v : PostingsView). lines_of c.args.name.now c.args.period.0 c.args.period.1 v.postings) c.self.view_is
