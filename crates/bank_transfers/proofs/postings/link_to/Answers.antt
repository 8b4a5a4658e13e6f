use Rattle.std.proofs.Common.{◌≡◌, ◌-◌, ◌<◌, length, subst, sym, ◌∙◌, arith}
use Rattle.std.proofs.lemmas.List.{length-map}
use Rattle.bank_transfers.specs.Chain.{touches, posting_of, postings_of, PassesAt, IsLinked}
use Rattle.bank_transfers.proofs.ChainLemmas.{last_within, last_passes, before_within, short_linked, over_linked}
use Rattle.bank_transfers.proofs.postings.link_to.Goals as goal

pub link_at-last-requires-clause-bound : goal.link_at-last-requires-clause-bound
link_at-last-requires-clause-bound c =
    let held = c.args.held.now in
    let count : length (postings_of held) ≡ length held = length-map held posting_of in
    let bound = last_within (touches c.args.key) (postings_of held) in
    omega (arith, c.requires.before, bound, count)

pub link_at-last-requires-clause-passes : goal.link_at-last-requires-clause-passes
link_at-last-requires-clause-passes c =
    let postings = postings_of c.args.held.now in
    subst (λ n. PassesAt (touches c.args.key) n postings) (sym c.requires.before) (last_passes (touches c.args.key) postings)

pub link_at-earlier-requires-clause-bound : goal.link_at-earlier-requires-clause-bound
link_at-earlier-requires-clause-bound c =
    let held = c.args.held.now in
    let count : length (postings_of held) ≡ length held = length-map held posting_of in
    let bound = last_within (touches c.args.key) (postings_of held) in
    let some : 0 < c.args.before = omega (arith, c.if-before-eq0.false) in
    let little = before_within c.args.key c.link_at-last.result (c.args.before - 1) (postings_of held) (omega (arith, c.requires.before, bound)) c.link_at-last.ensures in
    omega (arith, c.requires.before, bound, count, little, some, c.link_at-last.ensures.skip)

pub link_at-earlier-requires-clause-passes : goal.link_at-earlier-requires-clause-passes
link_at-earlier-requires-clause-passes c = c.link_at-last.ensures.lands

pub returns-then-before-eq0 : goal.returns-then-before-eq0
returns-then-before-eq0 c posting same = short_linked c.args.key c.args.before c.args.stamp c.to.result c.args.held.now posting c.requires.before c.to.ensures same

pub returns-then-last-eq0 : goal.returns-then-last-eq0
returns-then-last-eq0 c posting same = short_linked c.args.key c.args.before c.args.stamp c.to-then-last-eq0.result c.args.held.now posting c.requires.before c.to-then-last-eq0.ensures same

pub returns-then-last-earlier : goal.returns-then-last-earlier
returns-then-last-earlier c posting same = short_linked c.args.key c.args.before c.args.stamp c.to-then-last-earlier.result c.args.held.now posting c.requires.before c.to-then-last-earlier.ensures same

pub returns : goal.returns
returns c posting same =
    let held = c.args.held.now in
    let link = c.over.result in
    let before : link.before ≡ c.args.before = c.over.ensures.before in
    let some : 0 < c.args.before = omega (arith, c.if-before-eq0.false) in
    let more : 0 < c.link_at-last.result.skip = omega (arith, c.if-last-eq0.false) in
    over_linked c.args.key link c.link_at-last.result c.link_at-earlier.result c.args.stamp held posting (omega (arith, before, some)) more (before ∙ c.requires.before)
    (subst (λ n. IsLinked c.args.key c.link_at-last.result (n - 1) (postings_of held)) (sym before) c.link_at-last.ensures)
    c.link_at-earlier.ensures
    c.over.ensures.skip
    c.over.ensures.least
    c.over.ensures.greatest
    same
