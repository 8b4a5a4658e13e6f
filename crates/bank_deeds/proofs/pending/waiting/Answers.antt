use Rattle.std.proofs.Common.{◌∙◌}
use Rattle.bank_invariants.proofs.WaitingLemmas.{waiting_found}
use Rattle.bank_deeds.proofs.pending.waiting.Goals as goal

pub returns : goal.returns
returns c =
    waiting_found c.args.model c.args.draft.now.before.entries c.args.draft.now.entries c.entries-entry-items.result.now c.deref-id-items.result.now c.loop-id.ids.items c.loop-entry.ids.items c.loop-id.id-index c.loop-entry.entry-index c.ledger.ensures.sound.lawful (c.deref-id-items.ensures.value ∙ (rw c.ledger.ensures.state at c.in_ok-before.ensures)) c.entries-entry-items.ensures c.loop-id-test.false c.loop-entry-test.false c.loop-id.invariant c.loop-entry.invariant
