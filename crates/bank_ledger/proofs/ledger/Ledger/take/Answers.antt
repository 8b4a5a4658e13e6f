use Rattle.bank_ledger.proofs.TakingIn.{given_moved, numbered_moved}
use Rattle.std.proofs.Common.{refl}
use Rattle.bank_ledger.proofs.ledger.Ledger.take.Goals as goal

pub add_all-requires-clause-given : goal.add_all-requires-clause-given
add_all-requires-clause-given c =
    given_moved c.args.self.now.state.entries c.args.self.now.state.entries c.args.added.entries _ c.args.added.row_changes _ refl c.into_parts-entries.ensures.entries c.into_parts-entries.ensures.row_changes c.requires.added.given

pub add_all-requires-clause-numbered : goal.add_all-requires-clause-numbered
add_all-requires-clause-numbered c =
    numbered_moved c.args.self.now.state.entries c.args.added.entries _ c.into_parts-entries.ensures.entries c.requires.added.numbered
