use Rattle.std.proofs.Common.{sym, ◌∙◌}
use Rattle.bank_ledger.specs.DraftView.{drafted}
use Rattle.bank_ledger.proofs.EnteringLemmas.{posts_nothing}
use Rattle.bank_ledger.proofs.draft.Draft.enter_processed.Goals as goal

pub enter-requires-clause-nothing : goal.enter-requires-clause-nothing
enter-requires-clause-nothing c =
    posts_nothing (drafted c.args.self.now).entries c.args.entry c.args.row c.requires.gives (sym c.is_posted.ensures ∙ c.if-is_posted.false)
