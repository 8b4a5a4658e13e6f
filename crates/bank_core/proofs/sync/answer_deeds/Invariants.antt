use Rattle.std.proofs.Common.{◌≡◌, ◌++◌, drop}
use Rattle.bank_model.specs.Sync.{deed_answers}
use Rattle.bank_ledger.specs.DraftView.{drafted, IsSameFile}
use Rattle.bank_core.proofs.sync.answer_deeds.Given as goal

-- the answers so far and, from the draft's state on, those of the rest are the answers of all
abbrev pub invariant-loop-deed : goal.invariant-loop-deed
invariant-loop-deed l = record {
  replies : l.fn.reported.items ++ (deed_answers l.fn.draft.setup (drafted l.fn.draft) l.fn.draft.user l.only l.fn.draft.at l.deeds).replies ≡ l.replies.items ++ (deed_answers l.fn.draft.setup (drafted l.draft) l.fn.draft.user l.only l.fn.draft.at (drop l.deed-index l.deeds)).replies;
  after : (deed_answers l.fn.draft.setup (drafted l.fn.draft) l.fn.draft.user l.only l.fn.draft.at l.deeds).after ≡ (deed_answers l.fn.draft.setup (drafted l.draft) l.fn.draft.user l.only l.fn.draft.at (drop l.deed-index l.deeds)).after;
  file : IsSameFile l.fn.draft l.draft;
}
