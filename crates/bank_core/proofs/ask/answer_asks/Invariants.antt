use Rattle.std.proofs.Common.{◌≡◌, ◌++◌, drop}
use Rattle.bank_model.specs.Rules.{ask_answers}
use Rattle.bank_ledger.specs.DraftView.{drafted, IsSameFile}
use Rattle.bank_core.proofs.ask.answer_asks.Given as goal

-- the answers so far and, from the draft's state on, those of the rest are the answers of all
abbrev pub invariant-loop-ask : goal.invariant-loop-ask
invariant-loop-ask l = record {
  replies : (ask_answers l.fn.draft.setup (drafted l.fn.draft) l.fn.draft.user l.fn.draft.at l.asks).replies ≡ l.replies.items ++ (ask_answers l.fn.draft.setup (drafted l.draft) l.fn.draft.user l.fn.draft.at (drop l.ask-index l.asks)).replies;
  after : (ask_answers l.fn.draft.setup (drafted l.fn.draft) l.fn.draft.user l.fn.draft.at l.asks).after ≡ (ask_answers l.fn.draft.setup (drafted l.draft) l.fn.draft.user l.fn.draft.at (drop l.ask-index l.asks)).after;
  file : IsSameFile l.fn.draft l.draft;
}
