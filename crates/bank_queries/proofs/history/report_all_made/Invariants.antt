use Rattle.std.proofs.Common.{◌≡◌, ◌++◌, codes, map, take}
use Rattle.std.specs.List.{flat_map}
use Rattle.bank_model.specs.Sync.{reply_with_change}
use Rattle.bank_history.specs.Made.{current_of}
use Rattle.bank_ledger.specs.DraftView.{drafted}
use Rattle.bank_queries.proofs.history.report_all_made.Given as goal

abbrev pub invariant-loop-one : goal.invariant-loop-one
invariant-loop-one l = l.reported.items ≡ l.fn.reported.items ++ map (reply_with_change l.family (codes "0")) (flat_map (current_of (drafted l.draft).entries) (take l.one-index l.made))
