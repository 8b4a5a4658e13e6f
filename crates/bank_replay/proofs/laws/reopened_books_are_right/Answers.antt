use Rattle.std.proofs.Common.{sym, subst}
use Rattle.bank_model.specs.declared.event.State.{State}
use Rattle.bank_invariants.specs.Books.{AreBooksRight}
use Rattle.bank_replay.proofs.laws.reopened_books_are_right.Goals as goal

pub returns : goal.returns
returns c = λ setup records state within reopens.
    let are = c.reopenings_are_runs.ensures.run setup records state reopens in
    subst (λ (S : State). AreBooksRight setup S) (sym are.leaves)
    (record {
      uids = c.uids_work_once.ensures setup are.run within are.legal;
      files = c.files_are_kept_once.ensures setup are.run within are.legal;
      money = c.money_stays.ensures setup are.run within are.legal;
      covered = λ account. c.no_account_is_overdrawn.ensures setup are.run account within are.legal;
    })
