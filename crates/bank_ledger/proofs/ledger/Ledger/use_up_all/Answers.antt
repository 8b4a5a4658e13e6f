use Rattle.std.proofs.Common.{◌++◌, ℕ, List, sym, ap, ◌∙◌, subst, false, ◌≡◌}
use Rattle.bank_model.specs.declared.event.State.{State}
use Rattle.bank_model.specs.Once.{is_used}
use Rattle.bank_ledger.proofs.TakingIn.{unused_next}
use Rattle.bank_ledger.proofs.ledger.Ledger.use_up_all.Goals as goal

pub use_up-requires-clause-unused : goal.use_up-requires-clause-unused
use_up-requires-clause-unused c =
    let all = c.loop-uid.invariant.items ∙ c.into_iter-uid-iterator.ensures.into_iter_gives.0 in
    let next = ap (λ (l : List (List ℕ)). c.loop-uid.yielded ++ l) (sym c.in-Some.ensures.steps.0) ∙ all in
    subst (λ (S : State). is_used c.args.user c.in-Some.uid S.used ≡ false) (sym c.loop-uid.invariant.state)
    (unused_next c.args.user c.args.self.now.state.used c.args.uids.items c.loop-uid.yielded _ c.in-Some.uid c.requires.unused next)
