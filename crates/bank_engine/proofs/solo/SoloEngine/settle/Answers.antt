use Rattle.std.proofs.Common.{refl}
use Rattle.bank_solo.proofs.Accounts.{all_back, are_known, lent_at, still_lent}
use Rattle.bank_engine.proofs.CheckedOutAccounts.{named_lent, none_lent_for, waits_still}
use Rattle.bank_engine.proofs.solo.SoloEngine.settle.Goals as goal

pub settle-requires-clause-own : goal.settle-requires-clause-own
settle-requires-clause-own g c = c.self.invariant.0.own

pub invariant_of-self : goal.invariant_of-self
invariant_of-self g c =
    let before = c.self.inside.engine in
    let after = c.settle.new.self in (
      still_lent after.tables c.self.inside.pool c.self.inside.held c.settle.new.held
          (lent_at before.tables after.tables c.self.inside.pool c.self.inside.held c.self.inside.held c.settle.ensures.tables refl c.self.invariant.0)
          c.settle.ensures.numbers c.settle.ensures.own,
      waits_still _ _ c.in_err-adopted.field-0.0 c.self.inside.held c.settle.new.held c.settle.ensures.numbers c.in_err-adopted.ensures.fails c.self.invariant.1,
    )

pub check_in-requires : goal.check_in-requires
check_in-requires g c =
    are_known c.self.inside.engine.tables c.settle.new.self.tables c.self.inside.pool c.self.inside.held c.settle.new.held c.settle.ensures.tables c.self.invariant.0 c.settle.ensures.own

pub invariant_of-self-2 : goal.invariant_of-self-2
invariant_of-self-2 g c =
    let after = c.settle.new.self in (
      all_back c.self.inside.engine.tables after.tables c.self.inside.pool c.check_in.new.self c.self.inside.held c.settle.new.held c.check_in.new.held
          c.settle.ensures.tables c.self.invariant.0 c.settle.ensures.numbers c.settle.ensures.own c.check_in.ensures.pool,
      none_lent_for after.setup after.state c.check_in.new.held after.pending c.in_ok-adopted.ensures.settled.pending c.check_in.ensures.none_held,
    )
