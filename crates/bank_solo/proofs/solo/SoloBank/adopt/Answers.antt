use Rattle.std.proofs.Common.{sym, subst}
use Rattle.bank_model.specs.SetupForm.{IsWithinLimits}
use Rattle.bank_solo.proofs.Accounts.{are_known, all_back}
use Rattle.bank_solo.proofs.solo.SoloBank.adopt.Goals as goal

pub adopt-reply-requires-clause-own : goal.adopt-reply-requires-clause-own
adopt-reply-requires-clause-own g c = c.self.invariant.1.own

pub check_in-requires : goal.check_in-requires
check_in-requires g c =
    are_known c.self.inside.book.tables c.adopt-reply.new.self.tables c.self.inside.pool c.self.inside.held c.adopt-reply.new.held c.adopt-reply.ensures.tables c.self.invariant.1 c.adopt-reply.ensures.own

pub invariant_of-self : goal.invariant_of-self
invariant_of-self g c = (
  subst IsWithinLimits (sym c.adopt-reply.ensures.setup) c.self.invariant.0,
  all_back c.self.inside.book.tables c.adopt-reply.new.self.tables c.self.inside.pool c.check_in.new.self c.self.inside.held c.adopt-reply.new.held c.check_in.new.held
      c.adopt-reply.ensures.tables c.self.invariant.1 c.adopt-reply.ensures.numbers c.adopt-reply.ensures.own c.check_in.ensures.pool,
)
