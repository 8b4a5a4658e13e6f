use Rattle.std.proofs.Common.{◌≡◌, ◌∙◌, None, ap, refl, sym}
use Rattle.std.specs.Option.{option_copied}
use Rattle.bank_solo.proofs.Accounts.{all_back, are_known, lent_at}
use Rattle.bank_engine.proofs.CheckedOutAccounts.{none_event, none_lent_for}
use Rattle.bank_engine.proofs.solo.SoloEngine.commit.Goals as goal

pub check_out-requires-clause-pool : goal.check_out-requires-clause-pool
check_out-requires-clause-pool g c =
    lent_at c.self.inside.engine.tables c.book.result.now.tables c.self.inside.pool c.self.inside.held c.self.inside.held c.book.ensures.tables refl c.self.invariant.0

pub send-sent-requires-clause-own : goal.send-sent-requires-clause-own
send-sent-requires-clause-own g c =
    (lent_at c.book.result.now.tables c.self.inside.engine.tables c.check_out.new.pool c.check_out.new.held c.check_out.new.held (sym c.book.ensures.tables) refl c.check_out.ensures.pool).own

pub check_in-requires : goal.check_in-requires
check_in-requires g c =
    are_known c.book.result.now.tables c.send-sent.new.self.tables c.check_out.new.pool c.check_out.new.held c.send-sent.new.held (c.send-sent.ensures.tables ∙ sym c.book.ensures.tables) c.check_out.ensures.pool c.send-sent.ensures.own

pub invariant_of-self-in-None : goal.invariant_of-self-in-None
invariant_of-self-in-None g c =
    let after = c.send-sent.new.self in
    let free : after.pending ≡ None = none_event after.pending (sym c.pending.ensures.event ∙ ap option_copied c.in-None.is) in (
      all_back c.book.result.now.tables after.tables c.check_out.new.pool c.check_in.new.self c.check_out.new.held c.send-sent.new.held c.check_in.new.held
          (c.send-sent.ensures.tables ∙ sym c.book.ensures.tables) c.check_out.ensures.pool c.send-sent.ensures.numbers c.send-sent.ensures.own c.check_in.ensures.pool,
      none_lent_for after.setup after.state c.check_in.new.held after.pending free c.check_in.ensures.none_held,
    )
