use Rattle.std.proofs.Common.{Some}
use Rattle.std.proofs.lemmas.List.Elements.{All-pop}
use Rattle.bank_accounts.specs.Sides.{IsOf}
use Rattle.bank_turns.proofs.TurnLemmas.{last_turn}
use Rattle.bank_turns.proofs.turns.give_all.Goals as goal

pub loop-account-preserved : goal.loop-account-preserved
loop-account-preserved c =
    let last = last_turn c.args.row.now.row c.loop-account.held c.pop.new.self c.loop-account.turns.items c.take_last-turn.new.self.items c.in-Some.account c.take_last-turn.result c.in-Some.ensures.last
    c.loop-account.invariant.turns c.take_last-turn.ensures.items in
    record {
      own = (All-pop (IsOf c.args.row.now.tables) c.loop-account.held c.pop.new.self (Some c.in-Some.account) c.in-Some.ensures.last c.loop-account.invariant.own).0;
      turns = last.0;
    }
