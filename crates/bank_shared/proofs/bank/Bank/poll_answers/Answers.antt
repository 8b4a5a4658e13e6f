use Rattle.bank_shared.specs.Holds.{caller_of}
use Rattle.bank_shared.proofs.Asked.{asked_none, asked_next, asked_all, loaded_none, loaded_more}
use Rattle.bank_shared.proofs.CallLemmas.{on_err}
use Rattle.bank_shared.proofs.bank.Bank.poll_answers.Goals as goal

pub returns-in_err-replies-clause-refused : goal.returns-in_err-replies-clause-refused
returns-in_err-replies-clause-refused g c = on_err c.from_residual.result (loaded_none (caller_of g.N.BankName.opening c.args.pass.now))

pub loop-ask-init : goal.loop-ask-init
loop-ask-init g c = record {
  asked = asked_none g.N.BankName.setup c.args.user c.args.asks.now _ (caller_of g.N.BankName.opening c.args.pass.now) c.in_ok-replies.ensures.items;
  pass = c.requires.pass;
}

pub returns-in_err-add_answer-clause-refused : goal.returns-in_err-add_answer-clause-refused
returns-in_err-add_answer-clause-refused g c =
    let load = c.token_asked-token.ensures.load in
    on_err c.from_residual-in_err-add_answer.result (loaded_more g.N.BankName.setup c.args.user _ c.loop-ask.replies.items (caller_of g.N.BankName.opening c.args.pass.now) (caller_of g.N.BankName.opening c.loop-ask.pass)
    (caller_of g.N.BankName.opening c.token_asked-token.new.pass) load.0 c.loop-ask.invariant.asked load.3)

pub loop-ask-preserved : goal.loop-ask-preserved
loop-ask-preserved g c =
    let load = c.token_asked-token.ensures.load in
    record {
      asked = asked_next g.N.BankName.setup c.args.user c.args.asks.now c.loop-ask.ask-index c.ask-item.result c.loop-ask.replies.items c.add_answer.new.replies.items
          (caller_of g.N.BankName.opening c.args.pass.now) (caller_of g.N.BankName.opening c.loop-ask.pass) (caller_of g.N.BankName.opening c.token_asked-token.new.pass)
          load.0 c.token_asked-token.result c.loop-ask-test.true c.ask-item.is c.loop-ask.invariant.asked load.1 load.2 load.3 c.in_ok-add_answer.ensures;
      pass = c.token_asked-token.ensures.pass;
    }

pub returns-clause-answers : goal.returns-clause-answers
returns-clause-answers g c =
    asked_all g.N.BankName.setup c.args.user c.args.asks.now c.loop-ask.ask-index c.loop-ask.replies.items _ (caller_of g.N.BankName.opening c.args.pass.now)
    (caller_of g.N.BankName.opening c.loop-ask.pass) c.loop-ask-test.false c.from_vec.ensures c.loop-ask.invariant.asked
