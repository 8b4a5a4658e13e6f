use Rattle.std.proofs.Common.{take}
use Rattle.bank_shared.specs.Asking.{HasAsked}
use Rattle.bank_shared.specs.Holds.{IsPassOf, caller_of}
use Rattle.bank_shared.proofs.bank.Bank.poll_answers.Given as goal

-- the asks so far are answered
abbrev pub invariant-loop-ask : goal.invariant-loop-ask
invariant-loop-ask g l = record {
  asked : HasAsked g.N.BankName.setup l.user (take l.ask-index l.asks) l.replies.items (caller_of g.N.BankName.opening l.fn.pass) (caller_of g.N.BankName.opening l.pass);
  pass : IsPassOf g.N.BankName.setup g.N.BankName.opening g.N.BankName.board l.pass;
}
