-- What words order, by the single words.
use Rattle.std.proofs.Common.{◌≡◌, ℕ, List, [], ◌∷◌, drop, get_or, Result, Ok, Err, sym, ap, ◌∙◌}
use Rattle.client_arguments.specs.Arguments.{IsOrdered, AreArguments}
use Rattle.client_arguments.specs.Reading.{Reads}
use Rattle.client_arguments.specs.declared.fault.ArgumentsFault.{ArgumentsFault}
use Rattle.client_arguments.specs.declared.fault.ArgumentsFault.TheVariants.{Usage, OutOfMemory}
use Rattle.client_arguments.specs.declared.order.Order.{Order}

-- Arguments that are spelled so are read as the single arguments are.
pub arguments_read : (arguments : List (List ℕ)) (port store name user pass bank : List ℕ) (command : List (List ℕ)) (found : Result Order ArgumentsFault)
    → arguments ≡ port ∷ store ∷ name ∷ user ∷ pass ∷ bank ∷ command → Reads (IsOrdered port name user pass bank command) found → Reads (AreArguments arguments) found
arguments_read arguments port store name user pass bank command (Ok order) spelled is = record {
  port = port;
  store = store;
  name = name;
  user = user;
  pass = pass;
  bank = bank;
  command = command;
  spelled = spelled;
  ordered = is;
}
arguments_read arguments port store name user pass bank command (Err OutOfMemory) spelled is = tt
arguments_read arguments port store name user pass bank command (Err Usage) spelled is = λ order are.
    let same : (are.port ∷ are.store ∷ are.name ∷ are.user ∷ are.pass ∷ are.bank ∷ are.command) ≡ (port ∷ store ∷ name ∷ user ∷ pass ∷ bank ∷ command) = sym are.spelled ∙ spelled in
    let first : are.port ≡ port = ap (λ (l : List (List ℕ)). get_or l 0 []) same in
    let third : are.name ≡ name = ap (λ (l : List (List ℕ)). get_or l 2 []) same in
    let fourth : are.user ≡ user = ap (λ (l : List (List ℕ)). get_or l 3 []) same in
    let fifth : are.pass ≡ pass = ap (λ (l : List (List ℕ)). get_or l 4 []) same in
    let sixth : are.bank ≡ bank = ap (λ (l : List (List ℕ)). get_or l 5 []) same in
    let rest : are.command ≡ command = ap (λ (l : List (List ℕ)). drop 6 l) same in
    is order (rw (first, third, fourth, fifth, sixth, rest) at are.ordered)
