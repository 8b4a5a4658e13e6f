use Rattle.std.proofs.Common.{◌≡◌, ℕ, ◌+◌, ◌<◌, true, false, not, nat_lt, length, sym, ap, arith}
use Rattle.std.proofs.lemmas.Bool.{lt-ltb, le-ltb}
use Rattle.bank_core.proofs.book.Book.has_number.Goals as goal

left : (most count : ℕ) → count < most → true ≡ not (nat_lt most (count + 1))
left most count below = sym (ap not (le-ltb most (count + 1) (omega (arith, below))))

none_left : (most count : ℕ) → count ≡ most → false ≡ not (nat_lt most (count + 1))
none_left most count full = sym (ap not (lt-ltb most (count + 1) (omega (arith, full))))

pub returns-in-Some : goal.returns-in-Some
returns-in-Some g c = left c.args.self.now.setup.entries (length c.args.self.now.state.entries) c.in-Some.ensures.some

pub returns-in-None : goal.returns-in-None
returns-in-None g c = none_left c.args.self.now.setup.entries (length c.args.self.now.state.entries) c.in-None.ensures.none
