use Rattle.bank_shared.proofs.Starting.{none_so_far}
use Rattle.bank_shared.proofs.opened.newest_numbers.Goals as goal

pub loop-object-init : goal.loop-object-init
loop-object-init g c = none_so_far c.args.book.now.state.entries _ c.in_ok-numbers.ensures.items
