use Rattle.std.proofs.Common.{sym}
use Rattle.ofx_world.proofs.server.Server.begin.Goals as goal

pub new-requires : goal.new-requires
new-requires c = record { numbered = c.in_ok-book.ensures.accounts.numbered; own = sym c.in_ok-book.ensures.tables }
