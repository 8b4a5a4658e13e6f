use Rattle.std.proofs.Common.{ℕ, ◌+◌, length, sym, ap, ◌∙◌, subst}
use Rattle.bank_model.specs.declared.event.State.{State}
use Rattle.bank_core.specs.BookView.{HasRoom}
use Rattle.bank_core.proofs.Outcomes.{HasRoom-added}
use Rattle.bank_core.proofs.book.Book.make_room.Goals as goal

pub returns-clause-room : goal.returns-clause-room
returns-clause-room g c =
    let room = c.in_ok-reserve.ensures in
    subst (λ (S : State). HasRoom c.reserve.new.self.room S c.args.prepared.after) c.requires
    (HasRoom-added c.reserve.new.self.room c.args.prepared.before c.args.prepared.after c.entries.result.now c.in_ok-entries.entries c.in_ok-uids.uids c.entries.ensures c.in_ok-entries.ensures (c.uid_count.ensures ∙ ap (λ (n : ℕ). length c.args.prepared.before.used + n) (sym c.in_ok-uids.ensures)) room.entries room.transfers room.models room.pairs room.files)
