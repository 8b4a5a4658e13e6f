use Rattle.std.proofs.Common.{◌≡◌, ◌<◌, None, Some, length, sym, subst}
use Rattle.bank_model.specs.declared.event.Event.TheVariants.{Post, Spawn}
use Rattle.bank_model.specs.Rules.{due}
use Rattle.bank_core.specs.BookView.{ReservedBook}
use Rattle.bank_core.proofs.DueAnswers.{none_left, some_left, day_raised, due_full, due_spawn, due_post, due_nothing}
use Rattle.bank_core.proofs.book.Book.first_due.Goals as goal

pub returns-then-is_none : goal.returns-then-is_none
returns-then-is_none g c =
    sym (due_full c.args.self.now.setup c.args.self.now.state c.args.at (none_left c.next_number.result c.is_none.result _ c.is_none.ensures c.if-is_none.true c.next_number.ensures.none))

pub returns-in-Some : goal.returns-in-Some
returns-in-Some g c =
    let below : length c.self.inside.ledger.state.entries < c.self.inside.setup.entries =
    subst (λ (b : ReservedBook). length b.state.entries < b.setup.entries) (sym c.self.view_is) (some_left c.next_number.result c.is_none.result _ c.is_none.ensures c.if-is_none.false c.next_number.ensures.some) in
    let day = day_raised c.self.inside.ledger.state c.args.at c.day.result c.later-day.result c.day.ensures c.later-day.ensures in
    subst (λ (b : ReservedBook). Some (Spawn c.in-Some.next.0 c.in-Some.next.1) ≡ due b.setup b.state c.args.at) c.self.view_is
    (due_spawn c.self.inside.setup c.self.inside.ledger.state c.args.at c.later-day.result c.last_day.result c.in-Some.next below day c.last_day.ensures c.in-Some.ensures)

pub returns-in-Some-next_post : goal.returns-in-Some-next_post
returns-in-Some-next_post g c =
    let below : length c.self.inside.ledger.state.entries < c.self.inside.setup.entries =
    subst (λ (b : ReservedBook). length b.state.entries < b.setup.entries) (sym c.self.view_is) (some_left c.next_number.result c.is_none.result _ c.is_none.ensures c.if-is_none.false c.next_number.ensures.some) in
    let day = day_raised c.self.inside.ledger.state c.args.at c.day.result c.later-day.result c.day.ensures c.later-day.ensures in
    subst (λ (b : ReservedBook). Some (Post c.in-Some-next_post.id) ≡ due b.setup b.state c.args.at) c.self.view_is
    (due_post c.self.inside.setup c.self.inside.ledger.state c.args.at c.later-day.result c.last_day.result c.in-Some-next_post.id below day c.last_day.ensures c.in-None.ensures c.in-Some-next_post.ensures)

pub returns-in-None-next_post : goal.returns-in-None-next_post
returns-in-None-next_post g c =
    let below : length c.self.inside.ledger.state.entries < c.self.inside.setup.entries =
    subst (λ (b : ReservedBook). length b.state.entries < b.setup.entries) (sym c.self.view_is) (some_left c.next_number.result c.is_none.result _ c.is_none.ensures c.if-is_none.false c.next_number.ensures.some) in
    let day = day_raised c.self.inside.ledger.state c.args.at c.day.result c.later-day.result c.day.ensures c.later-day.ensures in
    subst (λ (b : ReservedBook). None ≡ due b.setup b.state c.args.at) c.self.view_is
    (due_nothing c.self.inside.setup c.self.inside.ledger.state c.args.at c.later-day.result c.last_day.result below day c.last_day.ensures c.in-None.ensures c.in-None-next_post.ensures)
