use Rattle.std.proofs.Common.{◌≡◌, ◌-◌, ℕ, ◌++◌, Option, Some, get_or, reverse, sym, ap, ◌∙◌, subst}
use Rattle.std.specs.Option.{option_to_list}
use Rattle.bank_model.specs.declared.entry.Entry.{Entry}
use Rattle.bank_history.specs.ObjectHistory.{held_at, newest_in}
use Rattle.bank_history.specs.EntryTrace.{entries_of}
use Rattle.bank_history.proofs.LayingLemmas.{last_rises, laid_still, laid_one, popped}
use Rattle.bank_history.proofs.laying.lay_last.Goals as goal

pub returns-in_err-reserve-clause-laid : goal.returns-in_err-reserve-clause-laid
returns-in_err-reserve-clause-laid c =
    laid_still c.args.laid.now c.reserve.new.self (reverse c.args.recent.now.items) (entries_of c.args.past.now) c.requires.laid c.reserve.ensures.holds

pub add-requires-clause-rising : goal.add-requires-clause-rising
add-requires-clause-rising c =
    let items = c.args.recent.now.items in
    let read = c.index-entry.result.now in
    let out = c.in-Some.entry in
    let last = c.pop.ensures.items ∙ ap (λ (o : Option Entry). c.pop.new.self.items ++ option_to_list o) c.in-Some.is in
    let taken = c.pop.ensures.value read c.requires.some ∙ ap (λ (n : ℕ). Some (get_or items (n - 1) read)) (sym c.len.ensures) in
    let same : out ≡ read = popped items (c.len.result - 1) read out c.pop.result c.index-entry.ensures taken c.in-Some.is in
    last_rises c.args.laid.now items c.pop.new.self.items (entries_of c.args.past.now) out (newest_in (held_at out.object c.reserve.new.self.objects.held)) c.requires.numbered c.requires.laid last
    (subst (λ (e : Entry). newest_in (held_at e.object c.reserve.new.self.objects.held) ≡ newest_in (held_at e.object c.args.laid.now.objects.held)) (sym same) c.reserve.ensures.newest)

pub returns-clause-laid : goal.returns-clause-laid
returns-clause-laid c =
    let last = c.pop.ensures.items ∙ ap (λ (o : Option Entry). c.pop.new.self.items ++ option_to_list o) c.in-Some.is in
    laid_one c.args.laid.now c.add.new.self c.args.recent.now.items c.pop.new.self.items (entries_of c.args.past.now) c.in-Some.entry c.requires.laid last
    (λ es holds. c.add.ensures.holds es (c.reserve.ensures.holds es holds))
