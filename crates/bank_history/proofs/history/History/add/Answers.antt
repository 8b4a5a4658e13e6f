use Rattle.std.proofs.Common.{◌≡◌, ◌+◌, ◌∷◌, ◌++◌, [], length, sym, ap, ◌∙◌, append_assoc, arith}
use Rattle.std.proofs.lemmas.List.{length-append}
use Rattle.bank_history.specs.HistoryHeld.{number_or_none}
use Rattle.bank_history.specs.HistoryView.{HistoryView}
use Rattle.bank_history.specs.EntryTrace.{entries_of}
use Rattle.bank_history.proofs.HistoryHeldLemmas.{numbered_more, lasts_more}
use Rattle.bank_history.proofs.history.History.add.Goals as goal

pub invariant_of-self : goal.invariant_of-self
invariant_of-self c =
    let past = entries_of c.self.inside.past in
    let i = c.self.invariant in
    let left : c.self.inside.left ≡ c.args.self.now.room = ap (λ (v : HistoryView). v.room) c.self.view_is in
    let next : c.args.entry.number ≡ length past + 1 = c.requires.number ∙ ap (λ (v : HistoryView). length v.entries + 1) (sym c.self.view_is) in
    let number : c.self.inside.count + 1 ≡ c.args.entry.number = ap (λ n. n + 1) i.2 ∙ sym next in
    rw (c.after.ensures, c.push_reserved.ensures.items) (
      numbered_more past c.args.entry i.0 next,
      (λ object. ap number_or_none (c.set_last.ensures.numbers object.0) ∙ lasts_more object past c.args.entry (c.self.inside.count + 1) _ number (i.1 object)),
      omega (arith, i.2, length-append past (c.args.entry ∷ [])),
      record {
        prefix = i.3.prefix;
        holds = i.3.holds;
        all = sym (append_assoc i.3.prefix c.self.inside.recent.items (c.args.entry ∷ [])) ∙ ap (λ l. l ++ c.args.entry ∷ []) i.3.all;
      },
      omega (arith, i.4, c.push_reserved.ensures.len, c.push_reserved.ensures.capacity, left, c.requires.room),
      omega (arith, i.5, c.set_last.ensures.room, left, c.requires.room),
    )

pub returns-clause-entries : goal.returns-clause-entries
returns-clause-entries c = c.after.ensures ∙ ap (λ (v : HistoryView). v.entries ++ c.args.entry ∷ []) c.self.view_is
