use Rattle.std.proofs.Common.{◌≡◌, ℕ, ◌+◌, ◌-◌, ◌<◌, sym, ap, ◌∙◌, subst, arith}
use Rattle.circular_buffer.specs.Buffer.{Buffer}
use Rattle.bank_model.specs.declared.entry.Entry.{Entry}
use Rattle.token_window.specs.WindowView.{WindowView, newest_held, number_of, IsWindow}
use Rattle.token_window.proofs.WindowLemmas.{ring_left, ring_with, window_left, left_same, held_same, still_window, left_holds, holds_more}
use Rattle.token_window.proofs.window.Window.add.Goals as goal

pub invariant_of-self : goal.invariant_of-self
invariant_of-self c =
    let old = c.self.inside in
    let some = subst (λ (v : WindowView). 0 < v.room) (sym c.self.view_is) c.requires.room in
    let above = subst (λ (v : WindowView). newest_held v < c.args.entry.number) (sym c.self.view_is) c.requires.rising in
    let less : old.room - 1 + 1 ≡ old.room = omega (arith, some) in
    let is = still_window old.width old.entries.capacity old.floor old.room (old.room - 1) old.entries.items c.args.entry c.self.invariant less above in
    let floor = c.floor_after-self-inside.ensures ∙ ap (number_of old.floor) c.push_back-left.ensures.value in
    subst (λ (n : ℕ). IsWindow old.width c.push_back-left.new.self.capacity n (old.room - 1) c.push_back-left.new.self.items) (sym floor)
    (subst (λ (b : Buffer Entry). IsWindow old.width b.capacity (number_of old.floor (ring_left old.entries.capacity old.entries.items c.args.entry)) (old.room - 1) b.items) (sym c.push_back-left.ensures.items) is)

pub returns-clause-left : goal.returns-clause-left
returns-clause-left c =
    let old = c.self.inside in
    let some = subst (λ (v : WindowView). 0 < v.room) (sym c.self.view_is) c.requires.room in
    c.push_back-left.ensures.value
    ∙ left_same old.width old.entries.capacity old.floor old.room old.entries.items c.args.entry c.self.invariant some
    ∙ ap (λ (v : WindowView). window_left v.width v.held) c.self.view_is

pub returns-clause-represented : goal.returns-clause-represented
returns-clause-represented c history width holds =
    let old = c.self.inside in
    let some = subst (λ (v : WindowView). 0 < v.room) (sym c.self.view_is) c.requires.room in
    let wide : old.width ≡ width = ap (λ (v : WindowView). v.width) c.self.view_is ∙ holds.as_wide in
    c.push_back-left.ensures.value
    ∙ left_same old.width old.entries.capacity old.floor old.room old.entries.items c.args.entry c.self.invariant some
    ∙ ap (λ (v : WindowView). window_left v.width v.held) c.self.view_is
    ∙ left_holds history width c.args.self.now c.args.entry holds (subst (λ (n : ℕ). 0 < n) wide c.self.invariant.wide)

pub returns-clause-holds : goal.returns-clause-holds
returns-clause-holds c history width holds =
    let old = c.self.inside in
    let some = subst (λ (v : WindowView). 0 < v.room) (sym c.self.view_is) c.requires.room in
    let same : old.width ≡ c.args.self.now.width = ap (λ (v : WindowView). v.width) c.self.view_is in
    let left =
    c.push_back-left.ensures.value
    ∙ left_same old.width old.entries.capacity old.floor old.room old.entries.items c.args.entry c.self.invariant some in
    holds_more history width c.args.self.now _ c.args.entry holds
    (subst (λ (n : ℕ). 0 < n) (same ∙ holds.as_wide) c.self.invariant.wide)
    c.requires.rising
    same
    (ap (λ (b : Buffer Entry). b.items) c.push_back-left.ensures.items
    ∙ held_same old.width old.entries.capacity old.floor old.room old.entries.items c.args.entry c.self.invariant some
    ∙ ap (λ (v : WindowView). ring_with v.width v.held c.args.entry) c.self.view_is)
    (c.floor_after-self-inside.ensures
    ∙ ap (number_of old.floor) left
    ∙ ap (λ (v : WindowView). number_of v.floor (window_left v.width v.held)) c.self.view_is)
