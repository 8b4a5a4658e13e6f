use Rattle.std.proofs.Common.{◌≡◌, ◌-◌, length, take, slice_get, Some, sym, ap, ◌∙◌, subst, arith}
use Rattle.std.specs.Option.{option_copied}
use Rattle.token_window.specs.WindowView.{WindowView, last_number_from}
use Rattle.token_window.proofs.WindowLemmas.{number_at, none_before, some_there, before_holds}
use Rattle.token_window.proofs.window.Window.number_before.Goals as goal

pub returns-then-count-last-clause-held : goal.returns-then-count-last-clause-held
returns-then-count-last-clause-held c =
    none_before c.self.inside.floor c.self.inside.entries.items c.args.last (omega (arith, c.len-count.ensures.len, c.if-count-last.true))
    ∙ ap (λ (v : WindowView). last_number_from v.floor (take (length v.held - c.args.last) v.held)) c.self.view_is

pub returns-then-count-last-clause-represented : goal.returns-then-count-last-clause-represented
returns-then-count-last-clause-represented c history width holds =
    none_before c.self.inside.floor c.self.inside.entries.items c.args.last (omega (arith, c.len-count.ensures.len, c.if-count-last.true))
    ∙ ap (λ (v : WindowView). last_number_from v.floor (take (length v.held - c.args.last) v.held)) c.self.view_is
    ∙ before_holds history width c.args.last c.args.self.now holds (omega (arith, c.requires.narrow, holds.as_wide))

pub unreachable-requires : goal.unreachable-requires
unreachable-requires c =
    some_there c.self.inside.entries.items c.len-count.result c.args.last c.len-count.ensures.len (omega (arith, c.if-count-last.false))
    (sym c.get.ensures ∙ ap option_copied c.in-None.is)

pub returns-clause-held : goal.returns-clause-held
returns-clause-held c =
    sym (number_at c.self.inside.floor c.self.inside.entries.items c.len-count.result c.args.last c.in-Some.entry.now c.len-count.ensures.len (omega (arith, c.if-count-last.false)) (sym c.get.ensures ∙ ap option_copied c.in-Some.is))
    ∙ ap (λ (v : WindowView). last_number_from v.floor (take (length v.held - c.args.last) v.held)) c.self.view_is

pub returns-clause-represented : goal.returns-clause-represented
returns-clause-represented c history width holds =
    sym (number_at c.self.inside.floor c.self.inside.entries.items c.len-count.result c.args.last c.in-Some.entry.now c.len-count.ensures.len (omega (arith, c.if-count-last.false)) (sym c.get.ensures ∙ ap option_copied c.in-Some.is))
    ∙ ap (λ (v : WindowView). last_number_from v.floor (take (length v.held - c.args.last) v.held)) c.self.view_is
    ∙ before_holds history width c.args.last c.args.self.now holds (omega (arith, c.requires.narrow, holds.as_wide))
