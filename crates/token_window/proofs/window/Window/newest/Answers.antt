use Rattle.std.proofs.Common.{sym, ap, ◌∙◌}
use Rattle.std.specs.Option.{option_copied}
use Rattle.bank_model.specs.Objects.{history_of, newest}
use Rattle.token_window.specs.WindowView.{newest_held}
use Rattle.token_window.proofs.WindowLemmas.{last_some, last_none, newest_holds}
use Rattle.token_window.proofs.window.Window.newest.Goals as goal

pub returns-in-Some-clause-held : goal.returns-in-Some-clause-held
returns-in-Some-clause-held c =
    sym (last_some c.self.inside.floor c.self.inside.entries.items c.in-Some.entry.now (sym c.back.ensures ∙ ap option_copied c.in-Some.is))
    ∙ ap newest_held c.self.view_is

pub returns-in-Some-clause-represented : goal.returns-in-Some-clause-represented
unfolding newest
returns-in-Some-clause-represented c object entries width holds =
    sym (last_some c.self.inside.floor c.self.inside.entries.items c.in-Some.entry.now (sym c.back.ensures ∙ ap option_copied c.in-Some.is))
    ∙ ap newest_held c.self.view_is
    ∙ newest_holds (history_of object entries) width c.args.self.now holds

pub returns-in-None-clause-held : goal.returns-in-None-clause-held
returns-in-None-clause-held c =
    sym (last_none c.self.inside.floor c.self.inside.entries.items (sym c.back.ensures ∙ ap option_copied c.in-None.is))
    ∙ ap newest_held c.self.view_is

pub returns-in-None-clause-represented : goal.returns-in-None-clause-represented
unfolding newest
returns-in-None-clause-represented c object entries width holds =
    sym (last_none c.self.inside.floor c.self.inside.entries.items (sym c.back.ensures ∙ ap option_copied c.in-None.is))
    ∙ ap newest_held c.self.view_is
    ∙ newest_holds (history_of object entries) width c.args.self.now holds
