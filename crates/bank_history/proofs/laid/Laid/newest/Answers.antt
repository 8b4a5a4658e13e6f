use Rattle.std.proofs.Common.{sym, ap, ◌∙◌, subst}
use Rattle.std.specs.Option.{option_copied}
use Rattle.bank_model.specs.Objects.{history_of}
use Rattle.token_window.specs.WindowView.{Represents}
use Rattle.bank_history.specs.ObjectHistory.{LaidFor, held_at}
use Rattle.bank_history.proofs.ObjectHistoryLemmas.{found_kept, found_none, newest_of_none}
use Rattle.bank_history.proofs.laid.Laid.newest.Goals as goal

pub returns-in-Some : goal.returns-in-Some
returns-in-Some c entries holds =
    let all = (subst (LaidFor entries) (sym c.self.view_is) holds).objects c.args.object in
    let found = sym c.get.ensures ∙ ap option_copied c.in-Some.is in
    let kept = found_kept (history_of c.args.object entries) c.self.inside.objects.width (held_at c.args.object c.self.inside.objects.held) c.in-Some.kept.now found all in
    c.newest.ensures.represented c.args.object entries c.self.inside.objects.width (subst (λ w. Represents (history_of c.args.object entries) c.self.inside.objects.width w) (sym c.window.ensures) kept.window)

pub returns-in-None : goal.returns-in-None
returns-in-None c entries holds =
    let all = (subst (LaidFor entries) (sym c.self.view_is) holds).objects c.args.object in
    let found = sym c.get.ensures ∙ ap option_copied c.in-None.is in
    sym (newest_of_none c.args.object entries (found_none (history_of c.args.object entries) c.self.inside.objects.width (held_at c.args.object c.self.inside.objects.held) found all))
