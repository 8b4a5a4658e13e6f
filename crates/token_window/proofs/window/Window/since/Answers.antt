use Rattle.std.proofs.Common.{filter, sym, ap, ◌∙◌, subst}
use Rattle.bank_model.specs.Sync.{is_above}
use Rattle.token_window.specs.WindowView.{WindowView, RiseFrom, last_number_from}
use Rattle.token_window.proofs.WindowLemmas.{rise_parts, in_order, above_holds}
use Rattle.token_window.proofs.window.Window.since.Goals as goal

pub new-requires-clause-older : goal.new-requires-clause-older
new-requires-clause-older c =
    let floor = c.self.inside.floor in
    let parts = rise_parts floor c.as_slices.result.0.now c.as_slices.result.1.now (subst (RiseFrom floor) (sym c.as_slices.ensures) c.self.invariant.rising) in
    in_order floor c.as_slices.result.0.now parts.0

pub new-requires-clause-newer : goal.new-requires-clause-newer
new-requires-clause-newer c =
    let floor = c.self.inside.floor in
    let parts = rise_parts floor c.as_slices.result.0.now c.as_slices.result.1.now (subst (RiseFrom floor) (sym c.as_slices.ensures) c.self.invariant.rising) in
    in_order (last_number_from floor c.as_slices.result.0.now) c.as_slices.result.1.now parts.1

pub returns-clause-represented : goal.returns-clause-represented
returns-clause-represented c history width holds =
    c.new.ensures
    ∙ ap (filter (is_above c.args.token)) c.as_slices.ensures
    ∙ ap (λ (v : WindowView). filter (is_above c.args.token) v.held) c.self.view_is
    ∙ above_holds history width c.args.token c.args.self.now holds c.requires.floor
