use Rattle.std.proofs.Common.{[], ◌∷◌, refl}
use Rattle.bank_model.specs.declared.event.Event.TheVariants.{Letter}
use Rattle.bank_model.specs.Rules.{opening_state, state_after}
use Rattle.bank_session.proofs.laws.letters_reopen.Goals as goal

pub returns : goal.returns
returns c = λ setup records rec state at user subject body before legal codes.
    (c.reopening_goes_on.ensures setup opening_state records (rec ∷ []) (state_after setup state at (Letter user subject body))).1 (state, before, (at, Letter user subject body, codes, legal, refl))
