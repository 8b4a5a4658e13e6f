-- What the records of a bank come to is one thing.
use Rattle.bank_replay.specs.Laws.{OneOpening, OneWithoutForm, OneNotLegal, FormlessOrIllegal, FormlessOpenNothing, IllegalOpenNothing}

-- They bring it to one state at most. At most one of them is the first without a form, and at most one the first that isn't
-- legal. No two of these happen together.
pub record OneBank : Type 0 where
  pub opened : OneOpening
  pub formless : OneWithoutForm
  pub illegal : OneNotLegal
  pub apart : FormlessOrIllegal
  pub formless_opens : FormlessOpenNothing
  pub illegal_opens : IllegalOpenNothing
