use Rattle.bank_opening.proofs.laws.one_bank.Goals as goal

pub returns : goal.returns
returns c = record {
  opened = c.one_opening.ensures;
  formless = c.one_cause.ensures.formless;
  illegal = c.one_cause.ensures.illegal;
  apart = c.one_cause.ensures.apart;
  formless_opens = c.causes_open_nothing.ensures.formless;
  illegal_opens = c.causes_open_nothing.ensures.illegal;
}
