use Rattle.std.proofs.Common.{ap, ◌∙◌}
use Rattle.ofx_types.specs.TextRules.{trimmed}
use Rattle.ofx_types.specs.NumberReading.{number_at}
use Rattle.bank_queries.proofs.tokens.token_of.Goals as goal

pub returns : goal.returns
returns c = c.read_number.ensures ∙ ap (number_at 10) (ap trimmed c.as_bytes.ensures.bytes ∙ c.as_bytes.ensures.known.is_trimmed)
