use Rattle.std.proofs.Common.{is_some, ap, sym, ◌∙◌}
use Rattle.ofx_types.specs.TextRules.{trimmed}
use Rattle.ofx_types.specs.NumberReading.{number_at}
use Rattle.client_core.proofs.answering.is_token.Goals as goal

pub returns : goal.returns
returns c =
    c.is_some.ensures
    ∙ ap is_some (c.read_number.ensures ∙ ap (number_at 10) (ap trimmed c.as_bytes.ensures.bytes ∙ c.as_bytes.ensures.known.is_trimmed))
