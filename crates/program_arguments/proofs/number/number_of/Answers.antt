use Rattle.std.proofs.Common.{◌≡◌, Ok, IsTrue, sym, ap, ◌∙◌}
use Rattle.std.proofs.lemmas.Fmt.{parse-decimal}
use Rattle.std.specs.Fmt.{decimal}
use Rattle.program_arguments.proofs.Numbers.{number_is_text}
use Rattle.program_arguments.proofs.number.number_of.Goals as goal

pub returns-in_default-clause-none : goal.returns-in_default-clause-none
returns-in_default-clause-none c n small e = c.in_default.ensures.cases.0 (number_is_text n _ small (c.as_bytes.ensures.bytes ∙ e))

pub returns-in_default-parse-clause-none : goal.returns-in_default-parse-clause-none
returns-in_default-parse-clause-none c n small e =
    let read : c.parse.result ≡ Ok n = parse-decimal 64 n _ _ small small (c.in-Ok.ensures.cases.0 ∙ c.as_bytes.ensures.bytes ∙ e) c.parse.ensures.value.0 in cc

pub returns-else-is_text_of-clause-none : goal.returns-else-is_text_of-clause-none
returns-else-is_text_of-clause-none c n small e =
    let read : c.parse.result ≡ Ok n = parse-decimal 64 n _ _ small small (c.in-Ok.ensures.cases.0 ∙ c.as_bytes.ensures.bytes ∙ e) c.parse.ensures.value.0 in
    let same : n ≡ c.in-Ok-parse.number = cc in
    let form : IsTrue c.is_text_of.result = c.is_text_of.ensures.1 (e ∙ ap decimal same) in cc
