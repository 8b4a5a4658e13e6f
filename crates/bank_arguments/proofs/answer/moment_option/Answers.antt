use Rattle.bank_arguments.proofs.Moments.{option_read}
use Rattle.bank_arguments.proofs.answer.moment_option.Goals as goal

pub returns-then-is_word : goal.returns-then-is_word
returns-then-is_word c =
    option_read c.args.arguments.now c.option-item.result c.date-item.result c.at_date.result c.in-len2.len_at_least c.in-len2.len_below c.option-item.is c.date-item.is
    (c.is_word.ensures.0 c.if-is_word.true) (rw c.as_bytes.ensures.bytes at c.at_date.ensures)
