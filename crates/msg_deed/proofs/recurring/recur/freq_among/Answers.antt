use Rattle.std.proofs.Common.{rules, tests}
use Rattle.std.proofs.lemmas.Iterator.{YieldsList-from_slice}
use Rattle.std.proofs.lemmas.Iterator.Search.{find_from_yields_List}
use Rattle.std.specs.Str.{bytes_eq}
use Rattle.ofx_types.specs.ValueForm.{value_of}
use Rattle.ofx_types.specs.RecurringForm.{freq_word}
use Rattle.msg_deed.proofs.recurring.recur.freq_among.Goals as goal

pub returns : goal.returns
returns c =
    find_from_yields_List (λ freq. bytes_eq (value_of c.args.word.now.node.text) (freq_word freq)) _ _ _ c.find.ensures.ran
    (YieldsList-from_slice c.args.freqs.now cc) (λ x b q k. search (rules, tests))
