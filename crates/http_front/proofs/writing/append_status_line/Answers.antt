use Rattle.std.proofs.Common.{codes, ◌∙◌}
use Rattle.http_front.specs.HeadText.{status_line}
use Rattle.http_front.proofs.TextLemmas.{piece, five}
use Rattle.http_front.proofs.writing.append_status_line.Goals as goal

pub returns-clause-items : goal.returns-clause-items
unfolding status_line
returns-clause-items c =
    five _ _ _ _ _ _ (codes "HTTP/1.1 ") _ (codes " ") _ (codes "\r\n") c.append.ensures.items
    (piece _ _ _ _ c.append-2.ensures.items (c.as_bytes.ensures.value ∙ c.format.ensures.text))
    c.append-3.ensures.items
    (piece _ _ _ _ c.append-4.ensures.items (c.as_bytes-2.ensures.value ∙ c.phrase.ensures.phrase))
    c.append-5.ensures.items
