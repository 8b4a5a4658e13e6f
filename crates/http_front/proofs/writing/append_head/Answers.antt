use Rattle.std.proofs.Common.{codes, ap, ◌∙◌}
use Rattle.http_front.specs.HeadText.{field_line, reply_head}
use Rattle.http_front.proofs.TextLemmas.{piece, six}
use Rattle.http_front.proofs.writing.append_head.Goals as goal

pub returns : goal.returns
unfolding reply_head
returns c =
    six _ _ _ _ _ _ _ _ _ _ _ _ (codes "\r\n") c.append_status_line.ensures.items c.append_allowed.ensures.items
    (piece _ _ _ _ c.append_field.ensures.items (ap (field_line (codes "Content-Type")) c.media_type.ensures.type_))
    (piece _ _ _ _ c.append_field-2.ensures.items (ap (field_line (codes "Content-Length")) (c.as_bytes.ensures.value ∙ c.format.ensures.text)))
    (piece _ _ _ _ c.append_field-3.ensures.items (ap (field_line (codes "Connection")) c.ending.ensures.word))
    c.append.ensures.items
