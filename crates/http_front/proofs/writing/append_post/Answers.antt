use Rattle.std.proofs.Common.{codes, ap, ◌∙◌}
use Rattle.http_front.specs.HeadText.{field_line, post_head}
use Rattle.http_front.proofs.TextLemmas.{piece, five}
use Rattle.http_front.proofs.writing.append_post.Goals as goal

pub returns : goal.returns
unfolding post_head
returns c =
    five _ _ _ _ _ _ (codes "POST /ofx HTTP/1.1\r\n") (field_line (codes "Host") (codes "localhost")) (field_line (codes "Content-Type") (codes "application/x-ofx")) _ (codes "\r\n")
    c.append.ensures.items c.append_field.ensures.items c.append_field-2.ensures.items
    (piece _ _ _ _ c.append_field-3.ensures.items (ap (field_line (codes "Content-Length")) (c.as_bytes.ensures.value ∙ c.format.ensures.text)))
    c.append-2.ensures.items
