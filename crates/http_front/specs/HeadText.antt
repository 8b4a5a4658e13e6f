-- The heads that are written, as text. Each line ends in CR and LF, and an empty line ends the head.
use Rattle.std.specs.Prelude.{ℕ, Bool, ◌||◌, ◌==◌, List, [], ◌++◌, codes, IsTrue, if◌then◌else◌}
use Rattle.std.specs.Fmt.{decimal}

-- the codes of replies
abbrev pub IsReplyCode : ℕ → Type 0
IsReplyCode code = IsTrue (code == 200 || code == 400 || code == 404 || code == 405 || code == 411 || code == 413 || code == 500 || code == 503)

-- the phrase of each (RFC 9110, "Status Codes")
abbrev pub phrase : ℕ → List ℕ
phrase code =
    if code == 200 then codes "OK" else (
    if code == 400 then codes "Bad Request" else (
    if code == 404 then codes "Not Found" else (
    if code == 405 then codes "Method Not Allowed" else (
    if code == 411 then codes "Length Required" else (
    if code == 413 then codes "Payload Too Large" else (
    if code == 500 then codes "Internal Server Error" else codes "Service Unavailable"))))))

-- the body's media type: an OFX file after 200, and a text after the others
abbrev pub media_type : ℕ → List ℕ
media_type code = if code == 200 then codes "application/x-ofx" else codes "text/plain"

-- a field's line
abbrev pub field_line : List ℕ → List ℕ → List ℕ
field_line name value = name ++ (codes ": " ++ (value ++ codes "\r\n"))

-- after 405 the method that is allowed is named
abbrev pub allowed : ℕ → List ℕ
allowed code = if code == 405 then field_line (codes "Allow") (codes "POST") else []

-- whether the connection ends after the reply
abbrev pub ending : Bool → List ℕ
ending last = if last then codes "close" else codes "keep-alive"

-- the first line of a reply
unfoldable pub status_line : ℕ → List ℕ
status_line code = codes "HTTP/1.1 " ++ (decimal code ++ (codes " " ++ (phrase code ++ codes "\r\n")))

-- the head of a reply of this code, with a body of so many bytes
unfoldable pub reply_head : ℕ → ℕ → Bool → List ℕ
reply_head code size last =
    status_line code
    ++ (allowed code
    ++ (field_line (codes "Content-Type") (media_type code)
    ++ (field_line (codes "Content-Length") (decimal size)
    ++ (field_line (codes "Connection") (ending last)
    ++ codes "\r\n"))))

-- the head of the client's request, with a body of so many bytes
unfoldable pub post_head : ℕ → List ℕ
post_head size =
    codes "POST /ofx HTTP/1.1\r\n"
    ++ (field_line (codes "Host") (codes "localhost")
    ++ (field_line (codes "Content-Type") (codes "application/x-ofx")
    ++ (field_line (codes "Content-Length") (decimal size)
    ++ codes "\r\n")))
