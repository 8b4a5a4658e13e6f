-- What holds of heads, beyond one reading.
use Rattle.std.specs.Prelude.{◌≡◌, ℕ, ◌^◌, ◌<◌, Bool, true, false, List, ◌++◌, length, Some}
use Rattle.httparse.specs.Grammar.{RequestHead, ResponseHead}
use Rattle.http_front.specs.Heads.{BeginsRequest, BeginsNoRequest, AwaitsRequest, head_of_request, BeginsResponse, BeginsNoResponse, AwaitsResponse, head_of_response}
use Rattle.http_front.specs.HeadText.{IsReplyCode, reply_head, post_head}

-- No bytes begin with two heads.
abbrev pub OneRequest : Type 0
OneRequest = (bytes : List ℕ) (g h : RequestHead) (q r : List ℕ) → BeginsRequest bytes g q → BeginsRequest bytes h r → (g ≡ h) × (q ≡ r)

abbrev pub OneResponse : Type 0
OneResponse = (bytes : List ℕ) (g h : ResponseHead) (q r : List ℕ) → BeginsResponse bytes g q → BeginsResponse bytes h r → (g ≡ h) × (q ≡ r)

-- A head stays the same, whatever bytes follow.
abbrev pub RequestsStay : Type 0
RequestsStay = (bytes more : List ℕ) (h : RequestHead) (rest : List ℕ) → BeginsRequest bytes h rest → BeginsRequest (bytes ++ more) h (rest ++ more)

abbrev pub ResponsesStay : Type 0
ResponsesStay = (bytes more : List ℕ) (h : ResponseHead) (rest : List ℕ) → BeginsResponse bytes h rest → BeginsResponse (bytes ++ more) h (rest ++ more)

-- Where there is no head and none is awaited, there is none whatever bytes follow.
abbrev pub BadRequestsStay : Type 0
BadRequestsStay = (bytes more : List ℕ) → BeginsNoRequest bytes → ¬ (AwaitsRequest bytes) → BeginsNoRequest (bytes ++ more)

abbrev pub BadResponsesStay : Type 0
BadResponsesStay = (bytes more : List ℕ) → BeginsNoResponse bytes → ¬ (AwaitsResponse bytes) → BeginsNoResponse (bytes ++ more)

-- A reply's head that was written is one head, whatever follows, and tells the code and the length that it was written for.
abbrev pub WrittenReplyIsRead : Type 0
WrittenReplyIsRead =
    (code size : ℕ) (last : Bool) (rest : List ℕ) → IsReplyCode code → size < 10 ^ 9 →
    let text = reply_head code size last in
    (h : ResponseHead) × BeginsResponse (text ++ rest) h rest × (head_of_response h ≡ record { code = code; length = Some size; size = length text })

-- The head of the client's request that was written is one head, whatever follows, and says that it is a POST to `/ofx` with
-- this length, and not the last.
abbrev pub WrittenPostIsRead : Type 0
WrittenPostIsRead =
    (size : ℕ) (rest : List ℕ) → size < 10 ^ 9 →
    let text = post_head size in
    (h : RequestHead) × BeginsRequest (text ++ rest) h rest
    × (head_of_request h ≡ record { method_is_post = true; path_is_ofx = true; length = Some size; last = false; size = length text })
