-- Which heads are taken, what they tell, and where more of a head is awaited. What a head is is in the grammar of `httparse`.
use Rattle.std.specs.Prelude.{◌≡◌, ℕ, ◌<◌, ◌≤◌, List, length, map, codes, bytes_eq, Result, Ok, Err}
use Rattle.httparse.specs.Grammar.{RequestHead, print_request, ReadsRequest, HasNoRequest, MayBecomeRequest, ResponseHead, print_response, ReadsResponse, HasNoResponse, MayBecomeResponse, status_code}
use Rattle.httparse.specs.Spans.{name_and_value}
use Rattle.http_front.specs.declared.head.Head.{Head}
use Rattle.http_front.specs.declared.head.ReplyHead.{ReplyHead}
use Rattle.http_front.specs.declared.head.HeadFault.{HeadFault}
use Rattle.http_front.specs.declared.head.HeadFault.TheVariants.{NotYet, Bad}
use Rattle.http_front.specs.Fields.{usable_length, is_last}

-- A head is taken where it has at most 8,192 bytes and at most 64 fields. Its bytes are all those up to the end of the empty
-- line after its fields; empty lines before its first line are among them.
abbrev pub IsTaken : ℕ → ℕ → Type 0
IsTaken size fields = (size ≤ 8192) × (fields ≤ 64)

-- the bytes are a request's head that is taken, and then the rest
abbrev pub BeginsRequest : List ℕ → RequestHead → List ℕ → Type 0
BeginsRequest bytes h rest = ReadsRequest bytes h rest × IsTaken (length (print_request h)) (length h.fields)

-- the bytes begin with no request's head that is taken
abbrev pub BeginsNoRequest : List ℕ → Type 0
BeginsNoRequest bytes = (h : RequestHead) (rest : List ℕ) → ¬ (BeginsRequest bytes h rest)

-- More of a request's head is awaited: fewer than 8,192 bytes are there, they hold no whole head, and either some bytes can
-- follow that make them a head, of whatever length and number of fields, or they end within the request target.
pub record AwaitsRequest (bytes : List ℕ) : Type 0 where
  pub short : length bytes < 8192
  pub none : HasNoRequest bytes
  pub may : MayBecomeRequest bytes

-- What a request's head says: whether the method is POST and the target `/ofx`, byte for byte; the usable length of the body;
-- whether the connection ends after it; and its number of bytes.
abbrev pub head_of_request : RequestHead → Head
head_of_request h =
    let fields = map name_and_value h.fields in
    record {
      method_is_post = bytes_eq h.method (codes "POST");
      path_is_ofx = bytes_eq h.target (codes "/ofx");
      length = usable_length fields;
      last = is_last h.minor fields;
      size = length (print_request h);
    }

-- the same of a reply's head; it has no target
abbrev pub BeginsResponse : List ℕ → ResponseHead → List ℕ → Type 0
BeginsResponse bytes h rest = ReadsResponse bytes h rest × IsTaken (length (print_response h)) (length h.fields)

abbrev pub BeginsNoResponse : List ℕ → Type 0
BeginsNoResponse bytes = (h : ResponseHead) (rest : List ℕ) → ¬ (BeginsResponse bytes h rest)

pub record AwaitsResponse (bytes : List ℕ) : Type 0 where
  pub short : length bytes < 8192
  pub none : HasNoResponse bytes
  pub may : MayBecomeResponse bytes

-- What a reply's head tells: its status code, the usable length of the body, and its number of bytes.
abbrev pub head_of_response : ResponseHead → ReplyHead
head_of_response h = record {
  code = status_code h;
  length = usable_length (map name_and_value h.fields);
  size = length (print_response h);
}

-- an answer by its cases: what some head tells, or why there is none
abbrev pub Judges : {H A : Type 0} → (H → Type 0) → (H → A) → Type 0 → Result A HeadFault → Type 0
Judges {H} begins head_of awaits (Ok head) = (h : H) × begins h × (head ≡ head_of h)
Judges begins head_of awaits (Err NotYet) = awaits
Judges {H} begins head_of awaits (Err Bad) = ((h : H) → ¬ (begins h)) × ¬ awaits
