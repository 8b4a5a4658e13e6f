-- The bytes of requests: which of them are whole, and which are refused by their heads alone.
use Rattle.std.specs.Prelude.{◌≡◌, ℕ, ◌<◌, ◌⊎◌, nat_lt, not, List, [], length, Option, None, Some, if◌then◌else◌}
use Rattle.httparse.specs.Grammar.{RequestHead}
use Rattle.http_front.specs.Heads.{BeginsRequest, BeginsNoRequest, AwaitsRequest, head_of_request}
use Rattle.http_front.specs.declared.head.Head.{Head}
use Rattle.http_link.specs.declared.refusal.Refusal.{Refusal}
use Rattle.http_link.specs.declared.refusal.Refusal.TheVariants.{BadHead, NotPost, NotFound, NoLength, TooLarge}

-- A head that is taken begins the bytes and tells this, and the rest comes after it.
pub record HasHead (bytes : List ℕ) (head : Head) (rest : List ℕ) : Type 0 where
  pub h : RequestHead
  pub begins : BeginsRequest bytes h rest
  pub reported_is : head ≡ head_of_request h

-- No head comes of the bytes, whatever follows them.
pub record HasBadHead (bytes : List ℕ) : Type 0 where
  pub none : BeginsNoRequest bytes
  pub in_vain : ¬ (AwaitsRequest bytes)

-- ---- refusals

-- The length of the body has to be usable, and it is at most 262,144 bytes.
abbrev pub length_refusal : Option ℕ → Option Refusal
length_refusal None = Some NoLength
length_refusal (Some size) = if nat_lt 262144 size then Some TooLarge else None

-- A head is refused for the first of these that holds: the method isn't POST; the path isn't `/ofx`; the length isn't usable; it is
-- too large.
abbrev pub head_refusal : Head → Option Refusal
head_refusal head =
    if not head.method_is_post then Some NotPost else (
    if not head.path_is_ofx then Some NotFound else length_refusal head.length)

-- A request is refused by its head where that is bad, and otherwise where it is a head alone that is refused for what it tells.
-- No body of it is read.
abbrev pub IsRefusedByHead : List ℕ → Refusal → Type 0
IsRefusedByHead bytes BadHead = HasBadHead bytes
IsRefusedByHead bytes refusal = (head : Head) × HasHead bytes head [] × (head_refusal head ≡ Some refusal)

-- ---- bodies

-- A whole request is a head that isn't refused, and after it the body, which has the length that the head says.
pub record IsWhole (bytes : List ℕ) (head : Head) (body : List ℕ) : Type 0 where
  pub has_head : HasHead bytes head body
  pub unrefused : head_refusal head ≡ None
  pub length_is : head.length ≡ Some (length body)

-- A head that isn't refused has come, and of the body too little.
pub record LacksBody (bytes : List ℕ) : Type 0 where
  pub head : Head
  pub came : List ℕ
  pub size : ℕ
  pub has_head : HasHead bytes head came
  pub unrefused : head_refusal head ≡ None
  pub length_is : head.length ≡ Some size
  pub short : length came < size

-- The bytes are an unfinished request: more of a head is awaited, or of a body. Nothing is answered to them.
abbrev pub IsUnfinished : List ℕ → Type 0
IsUnfinished bytes = AwaitsRequest bytes ⊎ LacksBody bytes
