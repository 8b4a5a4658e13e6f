-- The bytes of replies, as a client reads them: which are whole, and which have no usable head.
use Rattle.std.specs.Prelude.{◌≡◌, ℕ, ◌-◌, ◌<◌, ◌≤◌, ◌⊎◌, nat_lt, Bool, true, List, [], ◌++◌, length, take, drop, Option, None, Some}
use Rattle.std.specs.Io.KnownBytes.{IsAtEnd}
use Rattle.httparse.specs.Grammar.{ResponseHead}
use Rattle.ofx_ports.specs.Faults.{Rose}
use Rattle.http_front.specs.Heads.{BeginsResponse, BeginsNoResponse, AwaitsResponse, head_of_response}
use Rattle.http_front.specs.HeadText.{post_head}
use Rattle.http_front.specs.declared.head.ReplyHead.{ReplyHead}
use Rattle.http_link.specs.declared.served.ServeError.{ServeError}
use Rattle.http_link.specs.declared.served.ServeError.TheVariants as serve
use Rattle.http_link.specs.declared.response.CallFault.{CallFault}
use Rattle.http_link.specs.declared.response.CallFault.TheVariants.{ReadFault, BadHead, Cut, OutOfMemory}
use Rattle.http_link.specs.declared.response.Response.{Response}

-- the client's request: its head, with the length of the body, and the body
abbrev pub request_of : List ℕ → List ℕ
request_of body = post_head (length body) ++ body

-- A reply's head that is taken begins the bytes and tells this, and the rest comes after it.
pub record HasReplyHead (bytes : List ℕ) (head : ReplyHead) (rest : List ℕ) : Type 0 where
  pub h : ResponseHead
  pub begins : BeginsResponse bytes h rest
  pub reported_is : head ≡ head_of_response h

-- The length of a body is usable where the head states it, up to 67,108,864 bytes.
abbrev pub is_unusable : Option ℕ → Bool
is_unusable None = true
is_unusable (Some size) = nat_lt 67108864 size

-- The bytes begin with no usable head, whatever follows them: with none at all, or with one whose length isn't usable.
pub record HasNoHead (bytes : List ℕ) : Type 0 where
  pub none : BeginsNoResponse bytes
  pub in_vain : ¬ (AwaitsResponse bytes)

pub record HasNoLength (bytes : List ℕ) : Type 0 where
  pub head : ReplyHead
  pub rest : List ℕ
  pub has_head : HasReplyHead bytes head rest
  pub unusable : is_unusable head.length ≡ true

abbrev pub HasBadHead : List ℕ → Type 0
HasBadHead bytes = HasNoHead bytes ⊎ HasNoLength bytes

-- A whole reply is a usable head, and after it the body, which has the length that the head says.
pub record IsWholeReply (bytes : List ℕ) (head : ReplyHead) (body : List ℕ) : Type 0 where
  pub has_head : HasReplyHead bytes head body
  pub length_is : head.length ≡ Some (length body)
  pub small : length body ≤ 67108864

-- A usable head has come, and of the body too little.
pub record LacksReplyBody (bytes : List ℕ) : Type 0 where
  pub head : ReplyHead
  pub came : List ℕ
  pub size : ℕ
  pub has_head : HasReplyHead bytes head came
  pub length_is : head.length ≡ Some size
  pub small : size ≤ 67108864
  pub short : length came < size

-- The bytes are an unfinished reply: more of a head is awaited, or of a body.
abbrev pub IsUnfinishedReply : List ℕ → Type 0
IsUnfinishedReply bytes = AwaitsResponse bytes ⊎ LacksReplyBody bytes

-- The first bytes are a whole reply, of so many bytes.
pub record HoldsReply (bytes : List ℕ) (answer : Response) : Type 0 where
  pub head : ReplyHead
  pub code_is : answer.code ≡ head.code
  pub head_is : answer.head ≡ head.size
  pub after_head : answer.head ≤ answer.size
  pub within : answer.size ≤ length bytes
  pub whole : IsWholeReply (take answer.size bytes) head (take (answer.size - answer.head) (drop answer.head bytes))

-- Why no whole reply comes: a read failed or the link ended, where the bytes that have come are unfinished; they have no usable
-- head; or memory was refused.
abbrev pub HasNoReply : List ℕ → Option (List ℕ) → ℕ → ℕ → CallFault → Type 0
HasNoReply bytes left before now ReadFault = IsUnfinishedReply bytes × Rose before now
HasNoReply bytes left before now BadHead = HasBadHead bytes
HasNoReply bytes left before now (Cut count) = (count ≡ length bytes) × IsUnfinishedReply bytes × IsAtEnd left
HasNoReply bytes left before now OutOfMemory = Unit {0}

-- what a client calls it where no more bytes could be read
abbrev pub call_fault : ServeError → CallFault
call_fault serve.ReadFault = ReadFault
call_fault serve.WriteFault = ReadFault
call_fault (serve.Cut count) = Cut count
call_fault serve.OutOfMemory = OutOfMemory
